-- The way from a row up to its root, as the code notes it, and the row on it that a quantifier reaches. Assumes nothing.
use Prim.Native.Nat.{ℕ, ◌+◌, ◌<◌, ◌≤◌}
use mathlib.Core.Path.{◌≡◌, refl, sym, ap, subst, ◌∙◌}
use mathlib.Core.Logic.{◌⊎◌, inl, inr, ⊎_elim}
use mathlib.Core.Bool.{true, false, true≢false}
use mathlib.Core.List.{List}
use Rattle.std.specs.Prelude.{Option, Some, None}
use native.Mathlib.Omega.{arith}
use lib.ListN.{length, get_or, replicate, length-set, get_or-replicate, get_or-eq_default}
use lib.Seq.{get_or-set_same, get_or-set_other}
use lib.Dec.{ltb, eqb}
use borrow.Author.Tests.{lt-ltb, ltb-true, ltb-false, eqb-true, eqb-false, eq-eqb, ne_eqb}
use Rattle.base.proofs.Bools.{either}
use Rattle.tables.specs.Words.{row_at, row_count}
use Rattle.tables.specs.Rules.{nesting_limit}
use Rattle.tables.specs.Tables.{root, is_parent, accepted_table}
use Rattle.tables.specs.declared.Row.{Row}
use Rattle.tables.specs.declared.Over.{Over}
use Rattle.tables.specs.declared.Over.TheVariants.{Under}
use Rattle.tables.proofs.Accepted.{ordered}
use Rattle.tables.proofs.Ordered as tables
use Rattle.logic.specs.Verdict.{named}
use Rattle.engine.specs.Places.{row_of_place}
use Rattle.engine.specs.Touching.{OnWay, own, up, noted_on_way, WayUp, depth_under, depth_of, Lands}
use Rattle.engine.proofs.Bound.{row_none, row_some}

-- ---- the rows noted: those on the way up to row i, and the rest of the way goes on above it
module _ (t : List ℕ) (row : ℕ) where
  abbrev Noted : List (Option ℕ) → ℕ → Type 0
  Noted rows j = (row_at t j).deep < nesting_limit → get_or rows (row_at t j).deep None ≡ Some j

  abbrev Above : ℕ → ℕ → Type 0
  Above i j = (p : ℕ) × (p < row_count t) × (is_parent (row_at t i) (row_at t p) ≡ true) × OnWay t p j

  pub record Climbed (w : List (Option ℕ)) (i : ℕ) : Type 0 where
    pub inside : i < row_count t
    pub sized : length w ≡ nesting_limit
    pub within : (d j : ℕ) → get_or w d None ≡ Some j → j < row_count t
    pub noted_below : (j : ℕ) → OnWay t row j → (((row_at t i).deep ≤ (row_at t j).deep) × Noted w j) ⊎ Above i j

-- one more row is noted
module _ (t : List ℕ) (w : List (Option ℕ)) (i deep : ℕ) (sized : length w ≡ nesting_limit) where
  pub noted_sized : length (noted_on_way w i deep) ≡ nesting_limit
  noted_sized = either (ltb deep nesting_limit)
      (λ e. rw e (length-set w deep (Some i) ∙ sized))
      (λ e. rw e sized)

  pub noted_within : i < row_count t → ((d j : ℕ) → get_or w d None ≡ Some j → j < row_count t)
      → (d j : ℕ) → get_or (noted_on_way w i deep) d None ≡ Some j → j < row_count t
  noted_within h f d j g = either (ltb deep nesting_limit)
      (λ e. either (eqb d deep)
      (λ q.
      let z : Some i ≡ Some j = sym (get_or-set_same w deep (Some i) None (omega (arith, ltb-true deep nesting_limit e, sized))) ∙ (rw (e, eqb-true d deep q) at g) in
      let y : i ≡ j = cc in
      omega (arith, h))
      (λ q. f d j (sym (get_or-set_other w deep d (Some i) None (eqb-false d deep q)) ∙ (rw e at g))))
      (λ e. f d j (rw e at g))

  -- it stands at its depth
  pub noted_here : deep < nesting_limit → get_or (noted_on_way w i deep) deep None ≡ Some i
  noted_here h = rw (lt-ltb deep nesting_limit h) (get_or-set_same w deep (Some i) None (omega (arith, sized)))

  -- and all others stay
  pub noted_other : (d : ℕ) → (d ≡ deep → ⊥) → get_or (noted_on_way w i deep) d None ≡ get_or w d None
  noted_other d apart = either (ltb deep nesting_limit)
      (λ e. rw e (get_or-set_other w deep d (Some i) None apart))
      (λ e. rw e)

-- ---- the walk up
abbrev none_noted : List (Option ℕ)
none_noted = replicate nesting_limit None

module _ (t : List ℕ) (ok : accepted_table t ≡ true) (row : ℕ) where
  pub climb_begin : row < row_count t → {r : Row} → r ≡ row_at t row → {w : List (Option ℕ)} → w ≡ noted_on_way none_noted row r.deep → Climbed t row w row
  climb_begin h r_is w_is = rw (w_is, r_is) (record {
    inside = h;
    sized = noted_sized t none_noted row (row_at t row).deep refl;
    within = noted_within t none_noted row (row_at t row).deep refl h (λ d j e. let z : None ≡ Some j = sym (nones d) ∙ e in cc);
    noted_below = below;
  })
    where
      nones : (d : ℕ) → get_or none_noted d None ≡ None
      nones d = either (ltb d nesting_limit)
          (λ e. get_or-replicate nesting_limit d None None (ltb-true d nesting_limit e))
          (λ e. let h : length none_noted ≤ d = omega (arith, ltb-false d nesting_limit e) in
          get_or-eq_default none_noted None h)

      below : (j : ℕ) → OnWay t row j
          → (((row_at t row).deep ≤ (row_at t j).deep) × Noted t row (noted_on_way none_noted row (row_at t row).deep) j) ⊎ Above t row row j
      below j own = inl (omega arith, λ l. noted_here t none_noted row (row_at t row).deep refl l)
      below j (up h e on) = inr (_, h, e, on)

  module _ {w : List (Option ℕ)} {i : ℕ} (c : Climbed t row w i) {r : Row} (r_is : r ≡ row_at t i) where
    pub goes_on : (r.up ≡ 0 → ⊥) → root (row_at t i) ≡ false
    goes_on e = ne_eqb (row_at t i).up 0 (λ q. e (ap (λ (x : Row). x.up) r_is ∙ q))

    -- the next row is its parent
    module _ {p : ℕ} (p_is : (p < i) × (is_parent (row_at t i) (row_at t p) ≡ true)) where
      pub p_inside : p < row_count t
      p_inside = omega (arith, p_is.0, c.inside)

      deeper : (row_at t i).deep ≡ (row_at t p).deep + 1
      deeper = tables.child_depth t (ordered t ok) p i p_inside c.inside p_is.1

      pub climb_more : {q : Row} → q ≡ row_at t p → {w' : List (Option ℕ)} → w' ≡ noted_on_way w p q.deep → Climbed t row w' p
      climb_more q_is w_is = rw (w_is, q_is) (record {
        inside = p_inside;
        sized = noted_sized t w p (row_at t p).deep c.sized;
        within = noted_within t w p (row_at t p).deep c.sized p_inside c.within;
        noted_below = λ j on. ⊎_elim
            (λ x. inl (omega (arith, deeper, x.0), λ l. noted_other t w p (row_at t p).deep c.sized (row_at t j).deep (λ q. omega (arith, deeper, x.0, q)) ∙ x.1 l))
            (λ x. further j (subst (λ (k : ℕ). OnWay t k j) (only x.0 x.1 x.2) x.3))
            (c.noted_below j on);
      })
        where
          only : (q : ℕ) → q < row_count t → is_parent (row_at t i) (row_at t q) ≡ true → q ≡ p
          only q h e = tables.one_parent t (tables.placed t (ordered t ok)) q p i h p_inside e p_is.1

          further : (j : ℕ) → OnWay t p j → (((row_at t p).deep ≤ (row_at t j).deep) × Noted t row (noted_on_way w p (row_at t p).deep) j) ⊎ Above t row p j
          further j own = inl (omega arith, λ l. noted_here t w p (row_at t p).deep c.sized l)
          further j (up h e on) = inr (_, h, e, on)

    -- a root ends it
    pub climb_end : r.up ≡ 0 → row < row_count t → WayUp t row w
    climb_end e h = record {
      inside = h;
      sized = c.sized;
      within = c.within;
      on_way = λ j on l. ⊎_elim
          (λ x. x.1 l)
          (λ x. absurd (true≢false (sym at_root ∙ tables.parent_no_root t (tables.placed t (ordered t ok)) x.0 i x.1 x.2)))
          (c.noted_below j on);
    }
      where
        at_root : root (row_at t i) ≡ true
        at_root = eq-eqb (row_at t i).up 0 (sym (ap (λ (x : Row). x.up) r_is) ∙ e)

-- ---- the depth of the rows that a quantifier reaches
module _ (t places : List ℕ) (v : ℕ) {r : Option ℕ} (r_is : r ≡ row_of_place (get_or places v 0)) where
  pub depth_none : r ≡ None → None ≡ depth_of t places (Under v)
  depth_none e = ap (depth_under t) (sym (row_none _ r_is e))

  pub depth_child : {p : ℕ} → r ≡ Some p → {x : Row} → x ≡ row_at t p → Some (x.deep + 1) ≡ depth_of t places (Under v)
  depth_child e x_is = ap (λ (x : Row). Some (x.deep + 1)) x_is ∙ ap (depth_under t) (sym (row_some _ r_is e))

-- ---- the row on the way that it reaches
module _ (t : List ℕ) (row : ℕ) (places : List ℕ) (over : Over) (name : ℕ) {way : List (Option ℕ)} (up : WayUp t row way) {d : Option ℕ} (d_is : d ≡ depth_of t places over) where
  none_lands : ((i : ℕ) → OnWay t row i → depth_of t places over ≡ Some (row_at t i).deep → (row_at t i).deep < nesting_limit → named name (row_at t i) ≡ true → ⊥)
      → Lands t row places over name None
  none_lands f = record { within = λ i e. cc; lands = λ i on e l n. absurd (f i on e l n) }

  pub lands_nowhere : d ≡ None → Lands t row places over name None
  lands_nowhere z = none_lands (λ i on e l n. let q : None ≡ Some (row_at t i).deep = sym z ∙ d_is ∙ e in cc)

  module _ {deep : ℕ} (deep_is : d ≡ Some deep) where
    same_deep : (i : ℕ) → depth_of t places over ≡ Some (row_at t i).deep → deep ≡ (row_at t i).deep
    same_deep i e = let q : Some deep ≡ Some (row_at t i).deep = sym deep_is ∙ d_is ∙ e in cc

    pub lands_past : nesting_limit ≤ deep → Lands t row places over name None
    lands_past h = none_lands (λ i on e l n. omega (arith, same_deep i e))

    here_is : (i : ℕ) → OnWay t row i → depth_of t places over ≡ Some (row_at t i).deep → (row_at t i).deep < nesting_limit → get_or way deep None ≡ Some i
    here_is i on e l = ap (λ (k : ℕ). get_or way k None) (same_deep i e) ∙ up.on_way i on l

    pub lands_free : get_or way deep None ≡ None → Lands t row places over name None
    lands_free z = none_lands (λ i on e l n. let q : None ≡ Some i = sym z ∙ here_is i on e l in cc)

    module _ {j : ℕ} (j_is : get_or way deep None ≡ Some j) where
      same_here : (i : ℕ) → OnWay t row i → depth_of t places over ≡ Some (row_at t i).deep → (row_at t i).deep < nesting_limit → j ≡ i
      same_here i on e l = let q : Some j ≡ Some i = sym j_is ∙ here_is i on e l in cc

      pub lands_other : {r : Row} → r ≡ row_at t j → named name r ≡ false → Lands t row places over name None
      lands_other {r} r_is other = none_lands (λ i on e l n.
          true≢false (sym n ∙ ap (λ (k : ℕ). named name (row_at t k)) (sym (same_here i on e l)) ∙ ap (named name) (sym r_is) ∙ other))

      pub lands_there : Lands t row places over name (Some j)
      lands_there = record { within = λ i e. up.within deep i (j_is ∙ e); lands = λ i on e l n. ap Some (same_here i on e l) }
