-- One law for each way through what settles a quantifier before its rows are walked, over plain variables. Assumes nothing.
use Prim.Native.Nat.{ℕ, suc, ◌+◌, ◌-◌, ◌<◌, ◌≤◌}
use mathlib.Core.Path.{◌≡◌, refl, sym, ap, ap₂, subst, fun_ext, ◌∙◌}
use mathlib.Core.Bool.{Bool, true, false, not, cond, ◌&&◌, beq, true≢false, false≢true}
use mathlib.Core.List.{List, [], ◌∷◌, ◌++◌}
use native.Mathlib.Omega.{arith}
use lib.ListN.{length, get_or, set}
use lib.Seq.{get_or-set_same, get_or-set_other}
use lib.Dec.{eqb}
use borrow.Author.Tests.{eqb-true, eqb-false}
use Rattle.base.specs.Lists.{select, concat_map}
use Rattle.base.specs.Search.{found}
use Rattle.base.proofs.Bools.{either}
use Rattle.base.proofs.Lists.{concat_map_append}
use Rattle.std.specs.Prelude.{Some, None}
use Rattle.tables.specs.Words.{row_at, row_count, rows}
use Rattle.tables.specs.declared.Row.{Row}
use Rattle.tables.specs.declared.Connective.{Connective}
use Rattle.tables.specs.declared.Connective.TheVariants.{And, Or, Implies}
use Rattle.tables.specs.declared.Quantifier.{Quantifier}
use Rattle.tables.specs.declared.Quantifier.TheVariants.{Every, Exists}
use Rattle.tables.specs.declared.Comparison.{Comparison}
use Rattle.tables.specs.declared.Operand.{Operand}
use Rattle.tables.specs.declared.Operand.TheVariants.{Variable, Constant}
use Rattle.tables.specs.declared.Over.{Over}
use Rattle.tables.specs.declared.Over.TheVariants.{Roots, Under}
use Rattle.logic.specs.Formulas.{Formula, negation, joined, compared, formula_at}
use Rattle.logic.specs.Verdict as meaning
use Rattle.logic.specs.Marks.{row_of, rows_of, because, witnesses, reason}
use Rattle.logic.proofs.Folds.{fold_all}
use Rattle.logic.proofs.Walks.{both_settled, both_decided, fold_append, fold_one}
use Rattle.logic.proofs.Reasons.{witnesses_all}
use Rattle.engine.specs.Places.{bind_at, place_of, bindings_of}
use Rattle.engine.specs.Ready.{meant, compared_by, ranges_by, Covers, verdict_at, ReadyRun, formula_by, ranged_by}
use Rattle.engine.specs.Marked.{side_for, undecided, reason_at, with_reason, with_body, reason_by}
use Rattle.engine.specs.Settling.{Fits, CertainCompared, Certain, KnownParent, KnownRows, Steady, body_with, CertainRun, Settles}
use Rattle.engine.specs.declared.bindings.Bindings.{Bindings}
use Rattle.engine.specs.declared.ranges.Quantified.{Quantified}
use Rattle.engine.proofs.Compared.{same_true, same_false}
use Rattle.engine.proofs.Rows.{row_bound, depth_bound, ranged_none, ranged_halves, ranged_one, row_inside}

equal_true : {x y : Bool} → x ≡ y → beq x y ≡ true
equal_true {x} {y} h = rw h (go y)
  where
    go : (z : Bool) → beq z z ≡ true
    go true = refl
    go false = refl

-- ---- bindings that fit
pub fits_meant : (pool : List ℕ) (b : Bindings) → Fits pool b (meant pool b)
unfolding bindings_of
fits_meant pool b v i e = ap (place_of pool) e

fits_bind : (pool : List ℕ) (b : Bindings) → b.depth < length b.row → (p : ℕ) → (bind_at b p).row ≡ set b.row b.depth p
    → (P : meaning.Place) → ((i : ℕ) → p ≡ suc i → P ≡ meaning.bound (row_at pool i))
    → (β : meaning.Bindings) → Fits pool b β → Fits pool (bind_at b p) (meaning.bind b.depth P β)
fits_bind pool b inside p row_is P h β f v i e = go (eqb v b.depth) refl
  where
    at : get_or (set b.row b.depth p) v 0 ≡ suc i
    at = ap (λ (l : List ℕ). get_or l v 0) (sym row_is) ∙ e

    go : (c : Bool) → eqb v b.depth ≡ c → cond (eqb v b.depth) P (β v) ≡ meaning.bound (row_at pool i)
    go true k = rw k (h i (sym (get_or-set_same b.row b.depth p 0 inside)
        ∙ ap (λ (n : ℕ). get_or (set b.row b.depth p) n 0) (sym (eqb-true v b.depth k)) ∙ at))
    go false k = rw k (f v i (sym (get_or-set_other b.row b.depth v p 0 (eqb-false v b.depth k)) ∙ at))

known_same : (pool : List ℕ) (b : Bindings) (β : meaning.Bindings) → Fits pool b β → (v : ℕ) → (get_or b.row v 0 ≡ 0 → ⊥) → β v ≡ meant pool b v
unfolding bindings_of
known_same pool b β f v h =
    let z : get_or b.row v 0 ≡ suc (get_or b.row v 0 - 1) = omega arith in
    f v (get_or b.row v 0 - 1) z ∙ ap (place_of pool) (sym z)

-- ---- comparisons
module _ (pool : List ℕ) (b : Bindings) (by : Comparison) (v : ℕ) (o : Operand) (want : Bool) where
  pub compared_unknown : CertainCompared pool b by v o want false
  compared_unknown = record { sure = λ h. absurd (false≢true h); alike = λ h. absurd (false≢true h) }

  -- both sides are known
  module _ (known : get_or b.row v 0 ≡ 0 → ⊥) (other : (w : ℕ) → o ≡ Variable w → get_or b.row w 0 ≡ 0 → ⊥) where
    left_same : (β : meaning.Bindings) → Fits pool b β → β v ≡ meant pool b v
    left_same β f = known_same pool b β f v known

    right_same : (β : meaning.Bindings) → Fits pool b β → (meaning.value_of β o ≡ meaning.value_of (meant pool b) o) × (rows_of β o ≡ rows_of (meant pool b) o)
    right_same β f = go o other
      where
        go : (z : Operand) → ((w : ℕ) → z ≡ Variable w → get_or b.row w 0 ≡ 0 → ⊥) → (meaning.value_of β z ≡ meaning.value_of (meant pool b) z) × (rows_of β z ≡ rows_of (meant pool b) z)
        go (Constant x) h = (refl, refl)
        go (Variable w) h = let z : β w ≡ meant pool b w = known_same pool b β f w (h w refl) in (ap meaning.value_at z, ap row_of z)

    pub compared_known : (c : Bool) → c ≡ compared_by pool b by v o → CertainCompared pool b by v o want (beq c want)
    compared_known c c_is = record {
      sure = λ h β f. ap₂ (meaning.compare by) (ap meaning.value_at (left_same β f)) (right_same β f).0 ∙ sym c_is ∙ same_true c want h;
      alike = λ h β f. ap₂ ◌++◌ (ap row_of (left_same β f)) (right_same β f).1;
    }

-- ---- whether a quantifier's reason is steady
module _ (b : Bindings) (q : Quantified) (want same : Bool) where
  pub steady_not : Steady b q want same false
  steady_not = record { settled = λ h. absurd (false≢true h); known = λ h. absurd (false≢true h) }

  pub steady_unasked : not same ≡ true → Steady b q want same true
  steady_unasked h = record { settled = λ _ t. absurd (false≢true (ap not (sym t) ∙ h)); known = λ _ t. absurd (false≢true (ap not (sym t) ∙ h)) }

  pub steady_rows : want ≡ meaning.settled q.by → (r : Bool) → (r ≡ true → KnownRows b q.over) → Steady b q want same r
  steady_rows w r k = record { settled = λ _ _. w; known = λ h _. k h }

-- ---- connectives
module _ (c : Connective) (want : Bool) where
  one_is_enough : beq want (undecided c) ≡ false → (x : Bool) → (meaning.connect c x want ≡ want) × (meaning.connect c (side_for c want) x ≡ want)
  one_is_enough h x = go c want x h
    where
      go : (c : Connective) (w x : Bool) → beq w (undecided c) ≡ false → (meaning.connect c x w ≡ w) × (meaning.connect c (side_for c w) x ≡ w)
      go And true x h = absurd (true≢false h)
      go And false true h = (refl, refl)
      go And false false h = (refl, refl)
      go Or true true h = (refl, refl)
      go Or true false h = (refl, refl)
      go Or false x h = absurd (true≢false h)
      go Implies true true h = (refl, refl)
      go Implies true false h = (refl, refl)
      go Implies false x h = absurd (true≢false h)

  -- the reason where one side is enough and the left one is it
  left_because : beq want (undecided c) ≡ false → (y : Bool) (R S : List Row) → because c (side_for c want) y R S ≡ R
  left_because h y R S = go c want h
    where
      go : (c : Connective) (w : Bool) → beq w (undecided c) ≡ false → because c (side_for c w) y R S ≡ R
      go And true h = absurd (true≢false h)
      go And false h = refl
      go Or true h = refl
      go Or false h = absurd (true≢false h)
      go Implies true h = refl
      go Implies false h = absurd (true≢false h)

  -- the reason where both are needed
  both_because : beq want (undecided c) ≡ true → (R S : List Row) → because c (side_for c want) want R S ≡ R ++ S
  both_because h R S = go c want h
    where
      go : (c : Connective) (w : Bool) → beq w (undecided c) ≡ true → because c (side_for c w) w R S ≡ R ++ S
      go And true h = refl
      go And false h = absurd (false≢true h)
      go Or true h = absurd (false≢true h)
      go Or false h = refl
      go Implies true h = absurd (false≢true h)
      go Implies false h = refl

  -- the reason where one side is enough and the left one is not it
  right_because : beq want (undecided c) ≡ false → (R S : List Row) → because c (not (side_for c want)) want R S ≡ S
  right_because h R S = go c want h
    where
      go : (c : Connective) (w : Bool) → beq w (undecided c) ≡ false → because c (not (side_for c w)) w R S ≡ S
      go And true h = absurd (true≢false h)
      go And false h = refl
      go Or true h = refl
      go Or false h = absurd (true≢false h)
      go Implies true h = refl
      go Implies false h = absurd (true≢false h)

  both_are_enough : meaning.connect c (side_for c want) want ≡ want
  both_are_enough = go c want
    where
      go : (c : Connective) (w : Bool) → meaning.connect c (side_for c w) w ≡ w
      go And true = refl
      go And false = refl
      go Or true = refl
      go Or false = refl
      go Implies true = refl
      go Implies false = refl

-- ---- an entry, by its formula
module _ (rule pool : List ℕ) (b : Bindings) (e : ℕ) (want same : Bool) where
  pub certain_nothing : Certain rule pool b e want same false
  certain_nothing = record { sure = λ h. absurd (false≢true h); alike = λ h. absurd (false≢true h) }

  pub certain_not : (a : ℕ) → formula_at rule e ≡ negation (formula_at rule a) → (r : Bool) → Certain rule pool b a (not want) same r → Certain rule pool b e want same r
  unfolding meaning.holds reason
  certain_not a f r c = record {
    sure = λ g β k. rw f (ap not (c.sure g β k) ∙ twice want);
    alike = λ g s β k. rw f (c.alike g s β k);
  }
    where
      twice : (z : Bool) → not (not z) ≡ z
      twice true = refl
      twice false = refl

  module _ (by : Connective) (a a' : ℕ) (is : formula_at rule e ≡ joined by (formula_at rule a) (formula_at rule a')) (s l : Bool) (s_is : s ≡ side_for by want) (left : Certain rule pool b a s same l) where
    -- the verdict and the reason with other bindings
    with_bindings : (β : meaning.Bindings) → meaning.holds (formula_at rule e) (rows pool) b.depth β
        ≡ meaning.connect by (meaning.holds (formula_at rule a) (rows pool) b.depth β) (meaning.holds (formula_at rule a') (rows pool) b.depth β)
    unfolding meaning.holds
    with_bindings β = rw is refl

    reason_with : (β : meaning.Bindings) → reason (formula_at rule e) (rows pool) b.depth β
        ≡ because by (meaning.holds (formula_at rule a) (rows pool) b.depth β) (meaning.holds (formula_at rule a') (rows pool) b.depth β)
        (reason (formula_at rule a) (rows pool) b.depth β) (reason (formula_at rule a') (rows pool) b.depth β)
    unfolding reason
    reason_with β = rw is refl

    left_is : l ≡ true → (β : meaning.Bindings) → Fits pool b β → meaning.holds (formula_at rule a) (rows pool) b.depth β ≡ side_for by want
    left_is h β f = left.sure h β f ∙ s_is

    pub certain_left : beq l (beq want (undecided by)) ≡ false → Certain rule pool b e want same l
    certain_left h = record {
      sure = λ g β f. with_bindings β
          ∙ ap (λ (z : Bool). meaning.connect by z (meaning.holds (formula_at rule a') (rows pool) b.depth β)) (left_is g β f)
          ∙ (one_is_enough by want (unlike l (beq want (undecided by)) g h) (meaning.holds (formula_at rule a') (rows pool) b.depth β)).1;
      alike = λ g t β f. reason_left g β f ∙ left.alike g t β f ∙ sym (reason_left g (meant pool b) (fits_meant pool b));
    }
      where
        unlike : (a c : Bool) → a ≡ true → beq a c ≡ false → c ≡ false
        unlike true c g h = turned c h
          where
            turned : (c : Bool) → beq true c ≡ false → c ≡ false
            turned true h = absurd (true≢false h)
            turned false h = refl
        unlike false c g h = absurd (false≢true g)

        reason_left : l ≡ true → (β : meaning.Bindings) → Fits pool b β → reason (formula_at rule e) (rows pool) b.depth β ≡ reason (formula_at rule a) (rows pool) b.depth β
        reason_left g β f =
            reason_with β
            ∙ ap (λ (z : Bool). because by z (meaning.holds (formula_at rule a') (rows pool) b.depth β) (reason (formula_at rule a) (rows pool) b.depth β) (reason (formula_at rule a') (rows pool) b.depth β)) (left_is g β f)
            ∙ left_because by want (unlike l (beq want (undecided by)) g h) _ _ _

    -- the right side is asked: where the reason is, only if the left side is certain
    pub certain_right : beq l (beq want (undecided by)) ≡ true → (same && not l) ≡ false → (r : Bool) → Certain rule pool b a' want same r → Certain rule pool b e want same r
    certain_right h o r c = record {
      sure = λ g β f. with_bindings β
          ∙ ap (meaning.connect by (meaning.holds (formula_at rule a) (rows pool) b.depth β)) (c.sure g β f)
          ∙ either (beq want (undecided by))
          (λ z. ap (λ (y : Bool). meaning.connect by y want) (left_is (same_true l (beq want (undecided by)) h ∙ z) β f) ∙ both_are_enough by want)
          (λ z. (one_is_enough by want z (meaning.holds (formula_at rule a) (rows pool) b.depth β)).0);
      alike = λ g t β f. reason_both g t β f ∙ ap₂ ◌++◌ (left.alike (left_sure t) t β f) (c.alike g t β f) ∙ sym (reason_both g t (meant pool b) (fits_meant pool b));
    }
      where
        asked : (s l : Bool) → s ≡ true → (s && not l) ≡ false → l ≡ true
        asked true true t o = refl
        asked true false t o = absurd (true≢false o)
        asked false l t o = absurd (false≢true t)

        left_sure : same ≡ true → l ≡ true
        left_sure t = asked same l t o

        reason_both : r ≡ true → same ≡ true → (β : meaning.Bindings) → Fits pool b β
            → reason (formula_at rule e) (rows pool) b.depth β ≡ reason (formula_at rule a) (rows pool) b.depth β ++ reason (formula_at rule a') (rows pool) b.depth β
        reason_both g t β f =
            reason_with β
            ∙ ap₂ (λ (z w : Bool). because by z w (reason (formula_at rule a) (rows pool) b.depth β) (reason (formula_at rule a') (rows pool) b.depth β)) (left_is (left_sure t) β f) (c.sure g β f)
            ∙ both_because by want (sym (same_true l (beq want (undecided by)) h) ∙ left_sure t) _ _

    -- one side is enough, and the left one is certain not to be it: then the right one's reason is the reason
    module _ (h : beq l (beq want (undecided by)) ≡ true) (o : (same && not l) ≡ true) where
      one_enough : beq want (undecided by) ≡ false
      one_enough = go same l (beq want (undecided by)) o h
        where
          go : (s l z : Bool) → (s && not l) ≡ true → beq l z ≡ true → z ≡ false
          go true true z o h = absurd (false≢true o)
          go true false true o h = absurd (false≢true h)
          go true false false o h = refl
          go false l z o h = absurd (false≢true o)

      pub certain_other : (s' t : Bool) → s' ≡ side_for by want → Certain rule pool b a (not s') false t → t ≡ true
          → (r : Bool) → Certain rule pool b a' want same r → Certain rule pool b e want same r
      certain_other s' t s'-is d t_true r c = record {
        sure = λ g β f. with_bindings β
            ∙ ap (meaning.connect by (meaning.holds (formula_at rule a) (rows pool) b.depth β)) (c.sure g β f)
            ∙ (one_is_enough by want one_enough (meaning.holds (formula_at rule a) (rows pool) b.depth β)).0;
        alike = λ g u β f. reason_right g β f ∙ c.alike g u β f ∙ sym (reason_right g (meant pool b) (fits_meant pool b));
      }
        where
          reason_right : r ≡ true → (β : meaning.Bindings) → Fits pool b β
              → reason (formula_at rule e) (rows pool) b.depth β ≡ reason (formula_at rule a') (rows pool) b.depth β
          reason_right g β f =
              reason_with β
              ∙ ap₂ (λ (z w : Bool). because by z w (reason (formula_at rule a) (rows pool) b.depth β) (reason (formula_at rule a') (rows pool) b.depth β))
              (d.sure t_true β f ∙ ap not s'-is) (c.sure g β f)
              ∙ right_because by want one_enough _ _

  pub certain_compared : (by : Comparison) (v : ℕ) (o : Operand) → formula_at rule e ≡ compared by v o → (r : Bool) → CertainCompared pool b by v o want r → Certain rule pool b e want same r
  unfolding meaning.holds reason
  certain_compared by v o is r c = record { sure = λ g β f. rw is (c.sure g β f); alike = λ g t β f. rw is (c.alike g β f) }

-- ---- a quantifier, with the rows unknown
module _ (rule pool : List ℕ) (b : Bindings) (q : Quantified) (i k : ℕ) (ready : ReadyRun rule pool b q i k) where
  -- the verdict and the reason with other bindings
  over_table : (β : meaning.Bindings) → meaning.holds (formula_by rule q) (rows pool) b.depth β ≡ meaning.fold q.by (body_with rule pool b q β) (select (meaning.ranges q.over q.name β) (rows pool))
  unfolding meaning.holds
  over_table β = refl

  reason_over_table : (β : meaning.Bindings) → reason (formula_by rule q) (rows pool) b.depth β
      ≡ concat_map (with_reason rule pool b q β) (witnesses q.by (body_with rule pool b q β) (select (meaning.ranges q.over q.name β) (rows pool)))
  unfolding reason
  reason_over_table β = refl

  -- its rows are the same with all bindings that fit, where its parent is known
  same_rows : KnownRows b q.over → (β : meaning.Bindings) → Fits pool b β → select (meaning.ranges q.over q.name β) (rows pool) ≡ ranged_by pool b q 0 (row_count pool)
  same_rows h β f = ap (λ (p : Row → Bool). select p (rows pool)) (fun_ext (go q.over h))
    where
      go : (o : Over) → KnownRows b o → (y : Row) → meaning.ranges o q.name β y ≡ meaning.ranges o q.name (meant pool b) y
      go Roots g y = refl
      go (Under v) g y = ap (λ (P : meaning.Place). meaning.hangs P y && meaning.named q.name y) (known_same pool b β f v (g v refl))

  -- its body, with one more variable bound
  module _ (p : ℕ) (inside : p ≤ row_count pool) (b' : Bindings) (b_is : b' ≡ bind_at b p)
      (want same r : Bool) (c : Certain rule pool b' q.body want same r) (h : r ≡ true) where
    -- bindings that fit, with a row for the variable
    fits_row : (β : meaning.Bindings) → Fits pool b β → (y : Row) → ((j : ℕ) → p ≡ suc j → meaning.bound y ≡ meaning.bound (row_at pool j)) → Fits pool b' (meaning.bind b.depth (meaning.bound y) β)
    fits_row β f y g =
        subst (λ (z : Bindings). Fits pool z (meaning.bind b.depth (meaning.bound y) β)) (sym b_is)
        (fits_bind pool b (omega (arith, ready.room, ready.placed.sized)) p
        (row_bound rule pool b q i k ready p inside) (meaning.bound y) g β f)

    depth_is : suc b.depth ≡ b'.depth
    depth_is = sym (ap (λ (z : Bindings). z.depth) b_is ∙ depth_bound rule pool b q i k ready p inside)

    body_certain : (β : meaning.Bindings) → Fits pool b β → (y : Row) → ((j : ℕ) → p ≡ suc j → meaning.bound y ≡ meaning.bound (row_at pool j)) → body_with rule pool b q β y ≡ want
    body_certain β f y g =
        ap (λ (d : ℕ). meaning.holds (formula_at rule q.body) (rows pool) d (meaning.bind b.depth (meaning.bound y) β)) depth_is
        ∙ c.sure h (meaning.bind b.depth (meaning.bound y) β) (fits_row β f y g)

    body_alike : same ≡ true → (β : meaning.Bindings) → Fits pool b β → (y : Row) → ((j : ℕ) → p ≡ suc j → meaning.bound y ≡ meaning.bound (row_at pool j))
        → with_reason rule pool b q β y ≡ y ∷ reason_at rule pool b' q.body
    body_alike t β f y g =
        ap (λ (d : ℕ). y ∷ reason (formula_at rule q.body) (rows pool) d (meaning.bind b.depth (meaning.bound y) β)) depth_is
        ∙ ap (λ (R : List Row). y ∷ R) (c.alike h t (meaning.bind b.depth (meaning.bound y) β) (fits_row β f y g))

    body_same : same ≡ true → (β : meaning.Bindings) → Fits pool b β → (y : Row) → ((j : ℕ) → p ≡ suc j → meaning.bound y ≡ meaning.bound (row_at pool j))
        → with_reason rule pool b q β y ≡ with_body rule pool b q y
    body_same t β f y g = body_alike t β f y g ∙ sym (body_alike t (meant pool b) (fits_meant pool b) y g)

  -- the verdict where each body is certain of the one that no row decides
  all_sure : (want same : Bool) → want ≡ meaning.settled q.by → (b' : Bindings) → b' ≡ bind_at b 0 → (r : Bool) → Certain rule pool b' q.body want same r
      → r ≡ true → (β : meaning.Bindings) → Fits pool b β → meaning.holds (formula_by rule q) (rows pool) b.depth β ≡ want
  all_sure want same w b' b_is r c g β f =
      over_table β
      ∙ fold_all q.by (body_with rule pool b q β) (select (meaning.ranges q.over q.name β) (rows pool))
      (λ y. body_certain 0 (omega arith) b' b_is want same r c g β f y (λ j z. absurd (omega arith)) ∙ w)
      ∙ sym w

  pub settles_not : (same : Bool) → Settles rule pool b q same false
  settles_not same = record { sure = λ h. absurd (false≢true h); body = λ h. absurd (false≢true h); alike = λ h. absurd (false≢true h) }

  pub settles_all : (s same : Bool) → s ≡ meaning.settled q.by → (b' : Bindings) → b' ≡ bind_at b 0 → (r : Bool) → Certain rule pool b' q.body s same r → Settles rule pool b q same r
  unfolding meaning.holds
  settles_all s same s_is b' b_is r c = record {
    sure = λ h. sym s_is ∙ sym (all_sure s same s_is b' b_is r c h (meant pool b) (fits_meant pool b));
    body = λ h. sym s_is ∙ sym (c.sure h (meant pool b') (fits_meant pool b')) ∙ ap (λ (z : Bindings). verdict_at rule pool z q.body) b_is;
    alike = λ h t y. body_alike 0 (omega arith) b' b_is s same r c h t (meant pool b) (fits_meant pool b) y (λ j z. absurd (omega arith))
        ∙ ap (λ (z : Bindings). y ∷ reason_at rule pool z q.body) b_is;
  }

  -- ---- an entry that is this quantifier
  module _ (e : ℕ) (is : formula_at rule e ≡ formula_by rule q) (want same : Bool) (s : Bool) (steady : Steady b q want same s) (s_true : s ≡ true) where
    -- the reason where no row decides and the rows are known
    steady_reason : same ≡ true → (β : meaning.Bindings) → Fits pool b β → meaning.holds (formula_by rule q) (rows pool) b.depth β ≡ want
        → reason (formula_by rule q) (rows pool) b.depth β ≡ concat_map (with_reason rule pool b q β) (ranged_by pool b q 0 (row_count pool))
    steady_reason t β f h =
        reason_over_table β
        ∙ ap (concat_map (with_reason rule pool b q β))
        (witnesses_all q.by (body_with rule pool b q β) (select (meaning.ranges q.over q.name β) (rows pool)) (sym (over_table β) ∙ h ∙ steady.settled s_true t)
        ∙ same_rows (steady.known s_true t) β f)

    -- certain of that verdict, with equal reasons over those rows
    steady_certain : (r : Bool) → (r ≡ true → (β : meaning.Bindings) → Fits pool b β → meaning.holds (formula_by rule q) (rows pool) b.depth β ≡ want)
        → (r ≡ true → same ≡ true → (β : meaning.Bindings) → Fits pool b β
        → concat_map (with_reason rule pool b q β) (ranged_by pool b q 0 (row_count pool)) ≡ reason_by rule pool b q 0 (row_count pool))
        → Certain rule pool b e want same r
    steady_certain r v a = record {
      sure = λ g β f. ap (λ (F : Formula). meaning.holds F (rows pool) b.depth β) is ∙ v g β f;
      alike = λ g t β f. ap (λ (F : Formula). reason F (rows pool) b.depth β) is
          ∙ steady_reason t β f (v g β f) ∙ a g t β f ∙ sym (steady_reason t (meant pool b) (fits_meant pool b) (v g (meant pool b) (fits_meant pool b)))
          ∙ ap (λ (F : Formula). reason F (rows pool) b.depth (meant pool b)) (sym is);
    }

    pub certain_all : want ≡ meaning.settled q.by → (b' : Bindings) → b' ≡ bind_at b 0 → (r : Bool) → Certain rule pool b' q.body want same r → Certain rule pool b e want same r
    certain_all w b' b_is r c = steady_certain r (all_sure want same w b' b_is r c)
        (λ g t β f. ap (λ (F : Row → List Row). concat_map F (ranged_by pool b q 0 (row_count pool)))
        (fun_ext (λ y. body_same 0 (omega arith) b' b_is want same r c g t β f y (λ j z. absurd (omega arith)))))

    pub certain_scan : KnownParent b q.over → Covers pool b q i k → (r : Bool) → CertainRun rule pool b q want same i k r → Certain rule pool b e want same r
    certain_scan known span r c = steady_certain r
        (λ g β f. over_table β ∙ ap (meaning.fold q.by (body_with rule pool b q β)) (same_rows (parent_rows q.over known) β f ∙ sym span.whole) ∙ c.sure g β f)
        (λ g t β f. ap (concat_map (with_reason rule pool b q β)) (sym span.whole) ∙ c.alike g t (steady.settled s_true t) β f ∙ ap (concat_map (with_body rule pool b q)) span.whole)
      where
        parent_rows : (o : Over) → KnownParent b o → KnownRows b o
        parent_rows Roots h v e = absurd h
        parent_rows (Under w) h v e = let z : w ≡ v = cc in rw (← z) h

  -- ---- with its rows known
  module _ (want same : Bool) where
    pub scan_none : found (λ (j : ℕ). ranges_by pool b q (row_at pool (i + j))) k ≡ None → CertainRun rule pool b q want same i k (beq want (meaning.settled q.by))
    scan_none h =
        let none_ranged : ranged_by pool b q i k ≡ [] = ranged_none rule pool b q i k ready h in
        record {
          sure = λ g β f. ap (meaning.fold q.by (body_with rule pool b q β)) none_ranged ∙ sym (same_true want (meaning.settled q.by) g);
          alike = λ g t a β f. ap (concat_map (with_reason rule pool b q β)) none_ranged ∙ sym (ap (concat_map (with_body rule pool b q)) none_ranged);
        }

    module _ (s : ℕ) (found_is : found (λ (j : ℕ). ranges_by pool b q (row_at pool (i + j))) k ≡ Some s) where
      module _ (j : ℕ) (h : j ≤ k - s) (l : Bool) (left : CertainRun rule pool b q want same (i + s) j l) where
        halves : (β : meaning.Bindings) → meaning.fold q.by (body_with rule pool b q β) (ranged_by pool b q i k)
            ≡ meaning.both q.by (meaning.fold q.by (body_with rule pool b q β) (ranged_by pool b q (i + s) j)) (meaning.fold q.by (body_with rule pool b q β) (ranged_by pool b q (i + s + j) (k - s - j)))
        halves β =
            ap (meaning.fold q.by (body_with rule pool b q β)) (ranged_halves rule pool b q i k ready s found_is j h)
            ∙ fold_append q.by (body_with rule pool b q β) (ranged_by pool b q (i + s) j) (ranged_by pool b q (i + s + j) (k - s - j))

        reason_halves : (β : meaning.Bindings) → concat_map (with_reason rule pool b q β) (ranged_by pool b q i k)
            ≡ concat_map (with_reason rule pool b q β) (ranged_by pool b q (i + s) j) ++ concat_map (with_reason rule pool b q β) (ranged_by pool b q (i + s + j) (k - s - j))
        reason_halves β =
            ap (concat_map (with_reason rule pool b q β)) (ranged_halves rule pool b q i k ready s found_is j h)
            ∙ concat_map_append (with_reason rule pool b q β) (ranged_by pool b q (i + s) j) (ranged_by pool b q (i + s + j) (k - s - j))

        pub scan_left : beq l (beq want (meaning.settled q.by)) ≡ false → CertainRun rule pool b q want same i k l
        scan_left d = record {
          sure = λ g β f. halves β
              ∙ both_decided q.by _ (meaning.fold q.by (body_with rule pool b q β) (ranged_by pool b q (i + s + j) (k - s - j)))
              (λ z. same_false l (beq want (meaning.settled q.by)) d (g ∙ sym (equal_true (sym (left.sure g β f) ∙ z))))
              ∙ left.sure g β f;
          alike = λ g t a. absurd (same_false l (beq want (meaning.settled q.by)) d (g ∙ sym (equal_true a)));
        }

        pub scan_right : beq l (beq want (meaning.settled q.by)) ≡ true → (v : Bool) → CertainRun rule pool b q want same (i + s + j) (k - s - j) v → CertainRun rule pool b q want same i k v
        scan_right d v c = record {
          sure = λ g β f. halves β
              ∙ ap (meaning.both q.by (meaning.fold q.by (body_with rule pool b q β) (ranged_by pool b q (i + s) j))) (c.sure g β f)
              ∙ either (beq want (meaning.settled q.by))
              (λ z. both_settled q.by _ want (left.sure (same_true l (beq want (meaning.settled q.by)) d ∙ z) β f ∙ same_true want (meaning.settled q.by) z))
              (λ z. second_decides q.by (meaning.fold q.by (body_with rule pool b q β) (ranged_by pool b q (i + s) j)) want (same_false want (meaning.settled q.by) z));
          alike = λ g t a β f. reason_halves β
              ∙ ap₂ ◌++◌ (left.alike (same_true l (beq want (meaning.settled q.by)) d ∙ equal_true a) t a β f) (c.alike g t a β f)
              ∙ sym (reason_halves (meant pool b));
        }
          where
            second_decides : (c : Quantifier) (y w : Bool) → (w ≡ meaning.settled c → ⊥) → meaning.both c y w ≡ w
            second_decides Every y true n = absurd (n refl)
            second_decides Every true false n = refl
            second_decides Every false false n = refl
            second_decides Exists true true n = refl
            second_decides Exists false true n = refl
            second_decides Exists y false n = absurd (n refl)

      pub scan_one : k - s ≡ 1 → (b' : Bindings) → b' ≡ bind_at b (i + s + 1) → (v : Bool) → Certain rule pool b' q.body want same v → CertainRun rule pool b q want same i k v
      scan_one h b' b_is v c = record {
        sure = λ g β f. ap (meaning.fold q.by (body_with rule pool b q β)) one_ranged
            ∙ fold_one q.by (body_with rule pool b q β) (row_at pool (i + s))
            ∙ body_certain (i + s + 1) (row_inside rule pool b q i k ready s found_is) b' b_is want same v c g β f (row_at pool (i + s)) this_row;
        alike = λ g t a β f. ap (concat_map (with_reason rule pool b q β)) one_ranged
            ∙ ap (λ (R : List Row). R ++ [])
            (body_same (i + s + 1) (row_inside rule pool b q i k ready s found_is) b' b_is want same v c g t β f (row_at pool (i + s)) this_row)
            ∙ sym (ap (concat_map (with_body rule pool b q)) one_ranged);
      }
        where
          one_ranged : ranged_by pool b q i k ≡ row_at pool (i + s) ∷ []
          one_ranged = ranged_one rule pool b q i k ready s found_is h

          this_row : (j : ℕ) → i + s + 1 ≡ suc j → meaning.bound (row_at pool (i + s)) ≡ meaning.bound (row_at pool j)
          this_row j z = ap (λ (n : ℕ). meaning.bound (row_at pool n)) (let y : i + s ≡ j = omega arith in y)
