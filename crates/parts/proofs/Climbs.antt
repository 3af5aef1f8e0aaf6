-- One law for each way through the climb from a row to the root of its chain, over plain variables. Assumes nothing.
use Prim.Native.Nat.{ℕ, zero, suc, ◌+◌, ◌<◌, ◌≤◌}
use mathlib.Core.Path.{◌≡◌, refl, sym, ap, ap₂, subst, ◌∙◌}
use mathlib.Core.Logic.{⊎_elim}
use mathlib.Core.Bool.{Bool, true, false, cond, and-false}
use mathlib.Core.List.{List, [], ◌∷◌, map, append-nil}
use native.Mathlib.Nat.{eq-or-lt_of_le}
use native.Mathlib.Omega.{arith}
use lib.ListN.{get_or}
use borrow.Author.Tests.{eq-eqb, ne_eqb}
use Rattle.std.specs.Prelude.{Option, Some, None}
use Rattle.base.specs.Lists.{select}
use Rattle.tables.specs.Words.{row_at, rows, entry_at}
use Rattle.tables.specs.Tables.{root, is_parent, row_limit, accepted_table}
use Rattle.tables.specs.Nodes.{Parts, over_at}
use Rattle.tables.specs.declared.nodes.Node.TheVariants as node
use Rattle.tables.specs.declared.nodes.Quantifier.{Quantifier}
use Rattle.tables.specs.declared.Row.{Row}
use Rattle.tables.specs.declared.Entry.{Entry}
use Rattle.tables.proofs.Accepted.{few_rows}
use Rattle.logic.specs.Formulas.{over_of}
use Rattle.tables.specs.declared.Over.{Over}
use Rattle.tables.specs.declared.Over.TheVariants.{Roots, Under}
use Rattle.logic.specs.Verdict as meaning
use Rattle.logic.specs.Parts.{Chains, chains_with, reach}
use Rattle.engine.specs.Places.{fresh}
use Rattle.engine.specs.Ready.{Placed, meant}
use Rattle.engine.specs.declared.bindings.Bindings.{Bindings}
use Rattle.engine.proofs.Bound.{meant_fresh, placed_fresh, depth_bind, placed_bind, meant_bind, place_row}
use Rattle.parts.specs.Families.{parent_of, family_at, Families}
use Rattle.parts.specs.declared.families.Family.{Family}
use Rattle.parts.specs.Reaching.{chains_below, reach_at, bound_from, chain_of, ReadyClimb, Climbed}
use Rattle.parts.proofs.Opened.{over_is}
use Rattle.parts.proofs.Parentage.{no_parents, parent_before, one_parent}

-- ---- chains by the variable's number
-- the chain of a variable below d is that of its own quantifier
pub chains_at : (rule t by : List ℕ) (d v : ℕ) → v < d → chains_below rule t by d v ≡ reach_at rule t by v (get_or by v 0)
unfolding chains_below
chains_at rule t by zero v h = absurd (omega arith)
chains_at rule t by (suc d) v h = ⊎_elim
    (λ e. let q : v ≡ d = omega arith in
    ap (λ (b : Bool). cond b (reach_at rule t by d (get_or by d 0)) (chains_below rule t by d v)) (eq-eqb v d q) ∙ ap (λ (n : ℕ). reach_at rule t by n (get_or by n 0)) (sym q))
    (λ l. let m : v < d = omega arith in
    ap (λ (b : Bool). cond b (reach_at rule t by d (get_or by d 0)) (chains_below rule t by d v)) (ne_eqb v d (λ q. omega arith)) ∙ chains_at rule t by d v m)
    (eq-or-lt_of_le h)

-- only the quantifiers below d count
pub chains_same : (rule t by by' : List ℕ) (d : ℕ) → ((v : ℕ) → v < d → get_or by v 0 ≡ get_or by' v 0) → chains_below rule t by d ≡ chains_below rule t by' d
unfolding chains_below
chains_same rule t by by' zero h = refl
chains_same rule t by by' (suc d) h =
    ap₂ (λ (e : ℕ) (K : Chains). chains_with d (reach (rows t) (over_of (entry_at rule e).b) (entry_at rule e).c d K) K)
    (h d (omega arith)) (chains_same rule t by by' d (λ v l. h v (omega arith)))

-- ---- reaching
unnamed : (D : List Row) (o : Over) (n d : ℕ) (K : Chains) (r : Row) → meaning.named n r ≡ false → reach D o n d K r ≡ []
unnamed D Roots n d K r e = rw (e, and-false (root r))
unnamed D (Under v) n d K r e = rw e

no_root : (D : List Row) (n d : ℕ) (K : Chains) (r : Row) → root r ≡ false → reach D Roots n d K r ≡ []
no_root D n d K r e = rw e

at_root : (D : List Row) (n d : ℕ) (K : Chains) (r : Row) → root r ≡ true → meaning.named n r ≡ true → reach D Roots n d K r ≡ meaning.bind d (meaning.bound r) meaning.none_bound ∷ []
at_root D n d K r e f = rw (e, f)

nowhere : (D : List Row) (v n d : ℕ) (K : Chains) (r : Row) → meaning.named n r ≡ true → select (is_parent r) D ≡ [] → reach D (Under v) n d K r ≡ []
nowhere D v n d K r e f = rw (e, f)

from_parent : (D : List Row) (v n d : ℕ) (K : Chains) (r p : Row) (L : List meaning.Bindings) → meaning.named n r ≡ true → select (is_parent r) D ≡ p ∷ [] → K v p ≡ L
    → reach D (Under v) n d K r ≡ map (meaning.bind d (meaning.bound r)) L
from_parent D v n d K r p L e f g = rw (e, f, g, append-nil L)

-- ---- the code's ways
-- a quantifier's reach by its parts
pub reach_is : (rule t by : List ℕ) (d e : ℕ) {x : Entry} → x ≡ entry_at rule e → {q : Quantifier} {over : Over} {name body : ℕ} → Parts x (node.Quantifier q over name body)
    → (r : Row) → reach_at rule t by d e r ≡ reach (rows t) over name d (chains_below rule t by d) r
reach_is rule t by d e {x} x_is p r = rw (p.3, p.4, over_is x.b) (ap (λ (w : Entry). reach (rows t) (over_of w.b) w.c d (chains_below rule t by d) r) (sym x_is))

module _ (rule t by : List ℕ) (d e i : ℕ) (ok : accepted_table t ≡ true) (ready : ReadyClimb rule t by d e i) where
  pub few : i < row_limit
  few = omega (arith, ready.row_inside, few_rows t ok)

  unreached : reach_at rule t by d e (row_at t i) ≡ [] → Climbed rule t by d e i None
  unreached h = record { reaches = sym h; deep = λ b q. absurd (cc) }

  -- a chain with one more variable
  from_below : (b : Bindings) → Placed t b → reach_at rule t by d e (row_at t i) ≡ meaning.bind d (meaning.bound (row_at t i)) (meant t b) ∷ []
      → {b' : Bindings} → b' ≡ bound_from b d i → Climbed rule t by d e i (Some b')
  from_below b placed h {b'} b_is = rw b_is (record {
    reaches =
        ap (λ (z : meaning.Bindings). z ∷ [])
        (meant_bind t at_d placed_d ready.limit (i + 1) (omega (arith, few)) ∙ ap (λ (p : meaning.Place). meaning.bind d p (meant t b)) (place_row t i))
        ∙ sym h;
    deep = λ z q. let s : bound_from b d i ≡ z = cc in subst (λ (y : Bindings). Placed t y × (y.depth ≡ suc d)) s
        (placed_bind t at_d placed_d ready.limit (i + 1) (omega (arith, few)) (omega (arith, ready.row_inside)), depth_bind t at_d placed_d ready.limit (i + 1) (omega (arith, few)));
  })
    where
      at_d : Bindings
      at_d = record { row = b.row; depth = d }

      placed_d : Placed t at_d
      placed_d = record { sized = placed.sized; shallow = omega (arith, ready.limit); kept = placed.kept }

  module _ {x : Entry} (x_is : x ≡ entry_at rule e) {q : Quantifier} {over : Over} {name body : ℕ} (p : Parts x (node.Quantifier q over name body)) {r : Row} (r_is : r ≡ row_at t i) where
    abbrev chains : Chains
    chains = chains_below rule t by d

    pub climb_other : meaning.named name r ≡ false → Climbed rule t by d e i None
    climb_other h = unreached (reach_is rule t by d e x_is p (row_at t i) ∙ unnamed (rows t) over name d chains (row_at t i) (ap (meaning.named name) (sym r_is) ∙ h))

    module _ (same : meaning.named name r ≡ true) where
      is_named : meaning.named name (row_at t i) ≡ true
      is_named = ap (meaning.named name) (sym r_is) ∙ same

      -- over roots
      module _ (z : over ≡ Roots) where
        over_roots : reach_at rule t by d e (row_at t i) ≡ reach (rows t) Roots name d chains (row_at t i)
        over_roots = reach_is rule t by d e x_is p (row_at t i) ∙ ap (λ (o : Over). reach (rows t) o name d chains (row_at t i)) z

        pub climb_no_root : (r.up ≡ 0 → ⊥) → Climbed rule t by d e i None
        climb_no_root h = unreached (over_roots ∙ no_root (rows t) name d chains (row_at t i) (ap root (sym r_is) ∙ ne_eqb r.up 0 h))

        pub climb_root : r.up ≡ 0 → {b : Bindings} → b ≡ fresh → {b' : Bindings} → b' ≡ bound_from b d i → Climbed rule t by d e i (Some b')
        climb_root h b_is c_is = from_below fresh (placed_fresh t)
            (over_roots ∙ at_root (rows t) name d chains (row_at t i) (ap root (sym r_is) ∙ eq-eqb r.up 0 h) is_named
            ∙ ap (λ (m : meaning.Bindings). meaning.bind d (meaning.bound (row_at t i)) m ∷ []) (sym (meant_fresh t)))
            (c_is ∙ ap (λ (w : Bindings). bound_from w d i) b_is)

      -- under a variable
      module _ {fs : List Family} (has : Families t fs) {v : ℕ} (u : over ≡ Under v) where
        parent_is : (family_at fs i).parent ≡ parent_of t i
        parent_is = has.parent i ready.row_inside

        under_it : reach_at rule t by d e (row_at t i) ≡ reach (rows t) (Under v) name d chains (row_at t i)
        under_it = reach_is rule t by d e x_is p (row_at t i) ∙ ap (λ (o : Over). reach (rows t) o name d chains (row_at t i)) u

        pub climb_alone : (family_at fs i).parent ≡ i → Climbed rule t by d e i None
        climb_alone h = unreached (under_it ∙ nowhere (rows t) v name d chains (row_at t i) is_named (no_parents t ok i ready.row_inside (sym parent_is ∙ h)))

        pub lower : v < d
        lower = go (entry_at rule e).b (sym (over_is (entry_at rule e).b) ∙ ap over_at (sym x_is) ∙ sym p.3 ∙ u) ready.binds.over
          where
            go : (n : ℕ) → over_of n ≡ Under v → n ≤ d → v < d
            go zero q l = absurd (cc)
            go (suc m) q l = let s : m ≡ v = cc in omega arith

        module _ (h : (family_at fs i).parent ≡ i → ⊥) where
          not_alone : parent_of t i ≡ i → ⊥
          not_alone q = h (parent_is ∙ q)

          pub climb_ready : {f : ℕ} → f ≡ get_or by v 0 → ReadyClimb rule t by v f (family_at fs i).parent
          climb_ready f_is = record {
            sized = ready.sized;
            limit = omega (arith, lower, ready.limit);
            around = λ k l. ready.around k (omega (arith, lower));
            binds = rw f_is (ready.around v lower);
            row_inside = omega (arith, parent_is, parent_before t ok i ready.row_inside not_alone, ready.row_inside);
          }

          module _ {f : ℕ} (f_is : f ≡ get_or by v 0) {above : Option Bindings} (climbed : Climbed rule t by v f (family_at fs i).parent above) where
            reached_up : reach_at rule t by d e (row_at t i) ≡ map (meaning.bind d (meaning.bound (row_at t i))) (chain_of t above)
            reached_up = under_it ∙ from_parent (rows t) v name d chains (row_at t i) (row_at t (family_at fs i).parent) (chain_of t above) is_named
                (one_parent t ok i ready.row_inside not_alone ∙ ap (λ (n : ℕ). row_at t n ∷ []) (sym parent_is))
                (ap (λ (K : Row → List meaning.Bindings). K (row_at t (family_at fs i).parent)) (chains_at rule t by d v lower)
                ∙ ap (λ (n : ℕ). reach_at rule t by v n (row_at t (family_at fs i).parent)) (sym f_is)
                ∙ sym climbed.reaches)

            pub climb_lost : above ≡ None → Climbed rule t by d e i None
            climb_lost g = unreached (reached_up ∙ ap (λ (c : Option Bindings). map (meaning.bind d (meaning.bound (row_at t i))) (chain_of t c)) g)

            pub climb_found : {b : Bindings} → above ≡ Some b → {b' : Bindings} → b' ≡ bound_from b d i → Climbed rule t by d e i (Some b')
            climb_found {b} g = from_below b (climbed.deep b g).0
                (reached_up ∙ ap (λ (c : Option Bindings). map (meaning.bind d (meaning.bound (row_at t i))) (chain_of t c)) g)
