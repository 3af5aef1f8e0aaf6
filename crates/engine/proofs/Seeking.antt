-- A row's parent, looked for by halves. Assumes nothing.
use Prim.Native.Nat.{ℕ, ◌-◌, ◌<◌, ◌≤◌}
use mathlib.Core.Path.{◌≡◌, sym, ap, subst, ◌∙◌}
use mathlib.Core.Logic.{⊎_elim}
use mathlib.Core.Bool.{true, false, ◌&&◌, true≢false}
use mathlib.Core.List.{List}
use native.Mathlib.Nat.{eq-or-lt_of_le}
use native.Mathlib.Omega.{arith}
use lib.Dec.{eqb, ltb}
use borrow.Author.Tests.{eqb-true, eq-eqb, ltb-true, ltb-false, lt-ltb}
use Rattle.base.proofs.Bools.{either, and_left, and_right, or_left, or_right}
use Rattle.tables.specs.Words.{row_at, row_count}
use Rattle.tables.specs.Tables.{root, is_parent, accepted_table}
use Rattle.tables.proofs.Accepted.{rises, strictly, has_parent, parent_device, parent_at}
use Rattle.engine.specs.Runs.{before_parent}

module _ (t : List ℕ) (ok : accepted_table t ≡ true) (row : ℕ) (h : row < row_count t) where
  module _ (p m : ℕ) (p_is : (p < row) × (is_parent (row_at t row) (row_at t p) ≡ true)) (l : m < row) where
    same_device : (row_at t p).device ≡ (row_at t row).device
    same_device = parent_device (row_at t row) (row_at t p) p_is.1

    named_at : (row_at t p).at ≡ (row_at t row).up
    named_at = parent_at (row_at t row) (row_at t p) p_is.1

    -- a row from the parent on does not stand before it
    from_parent : p ≤ m → before_parent (row_at t row) (row_at t m) ≡ true → ⊥
    from_parent g e =
        let up : (row_at t p).device ≤ (row_at t m).device = rises t ok p m g (omega arith) in
        either (ltb (row_at t m).device (row_at t row).device)
        (λ q. omega (arith, ltb-true (row_at t m).device (row_at t row).device q, same_device))
        (λ q. let z : (eqb (row_at t m).device (row_at t row).device && ltb (row_at t m).at (row_at t row).up) ≡ true = (rw q at e) in
        let d : (row_at t m).device ≡ (row_at t row).device = eqb-true _ _ (and_left _ _ z) in
        let a : (row_at t m).at < (row_at t row).up = ltb-true _ _ (and_right (eqb (row_at t m).device (row_at t row).device) _ z) in
        ⊎_elim
        (λ w. let y : (row_at t p).at ≡ (row_at t m).at = ap (λ (k : ℕ). (row_at t k).at) w in omega (arith, named_at))
        (λ w. omega (arith, named_at, strictly t ok p m w (omega arith) (same_device ∙ sym d)))
        (eq-or-lt_of_le g))

    -- a row before the parent does
    to_parent : m < p → before_parent (row_at t row) (row_at t m) ≡ false → ⊥
    to_parent g e =
        let up : (row_at t m).device ≤ (row_at t p).device = rises t ok m p (omega arith) (omega (arith, p_is.0)) in
        let d : (row_at t m).device ≡ (row_at t row).device
        = omega (arith, same_device, ltb-false (row_at t m).device (row_at t row).device (or_left _ _ e)) in
        let a : (row_at t m).at < (row_at t row).up
        = omega (arith, named_at, strictly t ok m p g (omega (arith, p_is.0)) (d ∙ sym same_device)) in
        let z : (eqb (row_at t m).device (row_at t row).device && ltb (row_at t m).at (row_at t row).up) ≡ false
        = or_right (ltb (row_at t m).device (row_at t row).device) _ e in
        true≢false (sym (rw (eq-eqb _ _ d) (lt-ltb _ _ a)) ∙ z)

  module _ (e : root (row_at t row) ≡ false) where
    -- a row that is no root isn't the first
    pub not_first : 1 ≤ row
    not_first = let p = has_parent t ok row h e in omega (arith, p.1)

    -- the first row of those before it that doesn't stand before its parent
    pub parent_first : (m : ℕ) → m ≤ row - 1 → (0 < m → before_parent (row_at t row) (row_at t (m - 1)) ≡ true)
        → (m < row - 1 → before_parent (row_at t row) (row_at t m) ≡ false) → (m < row) × (is_parent (row_at t row) (row_at t m) ≡ true)
    parent_first m l before at =
        let p = has_parent t ok row h e in
        let not_above : (m < p.0 → ⊥) = λ q. to_parent p.0 m (p.1, p.2) (omega (arith, p.1)) q (at (omega (arith, p.1))) in
        let not_below : (p.0 < m → ⊥) = λ q. from_parent p.0 (m - 1) (p.1, p.2) (omega (arith, not_first)) (omega arith) (before (omega arith)) in
        let z : p.0 ≡ m = omega (arith, not_above, not_below) in
        (omega (arith, p.1), subst (λ (k : ℕ). is_parent (row_at t row) (row_at t k) ≡ true) z p.2)
