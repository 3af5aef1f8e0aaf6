-- The search by halves for the parent of a row of one device. Assumes nothing.
use Prim.Native.Nat.{ℕ, ◌-◌, ◌≤◌, ◌<◌}
use mathlib.Core.Path.{◌≡◌, sym, ap, subst, ◌∙◌}
use mathlib.Core.Logic.{⊎_elim}
use mathlib.Core.Bool.{true, false}
use mathlib.Core.List.{List}
use native.Mathlib.Nat.{eq-or-lt_of_le}
use native.Mathlib.Omega.{arith}
use borrow.Author.Tests.{eqb-true, not-false}
use Rattle.tables.specs.Words.{row_at, row_count}
use Rattle.tables.specs.Tables.{root, is_parent}
use Rattle.tables.proofs.Ordered.{Placed, placed, strictly, has_parent, parent_at}
use Rattle.folding.specs.Passing.{Foldable}

module _ (t : List ℕ) (ok : Foldable t) where
  pub in_place : Placed t
  in_place = placed t ok.ordered

  pub same_device : (i j : ℕ) → i < row_count t → j < row_count t → (row_at t i).device ≡ (row_at t j).device
  same_device i j h l = eqb-true _ _ (not-false _ (ok.one_device i h)) ∙ sym (eqb-true _ _ (not-false _ (ok.one_device j l)))

  -- rows rise by at
  pub rise : (i j : ℕ) → i < j → j < row_count t → (row_at t i).at < (row_at t j).at
  rise i j h l = strictly t in_place i j h l (same_device i j (omega arith) l)

  pub rise_le : (i j : ℕ) → i ≤ j → j < row_count t → (row_at t i).at ≤ (row_at t j).at
  rise_le i j h l = ⊎_elim
      (λ e. let f : (row_at t i).at ≡ (row_at t j).at = ap (λ (k : ℕ). (row_at t k).at) e in omega arith)
      (λ m. omega (arith, rise i j m l))
      (eq-or-lt_of_le h)

module _ (t : List ℕ) (ok : Foldable t) (row : ℕ) (h : row < row_count t) (e : root (row_at t row) ≡ false) where
  -- a row that is no root isn't the first
  pub not_first : 1 ≤ row
  not_first = omega (arith, (has_parent t (in_place t ok) row h e).1)

  -- the first row of those before it whose at isn't below its up
  pub parent_first : (m : ℕ) → m ≤ row - 1 → (0 < m → (row_at t (m - 1)).at < (row_at t row).up) → (m < row - 1 → (row_at t row).up ≤ (row_at t m).at)
      → (m < row) × (is_parent (row_at t row) (row_at t m) ≡ true)
  parent_first m l before at =
      let w = has_parent t (in_place t ok) row h e in
      let named : (row_at t w.0).at ≡ (row_at t row).up = parent_at (row_at t row) (row_at t w.0) w.2 in
      let not_above : (m < w.0 → ⊥) = λ q. omega (arith, rise t ok m w.0 q (omega (arith, w.1)), at (omega (arith, w.1)), named) in
      let not_below : (w.0 < m → ⊥) = λ q. omega (arith, rise_le t ok w.0 (m - 1) (omega arith) (omega arith), before (omega arith), named) in
      let z : w.0 ≡ m = omega (arith, not_above, not_below) in
      (omega (arith, w.1), subst (λ (k : ℕ). is_parent (row_at t row) (row_at t k) ≡ true) z w.2)
