-- A row of an accepted table has at most one parent, an earlier row, which the search among the rows before it finds. Assumes nothing.
use Prim.Native.Nat.{ℕ, ◌<◌, ◌≤◌}
use mathlib.Core.Path.{◌≡◌, sym, ◌∙◌}
use mathlib.Core.Bool.{Bool, true, false, true≢false}
use mathlib.Core.List.{List, [], ◌∷◌}
use native.Mathlib.Omega.{arith}
use Rattle.base.specs.Lists.{select}
use Rattle.base.proofs.Bools.{either}
use Rattle.base.proofs.Search.{first_le, none_before, at_first}
use Rattle.tables.specs.Words.{row_at, row_count, rows, rows_from}
use Rattle.tables.specs.Tables.{is_parent, accepted_table}
use Rattle.tables.specs.declared.Row.{Row}
use Rattle.tables.proofs.Accepted.{parent_device, parent_at, same_place, behind}
use Rattle.logic.proofs.Walks.{select_none, select_one, select_span}
use Rattle.parts.specs.Families.{parent_of}

-- one row alone passes a test
select_only : (P : Row → Bool) (t : List ℕ) (n p : ℕ) → p < n → P (row_at t p) ≡ true → ((j : ℕ) → j < n → P (row_at t j) ≡ true → j ≡ p) → select P (rows_from t 0 n) ≡ row_at t p ∷ []
select_only P t n p l e only =
    sym (select_span P t n p 1 (omega arith) (λ j a. other j (omega arith) (λ q. omega arith)) (λ j a c. other j c (λ q. omega arith)))
    ∙ select_one P t p e
  where
    other : (j : ℕ) → j < n → (j ≡ p → ⊥) → P (row_at t j) ≡ false
    other j a h = either (P (row_at t j)) (λ f. absurd (h (only j a f))) (λ f. f)

module _ (t : List ℕ) (ok : accepted_table t ≡ true) (i : ℕ) (h : i < row_count t) where
  pub parent_le : parent_of t i ≤ i
  unfolding parent_of
  parent_le = first_le (λ j. is_parent (row_at t i) (row_at t j)) i

  -- a row without a parent
  pub no_parents : parent_of t i ≡ i → select (is_parent (row_at t i)) (rows t) ≡ []
  unfolding parent_of
  no_parents e = select_none (is_parent (row_at t i)) t 0 (row_count t) (λ j a c. either (is_parent (row_at t i) (row_at t j))
      (λ f. absurd (true≢false (sym f ∙ none_before (λ k. is_parent (row_at t i) (row_at t k)) i j (omega (arith, behind t ok j i (omega arith) h f)))))
      (λ f. f))

  module _ (n : parent_of t i ≡ i → ⊥) where
    pub parent_before : parent_of t i < i
    parent_before = omega (arith, parent_le)

    pub parent_is : is_parent (row_at t i) (row_at t (parent_of t i)) ≡ true
    unfolding parent_of
    parent_is = at_first (λ j. is_parent (row_at t i) (row_at t j)) i parent_before

  -- a row that is its parent is the one found
  has_parent : (p : ℕ) → p < row_count t → is_parent (row_at t i) (row_at t p) ≡ true → parent_of t i ≡ i → ⊥
  unfolding parent_of
  has_parent p l f e = true≢false (sym f ∙ none_before (λ k. is_parent (row_at t i) (row_at t k)) i p (omega (arith, behind t ok p i l h f)))

  pub only_parent : (p : ℕ) → p < row_count t → is_parent (row_at t i) (row_at t p) ≡ true → p ≡ parent_of t i
  only_parent p l f =
      let found = parent_is (has_parent p l f) in
      same_place t ok p (parent_of t i) l (omega (arith, parent_le))
      (parent_device (row_at t i) (row_at t p) f ∙ sym (parent_device (row_at t i) (row_at t (parent_of t i)) found))
      (parent_at (row_at t i) (row_at t p) f ∙ sym (parent_at (row_at t i) (row_at t (parent_of t i)) found))

  pub one_parent : (parent_of t i ≡ i → ⊥) → select (is_parent (row_at t i)) (rows t) ≡ row_at t (parent_of t i) ∷ []
  one_parent n = select_only (is_parent (row_at t i)) t (row_count t) (parent_of t i) (omega (arith, parent_before n)) (parent_is n) only_parent
