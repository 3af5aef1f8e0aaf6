-- The search for a row's parent by halves. Assumes nothing.
use Prim.Native.Nat.{ℕ, ◌-◌, ◌<◌, ◌≤◌}
use mathlib.Core.Path.{◌≡◌, sym, ap, ◌∙◌}
use mathlib.Core.Logic.{⊎_elim}
use mathlib.Core.Bool.{Bool, true, false, true≢false}
use mathlib.Core.List.{List}
use native.Mathlib.Nat.{eq-or-lt_of_le}
use native.Mathlib.Omega.{arith}
use lib.Dec.{ltb}
use borrow.Author.Tests.{ltb-true, ltb-false, eq-eqb}
use Rattle.base.specs.Search.{first}
use Rattle.base.proofs.Bools.{either, and_both}
use Rattle.base.proofs.Search.{first_le, none_before, at_first}
use Rattle.tables.specs.Words.{row_at, row_count}
use Rattle.tables.specs.Tables.{is_parent}
use Rattle.tables.proofs.Accepted.{parent_at, strictly}
use Rattle.parts.specs.Families.{OneDevice, parent_of}

-- ---- a number that is the first
is_first : (p : ℕ → Bool) (n r : ℕ) → r < n → p r ≡ true → ((j : ℕ) → j < r → p j ≡ false) → r ≡ first p n
is_first p n r l e none = either (ltb r (first p n))
    (λ s. absurd (true≢false (sym e ∙ none_before p n r (ltb-true _ _ s))))
    (λ s. either (ltb (first p n) r)
    (λ u. absurd (true≢false (sym (at_first p n (omega (arith, ltb-true (first p n) r u))) ∙ none (first p n) (ltb-true _ _ u))))
    (λ u. omega (arith, ltb-false r (first p n) s, ltb-false (first p n) r u)))

is_none : (p : ℕ → Bool) (n : ℕ) → ((j : ℕ) → j < n → p j ≡ false) → n ≡ first p n
is_none p n none = either (ltb (first p n) n)
    (λ s. absurd (true≢false (sym (at_first p n (ltb-true _ _ s)) ∙ none (first p n) (ltb-true _ _ s))))
    (λ s. omega (arith, first_le p n, ltb-false (first p n) n s))

-- ---- the search
module _ (t : List ℕ) (one : OneDevice t) (i : ℕ) (h : i < row_count t) where
  -- rows rise by at
  rises : (j k : ℕ) → j ≤ k → k < row_count t → (row_at t j).at ≤ (row_at t k).at
  rises j k l m = ⊎_elim
      (λ e. omega (arith, ap (λ (n : ℕ). (row_at t n).at) e))
      (λ s. omega (arith, strictly t one.accepted j k s m (one.same j (omega arith) ∙ sym (one.same k m))))
      (eq-or-lt_of_le l)

  not_parent : (j : ℕ) → ((row_at t j).at ≡ (row_at t i).up → ⊥) → is_parent (row_at t i) (row_at t j) ≡ false
  not_parent j n = either (is_parent (row_at t i) (row_at t j)) (λ f. absurd (n (parent_at (row_at t i) (row_at t j) f))) (λ f. f)

  -- the first row of those before it whose at isn't below its up
  module _ (m : ℕ) (before : 0 < m → (row_at t (m - 1)).at < (row_at t i).up) (at : m < i → (row_at t i).up ≤ (row_at t m).at) where
    below : (j : ℕ) → j < m → j < i → m ≤ i → (row_at t j).at < (row_at t i).up
    below j l k o = omega (arith, before (omega arith), rises j (m - 1) (omega arith) (omega arith))

    pub seek_none : m ≤ i → i ≤ m → i ≡ parent_of t i
    unfolding parent_of
    seek_none o g = is_none (λ j. is_parent (row_at t i) (row_at t j)) i (λ j l. not_parent j (λ e. omega (arith, below j (omega arith) l o)))

    module _ (g : m < i) where
      pub seek_found : (row_at t m).at ≡ (row_at t i).up → m ≡ parent_of t i
      unfolding parent_of
      seek_found e = is_first (λ j. is_parent (row_at t i) (row_at t j)) i m g
          (and_both _ _ (eq-eqb _ _ (one.same m (omega arith) ∙ sym (one.same i h))) (eq-eqb _ _ e))
          (λ j l. not_parent j (λ f. omega (arith, below j l (omega arith) (omega arith))))

      pub seek_other : ((row_at t m).at ≡ (row_at t i).up → ⊥) → i ≡ parent_of t i
      unfolding parent_of
      seek_other n = is_none (λ j. is_parent (row_at t i) (row_at t j)) i (λ j l. not_parent j (λ f. miss j l f))
        where
          miss : (j : ℕ) → j < i → (row_at t j).at ≡ (row_at t i).up → ⊥
          miss j l f = either (ltb j m)
              (λ u. omega (arith, below j (ltb-true j m u) l (omega arith)))
              (λ u. ⊎_elim
              (λ q. n (ap (λ (k : ℕ). (row_at t k).at) q ∙ f))
              (λ q. omega (arith, n, at g, strictly t one.accepted m j q (omega arith) (one.same m (omega arith) ∙ sym (one.same j (omega arith)))))
              (eq-or-lt_of_le (ltb-false j m u)))
