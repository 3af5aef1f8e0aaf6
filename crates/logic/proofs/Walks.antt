-- A quantifier's rows, walked by halves, from the first one on, or in a span outside which there are none. Assumes nothing.
use Prim.Native.Nat.{ℕ, zero, suc, ◌+◌, ◌-◌, ◌<◌, ◌≤◌}
use mathlib.Core.Path.{◌≡◌, refl, sym, ap, ◌∙◌}
use mathlib.Core.Bool.{Bool, true, false, true≢false, false≢true}
use mathlib.Core.List.{List, [], ◌∷◌, ◌++◌, append-nil}
use native.Mathlib.Nat.{zero-add, add-zero, suc-add}
use native.Mathlib.Omega.{arith}
use Rattle.base.specs.Lists.{put, select}
use Rattle.base.proofs.Lists.{select_append}
use Rattle.tables.specs.Words.{row_at, rows_from}
use Rattle.tables.specs.declared.Row.{Row}
use Rattle.tables.specs.declared.Quantifier.{Quantifier}
use Rattle.tables.specs.declared.Quantifier.TheVariants.{Every, Exists}
use Rattle.logic.specs.Verdict.{settled, both, fold}

-- ---- rows by their numbers
pub rows_append : (t : List ℕ) (i j k : ℕ) → rows_from t i (j + k) ≡ rows_from t i j ++ rows_from t (i + j) k
unfolding rows_from
rows_append t i zero k = rw (zero-add, add-zero)
rows_append t i (suc j) k =
    let e : suc i + j ≡ i + suc j = omega arith in
    rw suc-add (ap (λ (l : List Row). row_at t i ∷ l) (rows_append t (suc i) j k ∙ ap (λ (m : ℕ). rows_from t (suc i) j ++ rows_from t m k) e))

-- ---- the rows that pass a test
module _ (p : Row → Bool) where
  module _ (t : List ℕ) where
    -- two halves
    pub select_halves : (i k j : ℕ) → j ≤ k → select p (rows_from t i k) ≡ select p (rows_from t i j) ++ select p (rows_from t (i + j) (k - j))
    select_halves i k j h =
        let e : k ≡ j + (k - j) = omega arith in
        ap (λ (n : ℕ). select p (rows_from t i n)) e ∙ ap (select p) (rows_append t i j (k - j)) ∙ select_append p (rows_from t i j) (rows_from t (i + j) (k - j))

    pub select_none : (i k : ℕ) → ((j : ℕ) → i ≤ j → j < i + k → p (row_at t j) ≡ false) → select p (rows_from t i k) ≡ []
    unfolding rows_from
    select_none i zero h = refl
    select_none i (suc k) h =
        ap (λ (b : Bool). put b (row_at t i) (select p (rows_from t (suc i) k))) (h i (omega arith) (omega arith))
        ∙ select_none (suc i) k (λ j a c. h j (omega arith) (omega arith))

    pub select_one : (i : ℕ) → p (row_at t i) ≡ true → select p (rows_from t i 1) ≡ row_at t i ∷ []
    unfolding rows_from
    select_one i h = rw h

    -- from the first row on
    pub select_from : (i k r : ℕ) → i ≤ r → r ≤ i + k → ((j : ℕ) → i ≤ j → j < r → p (row_at t j) ≡ false)
        → select p (rows_from t r (i + k - r)) ≡ select p (rows_from t i k)
    select_from i k r l m h =
        let a : i + (r - i) ≡ r = omega arith in
        let b : k - (r - i) ≡ i + k - r = omega arith in
        sym (select_halves i k (r - i) (omega arith)
        ∙ rw (select_none i (r - i) (λ j c d. h j c (omega arith)), a, b))

    -- in a span outside which there are none
    pub select_span : (n i k : ℕ) → i + k ≤ n → ((j : ℕ) → j < i → p (row_at t j) ≡ false) → ((j : ℕ) → i + k ≤ j → j < n → p (row_at t j) ≡ false)
        → select p (rows_from t i k) ≡ select p (rows_from t 0 n)
    select_span n i k l before after =
        let e : k ≤ n - i = omega arith in
        let z : 0 + n - i ≡ n - i = omega arith in
        sym (sym (select_from 0 n i (omega arith) (omega arith) (λ j a b. before j b))
        ∙ ap (λ (m : ℕ). select p (rows_from t i m)) z
        ∙ select_halves i (n - i) k e
        ∙ ap (λ (xs : List Row). select p (rows_from t i k) ++ xs) (select_none (i + k) (n - i - k) (λ j a b. after j a (omega arith)))
        ∙ append-nil (select p (rows_from t i k)))

-- ---- the verdict over them
pub both_settled : (q : Quantifier) (x y : Bool) → x ≡ settled q → both q x y ≡ y
both_settled Every x y e = rw e
both_settled Exists x y e = rw e

pub both_decided : (q : Quantifier) (x y : Bool) → (x ≡ settled q → ⊥) → both q x y ≡ x
both_decided Every true y h = absurd (h refl)
both_decided Every false y h = refl
both_decided Exists true y h = refl
both_decided Exists false y h = absurd (h refl)

both_last : (q : Quantifier) (x : Bool) → both q x (settled q) ≡ x
both_last Every true = refl
both_last Every false = refl
both_last Exists true = refl
both_last Exists false = refl

both_assoc : (q : Quantifier) (x y z : Bool) → both q (both q x y) z ≡ both q x (both q y z)
both_assoc Every true y z = refl
both_assoc Every false y z = refl
both_assoc Exists true y z = refl
both_assoc Exists false y z = refl

-- where both are settled, so is each
pub settled_left : (q : Quantifier) (x y : Bool) → both q x y ≡ settled q → x ≡ settled q
settled_left Every true y e = refl
settled_left Every false y e = e
settled_left Exists true y e = e
settled_left Exists false y e = refl

pub settled_right : (q : Quantifier) (x y : Bool) → both q x y ≡ settled q → y ≡ settled q
settled_right Every true y e = e
settled_right Every false y e = absurd (false≢true e)
settled_right Exists true y e = absurd (true≢false e)
settled_right Exists false y e = e

module _ (q : Quantifier) (f : Row → Bool) where
  pub fold_append : (xs ys : List Row) → fold q f (xs ++ ys) ≡ both q (fold q f xs) (fold q f ys)
  fold_append [] ys = sym (both_settled q (settled q) (fold q f ys) refl)
  fold_append (x ∷ xs) ys = ap (both q (f x)) (fold_append xs ys) ∙ sym (both_assoc q (f x) (fold q f xs) (fold q f ys))

  pub fold_one : (r : Row) → fold q f (r ∷ []) ≡ f r
  fold_one r = both_last q (f r)
