-- A loop that sums a function over the numbers below n: its invariant, kept by each turn. Assumes nothing.
use Prim.Native.Nat.{ℕ, zero, suc, ◌+◌, ◌*◌, ◌≤◌, ◌<◌}
use mathlib.Core.Path.{◌≡◌, refl, ap, ap₂, ◌∙◌}
use native.Mathlib.Nat.{mul-add}
use native.Mathlib.Numerals.{add-one}
use native.Mathlib.Omega.{arith}
use lib.Dec.{eqb}
use borrow.Author.Tests.{eqb-true, eqb-false}
use Rattle.base.specs.Search.{sum_below}
use Rattle.base.proofs.Bools.{either}

-- a longer sum is no smaller
pub sum_grows : (f : ℕ → ℕ) (i n : ℕ) → i ≤ n → sum_below f i ≤ sum_below f n
unfolding sum_below
sum_grows f i zero h = let e : i ≡ 0 = omega arith in rw e (omega arith)
sum_grows f i (suc n) h = either (eqb i (suc n))
    (λ e. rw (eqb-true i (suc n) e) (omega arith))
    (λ e. let apart : ¬ (i ≡ suc n) = eqb-false i (suc n) e in let shorter = sum_grows f i n (omega arith) in omega arith)

-- functions that agree below n have the same sum there
pub sum_same : (f g : ℕ → ℕ) (n : ℕ) → ((j : ℕ) → j < n → f j ≡ g j) → sum_below f n ≡ sum_below g n
unfolding sum_below
sum_same f g zero h = refl
sum_same f g (suc n) h = ap₂ ◌+◌ (sum_same f g n (λ j l. h j (omega arith))) (h n (omega arith))

-- the numbers below i are summed, each at most `most`
pub record Summed (f : ℕ → ℕ) (most n i sum : ℕ) : Type 0 where
  pub within : i ≤ n
  pub is : sum ≡ sum_below f i
  pub small : sum ≤ most * i

module _ (f : ℕ → ℕ) (most n : ℕ) where
  pub sum_begin : Summed f most n 0 0
  unfolding sum_below
  sum_begin = record { within = omega arith; is = refl; small = omega arith }

  pub sum_more : (i sum : ℕ) → Summed f most n i sum → i < n → (x : ℕ) → x ≡ f i → x ≤ most → Summed f most n (i + 1) (sum + x)
  unfolding sum_below
  sum_more i sum s l x x_is x-le =
      let e : sum ≡ sum_below f i = s.is in
      let m : sum ≤ most * i = s.small in
      let d : most * (i + 1) ≡ most * i + most * 1 = mul-add most i 1 in
      record { within = omega arith; is = rw (add-one i) (omega arith); small = omega arith }

  pub sum_end : (i sum : ℕ) → Summed f most n i sum → n ≤ i → sum ≡ sum_below f n
  sum_end i sum s h = let w : i ≤ n = s.within in let e : i ≡ n = omega arith in s.is ∙ ap (sum_below f) e
