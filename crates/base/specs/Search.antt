-- The first number at which a test holds. Assumes nothing.
use Rattle.std.specs.Prelude.{ℕ, zero, suc, ◌+◌, Bool, cond, ltb, Option, Some, None}

-- the first of i, i + 1, .., i + n - 1 at which p holds, or i + n where it holds at none
unfoldable pub first_from : (ℕ → Bool) → ℕ → ℕ → ℕ
first_from p i zero = i
first_from p i (suc n) = cond (p i) i (first_from p (suc i) n)

-- the first number below n at which p holds, or n where there is none
abbrev pub first : (ℕ → Bool) → ℕ → ℕ
first p n = first_from p 0 n

-- p holds at a number below n
abbrev pub some : (ℕ → Bool) → ℕ → Bool
some p n = ltb (first p n) n

-- the first number below n at which p holds, if there is one
abbrev pub found : (ℕ → Bool) → ℕ → Option ℕ
found p n = cond (some p n) (Some (first p n)) None

-- the sum of f over the numbers below n
unfoldable pub sum_below : (ℕ → ℕ) → ℕ → ℕ
sum_below f zero = 0
sum_below f (suc n) = sum_below f n + f n
