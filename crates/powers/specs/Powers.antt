-- 02, wish 3: powers of ten held in a constant table, and a digit found by subtracting its power, at most nine times. Assumes nothing.
use Rattle.std.specs.Prelude.{ℕ, ◌+◌, ◌-◌, ◌*◌, ◌/◌, ◌%◌, ◌^◌, ◌≤◌, ◌<◌, min, ◌≡◌}
use Rattle.powers.specs.declared.Digit.{Digit}

-- no word has more digits
abbrev pub word_digits : ℕ
word_digits = 10

-- entry i of the table is 10 ^ i; past the table stands its last entry
abbrev pub power_at : ℕ → ℕ
power_at i = 10 ^ min i (word_digits - 1)

-- the digit of v at a power, where v has none above it, and what is left
abbrev pub digit_at : ℕ → ℕ → Digit
digit_at v i = record { times = v / power_at i; rest = v % power_at i }

-- v is the power so many times and the rest, which is below the power; nine times at most where v has no digit above it
pub record Subtracted (v i : ℕ) (d : Digit) : Type 0 where
  pub whole : v ≡ d.times * power_at i + d.rest
  pub below : d.rest < power_at i
  pub nine : v < 10 * power_at i → d.times ≤ 9
