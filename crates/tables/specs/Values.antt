-- 02, wish 4: values and constants below zero. Assumes nothing.
use Rattle.std.specs.Prelude.{ℕ, ◌+◌, ◌-◌, ◌≤◌, ◌<◌, ◌≡◌, Bool, true, false, cond, not, ◌&&◌, ◌||◌, ltb, ℤ, pos, neg_ℤ}
use Rattle.std.specs.Int.Signed.{lt_z, le_z}
use Rattle.std.specs.Int.{w32}
use Rattle.std.proofs.Common.{to_z}
use Rattle.tables.specs.Words.{word_limit}

-- the largest value
abbrev pub value_limit : ℕ
value_limit = 2147483647

-- values and constants from 2,147,483,648 up stand for the word less 4,294,967,296, which is below zero
abbrev pub is_below_zero : ℕ → Bool
is_below_zero w = ltb value_limit w

-- the size of a number below zero from its word, and its word from its size
abbrev pub opposite : ℕ → ℕ
opposite n = 4294967296 - n

-- the signed order: a value below zero is less than one that isn't; on the same side of zero the words decide
abbrev pub is_less : ℕ → ℕ → Bool
is_less x y = cond (is_below_zero x) (not (is_below_zero y) || ltb x y) (not (is_below_zero y) && ltb x y)

abbrev pub is_at_most : ℕ → ℕ → Bool
is_at_most x y = not (is_less y x)

-- ---- the number that a word stands for: its bits, read as signed
abbrev pub stands_for : ℕ → ℤ
stands_for w = to_z w32 w

pub record WordsStand : Type 0 where
  pub from_zero : (w : ℕ) → is_below_zero w ≡ false → stands_for w ≡ pos w
  pub below_zero : (w : ℕ) → w ≤ word_limit → is_below_zero w ≡ true → stands_for w ≡ neg_ℤ (pos (opposite w))
  pub of_size : (n : ℕ) → 0 < n → n ≤ value_limit + 1 → stands_for (opposite n) ≡ neg_ℤ (pos n)

-- the order is that of the numbers, and no two words stand for one
pub record SignedOrder (x y : ℕ) : Type 0 where
  pub less : is_less x y ≡ lt_z (stands_for x) (stands_for y)
  pub at_most : is_at_most x y ≡ le_z (stands_for x) (stands_for y)
  pub equal : stands_for x ≡ stands_for y → x ≡ y

-- the claim, for any two words
abbrev pub IsSignedOrder : Type 0
IsSignedOrder = (x y : ℕ) → x ≤ word_limit → y ≤ word_limit → SignedOrder x y
