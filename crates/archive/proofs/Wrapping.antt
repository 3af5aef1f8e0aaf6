-- Adding and subtracting that wrap at 32 bits undo each other. Assumes nothing.
use Rattle.std.proofs.Common.{◌≡◌, ℕ, ◌+◌, ◌%◌, ◌^◌, ◌≤◌, arith}
use Rattle.tables.specs.Words.{word_limit}
use Rattle.archive.specs.Archive.{wrapping_sub, wrapping_add}

pub sum_word : (a b : ℕ) → wrapping_add a b ≤ word_limit
sum_word a b = omega arith

module _ {a b : ℕ} (a_word : a ≤ word_limit) (b_word : b ≤ word_limit) where
  pub difference_is : {r : ℕ} → r ≤ word_limit → (r + b) % 2 ^ 32 ≡ a → r ≡ wrapping_sub a b
  difference_is r-word e = omega arith

  pub add_back : wrapping_add (wrapping_sub a b) b ≡ a
  add_back = omega arith

  pub take_back : wrapping_sub (wrapping_add a b) b ≡ a
  take_back = omega arith
