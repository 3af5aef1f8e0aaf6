-- What the first check of a rule, 1, and of a table, 8, tells: whole lines, and how many. Assumes nothing.
use Prim.Native.Nat.{ℕ, ◌*◌, ◌/◌, ◌%◌, ◌≤◌}
use mathlib.Core.Path.{◌≡◌}
use mathlib.Core.Bool.{true, ◌&&◌}
use mathlib.Core.List.{List}
use native.Mathlib.Nat.{div-add-mod', mul_comm}
use native.Mathlib.Omega.{arith}
use lib.ListN.{length}
use lib.Dec.{leb}
use borrow.Author.Tests.{leb-true, eqb-true}
use Rattle.base.proofs.Bools.{and_left, and_right}
use Rattle.tables.specs.Words.{whole, entry_words, entry_count, row_words, row_count}
use Rattle.tables.specs.Rules.{entry_limit, rule_length}
use Rattle.tables.specs.Tables.{row_limit, table_length}

-- ---- lines of k words
module _ (k : ℕ) (ws : List ℕ) (ok : whole k ws ≡ true) where
  pub no_rest : length ws % k ≡ 0
  no_rest = eqb-true (length ws % k) 0 ok

  pub whole_lines : length ws ≡ k * (length ws / k)
  whole_lines = omega (arith, no_rest, div-add-mod' (length ws) k, mul_comm (length ws / k) k)

module _ (r : List ℕ) (ok : rule_length r ≡ true) where
  pub rule_whole : whole entry_words r ≡ true
  rule_whole = and_left (whole entry_words r) _ ok

  some_few : (leb 1 (entry_count r) && leb (entry_count r) entry_limit) ≡ true
  some_few = and_right (whole entry_words r) _ ok

  pub rule_some : 1 ≤ entry_count r
  rule_some = leb-true 1 (entry_count r) (and_left (leb 1 (entry_count r)) _ some_few)

  pub rule_few : entry_count r ≤ entry_limit
  rule_few = leb-true (entry_count r) entry_limit (and_right (leb 1 (entry_count r)) _ some_few)

module _ (t : List ℕ) (ok : table_length t ≡ true) where
  pub table_whole : whole row_words t ≡ true
  table_whole = and_left (whole row_words t) _ ok

  pub table_few : row_count t ≤ row_limit
  table_few = leb-true (row_count t) row_limit (and_right (whole row_words t) _ ok)
