-- A run of words that is too long for its checks is refused with its length. Assumes nothing.
use Prim.Native.Nat.{ℕ, ◌*◌, ◌<◌}
use mathlib.Core.Path.{◌≡◌}
use mathlib.Core.List.{List}
use native.Mathlib.Omega.{arith}
use lib.ListN.{length}
use Rattle.base.proofs.Bools.{either}
use Rattle.tables.specs.Words.{entry_words, row_words}
use Rattle.tables.specs.Rules.{entry_limit, rule_length, check_entries, check_rule}
use Rattle.tables.specs.Tables.{row_limit, table_length, check_table}
use Rattle.tables.specs.Answers.{Refused}
use Rattle.tables.proofs.Whole.{whole_lines, rule_whole, rule_few, table_whole, table_few}
use Rattle.tables.specs.declared.Fault.TheVariants.{RuleLength, TableLength}

pub rule_over : (ws : List ℕ) → entry_limit * entry_words < length ws → check_rule ws ≡ Refused RuleLength 0
unfolding check_entries
rule_over ws h = either (rule_length ws) (λ e. absurd (omega (arith, rule_few ws e, whole_lines entry_words ws (rule_whole ws e)))) (λ e. rw e)

pub table_over : (ws : List ℕ) → row_limit * row_words < length ws → check_table ws ≡ Refused TableLength 0
unfolding check_table
table_over ws h = either (table_length ws) (λ e. absurd (omega (arith, table_few ws e, whole_lines row_words ws (table_whole ws e)))) (λ e. rw e)
