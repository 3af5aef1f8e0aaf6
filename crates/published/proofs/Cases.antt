-- The worked pools, by one computed test, and rules as the document prints them. Assumes nothing.
use mathlib.Core.Path.{refl}
use Rattle.base.specs.Search.{first_from, sum_below}
use Rattle.tables.specs.Words.{rows_from}
use Rattle.tables.specs.Rules.{around_from, entry_fault, check_entries}
use Rattle.tables.specs.Tables.{row_fault, check_table, check_order}
use Rattle.tables.specs.Joining.{join_tables, join_answer, join_pool}
use Rattle.tables.specs.Files.{digit_of, byte_after, digits_up_to, word_text, text_from, write_text, digit_step, other_step, step_of}
use Rattle.tables.specs.Files.{scan_all, words_from, starts_with, read_words, check_file, read_answer, read_out, write_answer, write_out}
use Rattle.sets.specs.Sets.{rules_from, rule_by_rule, check_set}
use Rattle.templates.specs.Templates.{filled_from, fill_answer, fill_out}
use Rattle.folding.specs.Folding.{twins_in, fold_twins, fold_times, folded, fold_answer, fold_out}
use Rattle.archive.specs.Archive.{words_below, lines_below, archived_word, restored_word, reorder_answer, reorder_out}
use Rattle.plans.specs.Plans.{steps_from, step_place, table_after}
use Rattle.logic.specs.Formulas.{formulas, formula_by}
use Rattle.logic.specs.Verdict.{named, holds, verdict, verdict_answer, set_verdicts_answer, set_verdicts_out}
use Rattle.logic.specs.Marks.{reason, marked, marks_answer, marks_out}
use Rattle.logic.specs.Reading.{reading}
use Rattle.logic.specs.Parts.{reached_in, reached, spare_in, spare, reached_by_any, spare_for_each, lineage, ancestors, part_by}
use Rattle.logic.specs.Parts.{branch_part, full_part, part_of, send_answer, send_out}
use Rattle.logic.specs.Trial.{step_answer, try_steps, begin_answer}
use Rattle.published.specs.Published.{pairs, v, ◌⊨◌}
use Rattle.published.specs.Stated.{stated, tree_of, tree, truth_of}
use Rattle.published.specs.Cases.{right, cases, Worked}
use Rattle.published.specs.Printed.{constraint1, addresses, AsPrinted, none_is_zero, each_has_one, WithAnyName}

pub worked : Worked
unfolding first_from sum_below rows_from around_from entry_fault check_entries row_fault check_table rules_from rule_by_rule check_set join_tables join_answer join_pool digit_of byte_after digits_up_to word_text text_from write_text digit_step other_step step_of scan_all words_from starts_with read_words check_file read_answer read_out write_answer write_out formulas formula_by named holds verdict verdict_answer set_verdicts_answer set_verdicts_out reason marked marks_answer marks_out reading reached_in reached spare_in spare reached_by_any spare_for_each lineage ancestors part_by branch_part full_part part_of send_answer send_out filled_from fill_answer fill_out words_below lines_below archived_word restored_word reorder_answer reorder_out twins_in fold_twins fold_times folded check_order fold_answer fold_out steps_from step_place table_after step_answer try_steps begin_answer pairs v ◌⊨◌ stated tree_of tree truth_of right cases
worked = refl

pub as_printed : AsPrinted
unfolding formulas formula_by stated constraint1 addresses
as_printed = record { first = refl; second = refl }

pub with_any_name : WithAnyName
unfolding formulas formula_by stated none_is_zero each_has_one
with_any_name = record { first = refl; second = refl }
