-- 01's worked pools (a) to (l), numbers of every width, values below zero, the reductions that lose a verdict, readings over roots,
-- quantifiers over any name, templates, marks that are relied on, sets of rules, plans, the archive's order, folding, and a table on which
-- the published meaning is not that of rows: the rows of one table, with one test over all of them, proved in proofs/Cases. Assumes nothing.
use Rattle.std.specs.Prelude.{ℕ, ◌+◌, ◌-◌, ◌*◌, ◌≡◌, Bool, true, false, not, cond, ◌&&◌, List, [], ◌∷◌, ◌++◌, map, length, drop, replicate, eqb}
use Rattle.base.specs.Lists.{select, concat_map, all}
use Rattle.tables.specs.Answers.{number, place, value, is_done}
use Rattle.tables.specs.Words.{rows, row_count}
use Rattle.tables.specs.Values.{opposite}
use Rattle.tables.specs.Rules.{one, check_rule, accepted_rule}
use Rattle.tables.specs.Tables.{check_table}
use Rattle.tables.specs.Joining.{join_answer, join_pool}
use Rattle.tables.specs.Files.{Format, rule_names, rule_format, pool_names, pool_format, count_names, read_answer, read_out, write_answer}
use Rattle.tables.specs.Files.{write_out, write_counts, write_counts_out}
use Rattle.tables.specs.declared.Row.{Row}
use Rattle.tables.specs.Answers.{Answer}
use Rattle.tables.specs.Answers.{Done, Refused}
use Rattle.sets.specs.Sets.{rules_of, check_set}
use Rattle.templates.specs.Templates.{fill_answer, fill_out, written}
use Rattle.folding.specs.Folding.{fold_answer, fold_out, folded_table}
use Rattle.archive.specs.Archive.{to_columns, from_columns, to_columns_answer, to_columns_out, from_columns_answer, from_columns_out}
use Rattle.plans.specs.declared.Trial.{Trial}
use Rattle.logic.specs.Formulas.{formula}
use Rattle.logic.specs.Verdict.{verdict, verdict_answer, set_verdicts_answer, set_verdicts_out}
use Rattle.logic.specs.Marks.{marks_answer, marks_out}
use Rattle.logic.specs.Parts.{spare, part_answer, part_out, set_part_answer, set_part_out}
use Rattle.logic.specs.Templates.{template_verdict}
use Rattle.logic.specs.Trial.{trial_outcome, returned_by, appended_by}
use Rattle.published.specs.Inputs.{row, entry, D1, D2, D3, D4, rule_a, rule_b, nested, beside, every_is, every_compares, every_is_either, some_or_every}
use Rattle.published.specs.Inputs.{every_equals_some, some_and_some, pulled_to_front, every_has_one, every_below_has_one, a_then_b, rule_addresses}
use Rattle.published.specs.Inputs.{nothing_zero, interface_with, some_root_is, every_child_has_one, two_children, some_equals_below, router, some_above}
use Rattle.published.specs.Inputs.{every_is_blank, house, below_second, each_blank, each_constant}
use Rattle.published.specs.Inputs.{keeps_roots, roots_and_child, set_step, add_step, remove_step, second_server, ten_to, nines, text_then, line}
use Rattle.published.specs.Inputs.{line_below, digit, limit_with, row_to, entry_to, short_line}
use Rattle.published.specs.Stated.{published, published_template}
use Rattle.tables.specs.Refusals.{number_of}
use Rattle.tables.specs.declared.Fault.{Fault}
use Rattle.tables.specs.declared.Fault.TheVariants.{RuleLength, Kind, Word, Child, Naming, Nesting, Unbound, TableLength, Range, Order, Parent, Sibling, Mode, OtherDevice, Join, ShortOutput, FirstLine, Line, Counts, Blank, Parameters, Step, Absent, Removal, Depth, Rows}

-- ---- what a case gives and expects
-- a row by (device, at)
abbrev pub key : ℕ → ℕ → List ℕ
key device at = device ∷ at ∷ []

pub data Case : Type 0 where
  -- rule, pool: verdict, marked rows
  judged : List ℕ → List ℕ → Bool → List ℕ → Case
  -- rule, mode, table: the rows sent
  sends : List ℕ → ℕ → List ℕ → List ℕ → Case
  -- rule, table: the spare rows
  spares : List ℕ → List ℕ → List ℕ → Case
  -- what the checks of a rule, the checks of a table, and joining answer
  rule_checked : List ℕ → Answer → Case
  table_checked : List ℕ → Answer → Case
  joins : List ℕ → List ℕ → Answer → Case
  -- words, written as the program's counts: the bytes after the line of names
  writes : List ℕ → List ℕ → Case
  -- a kind of file, words, the bytes after the line of names: each comes from the other
  filed : List ℕ → Format → (List ℕ → Answer) → List ℕ → List ℕ → Case
  -- a kind of file, bytes after the line of names that are 19: the line
  unfiled : List ℕ → Format → List ℕ → ℕ → Case
  -- what the checks of a set answer; rules, counts, pool: the bytes; rules, counts, mode, table: the rows sent
  set_checked : List ℕ → List ℕ → Answer → Case
  set_judged : List ℕ → List ℕ → List ℕ → List ℕ → Case
  set_sends : List ℕ → List ℕ → ℕ → List ℕ → List ℕ → Case
  -- rules, counts, pool, plan, words and bytes of room: number, place, steps done, working table, verdicts
  tries : List ℕ → List ℕ → List ℕ → List ℕ → ℕ → ℕ → ℕ → ℕ → ℕ → List ℕ → List ℕ → Case
  -- template, parameters: the filled rule; template, parameters, words of room: the refusal
  fills : List ℕ → List ℕ → List ℕ → Case
  unfilled : List ℕ → List ℕ → ℕ → Answer → Case
  -- template, parameters, pool: the template's verdict, its published truth and the filled rule's verdict
  template_judged : List ℕ → List ℕ → List ℕ → Bool → Case
  -- a table, its words in the archive's order: each call gives one from the other; the same of any number of columns, by the definitions
  archived : List ℕ → List ℕ → Case
  in_columns : ℕ → List ℕ → List ℕ → Case
  -- words, words of room: what both calls answer, refusing
  unarchived : List ℕ → ℕ → Answer → Case
  -- one device's table: the rows left; table, words of room: the refusal
  folds : List ℕ → List ℕ → Case
  unfolded : List ℕ → ℕ → Answer → Case
  -- rule, one device's table: the published truth on its rows as listed, the verdict on the folded ones, and that on the rows as listed
  fold_judged : List ℕ → List ℕ → Bool → Bool → Case
  -- faults: their numbers
  numbered : List Fault → List ℕ → Case
  -- rule, a table that is not accepted: its refusal, the published truth, the verdict on rows
  differs : List ℕ → List ℕ → Answer → Bool → Bool → Case

abbrev pub rule_filed : List ℕ → List ℕ → Case
rule_filed words bytes = filed rule_names rule_format check_rule words bytes

abbrev pub pool_filed : List ℕ → List ℕ → Case
pool_filed words bytes = filed pool_names pool_format check_table words bytes

abbrev pub rule_unfiled : List ℕ → ℕ → Case
rule_unfiled bytes place = unfiled rule_names rule_format bytes place

abbrev pub pool_unfiled : List ℕ → ℕ → Case
pool_unfiled bytes place = unfiled pool_names pool_format bytes place

-- ---- whether it is so
abbrev pub same_bool : Bool → Bool → Bool
same_bool a b = cond a b (not b)

abbrev pub same_words : List ℕ → List ℕ → Bool
same_words [] [] = true
same_words [] (y ∷ ys) = false
same_words (x ∷ xs) [] = false
same_words (x ∷ xs) (y ∷ ys) = eqb x y && same_words xs ys

abbrev pub same_answer : Answer → Answer → Bool
same_answer a b = eqb (number a) (number b) && eqb (place a) (place b) && eqb (value a) (value b)

-- a buffer of 7s
abbrev pub buffer : ℕ → List ℕ
buffer n = replicate n 7

-- the rows whose byte is 1, any byte that is neither 0 nor 1, and what stands past the bytes
abbrev pub marked_rows : List Row → List ℕ → List ℕ
marked_rows [] out = out
marked_rows (r ∷ rs) [] = []
marked_rows (r ∷ rs) (m ∷ out) =
    cond (eqb m 0) [] (cond (eqb m 1) (key r.device r.at) (m ∷ [])) ++ marked_rows rs out

-- the numbers that a trial returns
abbrev pub numbers_of : Trial → List ℕ
numbers_of x = x.number ∷ x.place ∷ x.steps ∷ x.rows ∷ []

unfoldable pub right : Case → Bool
right (judged rule pool truth marks) =
    same_answer (verdict_answer rule pool) (Done (one truth))
    && same_answer (marks_answer rule pool (row_count pool)) (Done (one truth))
    && same_words (marked_rows (rows pool) (marks_out rule pool (buffer (row_count pool + 1)))) (marks ++ buffer 1)
    && same_bool (published rule pool) truth
right (sends rule mode table sent) =
    same_answer (part_answer rule table mode (length sent)) (Done (row_count sent))
    && same_words (part_out rule table mode (buffer (length table))) (sent ++ drop (length sent) (buffer (length table)))
right (spares rule table keys) =
    same_words (concat_map (λ r. key r.device r.at) (select (spare (formula rule) (rows table)) (rows table))) keys
right (rule_checked rule answer) = same_answer (check_rule rule) answer
right (table_checked table answer) = same_answer (check_table table) answer
right (joins s t answer) =
    same_answer (join_answer (s ++ buffer (length t)) (length s) t) answer
    && same_words (join_pool (s ++ buffer (length t)) (length s) t) (s ++ cond (is_done answer) t (buffer (length t)))
right (writes words bytes) =
    let file = count_names ++ bytes in
    same_answer (write_counts words (length file)) (Done (length file))
    && same_answer (write_counts words (length file - 1)) (Refused ShortOutput 0)
    && same_words (write_counts_out words (buffer (length file - 1))) (buffer (length file - 1))
    && same_words (write_counts_out words (buffer (length file + 1))) (file ++ buffer 1)
right (filed names f check words bytes) =
    let file = names ++ bytes in
    same_answer (read_answer names f file (length words)) (Done (length words))
    && same_words (read_out names f file (buffer (length words + 1))) (words ++ buffer 1)
    && same_answer (write_answer names f (check words) words (length file)) (Done (length file))
    && same_answer (write_answer names f (check words) words (length file - 1)) (Refused ShortOutput 0)
    && same_words (write_out names f (check words) words (buffer (length file + 1))) (file ++ buffer 1)
right (unfiled names f bytes place) =
    same_answer (read_answer names f (names ++ bytes) 8) (Refused Line place)
    && same_words (read_out names f (names ++ bytes) (buffer 8)) (buffer 8)
right (set_checked rules counts answer) = same_answer (check_set rules counts) answer
right (set_judged rules counts pool bytes) =
    same_answer (set_verdicts_answer rules counts pool (length counts)) (Done (length bytes))
    && same_answer (set_verdicts_answer rules counts pool (length counts - 1)) (Refused ShortOutput 0)
    && same_words (set_verdicts_out rules counts pool (buffer (length bytes + 1))) (bytes ++ buffer 1)
    && same_words (map (λ rule. one (published rule pool)) (rules_of rules counts)) bytes
right (set_sends rules counts mode table sent) =
    same_answer (set_part_answer rules counts table mode (length sent)) (Done (row_count sent))
    && same_answer (set_part_answer rules counts table mode (length sent - 1)) (cond (eqb (length sent) 0) (Done 0) (Refused ShortOutput 0))
    && same_answer (set_part_answer rules counts table 4 0) (Refused Mode 0)
    && same_words (set_part_out rules counts table mode (buffer (length table))) (sent ++ drop (length sent) (buffer (length table)))
right (tries rules counts pool steps words bytes number place done table verdicts) =
    let r = trial_outcome rules counts pool steps words bytes in
    same_words (numbers_of (returned_by r)) (number ∷ place ∷ done ∷ row_count table ∷ [])
    && same_words r.state.table table
    && same_words (appended_by r (buffer bytes)) (verdicts ++ buffer (bytes - length verdicts))
    && same_words (drop (length counts * (done - 1)) verdicts) (cond (eqb done 0) [] (map (λ rule. one (published rule table)) (rules_of rules counts)))
right (fills template parameters rule) =
    same_answer (fill_answer template parameters (length rule)) (Done (length rule))
    && same_answer (fill_answer template parameters (length rule - 1)) (Refused ShortOutput 0)
    && same_words (fill_out template parameters (buffer (length rule + 1))) (rule ++ buffer 1)
    && is_done (check_rule rule)
right (unfilled template parameters room answer) =
    same_answer (fill_answer template parameters room) answer
    && same_words (fill_out template parameters (buffer room)) (buffer room)
right (template_judged template parameters pool truth) =
    same_bool (template_verdict template parameters (rows pool)) truth
    && same_bool (published_template template parameters pool) truth
    && same_answer (verdict_answer (written template parameters (buffer (length template))) pool) (Done (one truth))
right (archived table columns) =
    same_answer (to_columns_answer table (length columns)) (Done (length columns))
    && same_words (to_columns_out table (buffer (length columns + 1))) (columns ++ buffer 1)
    && same_answer (from_columns_answer columns (length table)) (Done (length table))
    && same_words (from_columns_out columns (buffer (length table + 1))) (table ++ buffer 1)
right (in_columns k words columns) = same_words (to_columns k words) columns && same_words (from_columns k columns) words
right (unarchived words room answer) =
    same_answer (to_columns_answer words room) answer
    && same_words (to_columns_out words (buffer room)) (buffer room)
    && same_answer (from_columns_answer words room) answer
    && same_words (from_columns_out words (buffer room)) (buffer room)
right (folds table left) =
    same_answer (fold_answer table (length left)) (Done (row_count left))
    && same_words (fold_out table (buffer (length left + 1))) (left ++ buffer 1)
right (unfolded table room answer) =
    same_answer (fold_answer table room) answer
    && same_words (fold_out table (buffer room)) (buffer room)
right (numbered faults numbers) = same_words (map number_of faults) numbers
right (fold_judged rule table truth on_rows) =
    same_bool (published rule table) truth
    && same_answer (verdict_answer rule (folded_table table (buffer (length table)))) (Done (one truth))
    && same_bool (verdict (formula rule) (rows table)) on_rows
right (differs rule pool answer truth on_rows) =
    accepted_rule rule && same_answer (check_table pool) answer
    && same_bool (published rule pool) truth
    && same_bool (verdict (formula rule) (rows pool)) on_rows

-- ---- the table
unfoldable pub cases : List Case
cases =
    -- (a)
    judged rule_a [] true []
    -- (b)
    ∷ judged rule_a (D1 ++ D2) true (key 1 1 ++ key 1 2 ++ key 2 1 ++ key 2 2)
    -- (c)
    ∷ judged rule_a (D1 ++ D2 ++ D3) false (key 3 1 ++ key 3 2)
    -- (d)
    ∷ sends rule_a 3 D1 []
    -- (e)
    ∷ sends rule_a 3 D3 (row 3 1 0 0 1 13)
    -- (f)
    ∷ judged rule_b (D1 ++ D2) true (key 1 1 ++ key 2 1 ++ key 2 2)
    -- (g)
    ∷ judged rule_b (D1 ++ D2 ++ D4) false (key 1 1 ++ key 1 2 ++ key 4 1 ++ key 4 2)
    -- (h)
    ∷ sends rule_b 3 D1 (row 1 1 0 0 1 11 ++ row 1 2 1 1 2 2)
    ∷ sends rule_b 3 D2 []
    -- (i)
    ∷ table_checked (row 1 1 0 0 1 2147483647) (Done 1)
    ∷ table_checked (row 1 1 0 0 1 2147483648) (Done 1)
    ∷ table_checked (row 1 1 0 0 1 4294967295) (Done 1)
    ∷ rule_checked (every_is 2147483648) (Done 2)
    ∷ rule_checked (every_is 4294967295) (Done 2)
    -- -1 is less than 0, and 0 is not at most -1; -2,147,483,648 is less than -1, than 2,147,483,647, and not than itself
    ∷ judged (every_compares 8 0) (row 1 1 0 0 1 (opposite 1)) true (key 1 1)
    ∷ judged (every_compares 9 (opposite 1)) (row 1 1 0 0 1 0) false (key 1 1)
    ∷ judged (every_compares 8 (opposite 1)) (row 1 1 0 0 1 (opposite 2147483648)) true (key 1 1)
    ∷ judged (every_compares 8 2147483647) (row 1 1 0 0 1 (opposite 2147483648)) true (key 1 1)
    ∷ judged (every_compares 8 (opposite 2147483648)) (row 1 1 0 0 1 (opposite 2147483648)) false (key 1 1)
    ∷ judged (every_compares 9 (opposite 2147483648)) (row 1 1 0 0 1 (opposite 2147483648)) true (key 1 1)
    -- on the switch too: 1 may decide, -1 may not
    ∷ sends (every_compares 8 0) 3 (row 1 1 0 0 1 1 ++ row 1 2 0 0 1 (opposite 1)) (row 1 1 0 0 1 1)
    -- the lines of such values, and of such constants
    ∷ pool_filed (row 1 1 0 0 1 (opposite 1)) (line_below (row_to (digit 1)))
    ∷ pool_filed (row 1 1 0 0 1 (opposite 2147483648)) (line_below (row_to (limit_with 8)))
    ∷ pool_filed (row 1 1 0 0 1 2147483647) (line (row_to (limit_with 7)))
    ∷ rule_filed (every_compares 8 (opposite 1)) (line (entry_to 5 1 0 (digit 1)) ++ line_below (entry_to 8 0 1 (digit 1)))
    ∷ rule_filed (every_is (opposite 2147483648)) (line (entry_to 5 1 0 (digit 1)) ++ line_below (entry_to 7 0 1 (limit_with 8)))
    -- 19: out of range on both sides, and -0
    ∷ pool_unfiled (line (row_to (limit_with 8)) ++ short_line) 2
    ∷ pool_unfiled (line_below (row_to (limit_with 9)) ++ short_line) 2
    ∷ pool_unfiled (line_below (row_to (digit 0)) ++ short_line) 2
    ∷ rule_unfiled (line (entry_to 7 0 1 (limit_with 8)) ++ short_line) 2
    -- 19: a sign where none may stand: a variable's number, a name, c of b = 2 and of an unknown kind, a row's name
    ∷ rule_unfiled (line_below (entry_to 7 0 0 (digit 5)) ++ short_line) 2
    ∷ rule_unfiled (line_below (entry_to 5 1 1 (digit 5)) ++ short_line) 2
    ∷ rule_unfiled (line_below (entry_to 7 0 2 (digit 5)) ++ short_line) 2
    ∷ rule_unfiled (line_below ((1 ∷ 0 ∷ []) ∷ digit 0 ∷ digit 1 ∷ digit 5 ∷ []) ++ short_line) 2
    ∷ pool_unfiled
    (text_then 32 (digit 1) ++ text_then 32 (digit 1) ++ text_then 32 (digit 0) ++ text_then 32 (digit 0) ++ 45 ∷ text_then 32 (digit 1)
    ++ text_then 10 (digit 5) ++ short_line) 2
    -- there a number may be any word; and the line before does not matter
    ∷ rule_unfiled (line (entry_to 7 0 0 (limit_with 8)) ++ short_line) 3
    ∷ rule_unfiled (line_below (entry_to 7 0 1 (digit 5)) ++ line_below (entry_to 7 0 0 (digit 5))) 3
    -- (j)
    ∷ table_checked (D1 ++ row 1 4 1 1 2 2) (Refused Sibling 3)
    -- deep is wrong: 1 at a root; the parent's own; two more than the parent's; so large that one more would wrap
    ∷ table_checked (row 1 1 0 1 1 11) (Refused Depth 0)
    ∷ table_checked (D1 ++ row 1 4 2 1 4 7) (Refused Depth 3)
    ∷ table_checked (D1 ++ row 1 4 2 3 4 7) (Refused Depth 3)
    ∷ table_checked (D1 ++ row 1 4 2 2 4 7) (Done 4)
    ∷ table_checked (row 1 1 0 4294967295 1 11 ++ row 1 2 1 0 2 2) (Refused Depth 0)
    ∷ table_checked (row 1 1 0 0 1 11 ++ row 1 2 1 4294967295 2 2) (Refused Depth 1)
    -- after 11, wherever it stands, and before 12
    ∷ table_checked (row 1 1 0 1 1 11 ++ row 1 2 3 1 2 2) (Refused Parent 1)
    ∷ table_checked (D1 ++ row 1 4 1 1 2 2 ++ row 1 5 4 1 4 7) (Refused Depth 4)
    -- (k)
    ∷ rule_checked (nested 0 6) (Done 7)
    ∷ rule_checked (nested 0 7) (Refused Nesting 6)
    -- those side by side do not count
    ∷ rule_checked (beside 0 6) (Done 20)
    -- numbers of every width, on both sides of each power of ten, and the largest: five to a line
    ∷ writes
    (0 ∷ 9 ∷ 10 ∷ 99 ∷ 100
    ∷ 999 ∷ 1000 ∷ 9999 ∷ 10000 ∷ 99999
    ∷ 100000 ∷ 999999 ∷ 1000000 ∷ 9999999 ∷ 10000000
    ∷ 99999999 ∷ 100000000 ∷ 999999999 ∷ 1000000000 ∷ 4294967295 ∷ [])
    (text_then 32 (0 ∷ []) ++ text_then 32 (nines 1) ++ text_then 32 (ten_to 1) ++ text_then 32 (nines 2) ++ text_then 10 (ten_to 2)
    ++ text_then 32 (nines 3) ++ text_then 32 (ten_to 3) ++ text_then 32 (nines 4) ++ text_then 32 (ten_to 4) ++ text_then 10 (nines 5)
    ++ text_then 32 (ten_to 5) ++ text_then 32 (nines 6) ++ text_then 32 (ten_to 6) ++ text_then 32 (nines 7) ++ text_then 10 (ten_to 7)
    ++ text_then 32 (nines 8) ++ text_then 32 (ten_to 8) ++ text_then 32 (nines 9) ++ text_then 32 (ten_to 9)
    ++ text_then 10 (4 ∷ 2 ∷ 9 ∷ 4 ∷ 9 ∷ 6 ∷ 7 ∷ 2 ∷ 9 ∷ 5 ∷ []))
    -- (l)
    ∷ joins D2 D1 (Refused Join 0)
    ∷ joins D1 D2 (Done 30)
    -- the branch parts and all rows, beside (h)
    ∷ sends rule_b 2 D1 (row 1 1 0 0 1 11 ++ row 1 2 1 1 2 2)
    ∷ sends rule_b 2 D2 D2
    ∷ sends rule_b 1 D1 D1
    -- rows that fail the condition under kind 5 are kept: a = 2 alone under "every a is 1"
    ∷ judged (every_is 1) (row 1 1 0 0 1 2) false (key 1 1)
    ∷ sends (every_is 1) 3 (row 1 1 0 0 1 2) (row 1 1 0 0 1 2)
    -- a quantifier is not split over or: with a = 1 and a = 2, "every a is 1 or 2" is true, yet neither half is
    ∷ judged every_is_either (row 1 1 0 0 1 1 ++ row 1 2 0 0 1 2) true (key 1 1 ++ key 1 2)
    ∷ judged (every_is 1) (row 1 1 0 0 1 1 ++ row 1 2 0 0 1 2) false (key 1 2)
    ∷ judged (every_is 2) (row 1 1 0 0 1 1 ++ row 1 2 0 0 1 2) false (key 1 1)
    -- quantifiers are not pulled to the front: with no rows the first is true, the second false
    ∷ judged some_or_every [] true []
    ∷ judged pulled_to_front [] false []
    -- a spare row is not sent without its child that isn't spare: D1's 1/2 isn't spare and (d) sends neither; 1/1 alone is false
    ∷ spares rule_a D1 (key 1 1 ++ key 1 3)
    ∷ judged rule_a D1 true (key 1 1 ++ key 1 2)
    ∷ judged rule_a (row 1 1 0 0 1 11) false (key 1 1)
    -- a reading over roots. For every b: what is false elsewhere is false for each own b, and stays open without one; what is true
    -- elsewhere is true with an own b and without one
    ∷ sends (a_then_b 6 5) 3 (row 1 1 0 0 1 6) (row 1 1 0 0 1 6)
    ∷ sends (a_then_b 6 5) 3 (row 1 1 0 0 1 6 ++ row 1 2 0 0 2 9) (row 1 2 0 0 2 9)
    ∷ sends (a_then_b 5 5) 3 (row 1 1 0 0 1 5) []
    ∷ sends (a_then_b 5 5) 3 (row 1 1 0 0 1 5 ++ row 1 2 0 0 2 9) (row 1 2 0 0 2 9)
    -- for some b, true and false exchanged
    ∷ sends (a_then_b 5 6) 3 (row 1 1 0 0 1 5) (row 1 1 0 0 1 5)
    ∷ sends (a_then_b 5 6) 3 (row 1 1 0 0 1 5 ++ row 1 2 0 0 2 9) (row 1 2 0 0 2 9)
    ∷ sends (a_then_b 6 6) 3 (row 1 1 0 0 1 6) []
    ∷ sends (a_then_b 6 6) 3 (row 1 1 0 0 1 6 ++ row 1 2 0 0 2 9) (row 1 2 0 0 2 9)
    -- paths of two pairs
    ∷ judged rule_addresses (router 77) false (key 1 1 ++ key 1 2 ++ key 1 3 ++ key 1 4 ++ key 1 5)
    ∷ judged rule_addresses (router 78) true (key 1 1 ++ key 1 2 ++ key 1 3 ++ key 1 4 ++ key 1 5)
    -- marks can be relied on: (c), (f) and (g) with another value in each unmarked row keep their verdicts; the marks of (c) and (f) then are others
    ∷ judged rule_a (row 1 1 0 0 1 21 ++ row 1 2 1 1 2 7 ++ row 1 3 1 1 3 0 ++ row 2 1 0 0 1 22 ++ row 2 2 1 1 2 8 ++ D3) false (key 1 1 ++ key 1 2)
    ∷ judged rule_b (row 1 1 0 0 1 11 ++ row 1 2 1 1 2 1 ++ row 1 3 1 1 3 2 ++ D2) true (key 1 1 ++ key 1 2 ++ key 2 1 ++ key 2 2)
    ∷ judged rule_b (row 1 1 0 0 1 11 ++ row 1 2 1 1 2 2 ++ row 1 3 1 1 3 2 ++ row 2 1 0 0 1 22 ++ row 2 2 1 1 2 9 ++ D4) false
    (key 1 1 ++ key 1 2 ++ key 4 1 ++ key 4 2)
    -- an and that is true is so by both sides, and a quantifier by its bodies, too: here the value of 1/2 turns the verdict
    ∷ judged some_and_some (row 1 1 0 0 1 1 ++ row 1 2 0 0 2 2) true (key 1 1 ++ key 1 2)
    ∷ judged some_and_some (row 1 1 0 0 1 1 ++ row 1 2 0 0 2 3) false (key 1 2)
    ∷ judged every_has_one (row 1 1 0 0 1 5 ++ row 1 2 1 1 2 1) true (key 1 1 ++ key 1 2)
    ∷ judged every_has_one (row 1 1 0 0 1 5 ++ row 1 2 1 1 2 3) false (key 1 1 ++ key 1 2)
    -- names, parents and numbers are to be kept: an unmarked row with another name or parent is ranged over, and with other numbers the row
    -- that makes the rule true hangs under another
    ∷ judged (every_is 1) (row 1 1 0 0 1 1 ++ row 1 2 0 0 2 3) true (key 1 1)
    ∷ judged (every_is 1) (row 1 1 0 0 1 1 ++ row 1 2 0 0 1 3) false (key 1 2)
    ∷ judged (every_is 1) (row 1 1 0 0 2 5 ++ row 1 2 1 1 1 2) true []
    ∷ judged (every_is 1) (row 1 1 0 0 2 5 ++ row 1 2 0 0 1 2) false (key 1 2)
    ∷ judged every_has_one (row 1 1 0 0 9 0 ++ row 1 2 0 0 1 0 ++ row 1 3 2 1 2 1) true (key 1 2 ++ key 1 3)
    ∷ judged every_has_one (row 1 2 0 0 9 0 ++ row 1 3 0 0 1 0 ++ row 1 4 2 1 2 1) false (key 1 3)
    -- they are about the table that is marked, not about what a part was made of: the a is left out for the b's sake, which is not marked then;
    -- with another value of that b the rule is false
    ∷ sends every_equals_some 3 (row 1 1 0 0 1 5 ++ row 1 2 0 0 2 5) (row 1 2 0 0 2 5)
    ∷ judged every_equals_some (row 1 2 0 0 2 5) true []
    ∷ judged every_equals_some (row 1 1 0 0 1 5 ++ row 1 2 0 0 2 6) false (key 1 1 ++ key 1 2)
    -- any name: 3 lets 0 pass in a quantifier and nothing above 65,535, and 9 refuses it in rows
    ∷ rule_checked (some_root_is 5) (Done 2)
    ∷ rule_checked (entry 6 1 0 65535 ++ entry 7 0 1 5) (Done 2)
    ∷ rule_checked (entry 6 1 0 65536 ++ entry 7 0 1 5) (Refused Word 0)
    ∷ table_checked (row 1 1 0 0 0 5) (Refused Range 0)
    ∷ table_checked (row 1 1 0 0 1 5 ++ row 1 2 1 1 0 5) (Refused Range 1)
    ∷ rule_filed (some_root_is 5) (line (entry_to 6 1 0 (digit 0)) ++ line (entry_to 7 0 1 (digit 5)))
    -- nothing under the interface equals 0: true; and false by one of two rows that have different names
    ∷ judged nothing_zero (interface_with 1500) true (key 1 1 ++ key 1 2 ++ key 1 3 ++ key 1 4)
    ∷ judged nothing_zero (interface_with 0) false (key 1 1 ++ key 1 2 ++ key 1 4)
    -- rows of any name are reached: without them the verdict would be another
    ∷ sends nothing_zero 2 (interface_with 0) (interface_with 0)
    ∷ sends nothing_zero 3 (interface_with 0) (row 1 1 0 0 1 11 ++ row 1 2 1 1 3 101 ++ row 1 4 2 2 5 0)
    ∷ sends nothing_zero 3 (interface_with 1500) []
    ∷ judged nothing_zero (row 1 1 0 0 1 11 ++ row 1 2 1 1 3 101) true (key 1 1 ++ key 1 2)
    ∷ set_sends (nothing_zero ++ rule_a) (5 ∷ 6 ∷ []) 2 (interface_with 0) (interface_with 0)
    -- and the bytes of a plan are of such rows
    ∷ tries nothing_zero (5 ∷ []) (interface_with 1500) (set_step 1 3 8 ++ set_step 1 4 0) 24 2 0 0 2
    (row 1 1 0 0 1 11 ++ row 1 2 1 1 3 101 ++ row 1 3 2 2 4 8 ++ row 1 4 2 2 5 0) (1 ∷ 0 ∷ [])
    -- over roots: of any name, and no row that is no root
    ∷ judged (some_root_is 5) (row 1 1 0 0 8 5) true (key 1 1)
    ∷ judged (some_root_is 2) D1 false (key 1 1)
    -- two children 2 = 5 and 3 = 5 are two rows, and one of them has no row under it. A reading by values alone can't see names: where
    -- all quantifiers take any name, it gives a table the published truth of the same table with one name in all its rows. There the
    -- two are one value 5, a path through it leads below both, and the rule is true
    ∷ judged every_child_has_one (two_children 2 4 3) false (key 1 1 ++ key 1 4)
    ∷ differs every_child_has_one (two_children 1 1 1) (Refused Sibling 3) true false
    -- two roots are 2, and a b that is 1 hangs under the first: the second makes the rule true; by values it would be one root, with that b
    ∷ judged some_equals_below (row 2 2 0 0 2 2 ++ row 2 5 0 0 1 2 ++ row 2 8 2 1 2 1) true (key 2 5)
    -- a template: b and c of the blanks become 1 and the parameter; b = 2 of the and is its child, b = 2 of a quantifier its parent's variable
    ∷ fills (house 2 0 2 1) (7 ∷ opposite 24 ∷ []) (house 1 7 1 (opposite 24))
    ∷ fills (house 2 1 2 0) (7 ∷ 9 ∷ []) (house 1 9 1 7)
    ∷ fills (below_second 2 0) (4294967295 ∷ []) (below_second 1 4294967295)
    ∷ fills (entry 5 1 0 1 ++ entry 8 0 2 0) (5 ∷ []) (every_compares 8 5)
    -- one parameter for both; a constant, here 0, and a variable stay
    ∷ fills (house 2 0 2 0) (7 ∷ []) (house 1 7 1 7)
    ∷ fills (house 1 0 2 0) (7 ∷ []) (house 1 0 1 7)
    ∷ fills (house 0 1 2 0) (7 ∷ []) (house 0 1 1 7)
    -- without blanks, and no parameters: itself
    ∷ fills rule_a [] rule_a
    -- its meaning, by reading the parameters directly
    ∷ template_judged (house 2 0 2 1) (2 ∷ 101 ∷ []) D1 true
    ∷ template_judged (house 2 0 2 1) (2 ∷ 100 ∷ []) D1 false
    ∷ template_judged (house 2 0 2 1) (1 ∷ 101 ∷ []) D1 false
    ∷ template_judged (house 2 1 2 0) (101 ∷ 2 ∷ []) D1 true
    ∷ template_judged (house 2 0 2 0) (opposite 1 ∷ []) (row 1 1 0 0 1 11 ++ row 1 2 1 1 3 (opposite 2)) true
    ∷ template_judged (house 2 0 2 0) (opposite 1 ∷ []) (row 1 1 0 0 1 11 ++ row 1 2 1 1 3 5) false
    -- 3 allows b = 2 in templates only, whatever c is, and no other b above 1
    ∷ rule_checked (every_is_blank 0) (Refused Word 1)
    ∷ unfilled (entry 5 1 0 1 ++ entry 7 0 3 0) (5 ∷ []) 8 (Refused Word 1)
    ∷ unfilled (every_is_blank 4294967295) (5 ∷ []) 8 (Refused Blank 1)
    -- 21 at the first entry whose number has no parameter, after 1 to 7
    ∷ unfilled (every_is_blank 0) [] 8 (Refused Blank 1)
    ∷ unfilled (house 2 1 2 2) (5 ∷ []) 28 (Refused Blank 5)
    ∷ unfilled (house 2 0 2 1) (5 ∷ []) 28 (Refused Blank 6)
    ∷ unfilled (house 2 2 2 1) (5 ∷ []) 28 (Refused Blank 5)
    ∷ unfilled (entry 5 1 0 1 ++ entry 7 1 2 0) [] 8 (Refused Unbound 1)
    -- 22: over 16 parameters, or one that is never used; after 21
    ∷ fills (each_blank 16) (replicate 16 5) (each_constant 16 5)
    ∷ unfilled (each_blank 17) (replicate 17 5) 136 (Refused Parameters 0)
    ∷ unfilled (every_is_blank 0) (5 ∷ 5 ∷ []) 8 (Refused Parameters 0)
    ∷ unfilled (house 2 0 2 2) (5 ∷ 5 ∷ 5 ∷ []) 28 (Refused Parameters 0)
    ∷ unfilled rule_a (5 ∷ []) 24 (Refused Parameters 0)
    -- a constant and a name with the number of a parameter do not use it
    ∷ unfilled (house 1 0 1 0) (5 ∷ []) 28 (Refused Parameters 0)
    ∷ unfilled (entry 5 1 0 1 ++ entry 5 2 1 2 ++ entry 5 3 2 0 ++ entry 7 2 1 4) (5 ∷ []) 16 (Refused Parameters 0)
    ∷ unfilled (every_is_blank 20) (replicate 17 5) 8 (Refused Blank 1)
    ∷ unfilled (house 2 0 2 2) (5 ∷ 5 ∷ []) 28 (Refused Blank 6)
    -- 17 is last
    ∷ unfilled (every_is_blank 0) (5 ∷ 5 ∷ []) 0 (Refused Parameters 0)
    ∷ unfilled (every_is_blank 0) (5 ∷ []) 7 (Refused ShortOutput 0)
    -- a set of rules: the number of rules
    ∷ set_checked (rule_a ++ rule_b) (6 ∷ 9 ∷ []) (Done 2)
    -- 20: no counts, more than 32, counts that don't add up, a leftover word, counts that add up modulo 2^32 alone
    ∷ set_checked [] [] (Refused Counts 0)
    ∷ set_checked [] (replicate 33 0) (Refused Counts 0)
    ∷ set_checked (rule_a ++ rule_b) (6 ∷ 8 ∷ []) (Refused Counts 0)
    ∷ set_checked (rule_a ++ rule_b ++ 0 ∷ []) (6 ∷ 9 ∷ []) (Refused Counts 0)
    ∷ set_checked (every_is 1) (4294967295 ∷ 3 ∷ []) (Refused Counts 0)
    -- 1 has the place of its rule's first entry, also where the rule has none
    ∷ set_checked [] (replicate 32 0) (Refused RuleLength 0)
    ∷ set_checked (every_is 1) (2 ∷ 0 ∷ []) (Refused RuleLength 2)
    ∷ set_checked (every_is 1 ++ replicate 516 0) (2 ∷ 129 ∷ []) (Refused RuleLength 2)
    -- places are counted from the first entry of the set, a child's number from its own rule's
    ∷ set_checked (rule_a ++ nested 0 7) (6 ∷ 8 ∷ []) (Refused Nesting 12)
    ∷ set_checked (every_is 1 ++ entry 5 3 0 1 ++ entry 7 0 1 1) (2 ∷ 2 ∷ []) (Refused Child 2)
    -- rule by rule: 7 of the first before 2 of the second
    ∷ set_checked (entry 5 1 0 1 ++ entry 7 1 1 1 ++ entry 0 0 0 0) (2 ∷ 1 ∷ []) (Refused Unbound 1)
    -- one byte per rule
    ∷ set_judged (rule_a ++ rule_b) (6 ∷ 9 ∷ []) (D1 ++ D2) (1 ∷ 1 ∷ [])
    ∷ set_judged (rule_a ++ rule_b) (6 ∷ 9 ∷ []) (D1 ++ D2 ++ D3) (0 ∷ 1 ∷ [])
    ∷ set_judged (rule_a ++ rule_b) (6 ∷ 9 ∷ []) (D1 ++ D2 ++ D4) (1 ∷ 0 ∷ [])
    -- reached by any rule; spare for each
    ∷ set_sends (every_is 1 ++ rule_a) (2 ∷ 6 ∷ []) 2 D1 (row 1 1 0 0 1 11 ++ row 1 2 1 1 2 2)
    ∷ set_sends (rule_a ++ rule_b) (6 ∷ 9 ∷ []) 3 D1 (row 1 1 0 0 1 11 ++ row 1 2 1 1 2 2)
    ∷ set_sends (rule_a ++ rule_b) (6 ∷ 9 ∷ []) 3 D2 []
    -- the union of the rules' full parts loses a verdict: the child isn't spare for the first rule, and its parent is kept for the second
    ∷ sends some_above 3 roots_and_child []
    ∷ sends keeps_roots 3 roots_and_child (row 2 3 0 0 1 0)
    ∷ set_sends (some_above ++ keeps_roots) (3 ∷ 7 ∷ []) 3 roots_and_child (row 2 3 0 0 1 0 ++ row 2 4 3 1 1 3)
    ∷ set_judged (some_above ++ keeps_roots) (3 ∷ 7 ∷ []) roots_and_child (0 ∷ 1 ∷ [])
    ∷ set_judged (some_above ++ keeps_roots) (3 ∷ 7 ∷ []) (row 2 3 0 0 1 0 ++ row 2 4 3 1 1 3) (0 ∷ 1 ∷ [])
    ∷ set_judged (some_above ++ keeps_roots) (3 ∷ 7 ∷ []) (row 2 3 0 0 1 0) (1 ∷ 1 ∷ [])
    -- a plan: a byte per rule after each step
    ∷ tries (rule_a ++ rule_b) (6 ∷ 9 ∷ []) (D1 ++ D2) second_server 60 8 0 0 4
    (row 1 1 0 0 1 11 ++ row 1 2 1 1 2 1 ++ D2 ++ D4) (0 ∷ 1 ∷ 1 ∷ 0 ∷ 1 ∷ 1 ∷ 1 ∷ 1 ∷ [])
    -- no steps: the pool, and no verdicts
    ∷ tries (rule_a ++ rule_b) (6 ∷ 9 ∷ []) (D1 ++ D2) [] 30 4 0 0 0 (D1 ++ D2) []
    -- rows go in their place: before the first, as a device between two, behind the last, between two of a device
    ∷ tries (every_is 1) (2 ∷ []) (row 2 4 0 0 1 2 ++ row 2 9 4 1 5 5 ++ row 4 1 0 0 1 4)
    (add_step 1 1 0 0 1 1 ++ add_step 3 1 0 0 1 3 ++ add_step 5 1 0 0 1 5 ++ add_step 2 6 4 1 5 6) 42 4 0 0 4
    (row 1 1 0 0 1 1 ++ row 2 4 0 0 1 2 ++ row 2 6 4 1 5 6 ++ row 2 9 4 1 5 5 ++ row 3 1 0 0 1 3 ++ row 4 1 0 0 1 4 ++ row 5 1 0 0 1 5) (0 ∷ 0 ∷ 0 ∷ 0 ∷ [])
    -- 23: unknown kinds; a remove of three words, found when it is reached
    ∷ tries (rule_a ++ rule_b) (6 ∷ 9 ∷ []) (D1 ++ D2) (0 ∷ row 1 3 1 1 3 101) 60 8 23 0 0 (D1 ++ D2) []
    ∷ tries (rule_a ++ rule_b) (6 ∷ 9 ∷ []) (D1 ++ D2) (4 ∷ row 1 3 1 1 3 101) 60 8 23 0 0 (D1 ++ D2) []
    ∷ tries (rule_a ++ rule_b) (6 ∷ 9 ∷ []) (D1 ++ D2) (set_step 2 2 2 ++ 3 ∷ 1 ∷ 3 ∷ []) 60 8 23 1 1 (D1 ++ row 2 1 0 0 1 12 ++ row 2 2 1 1 2 2) (1 ∷ 0 ∷ [])
    -- 24: no such row, which it also is with device 0 or at 0; 25: rows under it
    ∷ tries (rule_a ++ rule_b) (6 ∷ 9 ∷ []) (D1 ++ D2) (set_step 1 4 5) 60 8 24 0 0 (D1 ++ D2) []
    ∷ tries (rule_a ++ rule_b) (6 ∷ 9 ∷ []) (D1 ++ D2) (remove_step 1 0) 60 8 24 0 0 (D1 ++ D2) []
    ∷ tries (rule_a ++ rule_b) (6 ∷ 9 ∷ []) (D1 ++ D2) (remove_step 1 3 ++ remove_step 1 1) 60 8 25 1 1 (row 1 1 0 0 1 11 ++ row 1 2 1 1 2 2 ++ D2) (1 ∷ 1 ∷ [])
    ∷ tries (rule_a ++ rule_b) (6 ∷ 9 ∷ []) (D1 ++ D2) (set_step 0 1 5) 60 8 24 0 0 (D1 ++ D2) []
    -- a value may be any word
    ∷ tries (rule_a ++ rule_b) (6 ∷ 9 ∷ []) (D1 ++ D2) (set_step 1 3 2147483648) 60 8 0 0 1
    (row 1 1 0 0 1 11 ++ row 1 2 1 1 2 2 ++ row 1 3 1 1 3 2147483648 ++ D2) (1 ∷ 1 ∷ [])
    -- 9, 10, 11, 26 and 12 of the table after: the place is the step's number
    ∷ tries (rule_a ++ rule_b) (6 ∷ 9 ∷ []) (D1 ++ D2) (add_step 0 1 0 0 1 1) 60 8 9 0 0 (D1 ++ D2) []
    ∷ tries (rule_a ++ rule_b) (6 ∷ 9 ∷ []) (D1 ++ D2) (remove_step 1 3 ++ add_step 2 2 1 1 2 7) 60 8 10 1 1 (row 1 1 0 0 1 11 ++ row 1 2 1 1 2 2 ++ D2) (1 ∷ 1 ∷ [])
    ∷ tries (rule_a ++ rule_b) (6 ∷ 9 ∷ []) (D1 ++ D2) (add_step 2 2 1 1 2 1) 60 8 10 0 0 (D1 ++ D2) []
    ∷ tries (rule_a ++ rule_b) (6 ∷ 9 ∷ []) (D1 ++ D2) (add_step 2 3 4 1 2 7) 60 8 11 0 0 (D1 ++ D2) []
    ∷ tries (rule_a ++ rule_b) (6 ∷ 9 ∷ []) (D1 ++ D2) (add_step 2 3 2 1 2 7) 60 8 26 0 0 (D1 ++ D2) []
    ∷ tries (rule_a ++ rule_b) (6 ∷ 9 ∷ []) (D1 ++ D2) (set_step 2 1 11) 60 8 12 0 0 (D1 ++ D2) []
    -- 17 last: no room for the row; not for the second byte of a step, and then none is written; an equal sibling into a full table is 12
    ∷ tries (rule_a ++ rule_b) (6 ∷ 9 ∷ []) (D1 ++ D2) second_server 30 8 17 0 0 (D1 ++ D2) []
    ∷ tries (rule_a ++ rule_b) (6 ∷ 9 ∷ []) (D1 ++ D2) second_server 60 3 17 1 1 (D1 ++ D2 ++ row 4 1 0 0 1 14) (0 ∷ 1 ∷ [])
    ∷ tries (rule_a ++ rule_b) (6 ∷ 9 ∷ []) (D1 ++ D2) (add_step 2 3 1 1 2 1) 30 8 12 0 0 (D1 ++ D2) []
    -- before step 0: the set, a rule, the pool, and 17 if the working table can't take it
    ∷ tries (rule_a ++ nested 0 7) (6 ∷ 8 ∷ []) D1 second_server 60 8 6 12 0 [] []
    ∷ tries (rule_a ++ rule_b) (6 ∷ 8 ∷ []) D1 second_server 60 8 20 0 0 [] []
    ∷ tries (rule_a ++ rule_b) (6 ∷ 9 ∷ []) (D2 ++ D1) second_server 60 8 10 2 0 [] []
    ∷ tries (rule_a ++ rule_b) (6 ∷ 9 ∷ []) (D1 ++ D2) second_server 29 8 17 0 0 [] []
    -- the archive's order: column after column, each word but the first as its difference from the row above; 2 less 11 wraps
    ∷ archived D1
    (1 ∷ 0 ∷ 0 ∷ 1 ∷ 1 ∷ 1 ∷ 0 ∷ 1 ∷ 0 ∷ 0 ∷ 1 ∷ 0 ∷ 1 ∷ 1 ∷ 1 ∷ 11 ∷ 4294967287 ∷ 99 ∷ [])
    -- where a device ends and the next begins, too
    ∷ archived (D1 ++ D2)
    (1 ∷ 0 ∷ 0 ∷ 1 ∷ 0
    ∷ 1 ∷ 1 ∷ 1 ∷ 4294967294 ∷ 1
    ∷ 0 ∷ 1 ∷ 0 ∷ 4294967295 ∷ 1
    ∷ 0 ∷ 1 ∷ 0 ∷ 4294967295 ∷ 1
    ∷ 1 ∷ 1 ∷ 1 ∷ 4294967294 ∷ 1
    ∷ 11 ∷ 4294967287 ∷ 99 ∷ 4294967207 ∷ 4294967285 ∷ [])
    -- no rows; one row; rows of no accepted table, whatever their words
    ∷ archived [] []
    ∷ archived (row 1 1 0 0 1 11) (row 1 1 0 0 1 11)
    ∷ archived (row 0 4294967295 2147483648 5 7 1 ++ row 4294967295 0 2147483648 4 7 4294967295)
    (0 ∷ 4294967295 ∷ 4294967295 ∷ 1 ∷ 2147483648 ∷ 0 ∷ 5 ∷ 4294967295 ∷ 7 ∷ 0 ∷ 1 ∷ 4294967294 ∷ [])
    -- one column, two, and as many as words; without columns there are no words
    ∷ in_columns 1 (5 ∷ 3 ∷ 3 ∷ 4 ∷ []) (5 ∷ 4294967294 ∷ 0 ∷ 1 ∷ [])
    ∷ in_columns 2 (5 ∷ 3 ∷ 3 ∷ 4 ∷ []) (5 ∷ 4294967294 ∷ 3 ∷ 1 ∷ [])
    ∷ in_columns 4 (5 ∷ 3 ∷ 3 ∷ 4 ∷ []) (5 ∷ 3 ∷ 3 ∷ 4 ∷ [])
    ∷ in_columns 0 [] []
    -- 28: not a whole number of rows, also where there is no room; else 17
    ∷ unarchived (D1 ++ 7 ∷ []) 24 (Refused Rows 0)
    ∷ unarchived (1 ∷ 2 ∷ 3 ∷ 4 ∷ 5 ∷ []) 0 (Refused Rows 0)
    ∷ unarchived D1 17 (Refused ShortOutput 0)
    ∷ unarchived (row 0 0 0 0 0 0) 0 (Refused ShortOutput 0)
    -- folding: an interface in two blocks; the later row goes, and its child hangs under the earlier one
    ∷ folds (row 1 1 0 0 1 11 ++ row 1 2 1 1 3 101 ++ row 1 3 2 2 4 1 ++ row 1 4 1 1 3 101 ++ row 1 5 4 2 5 2)
    (row 1 1 0 0 1 11 ++ row 1 2 1 1 3 101 ++ row 1 3 2 2 4 1 ++ row 1 5 2 2 5 2)
    -- children of both blocks are equal then, and fold too; a grandchild moves with them
    ∷ folds (row 1 1 0 0 1 11 ++ row 1 2 1 1 3 101 ++ row 1 3 2 2 4 1 ++ row 1 4 1 1 3 101 ++ row 1 5 4 2 4 1 ++ row 1 6 5 3 5 2)
    (row 1 1 0 0 1 11 ++ row 1 2 1 1 3 101 ++ row 1 3 2 2 4 1 ++ row 1 6 3 3 5 2)
    -- equal roots; three equal siblings
    ∷ folds (row 1 1 0 0 1 5 ++ row 1 2 1 1 2 1 ++ row 1 3 0 0 1 5 ++ row 1 4 3 1 2 2) (row 1 1 0 0 1 5 ++ row 1 2 1 1 2 1 ++ row 1 4 1 1 2 2)
    ∷ folds (row 7 3 0 0 1 5 ++ row 7 4 0 0 1 5 ++ row 7 9 0 0 1 5) (row 7 3 0 0 1 5)
    -- names, values and parents count, and each word of a value; no equal siblings: as it was
    ∷ folds (row 1 1 0 0 1 5 ++ row 1 2 0 0 1 2147483653 ++ row 1 3 0 0 2 5 ++ row 1 4 1 1 1 5) (row 1 1 0 0 1 5 ++ row 1 2 0 0 1 2147483653 ++ row 1 3 0 0 2 5 ++ row 1 4 1 1 1 5)
    ∷ folds D1 D1
    ∷ folds [] []
    -- 8 to 11 and 26 come before 14, which has the place of the row, and 17 is last; 12 is none of them
    ∷ unfolded (D1 ++ D2) 30 (Refused OtherDevice 3)
    ∷ unfolded (D1 ++ row 2 1 0 1 1 12) 24 (Refused Depth 3)
    ∷ unfolded (row 1 1 0 0 1 5 ++ row 2 1 0 0 1 5 ++ row 2 2 7 1 1 5) 18 (Refused Parent 2)
    ∷ unfolded (row 1 1 0 0 1 5 ++ row 1 1 0 0 1 5) 12 (Refused Order 1)
    ∷ unfolded (D1 ++ D2) 0 (Refused OtherDevice 3)
    ∷ unfolded (row 1 1 0 0 1 5 ++ row 1 2 0 0 1 5) 5 (Refused ShortOutput 0)
    ∷ unfolded (D1 ++ 7 ∷ []) 0 (Refused TableLength 0)
    -- the published truth on the rows as listed is the verdict on the folded ones; rows alone tell otherwise
    ∷ fold_judged every_has_one (row 1 1 0 0 1 5 ++ row 1 2 1 1 2 1 ++ row 1 3 0 0 1 5) true false
    ∷ fold_judged every_below_has_one (row 1 1 0 0 9 7 ++ row 1 2 1 1 1 5 ++ row 1 3 2 2 2 1 ++ row 1 4 1 1 1 5) true false
    -- folded tables of two devices with equal roots still meet 12 in joining, and so does a step that adds an equal sibling
    ∷ joins (row 1 1 0 0 1 5) (row 2 1 0 0 1 5) (Refused Sibling 1)
    ∷ tries (every_is 1) (2 ∷ []) (row 1 1 0 0 1 1 ++ row 1 2 1 1 2 2) (add_step 1 3 1 1 2 2) 30 8 12 0 0 (row 1 1 0 0 1 1 ++ row 1 2 1 1 2 2) []
    -- the number of each fault: 15 and 27 are none's
    ∷ numbered (RuleLength ∷ Kind ∷ Word ∷ Child ∷ Naming ∷ Nesting ∷ Unbound ∷ TableLength ∷ Range ∷ Order ∷ Parent ∷ Sibling ∷ [])
    (1 ∷ 2 ∷ 3 ∷ 4 ∷ 5 ∷ 6 ∷ 7 ∷ 8 ∷ 9 ∷ 10 ∷ 11 ∷ 12 ∷ [])
    ∷ numbered (Mode ∷ OtherDevice ∷ Join ∷ ShortOutput ∷ FirstLine ∷ Line ∷ Counts ∷ Blank ∷ Parameters ∷ Step ∷ Absent ∷ Removal ∷ Depth ∷ Rows ∷ [])
    (13 ∷ 14 ∷ 16 ∷ 17 ∷ 18 ∷ 19 ∷ 20 ∷ 21 ∷ 22 ∷ 23 ∷ 24 ∷ 25 ∷ 26 ∷ 28 ∷ [])
    -- without check 12 the sets of values and the rows differ: two nodes 1 = 5, of which one has a child; so on two
    -- devices, and under one parent
    ∷ differs every_has_one (row 1 1 0 0 1 5 ++ row 1 2 1 1 2 1 ++ row 1 3 0 0 1 5) (Refused Sibling 2) true false
    ∷ differs every_has_one (row 1 1 0 0 1 5 ++ row 1 2 1 1 2 1 ++ row 2 1 0 0 1 5) (Refused Sibling 2) true false
    ∷ differs every_below_has_one (row 1 1 0 0 9 7 ++ row 1 2 1 1 1 5 ++ row 1 3 2 2 2 1 ++ row 1 4 1 1 1 5) (Refused Sibling 3) true false
    ∷ []

-- the claim
abbrev pub Worked : Type 0
Worked = all right cases ≡ true
