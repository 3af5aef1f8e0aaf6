-- 01, Around the engine: what the program prints. Assumes nothing.
use Rattle.std.specs.Prelude.{ℕ, ◌-◌, Bool, cond, not, ◌||◌, List, [], ◌∷◌, length, eqb, leb, Err}
use Rattle.base.specs.Lists.{select}
use Rattle.base.specs.Search.{sum_below}
use Rattle.tables.specs.Answers.{and_then, unless, value, fitting, output}
use Rattle.tables.specs.Words.{rows, row_at, row_count}
use Rattle.tables.specs.Rules.{one}
use Rattle.tables.specs.Files.{count_names, count_format, refusal_names, refusal_format, write_text}
use Rattle.tables.specs.declared.Row.{Row}
use Rattle.tables.specs.Answers.{Answer}
use Rattle.tables.specs.Answers.{Done}
use Rattle.tables.specs.Refusals.{number_of}
use Rattle.tables.specs.declared.Fault.{Fault}
use Rattle.tables.specs.declared.Fault.TheVariants.{RuleLength, TableLength}
use Rattle.logic.specs.Formulas.{Formula, formula}
use Rattle.logic.specs.Verdict.{verdict}
use Rattle.logic.specs.Marks.{marked}
use Rattle.logic.specs.Parts.{part_of}
use Rattle.checker.specs.Files.{rule_of, pool_of, rule_file, pool_file}

-- ---- the answer
-- the longest file that the program takes, in bytes
abbrev pub file_limit : ℕ
file_limit = 65536

-- a longer one is that refusal, place 0, before its 18
abbrev pub sized : Fault → List ℕ → Answer → Answer
sized k file next = unless (leb (length file) file_limit) k next

-- the refusals of the program: rule file, rule, pool file, pool
unfoldable pub report_answer : List ℕ → List ℕ → Answer
report_answer rf pf = and_then (sized RuleLength rf (rule_file rf)) (sized TableLength pf (pool_file pf))

-- ---- the counts
-- a device is all its rows
abbrev pub device_rows : List Row → ℕ → List Row
device_rows T d = select (λ r. eqb r.device d) T

-- row i is the first of its device
abbrev pub begins : List ℕ → ℕ → Bool
begins t i = eqb i 0 || not (eqb (row_at t i).device (row_at t (i - 1)).device)

-- the rows of the part of a device, which is made on that device's rows apart
abbrev pub part_count : Formula → ℕ → List ℕ → ℕ → ℕ
part_count F mode t d = length (part_of (F ∷ []) mode (device_rows (rows t) d))

-- a device is counted at its first row
abbrev pub count_at : Formula → ℕ → List ℕ → ℕ → ℕ
count_at F mode t i = cond (begins t i) (part_count F mode t (row_at t i).device) 0

-- the rows of the parts of all devices
unfoldable pub parts_count : Formula → ℕ → List ℕ → ℕ
parts_count F mode t = sum_below (count_at F mode t) (row_count t)

-- the marked rows
unfoldable pub marked_count : Formula → List Row → ℕ
marked_count F T = length (select (marked F T) T)

-- verdict (1 true, 0 false), pool rows, rows of all branch parts, of all full parts, marked rows
unfoldable pub counts : List ℕ → List ℕ → List ℕ
counts rule pool =
    one (verdict (formula rule) (rows pool))
    ∷ row_count pool
    ∷ parts_count (formula rule) 2 pool
    ∷ parts_count (formula rule) 3 pool
    ∷ marked_count (formula rule) (rows pool)
    ∷ []

-- ---- the text
abbrev pub counts_text : List ℕ → List ℕ
counts_text words = write_text count_names count_format words

-- a refusal prints its number and its place
abbrev pub refusal_text : ℕ → ℕ → List ℕ
refusal_text k p = write_text refusal_names refusal_format (k ∷ p ∷ [])

abbrev pub text_of : Answer → List ℕ → List ℕ
text_of (Done n) words = counts_text words
text_of (Err r) words = refusal_text (number_of r.fault) r.place

unfoldable pub report_text : List ℕ → List ℕ → List ℕ
report_text rf pf = text_of (report_answer rf pf) (counts (rule_of rf) (pool_of pf))

-- ---- the call: the number of bytes written, 0 where the text does not fit; nothing is written then
abbrev pub printed : List ℕ → ℕ → ℕ
printed text room = value (fitting text room)

abbrev pub printed_out : List ℕ → List ℕ → List ℕ
printed_out text out = output (fitting text (length out)) text out

abbrev pub report_length : List ℕ → List ℕ → ℕ → ℕ
report_length rf pf room = printed (report_text rf pf) room

abbrev pub report_out : List ℕ → List ℕ → List ℕ → List ℕ
report_out rf pf out = printed_out (report_text rf pf) out
