-- 01, Around the engine: the C entry takes a rule file and a pool file as bytes. Assumes nothing.
use Rattle.std.specs.Prelude.{ℕ, ◌+◌, List, Err}
use Rattle.tables.specs.Answers.{and_then}
use Rattle.tables.specs.Refusals.{number_of}
use Rattle.tables.specs.Words.{rows}
use Rattle.tables.specs.Rules.{one, check_rule}
use Rattle.tables.specs.Tables.{check_table}
use Rattle.tables.specs.Files.{Format, rule_names, rule_format, pool_names, pool_format, read_words, check_file}
use Rattle.tables.specs.Answers.{Answer}
use Rattle.tables.specs.Answers.{Done}
use Rattle.logic.specs.Formulas.{formula}
use Rattle.logic.specs.Verdict.{verdict}

-- the rule of a rule file, the pool of a pool file
abbrev pub rule_of : List ℕ → List ℕ
rule_of file = read_words rule_names rule_format file

abbrev pub pool_of : List ℕ → List ℕ
pool_of file = read_words pool_names pool_format file

-- the refusals of a file, 18 and 19, then those of the table read from it. There a file with too many lines is 1 or 8, never 17.
abbrev pub table_file : List ℕ → Format → (List ℕ → Answer) → List ℕ → Answer
table_file names f check file = and_then (check_file names f file) (check (read_words names f file))

-- 18, 19, 1 to 7
abbrev pub rule_file : List ℕ → Answer
rule_file file = table_file rule_names rule_format check_rule file

-- 18, 19, 8 to 12 with 26
abbrev pub pool_file : List ℕ → Answer
pool_file file = table_file pool_names pool_format check_table file

-- the verdict of the rule on the pool: rule file, rule, pool file, pool
unfoldable pub files_answer : List ℕ → List ℕ → Answer
files_answer rf pf = and_then (rule_file rf) (and_then (pool_file pf) (Done (one (verdict (formula (rule_of rf)) (rows (pool_of pf))))))

-- what the C entry returns: 0 false, 1 true, or 100 plus the refusal, without its place
abbrev pub returned : Answer → ℕ
returned (Done n) = n
returned (Err r) = 100 + number_of r.fault
