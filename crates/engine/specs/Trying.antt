-- What the private functions that try a plan require and promise. A reader of the public contracts need not believe it. Assumes nothing.
use Rattle.std.specs.Prelude.{ℕ, ◌+◌, ◌*◌, ◌-◌, ◌<◌, ◌≤◌, ◌≡◌, Bool, true, false, cond, ◌&&◌, List, length, get_or, take, drop, leb, eqb}
use Rattle.std.proofs.lemmas.List.Edits.{sets}
use Rattle.tables.specs.Answers.{is_done, and_then, unless}
use Rattle.tables.specs.Words.{rows}
use Rattle.tables.specs.Rules.{one}
use Rattle.tables.specs.Tables.{check_table, accepted_table}
use Rattle.tables.specs.Answers.{Answer}
use Rattle.tables.specs.Answers.{Done}
use Rattle.sets.specs.Sets.{set_limit, rule_at}
use Rattle.plans.specs.Plans.{step_words, kind_of, step_at, steps_of, step_place, table_after}
use Rattle.plans.specs.declared.Trial.{Trial}
use Rattle.logic.specs.Formulas.{formula, formulas_of}
use Rattle.logic.specs.Verdict.{verdict, verdict_bytes}
use Rattle.logic.specs.Trial.{State, given, at_step, step_answer, Outcome, try_steps, returned_by, appended_by}
use Rattle.tables.specs.declared.Fault.TheVariants.{ShortOutput}

-- ---- bytes of a set's rules
-- the byte of rule i on a pool
abbrev pub byte_at : List ℕ → List ℕ → List ℕ → ℕ → ℕ
byte_at rules counts pool i = one (verdict (formula (rule_at rules counts i)) (rows pool))

-- ---- before a step
-- the state that the buffers hold
abbrev pub state_of : ℕ → ℕ → ℕ → List ℕ → List ℕ → State
state_of n k words table verdicts = record { table = take words table; verdicts = take (n * k) verdicts }

-- the bytes are those of the last step, if there was one
abbrev pub Last : List ℕ → List ℕ → ℕ → List ℕ → List ℕ → Type 0
Last rules counts k pool bytes = 0 < k → (i : ℕ) → i < length counts → get_or bytes i 0 ≡ byte_at rules counts pool i

pub record BeforeStep (rules counts : List ℕ) (k words : ℕ) (table bytes verdicts : List ℕ) : Type 0 where
  pub table_accepted : accepted_table (take words table) ≡ true
  pub words_inside : words ≤ length table
  pub bytes_inside : length counts * k ≤ length verdicts
  pub sized : length bytes ≡ set_limit
  pub last : Last rules counts k (take words table) bytes

-- ---- a step
-- the table in which its row stands: the one before the step that removes it, else the one after
abbrev pub with_row : List ℕ → List ℕ → List ℕ → List ℕ
with_row s before after = cond (eqb (kind_of s) 3) before after

-- what bringing the bytes up to the table after rests on
pub record Changed (rules counts t next s : List ℕ) (row : ℕ) (first : Bool) (bytes : List ℕ) : Type 0 where
  pub table_accepted : accepted_table t ≡ true
  pub next_accepted : accepted_table next ≡ true
  pub passed : step_place t s ≡ Done row
  pub next_is : next ≡ table_after t s
  pub sized : length bytes ≡ set_limit
  pub last : first ≡ false → (i : ℕ) → i < length counts → get_or bytes i 0 ≡ byte_at rules counts t i

-- 8 to 12 of the table after, and 17
abbrev pub room_answer : ℕ → ℕ → ℕ → ℕ → List ℕ → Answer
room_answer n k words bytes next =
    at_step k (and_then (check_table next) (unless (leb (length next) words && leb (n * k + n) bytes) ShortOutput (Done k)))

-- what a step leaves
pub record Taken (rules counts : List ℕ) (k words : ℕ) (step : List ℕ) (table bytes verdicts : List ℕ) (answer : Answer) (table' bytes' verdicts' : List ℕ) : Type 0 where
  pub answered : answer ≡ and_then (step_answer (formulas_of rules counts) (length table) (length verdicts) k (state_of (length counts) k words table verdicts) step)
      (Done (length (table_after (take words table) step)))
  pub same_table : length table' ≡ length table
  pub same_bytes : length bytes' ≡ length bytes
  pub same_verdicts : length verdicts' ≡ length verdicts
  pub refused : is_done answer ≡ false → (table' ≡ table) × (verdicts' ≡ verdicts)
  pub done : is_done answer ≡ true
      → (take (length (table_after (take words table) step)) table' ≡ table_after (take words table) step)
      × (verdicts' ≡ sets verdicts (length counts * k) (verdict_bytes (formulas_of rules counts) (rows (table_after (take words table) step))))
      × ((i : ℕ) → i < length counts → get_or bytes' i 0 ≡ byte_at rules counts (table_after (take words table) step) i)

-- ---- the run
-- where the words of step k end
pub record StepEnd (steps : List ℕ) (k end : ℕ) : Type 0 where
  pub from_start : step_words * k ≤ end
  pub inside : end ≤ length steps
  pub words_are : take (end - step_words * k) (drop (step_words * k) steps) ≡ step_at steps k

-- the working table holds an accepted table of that many words
pub record Begun (words : ℕ) (table : List ℕ) : Type 0 where
  pub table_accepted : accepted_table (take words table) ≡ true
  pub words_inside : words ≤ length table

abbrev pub outcome_from : List ℕ → List ℕ → List ℕ → ℕ → List ℕ → List ℕ → Outcome
outcome_from rules counts steps words table verdicts =
    try_steps (formulas_of rules counts) (length table) (length verdicts) 0 (given (take words table)) (steps_of steps)

-- what the steps leave
pub record Ran (rules counts steps : List ℕ) (words : ℕ) (table verdicts : List ℕ) (trial : Trial) (table' verdicts' : List ℕ) : Type 0 where
  pub returned : trial ≡ returned_by (outcome_from rules counts steps words table verdicts)
  pub same_length : length table' ≡ length table
  pub working : take (length (outcome_from rules counts steps words table verdicts).state.table) table' ≡ (outcome_from rules counts steps words table verdicts).state.table
  pub appended : verdicts' ≡ appended_by (outcome_from rules counts steps words table verdicts) verdicts
