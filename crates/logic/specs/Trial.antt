-- 02, wish 8: trying a plan on a pool, with the verdicts of a set of rules after each step. Assumes nothing.
use Rattle.std.specs.Prelude.{ℕ, zero, suc, ◌*◌, ◌≤◌, ◌<◌, ◌≡◌, Bool, true, false, cond, ◌&&◌, length, take, drop, leb}
use mathlib.Core.List.{List, [], ◌∷◌, ◌++◌, map, Nodup}
use Rattle.base.specs.Lists.{◌∈◌}
use Rattle.tables.specs.Answers.{number, place, is_done, and_then, unless}
use Rattle.tables.specs.Words.{row_at, row_count, rows}
use Rattle.tables.specs.Tables.{check_table, accepted_table}
use Rattle.tables.specs.Answers.{Answer}
use Rattle.tables.specs.Answers.{Done, Refused}
use Rattle.sets.specs.Sets.{check_set}
use Rattle.plans.specs.Plans.{step_words, step_at, step_count, steps_of, removing, step_row, place_for, step_place, table_after, RowsAfter}
use Rattle.plans.specs.declared.Trial.{Trial}
use Rattle.logic.specs.Formulas.{Formula, formulas_of}
use Rattle.logic.specs.Verdict.{verdict, verdict_bytes, set_verdicts_answer, set_verdicts_out}
use Rattle.logic.specs.Parts.{reached}
use Rattle.logic.specs.Demand.{Device, Sends, dump, taken, joined_parts, Claim}
use Rattle.tables.specs.declared.Fault.TheVariants.{ShortOutput}
use Rattle.std.specs.Prelude.{Err}

-- ---- states: the working table, and the verdicts appended so far
pub record State : Type 0 where
  pub table : List ℕ
  pub verdicts : List ℕ

-- before step 0: the given pool
abbrev pub given : List ℕ → State
given pool = record { table = pool; verdicts = [] }

-- after a step: the table after it, and a byte per rule, as they would be if the pool were dumped then
abbrev pub stepped : List Formula → State → List ℕ → State
stepped Fs x s = record { table = table_after x.table s; verdicts = x.verdicts ++ verdict_bytes Fs (rows (table_after x.table s)) }

-- ---- a step
-- the place of a refused step is its number
abbrev pub at_step : ℕ → Answer → Answer
at_step k (Done n) = Done n
at_step k (Err r) = Refused r.fault k

-- the working table has so many words of room, and the verdicts so many bytes
abbrev pub fits : State → ℕ → ℕ → Bool
fits x words bytes = leb (length x.table) words && leb (length x.verdicts) bytes

-- step k: 23, 24 and 25, then 8 to 12 of the table after it, 17 last
unfoldable pub step_answer : List Formula → ℕ → ℕ → ℕ → State → List ℕ → Answer
step_answer Fs words bytes k x s =
    at_step k (and_then (step_place x.table s)
    (and_then (check_table (table_after x.table s))
    (unless (fits (stepped Fs x s) words bytes) ShortOutput
    (Done k))))

-- ---- the run: the answer, the number of steps done, and the state that they leave
pub record Outcome : Type 0 where
  pub answer : Answer
  pub steps : ℕ
  pub state : State

-- from state x on, with k steps done: work stops at the first refused step
unfoldable pub try_steps : List Formula → ℕ → ℕ → ℕ → State → List (List ℕ) → Outcome
try_steps Fs words bytes k x [] = record { answer = Done k; steps = k; state = x }
try_steps Fs words bytes k x (s ∷ ss) =
    let answer = step_answer Fs words bytes k x s in
    cond (is_done answer) (try_steps Fs words bytes (suc k) (stepped Fs x s) ss) (record { answer = answer; steps = k; state = x })

-- ---- the call
-- before step 0: 20, 1 to 7, the given pool's 8 to 12, and 17 if the working table can't take it
unfoldable pub begin_answer : List ℕ → List ℕ → List ℕ → ℕ → Answer
begin_answer rules counts pool words =
    and_then (check_set rules counts) (and_then (check_table pool) (unless (leb (length pool) words) ShortOutput (Done 0)))

-- no step is done and there is no working table
abbrev pub nothing_done : State
nothing_done = record { table = []; verdicts = [] }

-- the refusals before step 0 return 0 steps and 0 rows
abbrev pub trial_outcome : List ℕ → List ℕ → List ℕ → List ℕ → ℕ → ℕ → Outcome
trial_outcome rules counts pool steps words bytes =
    let answer = begin_answer rules counts pool words in
    cond (is_done answer) (try_steps (formulas_of rules counts) words bytes 0 (given pool) (steps_of steps))
    (record { answer = answer; steps = 0; state = nothing_done })

-- the four numbers returned
abbrev pub returned_by : Outcome → Trial
returned_by r = record { number = number r.answer; place = place r.answer; steps = r.steps; rows = row_count r.state.table }

unfoldable pub trial_answer : List ℕ → List ℕ → List ℕ → List ℕ → ℕ → ℕ → Trial
trial_answer rules counts pool steps words bytes = returned_by (trial_outcome rules counts pool steps words bytes)

-- the verdicts appended, and past them the bytes as they came
abbrev pub appended_by : Outcome → List ℕ → List ℕ
appended_by r out = r.state.verdicts ++ drop (length r.state.verdicts) out

unfoldable pub verdicts_out : List ℕ → List ℕ → List ℕ → List ℕ → ℕ → List ℕ → List ℕ
verdicts_out rules counts pool steps words out = appended_by (trial_outcome rules counts pool steps words (length out)) out

-- the working table at the start of its buffer; the words past it are free, but where the call is refused before step 0
pub record TableLeft (rules counts pool steps : List ℕ) (bytes : ℕ) (buffer left : List ℕ) : Type 0 where
  pub same_length : length left ≡ length buffer
  pub working :
      let r = trial_outcome rules counts pool steps (length buffer) bytes in
      take (length r.state.table) left ≡ r.state.table
  pub untouched : is_done (begin_answer rules counts pool (length buffer)) ≡ false → left ≡ buffer

-- ---- the claims
-- a row removed without rows under it leaves an accepted table: 8 to 12 never refuse a remove
abbrev pub RemovesFit : Type 0
RemovesFit =
    (t s : List ℕ) → accepted_table t ≡ true → is_done (step_place t s) ≡ true → removing s ≡ true → accepted_table (table_after t s) ≡ true

-- the table that has the step's row: the one after, or, of a row removed, the one before
abbrev pub table_of_row : List ℕ → List ℕ → List ℕ
table_of_row t s = cond (removing s) t (table_after t s)

-- a formula none of whose quantifiers reaches the step's row keeps its verdict
abbrev pub UnreachedKept : Type 0
UnreachedKept =
    (t s : List ℕ) → accepted_table t ≡ true → is_done (step_place t s) ≡ true
    → (F : Formula) → reached F (rows (table_of_row t s)) (row_at (table_of_row t s) (place_for t (step_row s))) ≡ false
    → verdict F (rows t) ≡ verdict F (rows (table_after t s))

-- state k of a plan
unfoldable pub state_at : List Formula → List ℕ → List ℕ → ℕ → State
state_at Fs pool steps zero = given pool
state_at Fs pool steps (suc k) = stepped Fs (state_at Fs pool steps k) (step_at steps k)

-- the bytes of step k, of n rules
abbrev pub bytes_of : ℕ → ℕ → Outcome → List ℕ
bytes_of n k r = take n (drop (n * k) r.state.verdicts)

-- devices whose dump is that table, with any cuts for the set and any buffers
pub record Dumped (Fs : List Formula) (table : List ℕ) (ds : List Device) : Type 0 where
  pub dump_is : dump ds ≡ table
  pub none_twice : Nodup (map (λ (d : Device). d.number) ds)
  pub devices : (d : Device) → d ∈ ds → Sends Fs d

-- on that table the set's verdict call writes these bytes, a byte per rule, into any buffer that takes them
abbrev pub SetWrites : List ℕ → List ℕ → List ℕ → List ℕ → Type 0
SetWrites rules counts table bytes =
    (out : List ℕ) → length counts ≤ length out
    → (set_verdicts_answer rules counts table (length out) ≡ Done (length counts))
    × (set_verdicts_out rules counts table out ≡ bytes ++ drop (length counts) out)

module _ (rules counts pool steps : List ℕ) (words bytes : ℕ) where
  abbrev plan : ℕ → State
  plan k = state_at (formulas_of rules counts) pool steps k

  -- what step k answers
  abbrev answer_at : ℕ → Answer
  answer_at k = step_answer (formulas_of rules counts) words bytes k (plan k) (step_at steps k)

  pub record Tried (r : Outcome) : Type 0 where
    -- the steps done leave their state; each step before is done, and all are done or the next one is refused, with its number as place
    pub left : r.state ≡ plan r.steps
    pub each_done : (k : ℕ) → k < r.steps → is_done (answer_at k) ≡ true
    pub all_done : is_done r.answer ≡ true → r.steps ≡ step_count steps
    pub stopped : is_done r.answer ≡ false
        → (r.answer ≡ answer_at r.steps) × (place r.answer ≡ r.steps) × (r.steps < step_count steps)
    -- every state is an accepted table, and a step changes its own row alone
    pub accepted : (k : ℕ) → k ≤ r.steps → accepted_table (plan k).table ≡ true
    pub one_row : (k : ℕ) → k < r.steps → RowsAfter (plan k).table (step_at steps k)
    -- the bytes of a step are what the set's verdict call writes on the table after it
    pub as_dumped : (k : ℕ) → k < r.steps → SetWrites rules counts (plan (suc k)).table (bytes_of (length counts) k r)
    -- parts taken from any state have all that demand 3 claims; where all are joined, they give the bytes of the step before
    pub parts : (k : ℕ) → k ≤ r.steps → (ds : List Device) → Dumped (formulas_of rules counts) (plan k).table ds → Claim rules counts ds
    pub parts_judged : (k : ℕ) → k < r.steps → (ds : List Device) → Dumped (formulas_of rules counts) (plan (suc k)).table ds
        → taken [] ds ≡ ds → SetWrites rules counts (joined_parts ds) (bytes_of (length counts) k r)
    -- the first k steps alone leave state k and the first bytes
    pub first_steps : (k : ℕ) → k ≤ r.steps
        → trial_outcome rules counts pool (take (step_words * k) steps) words bytes ≡ record { answer = Done k; steps = k; state = plan k }
    pub first_bytes : (k : ℕ) → k ≤ r.steps → (plan k).verdicts ≡ take (length counts * k) r.state.verdicts

-- of every call that is not refused before step 0
abbrev pub Trials : Type 0
Trials =
    (rules counts pool steps : List ℕ) (words bytes : ℕ)
    → is_done (begin_answer rules counts pool words) ≡ true
    → Tried rules counts pool steps words bytes (trial_outcome rules counts pool steps words bytes)

-- where no step is done, a refusal before step 0 and one of step 0 are told apart: before it there are no rows, else those of the pool
abbrev pub ToldApart : Type 0
ToldApart =
    (rules counts pool steps : List ℕ) (words bytes : ℕ) → (trial_answer rules counts pool steps words bytes).steps ≡ 0
    → (trial_answer rules counts pool steps words bytes).rows ≡ cond (is_done (begin_answer rules counts pool words)) (row_count pool) 0
