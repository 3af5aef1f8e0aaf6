-- 02, wish 8: a plan is a list of steps, each one setting a row's value, adding a row in its place, or removing a row; what a step does
-- to a table, and 23 to 25. Assumes nothing.
use Rattle.std.specs.Prelude.{ℕ, zero, suc, ◌+◌, ◌-◌, ◌*◌, ◌/◌, ◌≡◌, Bool, true, false, not, cond, ◌&&◌, ◌||◌, List, [], ◌∷◌, ◌++◌, map, length, get_or, take, drop, eqb, ltb, leb, Result, Ok, Err}
use Rattle.base.specs.Lists.{◌∈◌, select}
use Rattle.base.specs.Search.{first, some}
use Rattle.tables.specs.Answers.{and_then, unless, fitting, is_done, value, output}
use Rattle.tables.specs.Words.{row_words, row_at, row_count, rows, columns_of}
use Rattle.tables.specs.Tables.{same_row, is_parent, is_above, accepted_table}
use Rattle.tables.specs.declared.Row.{Row}
use Rattle.tables.specs.Answers.{Answer, Done}
use Rattle.tables.specs.declared.refusals.Refusal.{Refusal}
use Rattle.plans.specs.declared.Change.{Change}
use Rattle.plans.specs.declared.RefusedStep.{RefusedStep}
use Rattle.tables.specs.declared.Fault.TheVariants.{Step, Absent, Removal}

-- ---- steps
-- a step is a kind word and the words of a row
abbrev pub step_words : ℕ
step_words = 7

-- the words of step k
abbrev pub step_at : List ℕ → ℕ → List ℕ
step_at steps k = take step_words (drop (step_words * k) steps)

-- n steps from step k on
unfoldable pub steps_from : List ℕ → ℕ → ℕ → List (List ℕ)
steps_from steps k zero = []
steps_from steps k (suc n) = step_at steps k ∷ steps_from steps (suc k) n

-- the number of steps, rounded up: the last may lack words
abbrev pub step_count : List ℕ → ℕ
step_count steps = (length steps + (step_words - 1)) / step_words

-- the steps of a plan
abbrev pub steps_of : List ℕ → List (List ℕ)
steps_of steps = steps_from steps 0 (step_count steps)

-- the kinds: 1 set, 2 add, 3 remove
abbrev pub kind_of : List ℕ → ℕ
kind_of s = get_or s 0 0

abbrev pub setting : List ℕ → Bool
setting s = eqb (kind_of s) 1

abbrev pub adding : List ℕ → Bool
adding s = eqb (kind_of s) 2

abbrev pub removing : List ℕ → Bool
removing s = eqb (kind_of s) 3

-- the row of a step
abbrev pub step_row : List ℕ → Row
step_row s = record { device = get_or s 1 0; at = get_or s 2 0; up = get_or s 3 0; deep = get_or s 4 0; name = get_or s 5 0; value = get_or s 6 0 }

-- ---- where a row stands
-- the place of a row, there or not: the first row that it isn't above, or the number of rows
abbrev pub place_for : List ℕ → Row → ℕ
place_for t r = first (λ i. not (is_above r (row_at t i))) (row_count t)

-- a row is there
abbrev pub is_there : List ℕ → Row → Bool
is_there t r = ltb (place_for t r) (row_count t) && same_row (row_at t (place_for t r)) r

-- rows are under it
abbrev pub has_under : List ℕ → Row → Bool
has_under t r = some (λ i. is_parent (row_at t i) r) (row_count t)

-- ---- the refusals
-- a step has all its words and a known kind
abbrev pub is_step : List ℕ → Bool
is_step s = leb step_words (length s) && (setting s || (adding s || removing s))

-- 23 when the kind is unknown or words are lacking, 24 when the row to set or remove isn't there, 25 when the row to remove has rows
-- under it, in this order; else the place of the step's row
unfoldable pub step_place : List ℕ → List ℕ → Answer
step_place t s =
    unless (is_step s) Step
    (unless (adding s || is_there t (step_row s)) Absent
    (unless (not (removing s && has_under t (step_row s))) Removal
    (Done (place_for t (step_row s)))))

-- ---- the table after a step
-- the row with that value
abbrev pub with_value : ℕ → Row → Row
with_value v r = record { device = r.device; at = r.at; up = r.up; deep = r.deep; name = r.name; value = v }

-- the first p rows, and those from row p on
abbrev pub first_rows : ℕ → List ℕ → List ℕ
first_rows p t = take (row_words * p) t

abbrev pub from_row : ℕ → List ℕ → List ℕ
from_row p t = drop (row_words * p) t

-- the row at that place with its value set, a row added there, and the row there removed
abbrev pub after_set : ℕ → ℕ → List ℕ → List ℕ
after_set p v t = first_rows p t ++ (columns_of (with_value v (row_at t p)) ++ from_row (suc p) t)

abbrev pub after_add : ℕ → Row → List ℕ → List ℕ
after_add p r t = first_rows p t ++ (columns_of r ++ from_row p t)

abbrev pub after_remove : ℕ → List ℕ → List ℕ
after_remove p t = first_rows p t ++ from_row (suc p) t

unfoldable pub table_after : List ℕ → List ℕ → List ℕ
table_after t s =
    let p = place_for t (step_row s) in
    cond (setting s) (after_set p (step_row s).value t) (cond (adding s) (after_add p (step_row s) t) (after_remove p t))

-- ---- the call: the number of words of the table after, or the refusal, 17 for a short output; and the place of the step's row, 0 where
-- 23 to 25 refuse it
abbrev pub change_answer : List ℕ → List ℕ → ℕ → Answer
change_answer t s room = and_then (step_place t s) (fitting (table_after t s) room)

abbrev pub refused_at : ℕ → Refusal → RefusedStep
refused_at row r = record { refusal = r; row = row }

abbrev pub change_with : ℕ → Answer → Result Change RefusedStep
change_with row (Done words) = Ok (record { words = words; row = row })
change_with row (Err r) = Err (refused_at row r)

abbrev pub changed : List ℕ → List ℕ → ℕ → Result Change RefusedStep
changed t s room = change_with (value (step_place t s)) (change_answer t s room)

abbrev pub change_out : List ℕ → List ℕ → List ℕ → List ℕ
change_out t s out = output (change_answer t s (length out)) (table_after t s) out

-- ---- the claims
-- in an accepted table a row is there exactly if some row has its device and at
abbrev pub ThereExactly : Type 0
ThereExactly = (t : List ℕ) (r : Row) → accepted_table t ≡ true → is_there t r ≡ some (λ i. same_row (row_at t i) r) (row_count t)

-- words that its kind doesn't need aren't looked at: a set needs device, at and value, a remove device and at
pub record SameNeeds (s s' : List ℕ) : Type 0 where
  pub long : length s ≡ length s'
  pub kind : kind_of s ≡ kind_of s'
  pub device : (step_row s).device ≡ (step_row s').device
  pub at : (step_row s).at ≡ (step_row s').at
  pub value : setting s ≡ true → (step_row s).value ≡ (step_row s').value

abbrev pub OnlyNeeded : Type 0
OnlyNeeded =
    (t s s' : List ℕ) → SameNeeds s s' → adding s ≡ false
    → (step_place t s ≡ step_place t s') × (is_done (step_place t s) ≡ true → table_after t s ≡ table_after t s')

-- a step that 23 to 25 let pass, on an accepted table: only the value of the row set changes; only that row is added, and it wasn't there
-- if the table after is accepted; only that row goes
pub record RowsAfter (t s : List ℕ) : Type 0 where
  pub set_one : setting s ≡ true
      → rows (table_after t s) ≡ map (λ r. cond (same_row r (step_row s)) (with_value (step_row s).value r) r) (rows t)
  pub added : adding s ≡ true → accepted_table (table_after t s) ≡ true
      → (step_row s ∈ rows (table_after t s)) × (rows t ≡ select (λ r. not (same_row r (step_row s))) (rows (table_after t s)))
  pub removed : removing s ≡ true → rows (table_after t s) ≡ select (λ r. not (same_row r (step_row s))) (rows t)

abbrev pub OnlyThatRow : Type 0
OnlyThatRow = (t s : List ℕ) → accepted_table t ≡ true → is_done (step_place t s) ≡ true → RowsAfter t s
