-- 02: deep is the number of rows that the row hangs under. Assumes nothing.
use Rattle.std.specs.Prelude.{ℕ, ◌≤◌, ◌<◌, ◌≡◌, true, length}
use mathlib.Core.List.{List, Nodup}
use Rattle.base.specs.Lists.{◌∈◌}
use Rattle.tables.specs.Words.{row_at, row_count, rows}
use Rattle.tables.specs.Tables.{check_table, accepted_table}
use Rattle.tables.specs.declared.Row.{Row}
use Rattle.tables.specs.Answers.{Refused}
use Rattle.logic.specs.Parts.{ancestors}
use Rattle.logic.specs.Demand.{Under}
use Rattle.tables.specs.declared.Fault.TheVariants.{Depth}

-- the list has the rows of D that r hangs under, each once
pub record HangsUnder (D : List Row) (r : Row) (xs : List Row) : Type 0 where
  pub each_once : Nodup xs
  pub hangs : (s : Row) → s ∈ xs → Under D r s
  pub all_of_them : (s : Row) → Under D r s → s ∈ xs

-- deep of row i is the number of rows that it hangs under
abbrev pub RightDepth : List ℕ → ℕ → Type 0
RightDepth t i = (row_at t i).deep ≡ length (ancestors (rows t) (row_at t i))

-- so at row i, and all of them stand before it
pub record DeepAt (t : List ℕ) (i : ℕ) : Type 0 where
  pub above : HangsUnder (rows t) (row_at t i) (ancestors (rows t) (row_at t i))
  pub counted : RightDepth t i
  pub before : (s : Row) → Under (rows t) (row_at t i) s → (j : ℕ) × (j < i) × (s ≡ row_at t j)
  pub at_most : (row_at t i).deep ≤ i

-- the first row at which it is not so is row i
pub record FirstWrong (t : List ℕ) (i : ℕ) : Type 0 where
  pub inside : i < row_count t
  pub wrong : ¬ (RightDepth t i)
  pub right_before : (j : ℕ) → j < i → RightDepth t j

-- the claim: an accepted table has right depths, and 26 is given at the first row that has not
pub record DepthCounts : Type 0 where
  pub accepted : (t : List ℕ) → accepted_table t ≡ true → (i : ℕ) → i < row_count t → DeepAt t i
  pub refused : (t : List ℕ) (i : ℕ) → check_table t ≡ Refused Depth i → FirstWrong t i
