-- 02, wish 6: marks that can be relied on, "look here and nowhere else". Assumes nothing.
use Rattle.std.specs.Prelude.{ℕ, ◌≤◌, ◌<◌, ◌≡◌, true, List, length}
use Rattle.base.specs.Lists.{◌∈◌}
use Rattle.tables.specs.Words.{row_at, row_count}
use Rattle.tables.specs.Rules.{accepted_rule}
use Rattle.tables.specs.Tables.{accepted_table}
use Rattle.tables.specs.declared.Row.{Row}
use Rattle.sets.specs.Sets.{rules_of, accepted_set}
use Rattle.logic.specs.Verdict.{verdict_answer}
use Rattle.logic.specs.Demand.{SameVerdicts, Marked}

-- device, number, parent and name are kept; deep goes with the parents, by 26
pub record ButValue (r s : Row) : Type 0 where
  pub device_kept : s.device ≡ r.device
  pub at_kept : s.at ≡ r.at
  pub up_kept : s.up ≡ r.up
  pub name_kept : s.name ≡ r.name

-- table s is table t with values of unmarked rows changed: wherever the call for marks on t writes 1, the value is kept, too
pub record UnmarkedChanged (rule t out s : List ℕ) : Type 0 where
  pub as_many : row_count s ≡ row_count t
  pub but_value : (i : ℕ) → i < row_count t → ButValue (row_at t i) (row_at s i)
  pub value_kept : (i : ℕ) → i < row_count t → Marked rule t out i → (row_at s i).value ≡ (row_at t i).value

-- the claim: where both tables are accepted, the verdict is the same as before, true or false; the marks are those of t alone, in any
-- buffer that is long enough
abbrev pub MarksSuffice : Type 0
MarksSuffice =
    (rule t s out : List ℕ) → accepted_rule rule ≡ true → accepted_table t ≡ true → accepted_table s ≡ true → row_count t ≤ length out
    → UnmarkedChanged rule t out s → verdict_answer rule s ≡ verdict_answer rule t

-- and for a set, where no rule of it marks a row whose value is changed: the same answer and bytes
abbrev pub SetMarksSuffice : Type 0
SetMarksSuffice =
    (rules counts t s out : List ℕ) → accepted_set rules counts ≡ true → accepted_table t ≡ true → accepted_table s ≡ true
    → row_count t ≤ length out → ((rule : List ℕ) → rule ∈ rules_of rules counts → UnmarkedChanged rule t out s)
    → SameVerdicts rules counts s t
