-- A step as the code reads it, once. Assumes nothing.
use Rattle.std.specs.Prelude.{ℕ, ◌≡◌, true, not, cond, ◌&&◌, ◌||◌, List, eqb, Option, Some, None}
use Rattle.tables.specs.Answers.{unless}
use Rattle.tables.specs.Answers.{Answer, Done}
use Rattle.tables.specs.declared.refusals.Fault.TheVariants.{Absent, Removal}
use Rattle.plans.specs.Plans.{kind_of, is_step, step_row, place_for, is_there, has_under, after_set, after_add, after_remove}
use Rattle.plans.specs.declared.steps.StepKind.{StepKind}
use Rattle.plans.specs.declared.steps.StepKind.TheVariants.{Set, Add, Remove}
use Rattle.plans.specs.declared.steps.Step.{Step}

abbrev pub number_of : StepKind → ℕ
number_of Set = 1
number_of Add = 2
number_of Remove = 3

-- the kind that a word stands for
abbrev pub kind_in : ℕ → Option StepKind
kind_in w = cond (eqb w 1) (Some Set) (cond (eqb w 2) (Some Add) (cond (eqb w 3) (Some Remove) None))

-- words are that step's: none lack, and their kind is known
pub record IsRead (s : List ℕ) (step : Step) : Type 0 where
  pub is_a_step : is_step s ≡ true
  pub kind : kind_of s ≡ number_of step.kind
  pub row : step.row ≡ step_row s

-- 24 and 25 of a step, or the place of its row
abbrev pub place_of : List ℕ → Step → Answer
place_of t step =
    unless (eqb (number_of step.kind) 2 || is_there t step.row) Absent
    (unless (not (eqb (number_of step.kind) 3 && has_under t step.row)) Removal
    (Done (place_for t step.row)))

-- the table after a step whose row has place p
abbrev pub after_step : List ℕ → Step → ℕ → List ℕ
after_step t step p = after_kind step.kind
  where
    after_kind : StepKind → List ℕ
    after_kind Set = after_set p step.row.value t
    after_kind Add = after_add p step.row t
    after_kind Remove = after_remove p t
