-- What the code that writes the table after a step rests on; cited by private contracts alone. Assumes nothing.
use Rattle.std.specs.Prelude.{ℕ, ◌<◌, ◌≤◌, ◌≡◌, List, ◌++◌, take, drop}
use Rattle.tables.specs.Words.{row_count}
use Rattle.plans.specs.Steps.{number_of}
use Rattle.plans.specs.declared.steps.Step.{Step}

-- the first words of a table, others, and the table's from some word on
abbrev pub spliced : List ℕ → ℕ → List ℕ → ℕ → List ℕ
spliced t before middle behind = take before t ++ (middle ++ drop behind t)

-- the place is one of the table, and that of a row to set or remove is a row's
pub record StepPlaced (t : List ℕ) (step : Step) (place : ℕ) : Type 0 where
  pub within : place ≤ row_count t
  pub there : (number_of step.kind ≡ 2 → ⊥) → place < row_count t
