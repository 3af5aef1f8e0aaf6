-- `engine::parents::guessed_parent` meets its contract. Assumes nothing.
use mathlib.Core.Path.{sym, ap₂, ◌∙◌}
use Rattle.tables.specs.Tables.{is_parent}
use Rattle.engine.proofs.parents.guessed_parent.Goals as goal

pub returns-then-is_parent : goal.returns-then-is_parent
returns-then-is_parent c = (c.if-guess-row.true, ap₂ is_parent (sym c.row_at.ensures) (sym c.row_at-then-guess-row.ensures) ∙ sym c.is_parent.ensures ∙ c.if-is_parent.true)
