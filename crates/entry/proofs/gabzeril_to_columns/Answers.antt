-- `entry::gabzeril_to_columns` meets its contract. Assumes nothing.
use mathlib.Core.Path.{ap, ◌∙◌}
use Rattle.entry.specs.Interface.{answered}
use Rattle.tables.specs.Answers.{Answer}
use Rattle.entry.proofs.gabzeril_to_columns.Goals as goal

pub returns-clause-answer : goal.returns-clause-answer
returns-clause-answer c = c.into.ensures ∙ ap (λ (a : Answer). answered a) c.to_columns.ensures.answer

pub returns-clause-words : goal.returns-clause-words
returns-clause-words c = c.to_columns.ensures.words
