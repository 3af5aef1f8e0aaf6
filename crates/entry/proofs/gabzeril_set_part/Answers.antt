-- `entry::gabzeril_set_part` meets its contract. Assumes nothing.
use mathlib.Core.Path.{ap, ◌∙◌}
use Rattle.entry.specs.Interface.{answered}
use Rattle.tables.specs.Answers.{Answer}
use Rattle.entry.proofs.gabzeril_set_part.Goals as goal

pub returns-clause-answer : goal.returns-clause-answer
returns-clause-answer c = c.into.ensures ∙ ap (λ (a : Answer). answered a) c.set_part.ensures.answer

pub returns-clause-words : goal.returns-clause-words
returns-clause-words c = c.set_part.ensures.words
