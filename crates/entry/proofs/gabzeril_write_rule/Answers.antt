-- `entry::gabzeril_write_rule` meets its contract. Assumes nothing.
use mathlib.Core.Path.{ap, ◌∙◌}
use Rattle.entry.specs.Interface.{answered}
use Rattle.tables.specs.Answers.{Answer}
use Rattle.entry.proofs.gabzeril_write_rule.Goals as goal

pub returns-clause-answer : goal.returns-clause-answer
returns-clause-answer c = c.into.ensures ∙ ap (λ (a : Answer). answered a) c.write_rule.ensures.answer

pub returns-clause-bytes : goal.returns-clause-bytes
returns-clause-bytes c = c.write_rule.ensures.bytes
