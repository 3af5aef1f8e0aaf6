-- `entry::gabzeril_verdict` meets its contract. Assumes nothing.
use mathlib.Core.Path.{ap, ◌∙◌}
use Rattle.entry.specs.Interface.{answered}
use Rattle.tables.specs.Answers.{Answer}
use Rattle.entry.proofs.gabzeril_verdict.Goals as goal

pub returns : goal.returns
returns c = c.into.ensures ∙ ap (λ (a : Answer). answered a) c.verdict.ensures
