-- `plans::steps::has_under` meets its contract. Assumes nothing.
use Rattle.std.proofs.Common.{rules, tests}
use Rattle.base.proofs.Ranges.{some_by_any}
use Rattle.plans.proofs.steps.has_under.Goals as goal

pub returns : goal.returns
returns c = some_by_any _ _ _ _ _ c.any.ensures.ran (λ x b q k. search (rules, tests))
