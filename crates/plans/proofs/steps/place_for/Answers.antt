-- `plans::steps::place_for` meets its contract. Assumes nothing.
use Rattle.std.proofs.Common.{◌∙◌, rules, tests}
use Rattle.base.proofs.Ranges.{first_or, found_by_find}
use Rattle.plans.proofs.steps.place_for.Goals as goal

pub returns : goal.returns
returns c = c.unwrap_or.ensures ∙ first_or _ _ (found_by_find _ _ _ _ _ c.find.ensures.ran (λ x b q k. search (rules, tests)))
