use Rattle.std.proofs.Common.{rules, tests}
use Rattle.base.proofs.Ranges.{found_by_find}
use Rattle.templates.proofs.first_lacking.Goals as goal

pub returns : goal.returns
returns c = found_by_find _ _ _ _ _ c.find.ensures.ran (λ x b q k. search (rules, tests))
