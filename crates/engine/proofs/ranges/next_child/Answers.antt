-- `engine::ranges::next_child` meets its contract. Assumes nothing.
use borrow.Author.Rules.{rules}
use Rattle.std.proofs.Common.{tests}
use Rattle.base.proofs.Ranges.{found_by_find}
use Rattle.engine.proofs.ranges.next_child.Goals as goal

pub returns : goal.returns
returns c = found_by_find _ _ _ _ _ c.find.ensures.ran (λ x b q k. search (rules, tests))
