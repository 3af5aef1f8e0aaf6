-- `engine::ranges::is_named` meets its contract. Assumes nothing.
use Rattle.logic.proofs.Names.{name_test}
use borrow.Author.Rules.{rules}
use Rattle.engine.proofs.ranges.is_named.Goals as goal

pub returns : goal.returns
returns c = search (rules, name_test)
