-- `tables::twins::is_like` meets its contract. Assumes nothing.
use Rattle.tables.specs.Links.{is_like}
use borrow.Author.Rules.{rules}
use Rattle.tables.proofs.twins.is_like.Goals as goal

pub returns : goal.returns
returns c = unfold is_like in search rules
