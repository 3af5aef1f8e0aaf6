-- `tables::parents::scan_parents` meets its contract. Assumes nothing.
use borrow.Author.Rules.{rules}
use borrow.Author.Tests.{tests}
use Rattle.base.proofs.Ranges.{some_by_any}
use Rattle.tables.specs.Links.{fits_parent}
use Rattle.tables.proofs.parents.scan_parents.Goals as goal

pub returns : goal.returns
unfolding fits_parent
returns c = some_by_any _ _ _ _ _ c.any.ensures.ran (λ x b q k. search (rules, tests))
