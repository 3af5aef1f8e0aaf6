-- `tables::twins::scan_twins` meets its contract. Assumes nothing.
use borrow.Author.Rules.{rules}
use borrow.Author.Tests.{tests}
use Rattle.base.proofs.Ranges.{some_by_any}
use Rattle.tables.proofs.twins.scan_twins.Goals as goal

pub returns : goal.returns
returns c = some_by_any _ _ _ _ _ c.any.ensures.ran (λ x b q k. search (rules, tests))
