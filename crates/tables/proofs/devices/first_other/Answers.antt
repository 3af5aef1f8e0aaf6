-- `tables::devices::first_other` meets its contract. Assumes nothing.
use borrow.Author.Rules.{rules}
use borrow.Author.Tests.{tests}
use Rattle.base.proofs.Ranges.{found_by_find}
use Rattle.tables.specs.Words.{row_count}
use Rattle.tables.specs.Tables.{other_device}
use Rattle.tables.proofs.Searches.{first_of}
use Rattle.tables.proofs.devices.first_other.Goals as goal

pub returns : goal.returns
returns c = first_of (other_device c.args.table.now) (row_count c.args.table.now) _
    (found_by_find _ _ _ _ _ c.find.ensures.ran (λ x b q k. search (rules, tests))) _ c.unwrap_or.ensures
