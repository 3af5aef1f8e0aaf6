-- `tables::devices::from_device` meets its contract. Assumes nothing.
use lib.Dec.{leb}
use borrow.Author.Rules.{rules}
use borrow.Author.Tests.{tests}
use Rattle.base.proofs.Ranges.{found_by_find}
use Rattle.tables.specs.Words.{row_at, row_count}
use Rattle.tables.proofs.Searches.{first_of}
use Rattle.tables.proofs.devices.from_device.Goals as goal

pub returns : goal.returns
returns c = first_of (λ i. leb c.args.d (row_at c.args.t.now i).device) (row_count c.args.t.now) _
    (found_by_find _ _ _ _ _ c.find.ensures.ran (λ x b q k. search (rules, tests))) _ c.unwrap_or.ensures
