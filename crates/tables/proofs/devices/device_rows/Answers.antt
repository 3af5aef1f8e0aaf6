-- `tables::devices::device_rows` meets its contract. Assumes nothing.
use borrow.Author.Rules.{rules}
use Rattle.tables.proofs.devices.device_rows.Goals as goal

pub returns : goal.returns
returns c = rw (← c.device_span-s.ensures.start_is, ← c.device_span-s.ensures.end_is) (search rules)
