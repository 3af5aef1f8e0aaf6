-- `parts::keeping::keep_rows` meets its contract. The loop's invariant: it is known of the rows passed which of them stay. Assumes nothing.
use native.Mathlib.Omega.{arith}
use Rattle.tables.proofs.Accepted.{few_rows}
use Rattle.parts.proofs.Staying.{keeps_more}
use Rattle.parts.proofs.keeping.keep_rows.Goals as goal

pub bounds-kept-row : goal.bounds-kept-row
bounds-kept-row c = let few = few_rows c.args.table.now c.requires.one_device.accepted in omega (arith, c.loop-row.invariant.sized)

pub loop-row-preserved : goal.loop-row-preserved
loop-row-preserved c =
    let few = few_rows c.args.table.now c.requires.one_device.accepted in
    keeps_more c.loop-row.invariant (omega arith) c.stays.ensures
