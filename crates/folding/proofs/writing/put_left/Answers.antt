-- `folding::writing::put_left` meets its contract. Assumes nothing.
use Rattle.folding.proofs.Left.{write_begin, row_room, write_more}
use Rattle.folding.proofs.writing.put_left.Goals as goal

pub loop-i-init : goal.loop-i-init
loop-i-init c = write_begin _ _ _ _ _

pub put_row-at-requires-clause-i_in_bounds : goal.put_row-at-requires-clause-i_in_bounds
put_row-at-requires-clause-i_in_bounds c = row_room _ _ _ _ _ c.loop-i.invariant c.loop-i-test.true c.requires.room

pub loop-i-preserved : goal.loop-i-preserved
loop-i-preserved c = write_more _ _ _ _ _ c.loop-i.invariant c.loop-i-test.true c.put_row-at.ensures.out_after c.put_row-at.ensures.value
