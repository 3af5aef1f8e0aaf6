-- `engine::touching::way_up` meets its contract. Assumes nothing.
use Rattle.engine.proofs.Ways.{climb_begin, climb_more, climb_end}
use Rattle.engine.proofs.touching.way_up.Goals as goal

pub loop-i-init : goal.loop-i-init
loop-i-init c = climb_begin _ c.requires.0 _ c.requires.1 c.row_at.ensures c.note_on_way.ensures

pub loop-i-preserved : goal.loop-i-preserved
loop-i-preserved c = climb_more _ c.requires.0 _ c.loop-i.invariant c.row_at-in-loop-i.ensures c.parent_of-i.ensures c.row_at-in-loop-i-2.ensures c.note_on_way-in-loop-i.ensures

pub invariant_of-result : goal.invariant_of-result
invariant_of-result c = record { up = climb_end _ c.requires.0 _ c.loop-i.invariant c.row_at-in-loop-i.ensures c.loop-i-test.false c.requires.1 }
