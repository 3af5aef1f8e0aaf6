-- `engine::touching::way_up` meets its contract. Assumes nothing.
use Rattle.engine.proofs.Ways.{Climbed}
use Rattle.engine.proofs.touching.way_up.Given as goal

abbrev pub invariant-loop-i : goal.invariant-loop-i
invariant-loop-i l = Climbed l.pool l.row l.rows l.i

abbrev pub decreases-loop-i : goal.decreases-loop-i
decreases-loop-i l = l.i
