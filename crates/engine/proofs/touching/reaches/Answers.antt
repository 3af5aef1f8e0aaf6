-- `engine::touching::reaches` meets its contract. Assumes nothing.
use Rattle.engine.proofs.Answered.{start_ready}
use Rattle.engine.proofs.Reaching.{not_reached}
use Rattle.engine.proofs.touching.reaches.Goals as goal

pub touches-requires : goal.touches-requires
touches-requires c = start_ready _ _ c.requires.0 c.requires.1 c.none.ensures

pub returns : goal.returns
returns c = λ q. not_reached _ _ _ c.none.ensures (c.touches.ensures q)
