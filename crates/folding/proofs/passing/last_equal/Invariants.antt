-- `folding::passing::last_equal` meets its contract. Assumes nothing.
use Rattle.tables.specs.Links.{twin_hash}
use Rattle.tables.specs.Tables.{is_twin}
use Rattle.tables.proofs.Linked.{Seeks}
use Rattle.folding.specs.Passing.{ups, moved_at, hash_at}
use Rattle.folding.proofs.passing.last_equal.Given as goal

abbrev pub invariant-loop-at : goal.invariant-loop-at
invariant-loop-at l = Seeks (hash_at l.table (ups l.moves)) (λ j. is_twin l.r (moved_at l.table (ups l.moves) j)) (twin_hash l.r) l.i l.at

abbrev pub decreases-loop-at : goal.decreases-loop-at
decreases-loop-at l = l.at
