-- `folding::writing::count_left` meets its contract. Assumes nothing.
use Rattle.base.proofs.Sums.{Summed}
use Rattle.folding.specs.Passing.{intos, is_left}
use Rattle.folding.proofs.writing.count_left.Given as goal

abbrev pub invariant-loop-i : goal.invariant-loop-i
invariant-loop-i l = Summed (is_left (intos l.moves)) 1 l.n l.i l.left
