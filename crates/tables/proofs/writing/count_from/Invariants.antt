-- `tables::writing::count_from` meets its contract, by the laws of proofs/Measures.antt. Assumes nothing.
use lib.Dec.{leb}
use Rattle.base.proofs.Counts.{Counted}
use Rattle.tables.proofs.writing.count_from.Given as goal

abbrev pub invariant-loop-w : goal.invariant-loop-w
invariant-loop-w l = Counted (λ w. leb l.from w) l.words l.count l.w-index
