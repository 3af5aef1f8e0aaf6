-- `tables::writing::width` meets its contract, by the laws of proofs/Numbers.antt. Assumes nothing.
use Rattle.tables.proofs.Numbers.{Widths}
use Rattle.tables.proofs.writing.width.Given as goal

abbrev pub invariant-loop-n : goal.invariant-loop-n
invariant-loop-n l = Widths l.w l.n
