-- `tables::writing::plain_fits` meets its contract, by the laws of proofs/Measures.antt. Assumes nothing.
use Rattle.tables.proofs.Measures.{Measuring}
use Rattle.tables.proofs.writing.plain_fits.Given as goal

abbrev pub invariant-loop-n : goal.invariant-loop-n
invariant-loop-n l = Measuring l.words l.bytes l.n
