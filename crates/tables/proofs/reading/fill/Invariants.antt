-- `tables::reading::fill` meets its contract, by the laws of proofs/Stores.antt. Assumes nothing.
use Rattle.tables.proofs.Stores.{Storing}
use Rattle.tables.proofs.reading.fill.Given as goal

abbrev pub invariant-loop-b : goal.invariant-loop-b
invariant-loop-b l = Storing l.bytes l.initial.out l.n l.out l.b-index
