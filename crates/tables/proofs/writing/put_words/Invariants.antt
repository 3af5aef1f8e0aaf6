-- `tables::writing::put_words` meets its contract, by the laws of proofs/Writes.antt. Assumes nothing.
use Rattle.tables.specs.Scans.{format_of}
use Rattle.tables.proofs.Writes.{Putting}
use Rattle.tables.proofs.writing.put_words.Given as goal

abbrev pub invariant-loop-w : goal.invariant-loop-w
invariant-loop-w l = Putting (format_of l.format) l.words l.initial.out l.at l.out l.p l.column l.w-index
