-- `tables::writing::signed_fits` meets its contract, by the laws of proofs/Measures.antt. Assumes nothing.
use Rattle.tables.specs.Scans.{format_of}
use Rattle.tables.proofs.Measures.{Fitting}
use Rattle.tables.proofs.writing.signed_fits.Given as goal

abbrev pub invariant-loop-w : goal.invariant-loop-w
invariant-loop-w l = Fitting (format_of l.format) l.words l.room l.left l.column l.w-index
