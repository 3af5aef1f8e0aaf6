-- `tables::reading::scan_all` meets its contract, by the laws of proofs/Scans.antt. Assumes nothing.
use Rattle.tables.specs.Scans.{format_of}
use Rattle.tables.proofs.Scans.{Scanning}
use Rattle.tables.proofs.reading.scan_all.Given as goal

abbrev pub invariant-loop-b : goal.invariant-loop-b
invariant-loop-b l = Scanning (format_of l.format) l.bytes l.s l.b-index
