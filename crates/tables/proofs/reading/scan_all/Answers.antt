-- `tables::reading::scan_all` meets its contract, by the laws of proofs/Scans.antt. Assumes nothing.
use native.Mathlib.Omega.{arith}
use Rattle.tables.proofs.Scans.{scan_begin, scan_more, scan_end}
use Rattle.tables.proofs.reading.scan_all.Goals as goal

pub loop-b-init : goal.loop-b-init
loop-b-init c = scan_begin _ _ _ c.at_start-s.ensures c.args.format.has_column

pub step-requires-clause-line_bound : goal.step-requires-clause-line_bound
step-requires-clause-line_bound c = omega (arith, c.loop-b.invariant.line_le, c.loop-b.invariant.count_le)

pub loop-b-preserved : goal.loop-b-preserved
loop-b-preserved c = scan_more _ _ _ _ _ c.loop-b.invariant c.loop-b-test.true c.step.ensures

pub returns : goal.returns
returns c = scan_end _ _ _ _ c.loop-b.invariant c.loop-b-test.false
