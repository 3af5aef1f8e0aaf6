-- `parts::device::reads` and `sweep`, which call each other, meet their contracts. Assumes nothing.
use Prim.Native.Nat.{◌+◌}
use Rattle.engine.proofs.Falls.{entry_measure}
use Rattle.parts.proofs.device.+reads_sweep.Given as goal

abbrev pub decreases-reads : goal.decreases-reads
decreases-reads l = entry_measure l.q.now.rule.now l.q.now.device.table.now l.entry

abbrev pub decreases-sweep : goal.decreases-sweep
decreases-sweep l = entry_measure l.s.now.q.now.rule.now l.s.now.q.now.device.table.now l.s.now.body + l.rows + 1
