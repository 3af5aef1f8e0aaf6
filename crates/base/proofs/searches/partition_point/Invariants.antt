-- `base::searches::partition_point` meets its contract. Assumes nothing.
use Rattle.std.proofs.Common.{◌-◌, true, false, ◌<◌, ◌≤◌}
use Rattle.base.proofs.searches.partition_point.Given as goal

-- the test holds just before `from`, and fails at `to`
abbrev pub invariant-loop-from : goal.invariant-loop-from
invariant-loop-from g l =
    ((l.low ≤ l.from) × (l.from ≤ l.to) × (l.to ≤ l.high))
    × (l.low < l.from → goal.P-post g l.test (l.from - 1) true)
    × (l.to < l.high → goal.P-post g l.test l.to false)

abbrev pub decreases-loop-from : goal.decreases-loop-from
decreases-loop-from g l = l.to - l.from
