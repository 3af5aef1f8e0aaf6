-- `checker::counting::Judged::parts_count` meets its contract, by the summing law. Assumes nothing.
use native.Mathlib.Omega.{arith}
use Rattle.base.proofs.Sums.{sum_begin, sum_more, sum_end}
use Rattle.checker.specs.Report.{parts_count}
use Rattle.checker.proofs.counting.Judged.parts_count.Goals as goal

pub loop-row-init : goal.loop-row-init
loop-row-init c = sum_begin _ _ _

pub loop-row-preserved : goal.loop-row-preserved
loop-row-preserved c = sum_more _ _ _ _ _ c.loop-row.invariant (omega (arith, c.loop-row-test.true, c.row_count-row-end.ensures)) _ c.count_at-sum.ensures.0 c.count_at-sum.ensures.1

pub returns : goal.returns
unfolding parts_count
returns c = (
  sum_end _ _ _ _ _ c.loop-row.invariant (omega (arith, c.loop-row-test.false, c.row_count-row-end.ensures)),
  omega (arith, c.loop-row.invariant.small, c.loop-row.invariant.within, c.row_count-row-end.ensures),
)
