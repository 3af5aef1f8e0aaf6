-- `tables::writing::width` meets its contract, by the laws of proofs/Numbers.antt. Assumes nothing.
use native.Mathlib.Omega.{arith}
use Rattle.tables.proofs.Numbers.{width_begin, width_more, width_found, width_end}
use Rattle.tables.proofs.writing.width.Goals as goal

pub loop-n-init : goal.loop-n-init
loop-n-init c = width_begin _ (omega arith)

pub returns-then-w-power : goal.returns-then-w-power
returns-then-w-power c =
    (width_found _ (omega arith) _ _ c.loop-n.invariant c.loop-n-test.true c.power.ensures c.if-w-power.true, c.loop-n.invariant.high)

pub loop-n-preserved : goal.loop-n-preserved
loop-n-preserved c = width_more _ (omega arith) _ _ c.loop-n.invariant c.loop-n-test.true c.power.ensures c.if-w-power.false

pub returns : goal.returns
returns c = omega (arith, c.loop-n.invariant.high, width_end _ (omega arith) _ c.loop-n.invariant c.loop-n-test.false)
