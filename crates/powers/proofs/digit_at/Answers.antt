-- `powers::digit_at` meets its contract, by the laws of proofs/Powers.antt. Assumes nothing.
use native.Mathlib.Omega.{arith}
use Rattle.powers.proofs.Powers.{subtract_begin, subtract_times, subtract_less, subtract_more, subtract_end}
use Rattle.powers.proofs.digit_at.Goals as goal

pub loop-rest-init : goal.loop-rest-init
loop-rest-init c = subtract_begin _ _ _ _ _ c.power-p.ensures (omega arith) (omega arith)

pub overflow_add-times : goal.overflow_add-times
overflow_add-times c = omega (arith, subtract_times _ _ _ _ _ c.loop-rest.invariant (omega (arith, c.loop-rest-test.true)))

pub loop-rest-smaller : goal.loop-rest-smaller
loop-rest-smaller c = subtract_less _ _ _ _ _ c.loop-rest.invariant (omega (arith, c.loop-rest-test.true))

pub loop-rest-preserved : goal.loop-rest-preserved
loop-rest-preserved c = subtract_more _ _ _ _ _ c.loop-rest.invariant (omega (arith, c.loop-rest-test.true))

pub returns-clause-digit : goal.returns-clause-digit
returns-clause-digit c = (let loop = c.loop-rest in
    let loop_test = c.loop-rest-test in
    subtract_end _ _ _ _ _ _ loop.invariant (omega (arith, loop_test.false)) (omega arith)
    (omega arith)).0

pub returns-clause-subtracted : goal.returns-clause-subtracted
returns-clause-subtracted c = (let loop = c.loop-rest in
    let loop_test = c.loop-rest-test in
    subtract_end _ _ _ _ _ _ loop.invariant (omega (arith, loop_test.false)) (omega arith)
    (omega arith)).1
