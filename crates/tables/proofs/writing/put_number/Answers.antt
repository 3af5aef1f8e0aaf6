-- `tables::writing::put_number` meets its contract, by the laws of proofs/Numbers.antt. Assumes nothing.
use native.Mathlib.Omega.{arith}
use Rattle.tables.proofs.Digits.{text_pos}
use Rattle.tables.proofs.Numbers.{place_begin, place_room, place_nine, place_more, place_last, place_end}
use Rattle.tables.proofs.writing.put_number.Goals as goal

pub loop-i-init : goal.loop-i-init
loop-i-init c = place_begin _ _ _ (omega arith) _ (omega (arith, c.width-i.ensures.0, text_pos c.args.w))

pub overflow_cast-out : goal.overflow_cast-out
overflow_cast-out c = omega (arith, c.digit_at-digit.ensures.subtracted.nine (place_nine _ _ _ (omega arith) _ _ _ _ c.loop-i.invariant))

pub bounds-out-p : goal.bounds-out-p
bounds-out-p c = omega (arith, place_room _ _ _ (omega arith) _ _ _ _ c.loop-i.invariant c.requires)

pub loop-i-preserved : goal.loop-i-preserved
loop-i-preserved c = place_more _ _ _ (omega arith) _ _ _ _ _ _ c.loop-i.invariant (omega (arith, c.loop-i-test.true))
    c.digit_at-digit.ensures.subtracted.whole c.digit_at-digit.ensures.subtracted.below
    (c.digit_at-digit.ensures.subtracted.nine (place_nine _ _ _ (omega arith) _ _ _ _ c.loop-i.invariant))

pub overflow_cast-out-2 : goal.overflow_cast-out-2
overflow_cast-out-2 c = omega (arith, place_last _ _ _ (omega arith) _ _ _ _ c.loop-i.invariant (omega arith))

pub overflow_add-out-2 : goal.overflow_add-out-2
overflow_add-out-2 c = omega (arith, place_last _ _ _ (omega arith) _ _ _ _ c.loop-i.invariant (omega arith))

pub bounds-out-p-2 : goal.bounds-out-p-2
bounds-out-p-2 c = omega (arith, place_room _ _ _ (omega arith) _ _ _ _ c.loop-i.invariant c.requires)

pub returns-clause-bytes : goal.returns-clause-bytes
returns-clause-bytes c = place_end _ _ _ (omega arith) _ _ _ _ c.loop-i.invariant (omega arith)
