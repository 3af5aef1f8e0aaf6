-- `tables::writing::plain_fits` meets its contract, by the laws of proofs/Measures.antt. Assumes nothing.
use Prim.Native.Nat.{ℕ}
use mathlib.Core.Path.{ap}
use lib.Dec.{leb}
use Rattle.base.proofs.Lists.{length_select}
use Rattle.tables.proofs.Measures.{measure_begin, measure_over, measure_plenty, measure_more, measure_end}
use native.Mathlib.Omega.{arith}
use Rattle.tables.proofs.writing.plain_fits.Goals as goal

pub loop-n-init : goal.loop-n-init
loop-n-init c = measure_begin _ _ (omega arith)

pub returns-then-room-bytes : goal.returns-then-room-bytes
returns-then-room-bytes c = measure_over _ _ _ _ c.loop-n.invariant c.if-room-bytes.true

pub returns-then-wider-room : goal.returns-then-wider-room
returns-then-wider-room c = measure_plenty _ _ _ _ _ c.loop-n.invariant c.loop-n-test.true c.power.ensures c.count_from-wider.ensures _ c.if-room-bytes.false (omega (arith, c.if-wider-room.true))

pub overflow_add-bytes : goal.overflow_add-bytes
overflow_add-bytes c = omega (arith, c.count_from-wider.ensures, length_select (λ w. leb c.power.result w) c.args.words.now, c.if-room-bytes.false)

pub loop-n-preserved : goal.loop-n-preserved
loop-n-preserved c = measure_more _ _ _ _ _ c.loop-n.invariant c.loop-n-test.true c.power.ensures c.count_from-wider.ensures

pub returns : goal.returns
returns c = ap (λ (n : ℕ). leb n c.args.room) (measure_end _ _ _ c.loop-n.invariant c.loop-n-test.false)
