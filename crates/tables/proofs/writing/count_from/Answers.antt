-- `tables::writing::count_from` meets its contract, by the laws of proofs/Measures.antt. Assumes nothing.
use lib.ListN.{get_or}
use lib.Dec.{leb}
use Rattle.base.proofs.Counts.{count_begin, count_end}
use Rattle.tables.proofs.Measures.{byte_le, count_more}
use native.Mathlib.Omega.{arith}
use Rattle.tables.proofs.writing.count_from.Goals as goal

pub loop-w-init : goal.loop-w-init
loop-w-init c = count_begin _ _

pub overflow_add-count : goal.overflow_add-count
overflow_add-count c = omega (arith, c.loop-w.invariant.few, byte_le (leb c.args.from (get_or c.args.words.now c.loop-w.w-index 0)))

pub loop-w-preserved : goal.loop-w-preserved
loop-w-preserved c = count_more _ _ _ _ _ c.loop-w.invariant c.loop-w-test.true c.from-count.ensures

pub returns : goal.returns
returns c = count_end _ _ _ _ c.loop-w.invariant c.loop-w-test.false
