-- `tables::writing::put_words` meets its contract, by the laws of proofs/Writes.antt. Assumes nothing.
use Rattle.std.proofs.Common.{rules}
use Rattle.tables.proofs.Writes.{put_begin, put_room, put_more, put_end}
use native.Mathlib.Omega.{arith}
use Rattle.tables.proofs.writing.put_words.Goals as goal

pub loop-w-init : goal.loop-w-init
loop-w-init c = put_begin _ _ _ _ _ (search rules) c.args.format.has_column

pub put_word-p-requires : goal.put_word-p-requires
put_word-p-requires c = omega (arith, put_room _ _ _ _ _ _ _ _ c.loop-w.invariant c.loop-w-test.true _ c.may_sign.ensures c.requires)

pub bounds-out-p : goal.bounds-out-p
bounds-out-p c = let room = put_room _ _ _ _ _ _ _ _ c.loop-w.invariant c.loop-w-test.true _ c.may_sign.ensures c.requires in
    omega (arith, room, c.put_word-p.ensures.place, c.put_word-p.auto.out)

pub overflow_add-p : goal.overflow_add-p
overflow_add-p c = let room = put_room _ _ _ _ _ _ _ _ c.loop-w.invariant c.loop-w-test.true _ c.may_sign.ensures c.requires in
    omega (arith, room, c.put_word-p.ensures.place, c.loop-w.invariant.len)

pub column_after-column-requires : goal.column_after-column-requires
column_after-column-requires c = c.loop-w.invariant.column

pub loop-w-preserved : goal.loop-w-preserved
loop-w-preserved c = put_more _ _ _ _ _ _ _ _ c.loop-w.invariant c.loop-w-test.true _ c.may_sign.ensures _ _ _ _
    c.put_word-p.ensures.place c.put_word-p.ensures.bytes c.byte_after.ensures c.column_after-column.ensures.after c.column_after-column.ensures.bound

pub returns-clause-place : goal.returns-clause-place
returns-clause-place c = (put_end _ _ _ _ _ _ _ _ c.loop-w.invariant c.loop-w-test.false).0

pub returns-clause-bytes : goal.returns-clause-bytes
returns-clause-bytes c = (put_end _ _ _ _ _ _ _ _ c.loop-w.invariant c.loop-w-test.false).1
