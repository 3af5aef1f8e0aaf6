-- `engine::trying::try_step` meets its contract. Assumes nothing.
use Rattle.std.proofs.Common.{rules, Err, ◌≡◌}
use Prim.Native.Nat.{ℕ}
use mathlib.Core.Path.{sym}
use lib.ListN.{length-replicate}
use lib.Seq.{length-take-le}
use Rattle.engine.proofs.Stepping.{next_words, step_refused, long_inside, room_refuses, room_there, changed_so, step_taken}
use Rattle.engine.proofs.trying.try_step.Goals as goal

pub slice_bounds-apply-end : goal.slice_bounds-apply-end
slice_bounds-apply-end c = c.requires.words_inside

pub slice_bounds-apply-end-2 : goal.slice_bounds-apply-end-2
slice_bounds-apply-end-2 c = sym (length-take-le _ c.args.table.now c.requires.words_inside)

pub slice_bounds-apply-end-3 : goal.slice_bounds-apply-end-3
slice_bounds-apply-end-3 c = sym (length-replicate {A = ℕ} next_words 0)

pub slice_bounds-next-end : goal.slice_bounds-next-end
slice_bounds-next-end c = long_inside c.args.set.now.rules.now c.args.set.now.counts.now c.args.set.now.accepted c.args.k c.args.words c.args.step.now c.args.table.now c.args.bytes.now c.args.verdicts.now c.requires c.apply.ensures.change c.in-Ok.is
    c.apply.ensures.words

pub slice_bounds-check_room-end : goal.slice_bounds-check_room-end
slice_bounds-check_room-end c = sym (length-take-le _ _ (long_inside c.args.set.now.rules.now c.args.set.now.counts.now c.args.set.now.accepted c.args.k c.args.words c.args.step.now c.args.table.now c.args.bytes.now c.args.verdicts.now c.requires c.apply.ensures.change
    c.in-Ok.is c.apply.ensures.words))

pub check_room-requires : goal.check_room-requires
check_room-requires c = c.requires.bytes_inside

pub returns-in_err-check_room-in-Ok : goal.returns-in_err-check_room-in-Ok
returns-in_err-check_room-in-Ok c =
    let e : c.from_residual.result ≡ Err c.in_err-check_room-in-Ok.field-0.0 = search rules in
    rw e (room_refuses c.args.set.now.rules.now c.args.set.now.counts.now c.args.set.now.accepted c.args.k c.args.words c.args.step.now c.args.table.now c.args.bytes.now c.args.verdicts.now c.requires c.apply.ensures.change c.in-Ok.is
    c.apply.ensures.words c.check_room.ensures c.in_err-check_room-in-Ok.was)

pub slice_bounds-next-end-in-Ok : goal.slice_bounds-next-end-in-Ok
slice_bounds-next-end-in-Ok c = long_inside c.args.set.now.rules.now c.args.set.now.counts.now c.args.set.now.accepted c.args.k c.args.words c.args.step.now c.args.table.now c.args.bytes.now c.args.verdicts.now c.requires c.apply.ensures.change c.in-Ok.is
    c.apply.ensures.words

pub slice_bounds-take_step-end : goal.slice_bounds-take_step-end
slice_bounds-take_step-end c = sym (length-take-le _ _ (long_inside c.args.set.now.rules.now c.args.set.now.counts.now c.args.set.now.accepted c.args.k c.args.words c.args.step.now c.args.table.now c.args.bytes.now c.args.verdicts.now c.requires c.apply.ensures.change
    c.in-Ok.is c.apply.ensures.words))

pub take_step-requires-clause-words_in_bounds : goal.take_step-requires-clause-words_in_bounds
take_step-requires-clause-words_in_bounds c = c.requires.words_inside

pub take_step-requires-clause-changed : goal.take_step-requires-clause-changed
take_step-requires-clause-changed c = changed_so c.args.set.now.rules.now c.args.set.now.counts.now c.args.set.now.accepted c.args.k c.args.words c.args.step.now c.args.table.now c.args.bytes.now c.args.verdicts.now c.requires c.apply.ensures.change
    c.in-Ok.is c.apply.ensures.words c.check_room.ensures c.in_ok-check_room-in-Ok.was

pub take_step-requires-clause-next_in_bounds : goal.take_step-requires-clause-next_in_bounds
take_step-requires-clause-next_in_bounds c = room_there c.args.set.now.rules.now c.args.set.now.counts.now c.args.set.now.accepted c.args.k c.args.words c.args.step.now c.args.table.now c.args.bytes.now c.args.verdicts.now c.requires c.apply.ensures.change c.in-Ok.is c.apply.ensures.words
    c.check_room.ensures c.in_ok-check_room-in-Ok.was

pub returns-in-Err : goal.returns-in-Err
returns-in-Err c = step_refused c.args.set.now.rules.now c.args.set.now.counts.now c.args.set.now.accepted c.args.k c.args.words c.args.step.now c.args.table.now c.args.bytes.now c.args.verdicts.now c.requires c.apply.ensures.change c.in-Err.is

pub returns-in_ok-check_room-in-Ok : goal.returns-in_ok-check_room-in-Ok
returns-in_ok-check_room-in-Ok c = step_taken c.args.set.now.rules.now c.args.set.now.counts.now c.args.set.now.accepted c.args.k c.args.words c.args.step.now c.args.table.now c.args.bytes.now c.args.verdicts.now c.requires c.apply.ensures.change c.in-Ok.is
    c.apply.ensures.words c.check_room.ensures c.in_ok-check_room-in-Ok.was c.take_step.ensures.table_after c.take_step.ensures.bytes_after
    c.take_step.ensures.verdicts_after
