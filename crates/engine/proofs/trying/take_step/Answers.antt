-- `engine::trying::take_step` meets its contract. Assumes nothing.
use mathlib.Core.List.{List}
use mathlib.Core.Path.{sym, ap, ◌∙◌}
use Prim.Native.Nat.{ℕ, ◌*◌}
use lib.ListN.{length}
use lib.Seq.{sets}
use Rattle.engine.proofs.Stepping.{room_for_bytes, bytes_there, bytes_taken, bytes_are}
use Rattle.engine.proofs.trying.take_step.Goals as goal

pub slice_bounds-copy_at-end : goal.slice_bounds-copy_at-end
slice_bounds-copy_at-end c = bytes_there c.args.set.now.rules.now c.args.set.now.counts.now c.args.next.now c.args.bytes.now
    (room_for_bytes _ _ _ _ _ _ _ _ c.args.set.now.accepted c.requires.changed) c.bring_up.ensures

pub slice_bounds-copy_at-end-2 : goal.slice_bounds-copy_at-end-2
slice_bounds-copy_at-end-2 c = sym (bytes_taken c.args.set.now.rules.now c.args.set.now.counts.now c.args.next.now c.args.bytes.now
    (room_for_bytes _ _ _ _ _ _ _ _ c.args.set.now.accepted c.requires.changed) c.bring_up.ensures)

pub returns-clause-verdicts_after : goal.returns-clause-verdicts_after
returns-clause-verdicts_after c = c.copy_at.ensures ∙ ap (λ (vs : List ℕ). sets c.args.verdicts.now (length c.args.set.now.counts.now * c.args.k) vs)
    (bytes_are c.args.set.now.rules.now c.args.set.now.counts.now c.args.next.now c.args.bytes.now (room_for_bytes _ _ _ _ _ _ _ _ c.args.set.now.accepted c.requires.changed) c.bring_up.ensures)
