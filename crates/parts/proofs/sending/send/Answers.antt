-- `parts::sending::send` meets its contract. Assumes nothing.
use native.Mathlib.Omega.{arith}
use mathlib.Core.Path.{refl}
use Rattle.parts.proofs.Sent.{send_begin, row_room, send_taken, send_skipped, send_end}
use Rattle.parts.proofs.sending.send.Goals.{then-stays, else-stays}
use Rattle.parts.proofs.sending.send.Goals as goal

pub loop-row-init : goal.loop-row-init
loop-row-init c = send_begin c.args.table.now c.args.kept.now c.args.out.now c.requires.room

pub copy_at-requires : goal.copy_at-requires
copy_at-requires c = row_room _ _ _ c.loop-row.invariant c.loop-row-test.true c.if-stays.true (omega arith) refl

pub loop-row-preserved : goal.loop-row-preserved
loop-row-preserved c = elim c.if-stays.branch [
  | then-stays w ↦ rw (w.out-is, w.at-is) (send_taken _ _ _ c.loop-row.invariant c.loop-row-test.true w.if-stays.true (omega arith) refl w.copy_at.ensures)
  | else-stays w ↦ rw (w.out-is, w.at-is) (send_skipped _ _ _ c.loop-row.invariant c.loop-row-test.true w.if-stays.false)
]

pub returns : goal.returns
returns c = send_end _ _ _ c.loop-row.invariant c.loop-row-test.false
