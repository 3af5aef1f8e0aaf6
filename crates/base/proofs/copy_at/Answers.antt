-- `base::copy_at` meets its contract. Assumes nothing.
use Prim.Native.Nat.{◌+◌}
use mathlib.Core.Path.{subst, sym}
use lib.ListN.{set}
use Rattle.std.proofs.Common.{arith}
use Rattle.base.proofs.Copies.{Copying, copy_begin, copy_next, copy_end}
use Rattle.base.proofs.copy_at.Goals as goal

pub loop-i-init : goal.loop-i-init
loop-i-init g c = copy_begin _ _ _

pub loop-i-preserved : goal.loop-i-preserved
loop-i-preserved g c =
    let t = c.loop-i in
    subst (λ x. Copying c.args.items.now c.args.buffer.now c.args.at (set t.buffer (c.args.at + t.i) x) (t.i + 1)) (sym c.index-items-i.is)
    (copy_next _ _ _ _ t.buffer t.i t.invariant (omega arith))

pub returns : goal.returns
returns g c = copy_end _ _ _ c.loop-i.buffer c.loop-i.i c.loop-i.invariant (omega arith)
