-- `base::copy_at` meets its contract. Assumes nothing.
use Rattle.base.proofs.Copies.{Copying}
use Rattle.base.proofs.copy_at.Given as goal

abbrev pub invariant-loop-i : goal.invariant-loop-i
invariant-loop-i g l = Copying l.items l.initial.buffer l.at l.buffer l.i
