-- `powers::digit_at` meets its contract, by the laws of proofs/Powers.antt. Assumes nothing.
use Rattle.powers.proofs.Powers.{Subtracting}
use Rattle.powers.proofs.digit_at.Given as goal

abbrev pub invariant-loop-rest : goal.invariant-loop-rest
invariant-loop-rest l = Subtracting l.v l.i l.p l.times l.rest

abbrev pub decreases-loop-rest : goal.decreases-loop-rest
decreases-loop-rest l = l.rest
