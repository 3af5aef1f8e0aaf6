-- `folding::writing::count_left` meets its contract. Assumes nothing.
use Rattle.std.proofs.Common.{◌+◌, ◌≡◌, arith, subst}
use Rattle.base.proofs.Sums.{Summed, sum_begin, sum_more}
use Rattle.folding.specs.Passing.{intos, is_left}
use Rattle.folding.proofs.Left.{left_if}
use Rattle.folding.proofs.writing.count_left.Goals as goal
use Rattle.folding.proofs.writing.count_left.Goals.{then-stays, else-stays}

pub loop-i-init : goal.loop-i-init
loop-i-init c = sum_begin _ _ _

pub loop-i-preserved : goal.loop-i-preserved
loop-i-preserved c =
    let more = sum_more (is_left (intos c.args.moves.now)) 1 c.args.n c.loop-i.i c.loop-i.left c.loop-i.invariant c.loop-i-test.true in
    elim c.if-stays.branch [
      | then-stays w ↦ rw w.left-is (more 1 (left_if c.args.moves.now c.loop-i.i c.stays.ensures w.if-stays.true) (omega arith))
      | else-stays w ↦
          let none : c.loop-i.left + 0 ≡ c.if-stays.left = omega (arith, w.left-is) in
          subst (Summed (is_left (intos c.args.moves.now)) 1 c.args.n (c.loop-i.i + 1)) none
          (more 0 (left_if c.args.moves.now c.loop-i.i c.stays.ensures w.if-stays.false) (omega arith))
    ]
