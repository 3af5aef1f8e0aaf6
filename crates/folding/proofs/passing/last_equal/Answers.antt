-- `folding::passing::last_equal` meets its contract. Assumes nothing.
use Rattle.std.proofs.Common.{sym, ◌∙◌}
use Rattle.tables.proofs.Linked.{seek_begin, seek_next, seek_falls}
use Rattle.tables.proofs.Siblings.{same_hash}
use Rattle.folding.specs.Passing.{ups, moved_at}
use Rattle.folding.proofs.passing.last_equal.Goals as goal

pub loop-at-init : goal.loop-at-init
loop-at-init c = seek_begin (λ j e. same_hash c.args.r (moved_at c.args.table.now (ups c.args.moves.now) j) e) _ c.requires.k_value

pub loop-at-smaller : goal.loop-at-smaller
loop-at-smaller c = rw c.from-at.ensures (seek_falls c.loop-at.invariant c.requires.linked c.loop-at-test.true)

pub loop-at-preserved : goal.loop-at-preserved
loop-at-preserved c = rw c.from-at.ensures (seek_next c.loop-at.invariant c.requires.linked c.loop-at-test.true (sym c.is_equal.ensures ∙ c.if-is_equal.false))
