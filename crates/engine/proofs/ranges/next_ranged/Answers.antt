-- `engine::ranges::next_ranged` meets its contract. Assumes nothing.
use mathlib.Core.Path.{refl}
use Rattle.engine.proofs.Bound.{row_none, row_some}
use Rattle.engine.proofs.Ranged.{found_nothing, found_child}
use Rattle.engine.proofs.ranges.next_ranged.Goals as goal

pub returns-in-None : goal.returns-in-None
returns-in-None c = found_nothing c.args.pool.now c.args.b c.args.q.now c.args.run.start c.args.run.rows _ c.in-Under.variable c.in-Under.is
    (row_none _ c.row_of.ensures c.in-None.is) refl

pub returns-in-Some : goal.returns-in-Some
returns-in-Some c = found_child c.args.pool.now c.args.b c.args.q.now c.args.run.start c.args.run.rows _ c.in-Under.variable c.in-Under.is
    c.in-Some.parent (row_some _ c.row_of.ensures c.in-Some.is) _ c.row_at.ensures c.next_child.ensures
