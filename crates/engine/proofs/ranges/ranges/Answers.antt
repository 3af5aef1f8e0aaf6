-- `engine::ranges::ranges` meets its contract. Assumes nothing.
use mathlib.Core.Path.{◌∙◌}
use Rattle.engine.proofs.Bound.{row_none, row_some}
use Rattle.engine.proofs.Ranged.{over_root, under_nothing, under_row}
use Rattle.engine.proofs.ranges.ranges.Goals.{in-Roots, in-Under+in-None, in-Under+in-Some}
use Rattle.engine.proofs.ranges.ranges.Goals as goal

pub returns : goal.returns
returns c =
    elim c.match-q.branch [
      | in-Roots w ↦ over_root _ c.args.b c.args.q.now c.args.row _ c.row_at-r.ensures _ _ c.is_named.ensures w.in-Roots.is w.hangs-is
      | in-Under+in-None w ↦ under_nothing _ c.args.b c.args.q.now c.args.row _ c.row_at-r.ensures _ _ c.is_named.ensures w.in-Under.variable w.in-Under.is
          (row_none _ w.row_of.ensures w.in-None.is) w.hangs-is
      | in-Under+in-Some w ↦ under_row _ c.args.b c.args.q.now c.args.row _ c.row_at-r.ensures _ _ c.is_named.ensures w.in-Under.variable w.in-Under.is
          w.in-Some.parent (row_some _ w.row_of.ensures w.in-Some.is) _ w.row_at.ensures (w.hangs-is ∙ w.is_parent.ensures)
    ]
