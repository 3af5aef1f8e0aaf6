-- `engine::children::note_row` meets its contract. Assumes nothing.
use mathlib.Core.Path.{sym, ap, ◌∙◌}
use lib.ListN.{set}
use borrow.Author.Tests.{eq-eqb, ne_eqb}
use Rattle.tables.specs.Tables.{root}
use Rattle.engine.proofs.Noting.{noted_root, noted_child}
use Rattle.engine.proofs.children.note_row.Goals as goal

pub returns-then-r-eq0 : goal.returns-then-r-eq0
returns-then-r-eq0 c =
    noted_root c.args.pool.now c.requires.pool_value.0 _ _ c.requires.runs_within c.requires.pool_value.1 (ap root (sym c.row_at-r.ensures) ∙ eq-eqb _ _ c.if-r-eq0.true)

pub guessed_parent-parent-requires-clause-row_value : goal.guessed_parent-parent-requires-clause-row_value
guessed_parent-parent-requires-clause-row_value c = ap root (sym c.row_at-r.ensures) ∙ ne_eqb _ _ c.if-r-eq0.false

pub returns : goal.returns
returns c =
    noted_child c.args.pool.now c.requires.pool_value.0 _ _ c.requires.runs_within c.requires.pool_value.1
    _ c.guessed_parent-parent.ensures.0 c.guessed_parent-parent.ensures.1 _ (ap (set _ _) c.with.ensures)
