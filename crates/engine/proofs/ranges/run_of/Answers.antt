-- `engine::ranges::run_of` meets its contract. Assumes nothing.
use mathlib.Core.Path.{refl, ◌∙◌}
use native.Mathlib.Omega.{arith}
use Rattle.engine.proofs.Bound.{row_none, row_some}
use Rattle.engine.proofs.Runs.{run_nothing, run_children}
use Rattle.engine.proofs.ranges.run_of.Goals as goal

pub returns-in-None : goal.returns-in-None
returns-in-None c = λ q o. run_nothing c.args.pool.now.words.now c.args.b c.in-Under.variable _ refl q (o ∙ c.in-Under.is) (row_none _ c.row_of.ensures c.in-None.is)

pub returns-in-Some : goal.returns-in-Some
returns-in-Some c =
    let p = row_some _ c.row_of.ensures c.in-Some.is in
    λ q o. run_children c.args.pool.now.words.now c.args.b c.in-Under.variable _ refl q (o ∙ c.in-Under.is) c.args.pool.now.runs c.in-Some.parent p
    (omega (arith, p, c.requires.placed.kept c.in-Under.variable)) _ _ c.children_run.ensures.start_value c.children_run.ensures.rows_value
