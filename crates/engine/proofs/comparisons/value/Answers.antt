-- `engine::comparisons::value` meets its contract. Assumes nothing.
use mathlib.Core.Path.{sym, ap, ◌∙◌}
use Rattle.tables.specs.declared.Row.{Row}
use Rattle.logic.specs.Verdict.{value_at}
use Rattle.engine.specs.Places.{place_of, bindings_of}
use Rattle.engine.proofs.Bound.{row_none, row_some}
use Rattle.engine.proofs.comparisons.value.Goals as goal

pub returns-in-None : goal.returns-in-None
unfolding bindings_of
returns-in-None c = sym (ap (λ n. value_at (place_of c.args.pool.now n)) (row_none _ c.row_of.ensures c.in-None.is))

pub returns-in-Some : goal.returns-in-Some
unfolding bindings_of
returns-in-Some c =
    ap (λ (r : Row). r.value) c.row_at.ensures ∙ sym (ap (λ n. value_at (place_of c.args.pool.now n)) (row_some _ c.row_of.ensures c.in-Some.is))
