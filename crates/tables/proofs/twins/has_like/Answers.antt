-- `tables::twins::has_like` meets its contract. Assumes nothing.
use mathlib.Core.Path.{ap, ap₂, ◌∙◌}
use mathlib.Core.Bool.{◌||◌}
use native.Mathlib.Omega.{arith}
use Rattle.tables.specs.Words.{row_at}
use Rattle.tables.specs.Links.{is_like}
use Rattle.tables.proofs.Scanned.{some_zero, some_more, some_all}
use Rattle.tables.proofs.twins.has_like.Goals as goal

pub loop-i-init : goal.loop-i-init
loop-i-init c = (omega arith, some_zero _)

pub loop-i-preserved : goal.loop-i-preserved
loop-i-preserved c = (omega (arith, c.loop-i-test.true), ap₂ ◌||◌ c.loop-i.invariant.1 (c.is_like-found.ensures ∙ ap (is_like c.args.r) c.row_at.ensures) ∙ some_more (λ j. is_like c.args.r (row_at c.args.t.now j)) _)

pub returns : goal.returns
returns c = some_all (λ j. is_like c.args.r (row_at c.args.t.now j)) _ _ _ c.loop-i.invariant.0 c.loop-i.invariant.1 c.loop-i-test.false
