-- `tables::entries::times_named` meets its contract. Assumes nothing.
use mathlib.Core.Path.{ap, ◌∙◌}
use native.Mathlib.Omega.{arith}
use Rattle.base.proofs.Sums.{sum_begin, sum_more, sum_end}
use Rattle.tables.specs.Rules.{namings}
use Rattle.tables.specs.declared.Entry.{Entry}
use Rattle.tables.proofs.entries.times_named.Goals as goal

pub loop-i-init : goal.loop-i-init
loop-i-init c = sum_begin _ _ _

pub overflow_add-sum : goal.overflow_add-sum
overflow_add-sum c = omega (arith, c.loop-i.invariant.small)

pub loop-i-preserved : goal.loop-i-preserved
loop-i-preserved c = sum_more _ _ _ _ _ c.loop-i.invariant c.loop-i-test.true _
    (c.namings_of-sum.ensures.value ∙ ap (λ (e : Entry). namings e c.args.j) c.entry_at.ensures) c.namings_of-sum.ensures.upper_bound

pub returns : goal.returns
returns c = sum_end _ _ _ _ _ c.loop-i.invariant c.loop-i-test.false
