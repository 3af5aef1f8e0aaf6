-- `tables::entries::quantifiers_around` meets its contract. Assumes nothing.
use mathlib.Core.Path.{◌≡◌}
use borrow.Author.Rules.{rules}
use native.Mathlib.Omega.{arith}
use Rattle.std.proofs.lemmas.Grind.{common_steps}
use Rattle.tables.specs.Rules.{one, is_quantifier}
use Rattle.tables.proofs.Nesting.{climb_begin, climb_child, climb_other, climb_end}
use Rattle.tables.proofs.entries.quantifiers_around.Goals as goal

pub loop-i-init : goal.loop-i-init
loop-i-init c = climb_begin _ _

pub overflow_add-count : goal.overflow_add-count
overflow_add-count c = grind (arith, common_steps)

pub loop-i-preserved-then-is_child : goal.loop-i-preserved-then-is_child
loop-i-preserved-then-is_child c =
    let counted : c.from-count.result ≡ one (is_quantifier c.entry_at-e.result) = search rules in
    climb_child _ _ _ _ _ c.loop-i.invariant c.loop-i-test.true _ c.entry_at-e.ensures _ c.is_child.ensures c.if-is_child.true _ counted (grind (arith, common_steps))

pub loop-i-preserved : goal.loop-i-preserved
loop-i-preserved c = climb_other _ _ _ _ _ c.loop-i.invariant c.loop-i-test.true _ c.entry_at-e.ensures _ c.is_child.ensures c.if-is_child.false

pub returns-clause-value : goal.returns-clause-value
returns-clause-value c = (climb_end _ _ _ _ _ c.loop-i.invariant c.loop-i-test.false).0

pub returns-clause-upper_bound : goal.returns-clause-upper_bound
returns-clause-upper_bound c = (climb_end _ _ _ _ _ c.loop-i.invariant c.loop-i-test.false).1
