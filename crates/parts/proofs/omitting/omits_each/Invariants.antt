-- `parts::omitting::omits_each` meets its contract. The loop's invariant: what is left to ask is that of the rules left. Assumes nothing.
use Rattle.sets.specs.Sets.{rules_of}
use Rattle.logic.specs.Formulas.{formulas_of}
use Rattle.parts.specs.Modes.{word_of}
use Rattle.parts.proofs.Each.{Asks}
use Rattle.parts.proofs.omitting.omits_each.Given as goal

abbrev pub invariant-loop-rule : goal.invariant-loop-rule
invariant-loop-rule l = Asks (formulas_of l.set.rules.now l.set.counts.now) l.device.table.now (word_of l.mode) l.row (rules_of l.rule-iterator.rules.now l.rule-iterator.counts.now)
