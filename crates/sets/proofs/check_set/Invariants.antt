-- The loop's invariant: the answer is that of the rules left. Assumes nothing.
use Rattle.sets.specs.Sets.{rules_of}
use Rattle.sets.proofs.Checked.{Checked}
use Rattle.sets.proofs.check_set.Given as goal

abbrev pub invariant-loop-rule : goal.invariant-loop-rule
invariant-loop-rule l = Checked l.rules l.counts l.before (rules_of l.rule-iterator.rules.now l.rule-iterator.counts.now)
