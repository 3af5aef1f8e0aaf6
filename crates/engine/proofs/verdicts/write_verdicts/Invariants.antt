-- The loop's invariant: what is left to write is that of the rules left. Assumes nothing.
use Rattle.sets.specs.Sets.{rules_of}
use Rattle.engine.proofs.SetBytes.{Writes}
use Rattle.engine.proofs.verdicts.write_verdicts.Given as goal

abbrev pub invariant-loop-i : goal.invariant-loop-i
invariant-loop-i g l = Writes l.set.rules.now l.set.counts.now l.fn.pool l.initial.out l.out l.i (rules_of l.rule-iterator.rules.now l.rule-iterator.counts.now)
