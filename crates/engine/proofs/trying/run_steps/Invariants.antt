-- `engine::trying::run_steps` meets its contract. The loop's invariant: the run is that of the steps left. Assumes nothing.
use Rattle.engine.proofs.Running.{Running}
use Rattle.engine.proofs.trying.run_steps.Given as goal

abbrev pub invariant-loop-k : goal.invariant-loop-k
invariant-loop-k l = Running l.set.rules.now l.set.counts.now l.steps l.held l.initial.table l.initial.verdicts l.k l.words l.table l.bytes l.verdicts
