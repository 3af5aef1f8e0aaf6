-- `engine::reasons::past_nots` meets its contract. Assumes nothing.
use Prim.Native.Nat.{◌-◌}
use Rattle.tables.specs.Words.{entry_count}
use Rattle.engine.specs.Marked.{Under}
use Rattle.engine.proofs.reasons.past_nots.Given as goal

abbrev pub invariant-loop-body : goal.invariant-loop-body
invariant-loop-body l = Under l.rule l.entry l.verdict l.bare.entry l.bare.verdict

abbrev pub decreases-loop-body : goal.decreases-loop-body
decreases-loop-body l = entry_count l.rule - l.bare.entry
