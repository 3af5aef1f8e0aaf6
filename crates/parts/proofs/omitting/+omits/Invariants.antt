-- `parts::omitting::omits`, which calls itself, meets its contract. Assumes nothing.
use Prim.Native.Nat.{◌-◌}
use Rattle.tables.specs.Words.{entry_count}
use Rattle.parts.proofs.omitting.+omits.Given as goal

abbrev pub decreases-omits : goal.decreases-omits
decreases-omits l = entry_count l.q.now.rule.now - l.entry
