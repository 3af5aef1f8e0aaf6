-- `engine::touching::Way::touches`, which calls itself, meets its contract. Assumes nothing.
use Prim.Native.Nat.{◌-◌}
use Rattle.tables.specs.Words.{entry_count}
use Rattle.engine.proofs.touching.Way.+touches.Given as goal

abbrev pub decreases-touches : goal.decreases-touches
decreases-touches l = entry_count l.rule.now - l.entry
