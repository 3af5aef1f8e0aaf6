-- `tables::twins::twin_hash` meets its contract. Assumes nothing.
use mathlib.Core.Path.{◌∙◌}
use Rattle.tables.proofs.Siblings.{root_device, child_device, twin_is}
use Rattle.tables.proofs.twins.twin_hash.Goals as goal
use Rattle.tables.proofs.twins.twin_hash.Goals.{then-r-eq0, else-r-eq0}

pub returns : goal.returns
returns c = c.hash_of.ensures.value ∙ twin_is c.args.r _ (elim c.if-r-eq0.branch [ then-r-eq0 q ↦ root_device c.args.r _ q.if-r-eq0.true q.device-is | else-r-eq0 q ↦ child_device c.args.r _ q.if-r-eq0.false q.device-is ])
