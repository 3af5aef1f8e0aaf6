-- `parts::keeping::stays` meets its contract. Assumes nothing.
use mathlib.Core.Path.{◌∙◌}
use Rattle.parts.proofs.Staying.{is_all, parent_inside, parent_lost, stays_all, stays_by}
use Rattle.parts.proofs.keeping.stays.Goals as goal

pub parent_left_out-requires-clause-parent_in_bounds : goal.parent_left_out-requires-clause-parent_in_bounds
parent_left_out-requires-clause-parent_in_bounds c = parent_inside c.args.device.now.accepted c.args.device.now.known c.requires

pub returns-then-parent_left_out : goal.returns-then-parent_left_out
returns-then-parent_left_out c = parent_lost c.args.device.now.accepted c.args.device.now.known c.requires c.parent_left_out.ensures c.if-parent_left_out.true

pub returns-then-eq : goal.returns-then-eq
returns-then-eq c = stays_all c.args.device.now.accepted c.args.device.now.known c.requires c.parent_left_out.ensures c.if-parent_left_out.false (c.eq.ensures ∙ is_all _) c.if-eq.true

pub returns-else-eq : goal.returns-else-eq
returns-else-eq c = stays_by c.args.device.now.accepted c.args.device.now.known c.requires c.parent_left_out.ensures c.if-parent_left_out.false (c.eq.ensures ∙ is_all _) c.if-eq.false c.omits_each.ensures
