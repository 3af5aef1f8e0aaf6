-- `parts::chains::climb`, which calls itself, meets its contract. Assumes nothing.
use mathlib.Core.Path.{sym, ◌∙◌}
use native.Mathlib.Omega.{arith}
use Rattle.engine.proofs.Falls.{below}
use Rattle.parts.proofs.Climbs as climbs
use Rattle.parts.proofs.chains.+climb.Goals as goal

pub bound_from-requires : goal.bound_from-requires
bound_from-requires t c =
    (c.requires.limit, climbs.few c.args.q.now.rule.now c.args.q.now.device.table.now c.args.around.entry c.args.variable c.args.entry c.args.row c.args.q.now.device.accepted c.requires)

pub returns-else-r-ne0 : goal.returns-else-r-ne0
returns-else-r-ne0 t c =
    climbs.climb_root c.args.q.now.rule.now c.args.q.now.device.table.now c.args.around.entry c.args.variable c.args.entry c.args.row c.args.q.now.device.accepted c.requires c.entry_at.ensures c.in-Quantifier.ensures.parts c.row_at-r.ensures (sym c.is_named.ensures ∙ c.if-not-is_named.false) c.in-Roots.is c.if-r-ne0.false c.none.ensures c.bound_from.ensures

pub bounds-q-row : goal.bounds-q-row
bounds-q-row t c =
    let l = climbs.few c.args.q.now.rule.now c.args.q.now.device.table.now c.args.around.entry c.args.variable c.args.entry c.args.row c.args.q.now.device.accepted c.requires in
    omega (arith, c.args.q.now.device.known.sized)

pub returns-then-parent-row : goal.returns-then-parent-row
returns-then-parent-row t c =
    climbs.climb_alone c.args.q.now.rule.now c.args.q.now.device.table.now c.args.around.entry c.args.variable c.args.entry c.args.row c.args.q.now.device.accepted c.requires c.entry_at.ensures c.in-Quantifier.ensures.parts c.row_at-r.ensures (sym c.is_named.ensures ∙ c.if-not-is_named.false) c.args.q.now.device.known c.in-Under.is c.if-parent-row.true

pub climb-requires : goal.climb-requires
climb-requires t c =
    (below c.decreases (climbs.lower c.args.q.now.rule.now c.args.q.now.device.table.now c.args.around.entry c.args.variable c.args.entry c.args.row c.args.q.now.device.accepted c.requires c.entry_at.ensures c.in-Quantifier.ensures.parts c.row_at-r.ensures (sym c.is_named.ensures ∙ c.if-not-is_named.false) c.args.q.now.device.known c.in-Under.is), climbs.climb_ready c.args.q.now.rule.now c.args.q.now.device.table.now c.args.around.entry c.args.variable c.args.entry c.args.row c.args.q.now.device.accepted c.requires c.entry_at.ensures c.in-Quantifier.ensures.parts c.row_at-r.ensures (sym c.is_named.ensures ∙ c.if-not-is_named.false) c.args.q.now.device.known c.in-Under.is c.if-parent-row.false c.of.ensures)

pub returns-in_err-chain-in-Under : goal.returns-in_err-chain-in-Under
returns-in_err-chain-in-Under t c =
    rw c.from_residual.ensures (climbs.climb_lost c.args.q.now.rule.now c.args.q.now.device.table.now c.args.around.entry c.args.variable c.args.entry c.args.row c.args.q.now.device.accepted c.requires c.entry_at.ensures c.in-Quantifier.ensures.parts c.row_at-r.ensures (sym c.is_named.ensures ∙ c.if-not-is_named.false) c.args.q.now.device.known c.in-Under.is c.if-parent-row.false c.of.ensures c.climb.ensures c.in_err-chain-in-Under.was)

pub returns-in_ok-chain-in-Under : goal.returns-in_ok-chain-in-Under
returns-in_ok-chain-in-Under t c =
    climbs.climb_found c.args.q.now.rule.now c.args.q.now.device.table.now c.args.around.entry c.args.variable c.args.entry c.args.row c.args.q.now.device.accepted c.requires c.entry_at.ensures c.in-Quantifier.ensures.parts c.row_at-r.ensures (sym c.is_named.ensures ∙ c.if-not-is_named.false) c.args.q.now.device.known c.in-Under.is c.if-parent-row.false c.of.ensures c.climb.ensures c.in_ok-chain-in-Under.was c.bound_from-in-Under.ensures
