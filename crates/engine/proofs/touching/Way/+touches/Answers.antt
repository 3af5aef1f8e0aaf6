-- `engine::touching::Way::touches`, which calls itself, meets its contract. Assumes nothing.
use Rattle.std.proofs.Common.{rules, tests, ◌≡◌, ap, ◌∙◌}
use native.Mathlib.Omega.{arith}
use Rattle.engine.specs.Places.{bind_at}
use Rattle.engine.proofs.Read as read
use Rattle.engine.proofs.Rows.{bound_ready}
use Rattle.engine.proofs.Missing.{place_found, place_within, misses_not, misses_joined, misses_compared, misses_body}
use Rattle.engine.proofs.touching.Way.+touches.Goals as goal

pub touches-requires : goal.touches-requires
touches-requires t c =
    let l = read.not_later c.args.rule.now c.args.self.now.pool.now c.args.b c.args.entry c.requires _ c.entry_at.ensures c.in-Not.body c.in-Not.ensures.parts in
    (omega (arith, c.decreases, l.0, l.1), read.not_ready c.args.rule.now c.args.self.now.pool.now c.args.b c.args.entry c.requires _ c.entry_at.ensures c.in-Not.body c.in-Not.ensures.parts)

pub touches-requires-in-Connective : goal.touches-requires-in-Connective
touches-requires-in-Connective t c =
    let l = read.left_later c.args.rule.now c.args.self.now.pool.now c.args.b c.args.entry c.requires _ c.entry_at.ensures c.in-Connective.by c.in-Connective.left c.in-Connective.right c.in-Connective.ensures.parts in
    (omega (arith, c.decreases, l.0, l.1), read.left_ready c.args.rule.now c.args.self.now.pool.now c.args.b c.args.entry c.requires _ c.entry_at.ensures c.in-Connective.by c.in-Connective.left c.in-Connective.right c.in-Connective.ensures.parts)

pub touches-requires-else-touches : goal.touches-requires-else-touches
touches-requires-else-touches t c =
    let l = read.right_later c.args.rule.now c.args.self.now.pool.now c.args.b c.args.entry c.requires _ c.entry_at.ensures c.in-Connective.by c.in-Connective.left c.in-Connective.right c.in-Connective.ensures.parts in
    (omega (arith, c.decreases, l.0, l.1), read.right_ready c.args.rule.now c.args.self.now.pool.now c.args.b c.args.entry c.requires _ c.entry_at.ensures c.in-Connective.by c.in-Connective.left c.in-Connective.right c.in-Connective.ensures.parts)

pub reached-reached-requires-clause-parent : goal.reached-reached-requires-clause-parent
reached-reached-requires-clause-parent t c =
    read.parent_named c.args.rule.now c.args.self.now.pool.now c.args.b c.args.entry c.requires _ c.entry_at.ensures c.in-Quantifier.by c.in-Quantifier.over c.in-Quantifier.name c.in-Quantifier.body c.in-Quantifier.ensures.parts

pub touches-requires-in-Quantifier : goal.touches-requires-in-Quantifier
touches-requires-in-Quantifier t c =
    let place : c.map_or-place.result ≡ place_found c.reached-reached.result = search (rules, tests) in
    let bound : c.bind.result ≡ bind_at c.args.b (place_found c.reached-reached.result) = c.bind.ensures ∙ ap (bind_at c.args.b) place in
    let l = read.body_later c.args.rule.now c.args.self.now.pool.now c.args.b c.args.entry c.requires _ c.entry_at.ensures c.in-Quantifier.by c.in-Quantifier.over c.in-Quantifier.name c.in-Quantifier.body c.in-Quantifier.ensures.parts in
    let run = read.run_ready c.args.rule.now c.args.self.now.pool.now c.args.b c.args.entry c.requires _ c.entry_at.ensures c.in-Quantifier.by c.in-Quantifier.over c.in-Quantifier.name c.in-Quantifier.body c.in-Quantifier.ensures.parts 0 0 (omega arith) in
    (omega (arith, c.decreases, l.0, l.1), bound_ready c.args.rule.now c.args.self.now.pool.now c.args.b _ 0 0 run _ (place_within c.args.rule.now c.args.self.now.pool.now c.args.self.now.row c.args.b c.args.entry _ (read.quantified_is c.args.rule.now c.args.self.now.pool.now c.args.b c.args.entry c.requires _ c.entry_at.ensures c.in-Quantifier.by c.in-Quantifier.over c.in-Quantifier.name c.in-Quantifier.body c.in-Quantifier.ensures.parts) run (read.parent_bound c.args.rule.now c.args.self.now.pool.now c.args.b c.args.entry c.requires _ c.entry_at.ensures c.in-Quantifier.by c.in-Quantifier.over c.in-Quantifier.name c.in-Quantifier.body c.in-Quantifier.ensures.parts) c.reached-reached.ensures) _ bound)

pub returns-in-Not : goal.returns-in-Not
returns-in-Not t c =
    λ e. misses_not c.args.rule.now c.args.self.now.pool.now c.args.self.now.row c.args.b c.args.entry _ (read.not_is c.args.rule.now c.args.self.now.pool.now c.args.b c.args.entry c.requires _ c.entry_at.ensures c.in-Not.body c.in-Not.ensures.parts) (c.touches.ensures e)

pub returns-else-touches : goal.returns-else-touches
returns-else-touches t c =
    λ e. misses_joined c.args.rule.now c.args.self.now.pool.now c.args.self.now.row c.args.b c.args.entry _ _ _ (read.joined_is c.args.rule.now c.args.self.now.pool.now c.args.b c.args.entry c.requires _ c.entry_at.ensures c.in-Connective.by c.in-Connective.left c.in-Connective.right c.in-Connective.ensures.parts) (c.touches-in-Connective.ensures c.if-touches.false) (c.touches-else-touches.ensures e)

pub returns-else-eq : goal.returns-else-eq
returns-else-eq t c =
    let place : c.map_or-place.result ≡ place_found c.reached-reached.result = search (rules, tests) in
    let bound : c.bind.result ≡ bind_at c.args.b (place_found c.reached-reached.result) = c.bind.ensures ∙ ap (bind_at c.args.b) place in
    λ e. misses_body c.args.rule.now c.args.self.now.pool.now c.args.self.now.row c.args.b c.args.entry _ (read.quantified_is c.args.rule.now c.args.self.now.pool.now c.args.b c.args.entry c.requires _ c.entry_at.ensures c.in-Quantifier.by c.in-Quantifier.over c.in-Quantifier.name c.in-Quantifier.body c.in-Quantifier.ensures.parts) (read.run_ready c.args.rule.now c.args.self.now.pool.now c.args.b c.args.entry c.requires _ c.entry_at.ensures c.in-Quantifier.by c.in-Quantifier.over c.in-Quantifier.name c.in-Quantifier.body c.in-Quantifier.ensures.parts 0 0 (omega arith)) (read.parent_bound c.args.rule.now c.args.self.now.pool.now c.args.b c.args.entry c.requires _ c.entry_at.ensures c.in-Quantifier.by c.in-Quantifier.over c.in-Quantifier.name c.in-Quantifier.body c.in-Quantifier.ensures.parts) c.reached-reached.ensures
    c.args.self.now.up.inside (λ q. search (rules, tests)) bound (c.touches-in-Quantifier.ensures e)

pub returns-in-Comparison : goal.returns-in-Comparison
returns-in-Comparison t c =
    λ e. misses_compared c.args.rule.now c.args.self.now.pool.now c.args.self.now.row c.args.b c.args.entry _ _ _ (read.compared_is c.args.rule.now c.args.self.now.pool.now c.args.b c.args.entry c.requires _ c.entry_at.ensures c.in-Comparison.by c.in-Comparison.variable c.in-Comparison.operand c.in-Comparison.ensures.parts)
