-- `engine::calls::marks` meets its contract. Assumes nothing.
use Rattle.std.proofs.Common.{rules, Err, ◌≡◌, ap, ◌∙◌}
use Rattle.std.proofs.lemmas.Grind.{common_steps}
use mathlib.Core.Path.{refl}
use native.Mathlib.Omega.{arith}
use Rattle.tables.specs.Rules.{check_rule}
use Rattle.engine.proofs.Wholes.{nothing_whole}
use Rattle.engine.proofs.SetBytes.{one_bool}
use Rattle.engine.proofs.Answered.{table_ok, rule_ready, marks_done, marks_refused, marks_short}
use Rattle.engine.proofs.calls.marks.Goals as goal

pub returns-then-out-n-clause-value : goal.returns-then-out-n-clause-value
returns-then-out-n-clause-value c = ap Err c.of.ensures ∙ (marks_short c.args.rule.now c.args.pool.now c.check_rule.ensures c.then_table.ensures c.in_ok-then_table.was
    c.args.out.now (omega (arith, c.if-out-n.true, c.row_count-n.ensures))).0

pub returns-then-out-n-clause-out_after : goal.returns-then-out-n-clause-out_after
returns-then-out-n-clause-out_after c = (marks_short c.args.rule.now c.args.pool.now c.check_rule.ensures c.then_table.ensures c.in_ok-then_table.was
    c.args.out.now (omega (arith, c.if-out-n.true, c.row_count-n.ensures))).1

pub find_children-requires-clause-pool_value : goal.find_children-requires-clause-pool_value
find_children-requires-clause-pool_value c = table_ok (check_rule c.args.rule.now) c.args.pool.now c.check_rule.ensures c.then_table.ensures c.in_ok-then_table.was

pub find_children-requires-clause-none_noted : goal.find_children-requires-clause-none_noted
find_children-requires-clause-none_noted c = refl

pub holds-verdict-requires : goal.holds-verdict-requires
holds-verdict-requires c = rule_ready c.args.rule.now c.args.pool.now c.check_rule.ensures c.then_table.ensures c.in_ok-then_table.was c.none-b.ensures

pub explain-requires-clause-ready : goal.explain-requires-clause-ready
explain-requires-clause-ready c = rule_ready c.args.rule.now c.args.pool.now c.check_rule.ensures c.then_table.ensures c.in_ok-then_table.was c.none-b.ensures

pub explain-requires-clause-verdict_value : goal.explain-requires-clause-verdict_value
explain-requires-clause-verdict_value c = (c.holds-verdict.ensures, grind (arith, common_steps, c.fill.ensures.len, c.row_count-n.ensures, c.if-out-n.false))

pub explain-requires-clause-marked_whole : goal.explain-requires-clause-marked_whole
explain-requires-clause-marked_whole c = nothing_whole _ _

pub returns-clause-value : goal.returns-clause-value
returns-clause-value c = (marks_done c.args.rule.now c.args.pool.now c.check_rule.ensures c.then_table.ensures c.in_ok-then_table.was
    c.none-b.ensures c.holds-verdict.ensures (c.from.ensures ∙ one_bool _) c.args.out.now (omega (arith, c.if-out-n.false, c.row_count-n.ensures))
    (let z = c.fill.ensures.after (λ y e. search rules) in grind (arith, common_steps, z, c.row_count-n.ensures, c.if-out-n.false)) c.explain.ensures.out_after).0

pub returns-clause-out_after : goal.returns-clause-out_after
returns-clause-out_after c = (marks_done c.args.rule.now c.args.pool.now c.check_rule.ensures c.then_table.ensures c.in_ok-then_table.was
    c.none-b.ensures c.holds-verdict.ensures (c.from.ensures ∙ one_bool _) c.args.out.now (omega (arith, c.if-out-n.false, c.row_count-n.ensures))
    (let z = c.fill.ensures.after (λ y e. search rules) in grind (arith, common_steps, z, c.row_count-n.ensures, c.if-out-n.false)) c.explain.ensures.out_after).1

pub returns-in_err-then_table-clause-value : goal.returns-in_err-then_table-clause-value
returns-in_err-then_table-clause-value c =
    let e : c.from_residual.result ≡ Err c.in_err-then_table.field-0.0 = search rules in
    e ∙ (marks_refused c.args.rule.now c.args.pool.now c.check_rule.ensures c.then_table.ensures c.in_err-then_table.was c.args.out.now).0

pub returns-in_err-then_table-clause-out_after : goal.returns-in_err-then_table-clause-out_after
returns-in_err-then_table-clause-out_after c = (marks_refused c.args.rule.now c.args.pool.now c.check_rule.ensures c.then_table.ensures c.in_err-then_table.was c.args.out.now).1
