-- `engine::calls::verdict` meets its contract. Assumes nothing.
use Rattle.std.proofs.Common.{rules, Err, ◌≡◌, ◌∙◌}
use mathlib.Core.Path.{refl}
use Rattle.tables.specs.Rules.{check_rule}
use Rattle.engine.proofs.SetBytes.{one_bool}
use Rattle.engine.proofs.Answered.{table_ok, rule_ready, verdict_done, verdict_refused}
use Rattle.engine.proofs.calls.verdict.Goals as goal

pub find_children-requires-clause-pool_value : goal.find_children-requires-clause-pool_value
find_children-requires-clause-pool_value c = table_ok (check_rule c.args.rule.now) c.args.pool.now c.check_rule.ensures c.then_table.ensures c.in_ok-then_table.was

pub find_children-requires-clause-none_noted : goal.find_children-requires-clause-none_noted
find_children-requires-clause-none_noted c = refl

pub holds-requires : goal.holds-requires
holds-requires c = rule_ready c.args.rule.now c.args.pool.now c.check_rule.ensures c.then_table.ensures c.in_ok-then_table.was c.none.ensures

pub returns : goal.returns
returns c = verdict_done c.args.rule.now c.args.pool.now c.check_rule.ensures c.then_table.ensures c.in_ok-then_table.was
    c.none.ensures c.holds.ensures (c.from.ensures ∙ one_bool _)

pub returns-in_err-then_table : goal.returns-in_err-then_table
returns-in_err-then_table c =
    let e : c.from_residual.result ≡ Err c.in_err-then_table.field-0.0 = search rules in
    e ∙ verdict_refused c.args.rule.now c.args.pool.now c.check_rule.ensures c.then_table.ensures c.in_err-then_table.was
