-- `engine::calls::set_verdicts` meets its contract. Assumes nothing.
use Rattle.std.proofs.Common.{rules, Err, ◌≡◌, ap, ◌∙◌}
use Rattle.engine.proofs.Answered.{verdicts_refused, set_ok, verdicts_short, verdicts_done}
use Rattle.engine.proofs.calls.set_verdicts.Goals as goal

pub returns-then-out-counts-clause-value : goal.returns-then-out-counts-clause-value
returns-then-out-counts-clause-value c = ap Err c.of.ensures ∙ (verdicts_short c.args.rules.now c.args.counts.now c.args.pool.now c.check_set.ensures
    c.then_table.ensures c.args.out.now c.in_ok-then_table.was c.if-out-counts.true).0

pub returns-then-out-counts-clause-out_after : goal.returns-then-out-counts-clause-out_after
returns-then-out-counts-clause-out_after c = (verdicts_short c.args.rules.now c.args.counts.now c.args.pool.now c.check_set.ensures
    c.then_table.ensures c.args.out.now c.in_ok-then_table.was c.if-out-counts.true).1

pub write_verdicts-requires-clause-pool_accepted : goal.write_verdicts-requires-clause-pool_accepted
write_verdicts-requires-clause-pool_accepted c = (set_ok c.args.rules.now c.args.counts.now c.args.pool.now c.check_set.ensures c.then_table.ensures c.args.out.now c.in_ok-then_table.was).1

pub invariant_of-write_verdicts : goal.invariant_of-write_verdicts
invariant_of-write_verdicts c = record { accepted = (set_ok c.args.rules.now c.args.counts.now c.args.pool.now c.check_set.ensures c.then_table.ensures c.args.out.now c.in_ok-then_table.was).0 }

pub returns-clause-value : goal.returns-clause-value
returns-clause-value c = (verdicts_done c.args.rules.now c.args.counts.now c.args.pool.now c.check_set.ensures
    c.then_table.ensures c.args.out.now c.in_ok-then_table.was c.if-out-counts.false c.write_verdicts.ensures).0

pub returns-clause-out_after : goal.returns-clause-out_after
returns-clause-out_after c = (verdicts_done c.args.rules.now c.args.counts.now c.args.pool.now c.check_set.ensures
    c.then_table.ensures c.args.out.now c.in_ok-then_table.was c.if-out-counts.false c.write_verdicts.ensures).1

pub returns-in_err-then_table-clause-value : goal.returns-in_err-then_table-clause-value
returns-in_err-then_table-clause-value c =
    let e : c.from_residual.result ≡ Err c.in_err-then_table.field-0.0 = search rules in
    e ∙ (verdicts_refused c.args.rules.now c.args.counts.now c.args.pool.now c.check_set.ensures
    c.then_table.ensures c.args.out.now c.in_err-then_table.was).0

pub returns-in_err-then_table-clause-out_after : goal.returns-in_err-then_table-clause-out_after
returns-in_err-then_table-clause-out_after c = (verdicts_refused c.args.rules.now c.args.counts.now c.args.pool.now c.check_set.ensures
    c.then_table.ensures c.args.out.now c.in_err-then_table.was).1
