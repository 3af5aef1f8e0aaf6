-- `engine::trying::begin` meets its contract. Assumes nothing.
use Rattle.std.proofs.Common.{rules, Err, ◌≡◌, ap, ◌∙◌}
use Rattle.engine.proofs.Running.{begin_refused, begin_short, begin_fits}
use Rattle.engine.proofs.trying.begin.Goals as goal

pub returns-in_err-then_table : goal.returns-in_err-then_table
returns-in_err-then_table c =
    let e : c.from_residual.result ≡ Err c.in_err-then_table.field-0.0 = search rules in
    e ∙ begin_refused c.args.rules.now c.args.counts.now c.args.pool.now c.args.room
    c.check_set.ensures c.then_table.ensures c.in_err-then_table.was

pub returns-then-room-pool : goal.returns-then-room-pool
returns-then-room-pool c = ap Err c.of.ensures ∙ begin_short c.args.rules.now c.args.counts.now c.args.pool.now c.args.room c.check_set.ensures
    c.then_table.ensures c.in_ok-then_table.was c.if-room-pool.true

pub returns : goal.returns
returns c = begin_fits c.args.rules.now c.args.counts.now c.args.pool.now c.args.room c.check_set.ensures
    c.then_table.ensures c.in_ok-then_table.was c.if-room-pool.false
