-- `tables::joining::join` meets its contract. Assumes nothing.
use Rattle.std.proofs.Common.{rules, Err}
use mathlib.Core.Path.{◌≡◌, ap, sym, ◌∙◌}
use lib.Seq.{length-take-le}
use Rattle.tables.proofs.Joins.{over_used, kept, copy_fits, written}
use Rattle.tables.proofs.joining.join.Goals as goal

pub returns-then-pool-used-clause-answer : goal.returns-then-pool-used-clause-answer
returns-then-pool-used-clause-answer c = ap Err c.of.ensures ∙ (over_used c.args.pool.now c.args.used c.args.t.now c.if-pool-used.true).0

pub returns-then-pool-used-clause-words : goal.returns-then-pool-used-clause-words
returns-then-pool-used-clause-words c = (over_used c.args.pool.now c.args.used c.args.t.now c.if-pool-used.true).1

pub slice_bounds-join_tables-end-2 : goal.slice_bounds-join_tables-end-2
slice_bounds-join_tables-end-2 c = sym (length-take-le _ _ c.if-pool-used.false)

pub copy_at-requires : goal.copy_at-requires
copy_at-requires c = copy_fits c.before.args.pool.now c.before.args.used c.before.args.t.now c.if-pool-used.false _ c.join_tables.ensures _ c.in_ok-words.was

pub returns-clause-answer : goal.returns-clause-answer
returns-clause-answer c = (written c.before.args.pool.now c.before.args.used c.before.args.t.now c.if-pool-used.false _ c.join_tables.ensures _ c.in_ok-words.was _ c.copy_at.ensures).0

pub returns-clause-words : goal.returns-clause-words
returns-clause-words c = (written c.before.args.pool.now c.before.args.used c.before.args.t.now c.if-pool-used.false _ c.join_tables.ensures _ c.in_ok-words.was _ c.copy_at.ensures).1

pub returns-in_err-words-clause-answer : goal.returns-in_err-words-clause-answer
returns-in_err-words-clause-answer c =
    let e : c.from_residual.result ≡ Err c.in_err-words.field-0.0 = search rules in
    e ∙ (kept c.before.args.pool.now c.before.args.used c.before.args.t.now c.if-pool-used.false _ c.join_tables.ensures _ c.in_err-words.was).0

pub returns-in_err-words-clause-words : goal.returns-in_err-words-clause-words
returns-in_err-words-clause-words c = (kept c.before.args.pool.now c.before.args.used c.before.args.t.now c.if-pool-used.false _ c.join_tables.ensures _ c.in_err-words.was).1
