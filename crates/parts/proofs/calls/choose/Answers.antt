-- `parts::calls::choose` meets its contract. Assumes nothing.
use mathlib.Core.Path.{◌≡◌, sym, ◌∙◌}
use native.Mathlib.Omega.{arith}
use lib.ListN.{length-take}
use Rattle.std.proofs.Common.{rules, Err}
use Rattle.logic.specs.Formulas.{formulas_of}
use Rattle.parts.proofs.Answered as laws
use Rattle.parts.proofs.calls.choose.Goals as goal

pub returns-in_err-check_table-clause-answer : goal.returns-in_err-check_table-clause-answer
returns-in_err-check_table-clause-answer c =
    let e : c.from_residual.result ≡ Err c.in_err-check_table.field-0.0 = search rules in
    e ∙ laws.table_refused (formulas_of c.args.set.now.rules.now c.args.set.now.counts.now) c.args.table.now c.args.mode c.args.room (sym c.check_table.ensures ∙ c.in_err-check_table.was)

pub returns-in_default-clause-answer : goal.returns-in_default-clause-answer
returns-in_default-clause-answer c = rw c.of-in_default.ensures (laws.mode_refused (formulas_of c.args.set.now.rules.now c.args.set.now.counts.now) c.args.table.now c.args.mode c.args.room (sym c.in_ok-check_table.was ∙ c.check_table.ensures) (sym c.in_default.is ∙ c.of.ensures))

pub returns-then-place-n-clause-answer : goal.returns-then-place-n-clause-answer
returns-then-place-n-clause-answer c = laws.device_refused (formulas_of c.args.set.now.rules.now c.args.set.now.counts.now) c.args.table.now c.args.mode c.args.room (sym c.in_ok-check_table.was ∙ c.check_table.ensures) (sym c.in-Some.is ∙ c.of.ensures) c.first_other-place.ensures c.if-place-n.true

pub keep_rows-requires-clause-one_device : goal.keep_rows-requires-clause-one_device
keep_rows-requires-clause-one_device c = laws.one_device (formulas_of c.args.set.now.rules.now c.args.set.now.counts.now) c.args.table.now c.args.mode c.args.room (sym c.in_ok-check_table.was ∙ c.check_table.ensures) (sym c.in-Some.is ∙ c.of.ensures) c.first_other-place.ensures c.if-place-n.false

pub slice_bounds-count_kept-end : goal.slice_bounds-count_kept-end
slice_bounds-count_kept-end c = let l = laws.rows_fit (formulas_of c.args.set.now.rules.now c.args.set.now.counts.now) c.args.table.now c.args.mode c.args.room (sym c.in_ok-check_table.was ∙ c.check_table.ensures) (sym c.in-Some.is ∙ c.of.ensures) c.first_other-place.ensures c.if-place-n.false c.keep_rows.ensures in omega arith

pub slice_bounds-count_kept-end-2 : goal.slice_bounds-count_kept-end-2
slice_bounds-count_kept-end-2 c = let l = laws.rows_fit (formulas_of c.args.set.now.rules.now c.args.set.now.counts.now) c.args.table.now c.args.mode c.args.room (sym c.in_ok-check_table.was ∙ c.check_table.ensures) (sym c.in-Some.is ∙ c.of.ensures) c.first_other-place.ensures c.if-place-n.false c.keep_rows.ensures in simp length-take (omega arith)

pub returns-then-room-count-clause-answer : goal.returns-then-room-count-clause-answer
returns-then-room-count-clause-answer c = rw c.of-then-room-count.ensures (laws.short_refused (formulas_of c.args.set.now.rules.now c.args.set.now.counts.now) c.args.table.now c.args.mode c.args.room (sym c.in_ok-check_table.was ∙ c.check_table.ensures) (sym c.in-Some.is ∙ c.of.ensures) c.first_other-place.ensures c.if-place-n.false c.keep_rows.ensures c.count_kept-count.ensures c.if-room-count.true)

pub returns-clause-answer : goal.returns-clause-answer
returns-clause-answer c = laws.part_done (formulas_of c.args.set.now.rules.now c.args.set.now.counts.now) c.args.table.now c.args.mode c.args.room (sym c.in_ok-check_table.was ∙ c.check_table.ensures) (sym c.in-Some.is ∙ c.of.ensures) c.first_other-place.ensures c.if-place-n.false c.keep_rows.ensures c.count_kept-count.ensures c.if-room-count.false

pub returns-clause-marks : goal.returns-clause-marks
returns-clause-marks c = laws.marks (formulas_of c.args.set.now.rules.now c.args.set.now.counts.now) c.args.table.now c.args.mode c.args.room (sym c.in_ok-check_table.was ∙ c.check_table.ensures) (sym c.in-Some.is ∙ c.of.ensures) c.first_other-place.ensures c.if-place-n.false c.keep_rows.ensures c.count_kept-count.ensures c.if-room-count.false
