-- `folding::check_foldable` meets its contract. Assumes nothing.
use Rattle.std.proofs.Common.{◌≡◌, rules, Err, sym, ◌∙◌}
use Rattle.folding.proofs.Answers.{stop_before, stop_14, foldable_passed}
use Rattle.folding.proofs.check_foldable.Goals as goal

pub returns-in_err-rows : goal.returns-in_err-rows
returns-in_err-rows c =
    let e : c.from_residual.result ≡ Err c.in_err-rows.field-0.0 = search rules in
    e ∙ stop_before c.args.table.now (sym c.check_order.ensures ∙ c.in_err-rows.was)

pub returns-then-place-rows : goal.returns-then-place-rows
returns-then-place-rows c = stop_14 c.args.table.now (sym c.check_order.ensures ∙ c.in_ok-rows.was) c.first_other-place.ensures c.if-place-rows.true

pub returns : goal.returns
returns c = foldable_passed c.args.table.now (sym c.check_order.ensures ∙ c.in_ok-rows.was) c.first_other-place.ensures c.if-place-rows.false
