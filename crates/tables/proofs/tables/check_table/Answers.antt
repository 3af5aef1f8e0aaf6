-- `tables::tables::check_table` meets its contract. Assumes nothing.
use Rattle.std.proofs.Common.{rules, Err}
use mathlib.Core.Path.{◌≡◌, refl, sym, ap, ◌∙◌}
use mathlib.Core.Bool.{true}
use native.Mathlib.Omega.{arith}
use Rattle.tables.specs.Answers.{is_done}
use Rattle.tables.specs.Tables.{ordered_table}
use Rattle.tables.proofs.Ordered.{whole_rows, few_rows, order_count}
use Rattle.tables.proofs.Faults.{stop_before, stop_at_twin, all_passed}
use Rattle.tables.specs.declared.refusals.Fault.TheVariants.{Sibling}
use Rattle.tables.proofs.Checks.{refused_at, passed_at}
use Rattle.tables.proofs.Searches.{found_some, found_none}
use Rattle.tables.proofs.tables.check_table.Goals as goal

pub returns-in_err-n : goal.returns-in_err-n
returns-in_err-n c =
    let e : c.from_residual.result ≡ Err c.in_err-n.field-0.0 = search rules in
    e ∙ stop_before c.args.table.now (sym c.check_order.ensures ∙ c.in_err-n.was)

pub first_twin-requires-clause-row_words_len : goal.first_twin-requires-clause-row_words_len
first_twin-requires-clause-row_words_len c =
    let ok : ordered_table c.args.table.now ≡ true = ap is_done (sym c.check_order.ensures ∙ c.in_ok-n.was) in
    omega (arith, whole_rows c.args.table.now ok)

pub first_twin-requires-clause-n_in_bounds : goal.first_twin-requires-clause-n_in_bounds
first_twin-requires-clause-n_in_bounds c =
    let passed = sym c.check_order.ensures ∙ c.in_ok-n.was in
    let ok : ordered_table c.args.table.now ≡ true = ap is_done passed in
    omega (arith, whole_rows c.args.table.now ok, order_count c.args.table.now ok _ passed)

pub first_twin-requires-clause-n_le_row_limit : goal.first_twin-requires-clause-n_le_row_limit
first_twin-requires-clause-n_le_row_limit c =
    let passed = sym c.check_order.ensures ∙ c.in_ok-n.was in
    let ok : ordered_table c.args.table.now ≡ true = ap is_done passed in
    omega (arith, few_rows c.args.table.now ok, order_count c.args.table.now ok _ passed)

pub returns-in_err-refuse_at : goal.returns-in_err-refuse_at
returns-in_err-refuse_at c =
    let passed = sym c.check_order.ensures ∙ c.in_ok-n.was in
    let w = refused_at Sibling _ _ (sym c.refuse_at.ensures ∙ c.in_err-refuse_at.was) in
    let f = found_some _ _ _ (sym c.first_twin.ensures ∙ w.1) in
    let e : c.from_residual-in_err-refuse_at.result ≡ Err c.in_err-refuse_at.field-0.0 = search rules in
    e ∙ ap Err w.2 ∙ stop_at_twin c.args.table.now passed (order_count c.args.table.now (ap is_done passed) _ passed) refl f.0 f.1

pub returns : goal.returns
returns c =
    let passed = sym c.check_order.ensures ∙ c.in_ok-n.was in
    let none = passed_at Sibling _ _ (sym c.refuse_at.ensures ∙ c.in_ok-refuse_at.was) in
    all_passed c.args.table.now passed (order_count c.args.table.now (ap is_done passed) _ passed) refl refl (found_none _ _ (sym c.first_twin.ensures ∙ none))
