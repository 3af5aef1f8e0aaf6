-- `tables::joining::join_tables` meets its contract. Assumes nothing.
use Rattle.std.proofs.Common.{rules, Err}
use mathlib.Core.Path.{◌≡◌, refl, ap, sym, ◌∙◌}
use native.Mathlib.Omega.{arith}
use Rattle.tables.proofs.Joins.{short, rows_whole, refused_first, refused_second, not_behind, too_many, twin_refused, no_room, joined}
use Rattle.tables.specs.declared.refusals.Fault.TheVariants.{Sibling}
use Rattle.tables.proofs.Checks.{refused_at, passed_at}
use Rattle.tables.proofs.Searches.{found_some, found_none}
use Rattle.tables.proofs.joining.join_tables.Goals as goal

pub returns-in_err-check_table : goal.returns-in_err-check_table
returns-in_err-check_table c =
    let e : c.from_residual.result ≡ Err c.in_err-check_table.field-0.0 = search rules in
    e ∙ refused_first _ _ _ _ (sym c.check_table.ensures ∙ c.in_err-check_table.was)

pub returns-in_err-check_table-2 : goal.returns-in_err-check_table-2
returns-in_err-check_table-2 c =
    let e : c.from_residual-in_err-check_table-2.result ≡ Err c.in_err-check_table-2.field-0.0 = search rules in
    e ∙ refused_second _ _ _ _ (sym c.check_table.ensures ∙ c.in_ok-check_table.was) _ (sym c.check_table-2.ensures ∙ c.in_err-check_table-2.was)

pub returns-then-not-fits_behind : goal.returns-then-not-fits_behind
returns-then-not-fits_behind c = ap Err c.of.ensures ∙ not_behind _ _ _ _ (sym c.check_table.ensures ∙ c.in_ok-check_table.was) _ (sym c.check_table-2.ensures ∙ c.in_ok-check_table-2.was) _ c.fits_behind.ensures c.if-not-fits_behind.true

pub overflow_add-n : goal.overflow_add-n
overflow_add-n c = omega (arith, short c.args.s.now _ (sym c.check_table.ensures ∙ c.in_ok-check_table.was), short c.args.t.now _ (sym c.check_table-2.ensures ∙ c.in_ok-check_table-2.was))

pub returns-then-n-gt-ROW_LIMIT : goal.returns-then-n-gt-ROW_LIMIT
returns-then-n-gt-ROW_LIMIT c = ap Err c.of-then-n-gt-ROW_LIMIT.ensures ∙ too_many _ _ _ _ (sym c.check_table.ensures ∙ c.in_ok-check_table.was) _ (sym c.check_table-2.ensures ∙ c.in_ok-check_table-2.was) _ c.fits_behind.ensures c.if-not-fits_behind.false c.if-n-gt-ROW_LIMIT.true

pub first_twin-requires-clause-row_words_len : goal.first_twin-requires-clause-row_words_len
first_twin-requires-clause-row_words_len c = rows_whole c.args.s.now _ (sym c.check_table.ensures ∙ c.in_ok-check_table.was)

pub first_twin-requires-clause-n_in_bounds : goal.first_twin-requires-clause-n_in_bounds
first_twin-requires-clause-n_in_bounds c = omega arith

pub first_twin-requires-clause-n_le_row_limit : goal.first_twin-requires-clause-n_le_row_limit
first_twin-requires-clause-n_le_row_limit c = c.if-n-gt-ROW_LIMIT.false

pub returns-in_err-refuse_at : goal.returns-in_err-refuse_at
returns-in_err-refuse_at c =
    let w = refused_at Sibling _ _ (sym c.refuse_at.ensures ∙ c.in_err-refuse_at.was) in
    let f = found_some _ _ _ (sym c.first_twin.ensures ∙ w.1) in
    let e : c.from_residual-in_err-refuse_at.result ≡ Err c.in_err-refuse_at.field-0.0 = search rules in
    e ∙ ap Err w.2 ∙ twin_refused _ _ _ _ (sym c.check_table.ensures ∙ c.in_ok-check_table.was) _ (sym c.check_table-2.ensures ∙ c.in_ok-check_table-2.was) _ c.fits_behind.ensures c.if-not-fits_behind.false c.if-n-gt-ROW_LIMIT.false _ f.0 f.1

pub overflow_add-s : goal.overflow_add-s
overflow_add-s c = omega (arith, short c.args.s.now _ (sym c.check_table.ensures ∙ c.in_ok-check_table.was), short c.args.t.now _ (sym c.check_table-2.ensures ∙ c.in_ok-check_table-2.was))

pub returns-then-room-s : goal.returns-then-room-s
returns-then-room-s c = ap Err c.of-then-room-s.ensures ∙ no_room _ _ _ _ (sym c.check_table.ensures ∙ c.in_ok-check_table.was) _ (sym c.check_table-2.ensures ∙ c.in_ok-check_table-2.was) _ c.fits_behind.ensures c.if-not-fits_behind.false c.if-n-gt-ROW_LIMIT.false _ refl (found_none _ _ (sym c.first_twin.ensures ∙ passed_at Sibling _ _ (sym c.refuse_at.ensures ∙ c.in_ok-refuse_at.was))) c.if-room-s.true

pub overflow_add-result : goal.overflow_add-result
overflow_add-result c = omega (arith, short c.args.s.now _ (sym c.check_table.ensures ∙ c.in_ok-check_table.was), short c.args.t.now _ (sym c.check_table-2.ensures ∙ c.in_ok-check_table-2.was))

pub returns : goal.returns
returns c = joined _ _ _ _ (sym c.check_table.ensures ∙ c.in_ok-check_table.was) _ (sym c.check_table-2.ensures ∙ c.in_ok-check_table-2.was) _ c.fits_behind.ensures c.if-not-fits_behind.false c.if-n-gt-ROW_LIMIT.false _ refl (found_none _ _ (sym c.first_twin.ensures ∙ passed_at Sibling _ _ (sym c.refuse_at.ensures ∙ c.in_ok-refuse_at.was))) c.if-room-s.false
