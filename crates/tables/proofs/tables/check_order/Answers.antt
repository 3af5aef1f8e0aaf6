-- `tables::tables::check_order` meets its contract: each check refuses, or the next one is made. Assumes nothing.
use Rattle.std.proofs.Common.{rules, tests, ◌≡◌, Err, true, false, sym, ap, ◌∙◌}
use Rattle.base.proofs.Ranges.{found_by_find}
use Rattle.tables.specs.Words.{row_at, row_count}
use Rattle.tables.specs.Tables.{out_of_range, not_above, table_length}
use Rattle.tables.proofs.Checks.{bad_rows, rows_in_turn, parents_in_turn}
use Rattle.tables.proofs.tables.check_order.Goals as goal
use Rattle.tables.proofs.tables.check_order.Goals.{then-table-ne0-via-then-table-ne0, then-table-ne0-via-else-table-ne0+then-n-gt-ROW_LIMIT}

pub returns-then-table-ne0 : goal.returns-then-table-ne0
returns-then-table-ne0 c =
    let t = c.args.table.now in
    let bad : table_length t ≡ false = elim c.then-table-ne0.branch [
      | then-table-ne0-via-then-table-ne0 w ↦ search (rules, tests, w.if-table-ne0.true)
      | then-table-ne0-via-else-table-ne0+then-n-gt-ROW_LIMIT w ↦ search (rules, tests, w.if-n-gt-ROW_LIMIT.true, w.if-table-ne0.false)
    ] in
    ap Err c.of.ensures ∙ sym (bad_rows t bad)

pub returns-in_err-refuse_at : goal.returns-in_err-refuse_at
returns-in_err-refuse_at c =
    let t = c.args.table.now in
    let whole : table_length t ≡ true = search (rules, tests) in
    let range = found_by_find (λ i. out_of_range (row_at t i)) (row_count t) _ _ _ c.find-range.ensures.ran (λ x b q k. search (rules, tests)) in
    let e : c.from_residual.result ≡ Err c.in_err-refuse_at.field-0.0 = search rules in
    e ∙ sym (rows_in_turn t whole ∙ rw (← range, ← c.refuse_at.ensures, c.in_err-refuse_at.was))

pub returns-in_err-refuse_at-2 : goal.returns-in_err-refuse_at-2
returns-in_err-refuse_at-2 c =
    let t = c.args.table.now in
    let whole : table_length t ≡ true = search (rules, tests) in
    let range = found_by_find (λ i. out_of_range (row_at t i)) (row_count t) _ _ _ c.find-range.ensures.ran (λ x b q k. search (rules, tests)) in
    let order = found_by_find (not_above t) (row_count t) _ _ _ c.find-order.ensures.ran (λ x b q k. search (rules, tests)) in
    let e : c.from_residual-in_err-refuse_at-2.result ≡ Err c.in_err-refuse_at-2.field-0.0 = search rules in
    e ∙ sym (rows_in_turn t whole ∙ rw (← range, ← c.refuse_at.ensures, c.in_ok-refuse_at.was, ← order, ← c.refuse_at-2.ensures, c.in_err-refuse_at-2.was))

pub returns-in_err-check_parents : goal.returns-in_err-check_parents
returns-in_err-check_parents c =
    let t = c.args.table.now in
    let whole : table_length t ≡ true = search (rules, tests) in
    let range = found_by_find (λ i. out_of_range (row_at t i)) (row_count t) _ _ _ c.find-range.ensures.ran (λ x b q k. search (rules, tests)) in
    let order = found_by_find (not_above t) (row_count t) _ _ _ c.find-order.ensures.ran (λ x b q k. search (rules, tests)) in
    let e : c.from_residual-in_err-check_parents.result ≡ Err c.in_err-check_parents.field-0.0 = search rules in
    e ∙ sym (rows_in_turn t whole ∙ rw (← range, ← c.refuse_at.ensures, c.in_ok-refuse_at.was, ← order, ← c.refuse_at-2.ensures, c.in_ok-refuse_at-2.was)
    (parents_in_turn t (row_count t) _ ∙ rw (← c.check_parents.ensures, c.in_err-check_parents.was)))

pub returns : goal.returns
returns c =
    let t = c.args.table.now in
    let whole : table_length t ≡ true = search (rules, tests) in
    let range = found_by_find (λ i. out_of_range (row_at t i)) (row_count t) _ _ _ c.find-range.ensures.ran (λ x b q k. search (rules, tests)) in
    let order = found_by_find (not_above t) (row_count t) _ _ _ c.find-order.ensures.ran (λ x b q k. search (rules, tests)) in
    sym (rows_in_turn t whole ∙ rw (← range, ← c.refuse_at.ensures, c.in_ok-refuse_at.was, ← order, ← c.refuse_at-2.ensures, c.in_ok-refuse_at-2.was)
    (parents_in_turn t (row_count t) _ ∙ rw (← c.check_parents.ensures, c.in_ok-check_parents.was)))
