-- `tables::twins::first_twin` meets its contract. Assumes nothing.
use mathlib.Core.List.{◌++◌}
use mathlib.Core.Path.{sym, ap, ◌∙◌}
use native.Mathlib.Omega.{arith}
use Rattle.tables.specs.Words.{row_at}
use Rattle.tables.specs.Links.{twin_hash}
use Rattle.tables.proofs.Searches.{found_begin, found_here, found_not}
use Rattle.tables.proofs.Siblings.{twin_below, twin_found}
use Rattle.tables.proofs.twins.first_twin.Goals as goal

pub loop-i-init : goal.loop-i-init
loop-i-init c = record { linked = c.new-chains.ensures.empty; chained = c.new-chains.ensures.chained _; none = found_begin _ }

pub returns-then-has_twin : goal.returns-then-has_twin
returns-then-has_twin c =
    let t = c.args.s.now ++ c.args.t.now in
    let b = (rw c.loop-i.invariant.linked at c.has_twin.ensures) in
    sym (found_here _ _ _ c.loop-i-test.true c.loop-i.invariant.none (sym (twin_found t _ _ c.row_of-r.ensures _ b) ∙ c.if-has_twin.true))

pub link-requires-clause-h_in_bounds : goal.link-requires-clause-h_in_bounds
link-requires-clause-h_in_bounds c = omega (arith, twin_below c.row_of-r.result, c.twin_hash-h.ensures)

pub loop-i-preserved : goal.loop-i-preserved
loop-i-preserved c =
    let t = c.args.s.now ++ c.args.t.now in
    let b = (rw c.loop-i.invariant.linked at c.has_twin.ensures) in
    record {
      linked = omega (arith, c.link.ensures.rows, c.loop-i.invariant.linked);
      chained = c.link.ensures.chained _ (c.twin_hash-h.ensures ∙ ap twin_hash (c.row_of-r.ensures ∙ ap (row_at t) (sym c.loop-i.invariant.linked))) c.loop-i.invariant.chained;
      none = found_not _ _ c.loop-i.invariant.none (sym (twin_found t _ _ c.row_of-r.ensures _ b) ∙ c.if-has_twin.false);
    }
