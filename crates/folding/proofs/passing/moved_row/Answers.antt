-- `folding::passing::moved_row` meets its contract. Assumes nothing.
use Rattle.std.proofs.Common.{ℕ, ◌≡◌, ◌<◌, get_or, arith, sym, ap, subst, ◌∙◌}
use Rattle.std.proofs.lemmas.List.{length-map}
use Rattle.tables.specs.Words.{row_at, row_count}
use Rattle.tables.specs.declared.Row.{Row}
use Rattle.tables.proofs.Ordered.{few_rows, at_range}
use Rattle.folding.specs.Folding.{with_up}
use Rattle.folding.specs.Passing.{intos, IsMoved}
use Rattle.folding.specs.declared.passing.Move.{Move}
use Rattle.folding.proofs.ParentSearch.{in_place}
use Rattle.folding.proofs.Passes.{into_at, moved_root, moved_child, is_child_lem}
use Rattle.folding.proofs.passing.moved_row.Goals as goal

pub returns-then-row-eq0-clause-moved : goal.returns-then-row-eq0-clause-moved
returns-then-row-eq0-clause-moved c = moved_root c.args.table.now _ c.requires.foldable c.args.i c.requires.i_bound.0 _ c.row_at-row.ensures c.if-row-eq0.true

pub bounds-moves-parent : goal.bounds-moves-parent
bounds-moves-parent c = omega (arith, few_rows c.args.table.now c.requires.foldable.ordered, c.requires.i_bound.1.long, length-map c.args.moves.now (λ (m : Move). m.into))

pub row_at-requires : goal.row_at-requires
row_at-requires c = omega (arith, c.from-place.ensures ∙ into_at c.args.moves.now c.parent_of-parent.result, c.requires.i_bound.1.not_later c.parent_of-parent.result c.parent_of-parent.ensures.0)

pub returns-clause-moved : goal.returns-clause-moved
returns-clause-moved c =
    let place : c.from-place.result ≡ get_or (intos c.args.moves.now) c.parent_of-parent.result 0 = c.from-place.ensures ∙ into_at c.args.moves.now c.parent_of-parent.result in
    subst (λ (u : ℕ). IsMoved c.args.table.now (intos c.args.moves.now) c.args.i (with_up u c.row_at-row.result))
    (sym (ap (λ (r : Row). r.at) c.row_at.ensures ∙ ap (λ (k : ℕ). (row_at c.args.table.now k).at) place))
    (moved_child c.args.table.now _ c.requires.foldable c.args.i c.requires.i_bound.0 _ c.row_at-row.ensures
    (is_child_lem c.args.table.now (intos c.args.moves.now) c.requires.foldable c.args.i c.requires.i_bound.0 _ c.row_at-row.ensures c.if-row-eq0.false)
    c.parent_of-parent.result c.parent_of-parent.ensures.0 c.parent_of-parent.ensures.1)

pub returns-clause-up_fits : goal.returns-clause-up_fits
returns-clause-up_fits c =
    let place : c.from-place.result < row_count c.args.table.now
    = omega (arith, c.from-place.ensures ∙ into_at c.args.moves.now c.parent_of-parent.result, c.requires.i_bound.1.not_later c.parent_of-parent.result c.parent_of-parent.ensures.0) in
    omega (arith, ap (λ (r : Row). r.at) c.row_at.ensures, at_range c.args.table.now (in_place c.args.table.now c.requires.foldable) c.from-place.result place)
