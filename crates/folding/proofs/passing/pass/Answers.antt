-- `folding::passing::pass` meets its contract. Assumes nothing.
use Rattle.std.proofs.Common.{◌≡◌, arith, ◌∙◌}
use Rattle.std.proofs.lemmas.List.{length-map, map-set}
use Rattle.base.specs.Search.{first}
use Rattle.tables.specs.Tables.{is_twin}
use Rattle.tables.proofs.Ordered.{few_rows}
use Rattle.tables.proofs.Linked.{last_is}
use Rattle.tables.proofs.Siblings.{twin_below}
use Rattle.folding.specs.Passing.{ups, moved_at}
use Rattle.folding.specs.declared.passing.Move.{Move}
use Rattle.folding.proofs.Passes.{into_at, go_begin, backward, through, alone, go_more}
use Rattle.folding.proofs.passing.pass.Goals as goal
use Rattle.folding.proofs.passing.pass.Goals.{in-Some, in-None}

pub loop-i-init : goal.loop-i-init
loop-i-init c = go_begin _ _ _ _ (length-map c.args.moves.now (λ (m : Move). m.into) ∙ c.requires.moves_len) (length-map c.args.moves.now (λ (m : Move). m.up) ∙ c.requires.moves_len)

pub moved_row-row-requires-clause-i_bound : goal.moved_row-row-requires-clause-i_bound
moved_row-row-requires-clause-i_bound c = (c.loop-i-test.true, backward c.loop-i.invariant.passing)

pub offset_bounds-head-hash : goal.offset_bounds-head-hash
offset_bounds-head-hash c = omega (arith, twin_below c.moved_row-row.result, c.twin_hash-hash.ensures)

pub bounds-head-hash : goal.bounds-head-hash
bounds-head-hash c = omega (arith, twin_below c.moved_row-row.result, c.twin_hash-hash.ensures)

pub last_equal-requires-clause-k_value : goal.last_equal-requires-clause-k_value
last_equal-requires-clause-k_value c = c.from.ensures ∙ last_is _ _ _ c.loop-i.invariant.heads c.twin_hash-hash.ensures (twin_below c.moved_row-row.result)

pub bounds-moves-i : goal.bounds-moves-i
bounds-moves-i c = omega (arith, few_rows c.args.table.now c.requires.foldable.ordered)

pub bounds-next-i : goal.bounds-next-i
bounds-next-i c = omega (arith, few_rows c.args.table.now c.requires.foldable.ordered)

pub offset_bounds-head-hash-in-loop-i : goal.offset_bounds-head-hash-in-loop-i
offset_bounds-head-hash-in-loop-i c = omega (arith, twin_below c.moved_row-row.result, c.twin_hash-hash.ensures)

pub bounds-head-hash-in-loop-i : goal.bounds-head-hash-in-loop-i
bounds-head-hash-in-loop-i c = omega (arith, twin_below c.moved_row-row.result, c.twin_hash-hash.ensures)

pub loop-i-preserved : goal.loop-i-preserved
loop-i-preserved c =
    let few = few_rows c.args.table.now c.requires.foldable.ordered in
    let goes : c.match-last_equal.into ≡ first (λ j. is_twin c.moved_row-row.result (moved_at c.args.table.now (ups c.loop-i.moves) j)) c.loop-i.i
    = elim c.match-last_equal.branch [
      | in-Some w ↦ w.into-is ∙ into_at c.loop-i.moves w.in-Some.equal
          ∙ through c.requires.foldable few c.loop-i.invariant c.loop-i-test.true c.moved_row-row.ensures.moved w.in-Some.equal w.in-Some.ensures.0 w.in-Some.ensures.1
      | in-None w ↦ w.into-is ∙ alone c.requires.foldable few c.loop-i.invariant c.loop-i-test.true c.moved_row-row.ensures.moved w.in-None.ensures
    ] in
    rw (map-set (λ (m : Move). m.into) c.loop-i.moves c.loop-i.i, map-set (λ (m : Move). m.up) c.loop-i.moves c.loop-i.i)
    (go_more c.requires.foldable few c.loop-i.invariant c.loop-i-test.true c.moved_row-row.ensures.moved goes c.twin_hash-hash.ensures
    (omega (arith, twin_below c.moved_row-row.result, c.twin_hash-hash.ensures)))
