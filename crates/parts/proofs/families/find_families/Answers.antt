-- `parts::families::find_families` meets its contract. Assumes nothing.
use native.Mathlib.Omega.{arith}
use lib.ListN.{length-set}
use Rattle.parts.proofs.Kinship.{few, parent_before, families_more}
use Rattle.parts.proofs.families.find_families.Goals as goal

pub overflow_cast-end : goal.overflow_cast-end
overflow_cast-end c = let l = few c.requires.one_device c.loop-row-test.true c.parent_of-parent.ensures in omega arith

pub overflow_cast-families : goal.overflow_cast-families
overflow_cast-families c =
    let l = few c.requires.one_device c.loop-row-test.true c.parent_of-parent.ensures in
    let p = parent_before c.requires.one_device c.loop-row-test.true c.parent_of-parent.ensures in
    omega arith

pub bounds-families-row : goal.bounds-families-row
bounds-families-row c = let l = few c.requires.one_device c.loop-row-test.true c.parent_of-parent.ensures in omega arith

pub offset_bounds-families-parent : goal.offset_bounds-families-parent
offset_bounds-families-parent c =
    let l = few c.requires.one_device c.loop-row-test.true c.parent_of-parent.ensures in
    let p = parent_before c.requires.one_device c.loop-row-test.true c.parent_of-parent.ensures in
    omega arith

pub bounds-families-parent : goal.bounds-families-parent
bounds-families-parent c =
    let l = few c.requires.one_device c.loop-row-test.true c.parent_of-parent.ensures in
    let p = parent_before c.requires.one_device c.loop-row-test.true c.parent_of-parent.ensures in
    simp length-set (omega arith)

pub loop-row-preserved : goal.loop-row-preserved
loop-row-preserved c = families_more c.requires.one_device c.loop-row-test.true c.parent_of-parent.ensures c.loop-row.invariant
