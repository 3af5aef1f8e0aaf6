-- `tables::reading::fill` meets its contract, by the laws of proofs/Stores.antt. Assumes nothing.
use Rattle.tables.proofs.Stores.{store_begin, store_length, store_value, store_place, store_room, store_word, store_more, store_end}
use Rattle.std.proofs.Common.{rules}
use native.Mathlib.Omega.{arith}
use Rattle.tables.proofs.reading.fill.Goals as goal

pub loop-b-init : goal.loop-b-init
loop-b-init c = store_begin _ _ _ (search rules) c.requires

pub after-r-requires : goal.after-r-requires
after-r-requires c = (store_value _ _ _ _ _ c.loop-b.invariant, omega (arith, store_place _ _ _ _ _ c.loop-b.invariant))

pub put-requires-clause-place_in_bounds : goal.put-requires-clause-place_in_bounds
put-requires-clause-place_in_bounds c = store_room _ _ _ _ _ c.loop-b.invariant _ c.loop-b-test.true c.after-r.ensures

pub put-requires-clause-word : goal.put-requires-clause-word
put-requires-clause-word c = store_word _ _ _ _ _ c.loop-b.invariant _ c.loop-b-test.true c.after-r.ensures

pub loop-b-preserved : goal.loop-b-preserved
loop-b-preserved c = store_more _ _ _ _ _ c.loop-b.invariant _ c.loop-b-test.true c.after-r.ensures _ c.put.ensures

pub shape_of-out : goal.shape_of-out
shape_of-out c = store_length _ _ _ _ _ c.loop-b.invariant

pub returns : goal.returns
returns c = store_end _ _ _ _ _ c.loop-b.invariant c.loop-b-test.false
