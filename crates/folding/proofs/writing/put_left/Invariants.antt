-- `folding::writing::put_left` meets its contract. Assumes nothing.
use Rattle.tables.specs.Words.{row_count}
use Rattle.folding.specs.Passing.{intos, ups}
use Rattle.folding.proofs.Left.{Written}
use Rattle.folding.proofs.writing.put_left.Given as goal

abbrev pub invariant-loop-i : goal.invariant-loop-i
invariant-loop-i l = Written l.table (intos l.moves) (ups l.moves) l.initial.out (row_count l.table) l.out l.at l.i
