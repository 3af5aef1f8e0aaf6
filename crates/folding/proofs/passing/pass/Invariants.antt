-- `folding::passing::pass` meets its contract. Assumes nothing.
use Rattle.tables.specs.Words.{row_count}
use Rattle.folding.specs.Passing.{intos, ups}
use Rattle.folding.proofs.Passes.{Going}
use Rattle.folding.proofs.passing.pass.Given as goal

abbrev pub invariant-loop-i : goal.invariant-loop-i
invariant-loop-i l = Going l.table (row_count l.table) (intos l.moves) (ups l.moves) l.head l.next l.i
