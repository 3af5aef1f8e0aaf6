-- `archive::put_columns` meets its contract. Assumes nothing.
use Rattle.std.proofs.Common.{arith}
use Rattle.archive.proofs.Laying.{none_laid, line_laid, lines_laid}
use Rattle.archive.proofs.put_columns.Goals as goal

pub loop-c-init : goal.loop-c-init
loop-c-init c = none_laid _ _ _ _

pub loop-c-preserved : goal.loop-c-preserved
loop-c-preserved c = line_laid _ _ _ _ c.loop-c.invariant (omega arith) c.put_column.ensures

pub shape_of-columns : goal.shape_of-columns
shape_of-columns c = c.loop-c.invariant.len

pub returns : goal.returns
returns c = lines_laid _ _ _ _ c.loop-c.invariant (omega arith)
