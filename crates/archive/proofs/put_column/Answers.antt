-- `archive::put_column` meets its contract. Assumes nothing.
use Rattle.std.proofs.Common.{arith}
use Rattle.base.proofs.Copies.{copy_begin}
use Rattle.archive.proofs.Laying.{word_laid, words_laid}
use Rattle.archive.proofs.put_column.Goals as goal

pub loop-i-init : goal.loop-i-init
loop-i-init c = copy_begin _ _ _

pub loop-i-preserved : goal.loop-i-preserved
loop-i-preserved c = word_laid _ _ _ _ c.loop-i.invariant (omega arith) c.column_place.ensures.0 c.archived_word.ensures

pub shape_of-columns : goal.shape_of-columns
shape_of-columns c = c.loop-i.invariant.len

pub returns : goal.returns
returns c = words_laid _ _ _ _ c.loop-i.invariant (omega arith)
