-- `archive::put_row` meets its contract. Assumes nothing.
use Rattle.std.proofs.Common.{refl, ◌∙◌, arith}
use Rattle.base.proofs.Copies.{copy_begin, copy_before}
use Rattle.archive.proofs.Laying.{word_laid, words_laid}
use Rattle.archive.proofs.put_row.Goals as goal

pub loop-c-init : goal.loop-c-init
loop-c-init c = copy_begin _ _ _

pub restored_word-requires-clause-table_value : goal.restored_word-requires-clause-table_value
restored_word-requires-clause-table_value c = copy_before _ _ _ c.loop-c.invariant ∙ c.requires.table_value

pub loop-c-preserved : goal.loop-c-preserved
loop-c-preserved c = word_laid _ _ _ _ c.loop-c.invariant (omega arith) refl c.restored_word.ensures

pub shape_of-table : goal.shape_of-table
shape_of-table c = c.loop-c.invariant.len

pub returns : goal.returns
returns c = words_laid _ _ _ _ c.loop-c.invariant (omega arith)
