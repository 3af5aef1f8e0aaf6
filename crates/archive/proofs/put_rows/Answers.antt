-- `archive::put_rows` meets its contract. Assumes nothing.
use Rattle.std.proofs.Common.{arith}
use Rattle.base.proofs.Copies.{copied_front}
use Rattle.tables.specs.Words.{row_words, row_count}
use Rattle.archive.specs.Archive.{restored_word}
use Rattle.archive.proofs.ByPlace.{lines_length}
use Rattle.archive.proofs.Laying.{none_laid, line_laid, lines_laid}
use Rattle.archive.proofs.put_rows.Goals as goal

pub loop-i-init : goal.loop-i-init
loop-i-init c = none_laid _ _ _ _

pub put_row-requires-clause-table_value : goal.put_row-requires-clause-table_value
put_row-requires-clause-table_value c =
    let n = row_count c.args.columns.now in
    let long = lines_length (restored_word n c.args.columns.now) row_words n in
    copied_front _ _ c.loop-i.invariant (omega (arith, c.requires, long))

pub loop-i-preserved : goal.loop-i-preserved
loop-i-preserved c = line_laid _ _ _ _ c.loop-i.invariant (omega arith) c.put_row.ensures

pub shape_of-table : goal.shape_of-table
shape_of-table c = c.loop-i.invariant.len

pub returns : goal.returns
returns c = lines_laid _ _ _ _ c.loop-i.invariant (omega arith)
