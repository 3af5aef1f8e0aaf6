-- `archive::put_rows` meets its contract. Assumes nothing.
use Rattle.tables.specs.Words.{row_words, row_count}
use Rattle.archive.specs.Archive.{restored_word}
use Rattle.archive.proofs.Laying.{LinesLaid}
use Rattle.archive.proofs.put_rows.Given as goal

abbrev pub invariant-loop-i : goal.invariant-loop-i
invariant-loop-i l = LinesLaid (restored_word (row_count l.columns) l.columns) row_words (row_count l.columns) l.initial.table l.table l.i
