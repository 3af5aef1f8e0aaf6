-- `archive::put_columns` meets its contract. Assumes nothing.
use Rattle.tables.specs.Words.{row_words, row_count}
use Rattle.archive.specs.Archive.{archived_word}
use Rattle.archive.proofs.Laying.{LinesLaid}
use Rattle.archive.proofs.put_columns.Given as goal

abbrev pub invariant-loop-c : goal.invariant-loop-c
invariant-loop-c l = LinesLaid (archived_word row_words l.table) (row_count l.table) row_words l.initial.columns l.columns l.c
