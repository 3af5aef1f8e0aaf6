-- `archive::put_column` meets its contract. Assumes nothing.
use Rattle.std.proofs.Common.{◌*◌}
use Rattle.base.proofs.Copies.{Copying}
use Rattle.tables.specs.Words.{row_words, row_count}
use Rattle.archive.specs.Archive.{words_below, archived_word}
use Rattle.archive.proofs.put_column.Given as goal

abbrev pub invariant-loop-i : goal.invariant-loop-i
invariant-loop-i l = Copying (words_below (archived_word row_words l.table l.c) (row_count l.table)) l.initial.columns (row_count l.table * l.c) l.columns l.i
