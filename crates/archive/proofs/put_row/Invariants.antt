-- `archive::put_row` meets its contract. Assumes nothing.
use Rattle.std.proofs.Common.{◌*◌}
use Rattle.base.proofs.Copies.{Copying}
use Rattle.tables.specs.Words.{row_words, row_count}
use Rattle.archive.specs.Archive.{words_below, restored_word}
use Rattle.archive.proofs.put_row.Given as goal

abbrev pub invariant-loop-c : goal.invariant-loop-c
invariant-loop-c l = Copying (words_below (restored_word (row_count l.columns) l.columns l.i) row_words) l.initial.table (row_words * l.i) l.table l.c
