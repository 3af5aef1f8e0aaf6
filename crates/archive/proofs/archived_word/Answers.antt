-- `archive::archived_word` meets its contract. Assumes nothing.
use Rattle.std.proofs.Common.{arith}
use Rattle.tables.specs.Words.{row_words}
use Rattle.archive.proofs.ColumnWords.{first_archived, further_archived}
use Rattle.archive.proofs.archived_word.Goals as goal

pub returns-then-i-eq0 : goal.returns-then-i-eq0
returns-then-i-eq0 c = first_archived row_words c.args.table.now c.args.c c.args.i c.word_at-word.ensures c.if-i-eq0.true

pub returns : goal.returns
returns c = further_archived row_words c.args.table.now c.args.c c.args.i c.word_at-word.ensures c.if-i-eq0.false c.word_at.ensures (omega arith)
