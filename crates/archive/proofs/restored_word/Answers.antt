-- `archive::restored_word` meets its contract. Assumes nothing.
use Rattle.std.proofs.Common.{ℕ, get_or, refl, ap}
use Rattle.tables.specs.Words.{row_words, row_count}
use Rattle.archive.proofs.ColumnWords.{first_restored, further_restored}
use Rattle.archive.proofs.restored_word.Goals as goal

pub returns-then-i-eq0 : goal.returns-then-i-eq0
returns-then-i-eq0 c = first_restored row_words (row_count c.args.columns.now) c.args.columns.now c.args.i c.args.c
    (ap (λ (p : ℕ). get_or c.args.columns.now p 0) c.column_place.ensures.0) c.if-i-eq0.true

pub returns : goal.returns
returns c = further_restored row_words (row_count c.args.columns.now) c.args.columns.now c.args.i c.args.c
    (ap (λ (p : ℕ). get_or c.args.columns.now p 0) c.column_place.ensures.0)
    c.args.table.now c.requires.table_value c.if-i-eq0.false c.requires.c_lt_row_words.1 c.requires.c_lt_row_words.0
    c.word_at.ensures refl
