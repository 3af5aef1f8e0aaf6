-- `tables::rows::row_of` meets its contract. Assumes nothing.
use mathlib.Core.Path.{sym, ◌∙◌}
use native.Mathlib.Omega.{arith}
use Rattle.tables.proofs.Words.{row_left, row_past}
use Rattle.tables.proofs.rows.row_of.Goals as goal

pub row_at-requires : goal.row_at-requires
row_at-requires c = omega (arith, c.if-i-n.true)

pub returns-then-i-n : goal.returns-then-i-n
returns-then-i-n c = c.row_at.ensures ∙ sym (row_left c.args.s.now c.args.t.now c.args.i (omega (arith, c.if-i-n.true)))

pub row_at-requires-2 : goal.row_at-requires-2
row_at-requires-2 c = omega (arith, c.if-i-n.false, c.requires.row_words_len, c.requires.row_words_in_bounds)

pub returns : goal.returns
returns c = c.row_at-2.ensures ∙ sym (row_past c.args.s.now c.args.t.now c.args.i c.requires.row_words_len c.if-i-n.false)
