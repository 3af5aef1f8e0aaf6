-- `tables::reading::read_file` meets its contract, by the laws of proofs/ReadAnswers.antt. Assumes nothing.
use Rattle.std.proofs.Common.{Err}
use mathlib.Core.Path.{ap, sym, ◌∙◌}
use Rattle.tables.proofs.ReadAnswers.{refuse_first_line, refuse_line, refuse_short, fillable, accept}
use Rattle.tables.proofs.reading.read_file.Goals as goal

pub returns-in_default-clause-answer : goal.returns-in_default-clause-answer
returns-in_default-clause-answer c = (refuse_first_line _ _ _ _ c.in_default.ensures.cases).0

pub returns-in_default-clause-words : goal.returns-in_default-clause-words
returns-in_default-clause-words c = (refuse_first_line _ _ _ _ c.in_default.ensures.cases).1

pub returns-then-not-at_line-clause-answer : goal.returns-then-not-at_line-clause-answer
returns-then-not-at_line-clause-answer c =
    (refuse_line _ _ _ _ _ c.in-Some.ensures.cases _ c.scan_all-s.ensures (sym c.if-not-at_line.ensures)).0

pub returns-then-not-at_line-clause-words : goal.returns-then-not-at_line-clause-words
returns-then-not-at_line-clause-words c =
    (refuse_line _ _ _ _ _ c.in-Some.ensures.cases _ c.scan_all-s.ensures (sym c.if-not-at_line.ensures)).1

pub returns-then-out-s-clause-answer : goal.returns-then-out-s-clause-answer
returns-then-out-s-clause-answer c =
    ap Err c.of.ensures ∙ (refuse_short _ _ _ _ _ c.in-Some.ensures.cases _ c.scan_all-s.ensures (sym c.if-not-at_line.ensures) c.if-out-s.true).0

pub returns-then-out-s-clause-words : goal.returns-then-out-s-clause-words
returns-then-out-s-clause-words c =
    (refuse_short _ _ _ _ _ c.in-Some.ensures.cases _ c.scan_all-s.ensures (sym c.if-not-at_line.ensures) c.if-out-s.true).1

pub fill-requires : goal.fill-requires
fill-requires c =
    fillable _ _ _ _ _ c.in-Some.ensures.cases _ c.scan_all-s.ensures (sym c.if-not-at_line.ensures) c.args.format.has_column c.if-out-s.false

pub returns-clause-answer : goal.returns-clause-answer
returns-clause-answer c =
    (accept _ _ _ _ _ c.in-Some.ensures.cases _ c.scan_all-s.ensures _ (sym c.if-not-at_line.ensures) c.args.format.has_column c.if-out-s.false c.fill.ensures).0

pub returns-clause-words : goal.returns-clause-words
returns-clause-words c =
    (accept _ _ _ _ _ c.in-Some.ensures.cases _ c.scan_all-s.ensures _ (sym c.if-not-at_line.ensures) c.args.format.has_column c.if-out-s.false c.fill.ensures).1
