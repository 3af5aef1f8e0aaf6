-- `tables::writing::write_file` meets its contract, by the laws of proofs/WriteAnswers.antt. Assumes nothing.
use Prim.Native.Nat.{◌+◌, ◌<◌}
use Rattle.std.proofs.Common.{rules, Err}
use mathlib.Core.Path.{◌≡◌, ap, sym, ◌∙◌}
use native.Mathlib.Omega.{arith}
use lib.ListN.{length}
use borrow.Author.Tests.{leb-true, leb-false}
use Rattle.tables.specs.Files.{lines_text}
use Rattle.tables.specs.Scans.{format_of}
use Rattle.tables.proofs.WriteAnswers.{refuse, short, accept}
use Rattle.tables.proofs.writing.write_file.Goals as goal
use Rattle.tables.proofs.writing.write_file.Goals.{then-out-h-via-then-out-h, then-out-h-via-else-out-h+then-not-text_fits}

pub returns-in_err-checked-clause-answer : goal.returns-in_err-checked-clause-answer
returns-in_err-checked-clause-answer c =
    let e : c.from_residual.result ≡ Err c.in_err-checked.field-0.0 = search rules in
    e ∙ (refuse _ _ _ _ _ _ c.in_err-checked.was).0

pub returns-in_err-checked-clause-bytes : goal.returns-in_err-checked-clause-bytes
returns-in_err-checked-clause-bytes c = (refuse _ _ _ _ _ _ c.in_err-checked.was).1

pub returns-then-out-h-clause-answer : goal.returns-then-out-h-clause-answer
returns-then-out-h-clause-answer c =
    let over : length c.args.out.now < length c.args.names.now + length (lines_text (format_of c.args.format) c.args.words.now) = elim c.then-out-h.branch [
      | then-out-h-via-then-out-h w ↦ omega (arith, w.if-out-h.true)
      | then-out-h-via-else-out-h+then-not-text_fits w ↦ omega (arith, w.if-out-h.false, leb-false _ _ (sym w.if-not-text_fits.ensures))
    ] in
    ap Err c.of.ensures ∙ (short _ _ _ _ _ _ c.in_ok-checked.was over).0

pub returns-then-out-h-clause-bytes : goal.returns-then-out-h-clause-bytes
returns-then-out-h-clause-bytes c =
    let over : length c.args.out.now < length c.args.names.now + length (lines_text (format_of c.args.format) c.args.words.now) = elim c.then-out-h.branch [
      | then-out-h-via-then-out-h w ↦ omega (arith, w.if-out-h.true)
      | then-out-h-via-else-out-h+then-not-text_fits w ↦ omega (arith, w.if-out-h.false, leb-false _ _ (sym w.if-not-text_fits.ensures))
    ] in
    (short _ _ _ _ _ _ c.in_ok-checked.was over).1

pub returns-clause-answer : goal.returns-clause-answer
returns-clause-answer c = (accept _ _ _ _ _ _ _ _ _ c.in_ok-checked.was c.put_words.ensures.place (omega (arith, c.if-out-h.false, leb-true _ _ (sym c.if-not-text_fits.ensures))) c.copy_at.ensures c.put_words.ensures.bytes).0

pub returns-clause-bytes : goal.returns-clause-bytes
returns-clause-bytes c = (accept _ _ _ _ _ _ _ _ _ c.in_ok-checked.was c.put_words.ensures.place (omega (arith, c.if-out-h.false, leb-true _ _ (sym c.if-not-text_fits.ensures))) c.copy_at.ensures c.put_words.ensures.bytes).1
