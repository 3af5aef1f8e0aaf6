-- `parts::calls::send_chosen` meets its contract. Assumes nothing.
use mathlib.Core.Path.{◌≡◌, ◌∙◌}
use Rattle.std.proofs.Common.{rules, Err}
use Rattle.logic.specs.Formulas.{formulas_of}
use Rattle.parts.proofs.Answered as laws
use Rattle.parts.proofs.calls.send_chosen.Goals as goal

pub send-requires-clause-rows : goal.send-requires-clause-rows
send-requires-clause-rows c = (laws.words_fit (formulas_of c.args.set.now.rules.now c.args.set.now.counts.now) c.args.table.now c.args.mode c.args.out.now c.in_ok-count.ensures.answer c.in_ok-count.ensures.marks).0

pub send-requires-clause-room : goal.send-requires-clause-room
send-requires-clause-room c = (laws.words_fit (formulas_of c.args.set.now.rules.now c.args.set.now.counts.now) c.args.table.now c.args.mode c.args.out.now c.in_ok-count.ensures.answer c.in_ok-count.ensures.marks).1

pub returns-in_err-count-clause-answer : goal.returns-in_err-count-clause-answer
returns-in_err-count-clause-answer c =
    let e : c.from_residual.result ≡ Err c.in_err-count.field-0.0 = search rules in
    e ∙ c.in_err-count.ensures.answer

pub returns-in_err-count-clause-words : goal.returns-in_err-count-clause-words
returns-in_err-count-clause-words c = laws.out_kept (formulas_of c.args.set.now.rules.now c.args.set.now.counts.now) c.args.table.now c.args.mode c.args.out.now c.in_err-count.ensures.answer

pub returns-clause-answer : goal.returns-clause-answer
returns-clause-answer c = c.in_ok-count.ensures.answer

pub returns-clause-words : goal.returns-clause-words
returns-clause-words c = laws.out_written (formulas_of c.args.set.now.rules.now c.args.set.now.counts.now) c.args.table.now c.args.mode c.args.out.now c.in_ok-count.ensures.answer c.in_ok-count.ensures.marks c.send.ensures
