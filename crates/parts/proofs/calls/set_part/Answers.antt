-- `parts::calls::set_part` meets its contract. Assumes nothing.
use mathlib.Core.Path.{◌≡◌, ◌∙◌}
use Rattle.std.proofs.Common.{rules, Err}
use Rattle.parts.proofs.Answered as laws
use Rattle.parts.proofs.calls.set_part.Goals as goal

pub returns-in_err-check-clause-answer : goal.returns-in_err-check-clause-answer
returns-in_err-check-clause-answer c =
    let e : c.from_residual.result ≡ Err c.in_err-check.field-0.0 = search rules in
    e ∙ laws.rules_refused _ _ c.args.table.now c.args.mode c.in_err-check.ensures.refused _

pub returns-in_err-check-clause-words : goal.returns-in_err-check-clause-words
returns-in_err-check-clause-words c = laws.refused_out _ _ c.args.table.now c.args.mode c.in_err-check.ensures.refused c.args.out.now

pub returns-clause-answer : goal.returns-clause-answer
returns-clause-answer c = c.send_chosen.ensures.answer ∙ laws.set_answer c.in_ok-check.ensures.accepted.0 c.in_ok-check.ensures.accepted.1 c.in_ok-check.field-0.accepted c.args.table.now c.args.mode _

pub returns-clause-words : goal.returns-clause-words
returns-clause-words c = c.send_chosen.ensures.words ∙ laws.set_words c.in_ok-check.ensures.accepted.0 c.in_ok-check.ensures.accepted.1 c.in_ok-check.field-0.accepted c.args.table.now c.args.mode c.args.out.now
