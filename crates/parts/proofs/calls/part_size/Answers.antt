-- `parts::calls::part_size` meets its contract. Assumes nothing.
use mathlib.Core.Path.{◌≡◌, sym, ◌∙◌}
use native.Mathlib.Omega.{arith}
use Rattle.std.proofs.Common.{rules, Err}
use Rattle.parts.proofs.Answered as laws
use Rattle.parts.proofs.calls.part_size.Goals as goal

pub overflow_cast-counts : goal.overflow_cast-counts
overflow_cast-counts c = let l = laws.count_few c.args.rule.now (sym c.in_ok-check_rule.was ∙ c.check_rule.ensures) in omega arith

pub invariant_of-set : goal.invariant_of-set
invariant_of-set c = record { accepted = laws.one_accepted c.args.rule.now (sym c.in_ok-check_rule.was ∙ c.check_rule.ensures) }

pub returns-in_err-check_rule : goal.returns-in_err-check_rule
returns-in_err-check_rule c =
    let e : c.from_residual.result ≡ Err c.in_err-check_rule.field-0.0 = search rules in
    e ∙ laws.rules_refused _ _ c.args.table.now c.args.mode (sym c.check_rule.ensures ∙ c.in_err-check_rule.was) c.args.room

pub returns : goal.returns
returns c = c.choose.ensures.answer ∙ laws.one_answer c.args.rule.now (sym c.in_ok-check_rule.was ∙ c.check_rule.ensures) c.args.table.now c.args.mode c.args.room
