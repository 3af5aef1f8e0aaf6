-- `checker::loading::load_rule` meets its contract, by the laws of proofs/Loads.antt. Assumes nothing.
use Rattle.std.proofs.Common.{rules, Err}
use mathlib.Core.Path.{◌≡◌, sym}
use native.Mathlib.Omega.{arith}
use lib.Seq.{length-take-le}
use Rattle.tables.specs.Rules.{check_rule}
use Rattle.tables.specs.declared.Fault.TheVariants.{RuleLength}
use Rattle.checker.proofs.Bounds.{rule_over}
use Rattle.checker.proofs.Loads.{load_refused, load_within, load_fault, load_accepted}
use Rattle.checker.proofs.loading.load_rule.Goals as goal

pub returns-in_err-n : goal.returns-in_err-n
returns-in_err-n c =
    let e : c.from_residual.result ≡ Err c.in_err-n.field-0.0 = search rules in
    rw e (load_refused _ _ check_rule _ _ _ _ c.read_rule.ensures.answer c.read_rule.ensures.words RuleLength _ c.lines_answer.ensures (λ ws h. rule_over ws (omega (arith, c.requires))) _ c.in_err-n.was)

pub slice_bounds-check_rule-end : goal.slice_bounds-check_rule-end
slice_bounds-check_rule-end c = load_within _ _ check_rule _ _ _ _ c.read_rule.ensures.answer c.read_rule.ensures.words RuleLength _ c.lines_answer.ensures _ c.in_ok-n.was

pub slice_bounds-check_rule-end-2 : goal.slice_bounds-check_rule-end-2
slice_bounds-check_rule-end-2 c = sym (length-take-le _ _ (load_within _ _ check_rule _ _ _ _ c.read_rule.ensures.answer c.read_rule.ensures.words RuleLength _ c.lines_answer.ensures _ c.in_ok-n.was))

pub returns-in_err-check_rule : goal.returns-in_err-check_rule
returns-in_err-check_rule c =
    let e : c.from_residual-in_err-check_rule.result ≡ Err c.in_err-check_rule.field-0.0 = search rules in
    rw e (load_fault _ _ check_rule _ _ _ _ c.read_rule.ensures.answer c.read_rule.ensures.words RuleLength _ c.lines_answer.ensures _ c.in_ok-n.was _ _ c.check_rule.ensures c.in_err-check_rule.was)

pub returns : goal.returns
returns c = load_accepted _ _ check_rule _ _ _ _ c.read_rule.ensures.answer c.read_rule.ensures.words RuleLength _ c.lines_answer.ensures _ c.in_ok-n.was _ _ c.check_rule.ensures c.in_ok-check_rule.was
