use Rattle.std.proofs.Common.{arith, rules}
use Rattle.std.proofs.lemmas.Grind.{common_steps}
use Rattle.sets.proofs.Checked.{counts_fail, check_begin, check_more, check_end, refused_inside, rule_refused, done_inside}
use Rattle.sets.proofs.check_set.Goals as goal

pub returns-then-not-counts_fit : goal.returns-then-not-counts_fit
returns-then-not-counts_fit c = grind (arith, common_steps, counts_fail)

pub loop-rule-init : goal.loop-rule-init
loop-rule-init c = check_begin _ _ (search rules) (search rules)

pub overflow_add-before : goal.overflow_add-before
overflow_add-before c = omega (arith, done_inside _ _ c.loop-rule.invariant c.in-Some.ensures.steps c.in-Ok.ensures)

pub loop-rule-preserved : goal.loop-rule-preserved
loop-rule-preserved c = check_more _ _ c.loop-rule.invariant c.in-Some.ensures.steps c.in-Ok.ensures

pub overflow_add-result : goal.overflow_add-result
overflow_add-result c = omega (arith, refused_inside _ _ c.loop-rule.invariant c.in-Some.ensures.steps c.in-Err.ensures)

pub returns-in-Err : goal.returns-in-Err
returns-in-Err c = rule_refused _ _ c.loop-rule.invariant c.in-Some.ensures.steps c.in-Err.ensures

pub returns : goal.returns
returns c = check_end _ _ c.loop-rule.invariant c.in-None.ensures.steps.0
