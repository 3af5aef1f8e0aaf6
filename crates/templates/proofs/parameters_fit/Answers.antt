use Rattle.std.proofs.Common.{rules, tests, not}
use Rattle.base.proofs.Ranges.{none_by_all}
use Rattle.templates.specs.Templates.{is_used}
use Rattle.templates.proofs.Answers.{few_used}
use Rattle.templates.proofs.parameters_fit.Goals as goal

pub returns-then-count-le-PARAMETER_LIMIT : goal.returns-then-count-le-PARAMETER_LIMIT
returns-then-count-le-PARAMETER_LIMIT c = few_used c.args.template.now c.args.count c.if-count-le-PARAMETER_LIMIT.true
    (none_by_all (λ p. not (is_used c.args.template.now p)) _ _ _ _ c.all.ensures.ran (λ x b q k. search (rules, tests)))
