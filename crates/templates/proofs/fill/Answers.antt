use Rattle.std.proofs.Common.{sym, ◌∙◌}
use Rattle.templates.proofs.Answers.{as_it_came, fits, template_whole, put_out}
use Rattle.templates.proofs.fill.Goals as goal

pub returns-in_err-words-clause-words : goal.returns-in_err-words-clause-words
returns-in_err-words-clause-words c = as_it_came _ _ _ (sym c.in_err-words.was ∙ c.check_filling.ensures)

pub put_filled-requires-clause-each_has_parameter : goal.put_filled-requires-clause-each_has_parameter
put_filled-requires-clause-each_has_parameter c =
    (fits c.args.template.now c.args.parameters.now c.args.out.now (sym c.in_ok-words.was ∙ c.check_filling.ensures)).each_has_parameter

pub put_filled-requires-clause-template_len : goal.put_filled-requires-clause-template_len
put_filled-requires-clause-template_len c =
    let e = sym c.in_ok-words.was ∙ c.check_filling.ensures in
    (template_whole c.args.template.now c.args.parameters.now c.args.out.now e, (fits c.args.template.now c.args.parameters.now c.args.out.now e).fits)

pub returns-clause-words : goal.returns-clause-words
returns-clause-words c = put_out _ _ _ (sym c.in_ok-words.was ∙ c.check_filling.ensures) c.put_filled.ensures
