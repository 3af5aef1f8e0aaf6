use Rattle.std.proofs.Common.{rules, sym, ap, ◌∙◌, ◌≡◌, Err}
use Rattle.tables.specs.Refusals.{refusal_at}
use Rattle.tables.specs.declared.refusals.Fault.TheVariants.{Blank}
use Rattle.templates.proofs.Answers.{stop_template, stop_blank, stop_parameters, stop_room, passed}
use Rattle.templates.proofs.check_filling.Goals as goal

pub returns-in_err-check_template : goal.returns-in_err-check_template
returns-in_err-check_template c =
    let e : c.from_residual.result ≡ Err c.in_err-check_template.field-0.0 = search rules in
    e ∙ stop_template _ _ _ (sym c.check_template.ensures ∙ c.in_err-check_template.was)

pub returns-in_err-refuse_at : goal.returns-in_err-refuse_at
returns-in_err-refuse_at c =
    let e : c.from_residual-in_err-refuse_at.result ≡ Err c.in_err-refuse_at.field-0.0 = search rules in
    e ∙ stop_blank c.args.template.now c.args.parameters.now c.args.room (sym c.check_template.ensures ∙ c.in_ok-check_template.was)
    (ap (refusal_at Blank) (sym c.first_lacking.ensures) ∙ sym c.refuse_at.ensures ∙ c.in_err-refuse_at.was)

pub returns-then-not-parameters_fit : goal.returns-then-not-parameters_fit
returns-then-not-parameters_fit c =
    ap Err c.of.ensures ∙ stop_parameters c.args.template.now c.args.parameters.now c.args.room (sym c.check_template.ensures ∙ c.in_ok-check_template.was)
    (ap (refusal_at Blank) (sym c.first_lacking.ensures) ∙ sym c.refuse_at.ensures ∙ c.in_ok-refuse_at.was)
    (sym c.parameters_fit.ensures ∙ c.if-not-parameters_fit.true)

pub returns-then-room-template : goal.returns-then-room-template
returns-then-room-template c =
    ap Err c.of-then-room-template.ensures ∙ stop_room c.args.template.now c.args.parameters.now c.args.room (sym c.check_template.ensures ∙ c.in_ok-check_template.was)
    (ap (refusal_at Blank) (sym c.first_lacking.ensures) ∙ sym c.refuse_at.ensures ∙ c.in_ok-refuse_at.was)
    (sym c.parameters_fit.ensures ∙ c.if-not-parameters_fit.false) c.if-room-template.true

pub returns : goal.returns
returns c = passed c.args.template.now c.args.parameters.now c.args.room (sym c.check_template.ensures ∙ c.in_ok-check_template.was)
    (ap (refusal_at Blank) (sym c.first_lacking.ensures) ∙ sym c.refuse_at.ensures ∙ c.in_ok-refuse_at.was)
    (sym c.parameters_fit.ensures ∙ c.if-not-parameters_fit.false) c.if-room-template.false
