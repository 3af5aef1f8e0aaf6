-- `plans::steps::step_place` meets its contract. Assumes nothing.
use Rattle.std.proofs.Common.{Err, ap, sym, ◌∙◌}
use Rattle.plans.proofs.Splices.{no_step, place_read}
use Rattle.plans.proofs.steps.step_place.Goals as goal

pub returns-in_default : goal.returns-in_default
returns-in_default c = ap Err c.of.ensures ∙ sym (no_step c.args.table.now c.args.step.now c.in_default.ensures)

pub returns : goal.returns
returns c = c.place_of.ensures ∙ sym (place_read c.args.table.now c.args.step.now c.in-Some.ensures)
