-- `plans::changing::apply` meets its contract. Assumes nothing.
use Rattle.std.proofs.Common.{rules, sym, ◌∙◌}
use Rattle.plans.proofs.Splices.{no_step, place_read, step_done, after_done, step_placed}
use Rattle.plans.proofs.changing.apply.Goals as goal

pub returns-in_default-clause-change : goal.returns-in_default-clause-change
returns-in_default-clause-change c = rw (no_step c.args.table.now c.args.step.now c.in_default.ensures) (cc)

pub returns-in_default-clause-words : goal.returns-in_default-clause-words
returns-in_default-clause-words c = rw (no_step c.args.table.now c.args.step.now c.in_default.ensures)

pub returns-in_err-row-clause-change : goal.returns-in_err-row-clause-change
returns-in_err-row-clause-change c = rw (place_read c.args.table.now c.args.step.now c.in-Some.ensures ∙ sym c.in_err-row.ensures) (search rules)

pub returns-in_err-row-clause-words : goal.returns-in_err-row-clause-words
returns-in_err-row-clause-words c = rw (place_read c.args.table.now c.args.step.now c.in-Some.ensures ∙ sym c.in_err-row.ensures)

pub put_step-requires : goal.put_step-requires
put_step-requires c = step_placed c.args.table.now c.args.step.now c.in-Some.ensures (sym c.in_ok-row.ensures)

pub returns-in-Err-clause-change : goal.returns-in-Err-clause-change
returns-in-Err-clause-change c = rw (step_done c.args.table.now c.args.step.now c.in-Some.ensures (sym c.in_ok-row.ensures), after_done c.args.table.now c.args.step.now c.in-Some.ensures (sym c.in_ok-row.ensures), sym c.put_step.ensures.value) (search rules)

pub returns-in-Err-clause-words : goal.returns-in-Err-clause-words
returns-in-Err-clause-words c = rw (step_done c.args.table.now c.args.step.now c.in-Some.ensures (sym c.in_ok-row.ensures), after_done c.args.table.now c.args.step.now c.in-Some.ensures (sym c.in_ok-row.ensures), sym c.put_step.ensures.value) c.put_step.ensures.out_after

pub returns-in-Ok-clause-change : goal.returns-in-Ok-clause-change
returns-in-Ok-clause-change c = rw (step_done c.args.table.now c.args.step.now c.in-Some.ensures (sym c.in_ok-row.ensures), after_done c.args.table.now c.args.step.now c.in-Some.ensures (sym c.in_ok-row.ensures), sym c.put_step.ensures.value) (search rules)

pub returns-in-Ok-clause-words : goal.returns-in-Ok-clause-words
returns-in-Ok-clause-words c = rw (step_done c.args.table.now c.args.step.now c.in-Some.ensures (sym c.in_ok-row.ensures), after_done c.args.table.now c.args.step.now c.in-Some.ensures (sym c.in_ok-row.ensures), sym c.put_step.ensures.value) c.put_step.ensures.out_after
