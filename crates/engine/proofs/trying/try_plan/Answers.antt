-- `engine::trying::try_plan` meets its contract. Assumes nothing.
use Prim.Native.Nat.{ℕ}
use mathlib.Core.Path.{ap, ◌∙◌}
use native.Mathlib.Omega.{arith}
use Rattle.engine.proofs.Running.{trial_refused, set_ok, pool_fits, trial_begun, trial_done}
use Rattle.engine.proofs.trying.try_plan.Goals as goal

pub returns-in-Err-clause-trial : goal.returns-in-Err-clause-trial
returns-in-Err-clause-trial c = ap (λ (n : ℕ). record { number = n; place = c.in-Err.field-0.place; steps = 0; rows = 0 }) c.number.ensures ∙ (trial_refused c.args.rules.now c.args.counts.now c.args.pool.now c.args.steps.now c.args.table.now c.args.verdicts.now c.begin.ensures c.in-Err.is).0

pub returns-in-Err-clause-table : goal.returns-in-Err-clause-table
returns-in-Err-clause-table c = (trial_refused c.args.rules.now c.args.counts.now c.args.pool.now c.args.steps.now c.args.table.now c.args.verdicts.now c.begin.ensures c.in-Err.is).1.0

pub returns-in-Err-clause-verdicts : goal.returns-in-Err-clause-verdicts
returns-in-Err-clause-verdicts c = (trial_refused c.args.rules.now c.args.counts.now c.args.pool.now c.args.steps.now c.args.table.now c.args.verdicts.now c.begin.ensures c.in-Err.is).1.1

pub copy_at-requires : goal.copy_at-requires
copy_at-requires c = omega (arith, pool_fits c.args.rules.now c.args.counts.now c.args.pool.now c.args.steps.now c.args.table.now c.args.verdicts.now c.begin.ensures c.in_default.is)

pub run_steps-requires : goal.run_steps-requires
run_steps-requires c = trial_begun c.args.rules.now c.args.counts.now c.args.pool.now c.args.steps.now c.args.table.now c.args.verdicts.now c.begin.ensures c.in_default.is c.copy_at.ensures

pub returns-clause-trial : goal.returns-clause-trial
returns-clause-trial c = (trial_done c.args.rules.now c.args.counts.now c.args.pool.now c.args.steps.now c.args.table.now c.args.verdicts.now c.begin.ensures c.in_default.is c.copy_at.ensures
    c.run_steps.ensures).0

pub returns-clause-table : goal.returns-clause-table
returns-clause-table c = (trial_done c.args.rules.now c.args.counts.now c.args.pool.now c.args.steps.now c.args.table.now c.args.verdicts.now c.begin.ensures c.in_default.is c.copy_at.ensures
    c.run_steps.ensures).1.0

pub returns-clause-verdicts : goal.returns-clause-verdicts
returns-clause-verdicts c = (trial_done c.args.rules.now c.args.counts.now c.args.pool.now c.args.steps.now c.args.table.now c.args.verdicts.now c.begin.ensures c.in_default.is c.copy_at.ensures
    c.run_steps.ensures).1.1

pub invariant_of-run_steps : goal.invariant_of-run_steps
invariant_of-run_steps c = record { accepted = set_ok c.args.rules.now c.args.counts.now c.args.pool.now c.args.steps.now c.args.table.now c.args.verdicts.now c.begin.ensures c.in_default.is }
