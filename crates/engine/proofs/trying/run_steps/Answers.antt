-- `engine::trying::run_steps` meets its contract. Assumes nothing.
use Prim.Native.Nat.{◌+◌, ◌/◌}
use mathlib.Core.Path.{◌≡◌, sym, ap}
use native.Mathlib.Omega.{arith}
use lib.ListN.{length}
use Rattle.tables.specs.Answers.{value}
use Rattle.engine.proofs.Running.{run_stops, run_more, run_end}
use Rattle.engine.proofs.trying.run_steps.Goals as goal

pub returns-in-Err : goal.returns-in-Err
returns-in-Err c =
    rw c.number.ensures (run_stops _ _ _ _ _ _ c.loop-k.invariant c.loop-k-test.true c.step_end.ensures.words_are c.try_step.ensures c.in-Err.is)

pub loop-k-preserved : goal.loop-k-preserved
loop-k-preserved c = run_more _ _ _ _ _ _ c.loop-k.invariant c.loop-k-test.true c.step_end.ensures.words_are c.try_step.ensures c.in-Ok.is (ap value (sym c.in-Ok.is))

pub returns : goal.returns
returns c =
    let all : c.loop-k.k ≡ (length c.args.steps.now + 6) / 7 = omega (arith, c.loop-k.invariant.within, c.loop-k-test.false) in
    rw (← all) (run_end _ _ _ _ _ _ c.loop-k.invariant c.loop-k-test.false)
