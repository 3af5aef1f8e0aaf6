-- `engine::trying::step_end` meets its contract. Assumes nothing.
use native.Mathlib.Omega.{arith}
use Rattle.engine.proofs.Running.{end_lacks, end_whole}
use Rattle.engine.proofs.trying.step_end.Goals as goal

pub overflow_mul-start : goal.overflow_mul-start
overflow_mul-start c = omega (arith, c.requires)

pub overflow_sub-steps : goal.overflow_sub-steps
overflow_sub-steps c = omega (arith, c.requires)

pub returns-then-steps-start-lt-STEP_WORDS : goal.returns-then-steps-start-lt-STEP_WORDS
returns-then-steps-start-lt-STEP_WORDS c = end_lacks c.args.steps.now c.args.k c.requires c.if-steps-start-lt-STEP_WORDS.true

pub overflow_add-result : goal.overflow_add-result
overflow_add-result c = omega (arith, c.if-steps-start-lt-STEP_WORDS.false)

pub returns : goal.returns
returns c = end_whole c.args.steps.now c.args.k c.requires c.if-steps-start-lt-STEP_WORDS.false
