-- `engine::reasons::past_nots` meets its contract. Assumes nothing.
use native.Mathlib.Omega.{arith}
use Rattle.engine.proofs.Explained.{under_later, under_not}
use Rattle.engine.proofs.reasons.past_nots.Goals as goal

pub loop-body-smaller : goal.loop-body-smaller
loop-body-smaller c =
    let p = c.in-Not.ensures.parts in
    omega (arith, p.1, (under_later c.args.rule.now c.args.entry c.args.verdict _ _ c.loop-body.invariant c.requires.0 _ c.entry_at.ensures p.0).0, c.loop-body.invariant.inside)

pub loop-body-preserved : goal.loop-body-preserved
loop-body-preserved c =
    let p = c.in-Not.ensures.parts in
    rw p.1 (under_not c.args.rule.now c.args.entry c.args.verdict _ _ c.loop-body.invariant c.requires.0 _ c.entry_at.ensures p.0)
