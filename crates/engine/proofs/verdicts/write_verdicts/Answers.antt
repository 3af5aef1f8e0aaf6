-- `engine::verdicts::write_verdicts` meets its contract. Assumes nothing.
use Prim.Native.Nat.{ℕ}
use mathlib.Core.List.{List}
use mathlib.Core.Path.{sym, ap, ◌∙◌}
use Rattle.tables.specs.Words.{rows}
use Rattle.logic.specs.Formulas.{formula}
use Rattle.logic.specs.Verdict.{verdict}
use native.Mathlib.Omega.{arith}
use Rattle.tables.specs.Rules.{one}
use Rattle.engine.proofs.Answered.{start_ready}
use Rattle.engine.proofs.SetBytes.{one_bool, asked_byte, turn, turn_accepted, write_more, write_kept}
use Rattle.engine.proofs.verdicts.write_verdicts.Goals as goal

pub is_asked-requires : goal.is_asked-requires
is_asked-requires g c = c.requires.asks _ (turn_accepted _ _ _ _ c.loop-i.invariant c.in-Some.ensures.steps c.args.set.now.accepted)

pub holds-requires : goal.holds-requires
holds-requires g c = start_ready _ _ (turn_accepted _ _ _ _ c.loop-i.invariant c.in-Some.ensures.steps c.args.set.now.accepted) c.requires.pool_accepted c.none.ensures

pub bounds-out-i : goal.bounds-out-i
bounds-out-i g c = let t = turn _ _ _ _ c.loop-i.invariant c.in-Some.ensures.steps in omega (arith, t.below, c.loop-i.invariant.len, c.requires.counts_in_bounds)

pub loop-i-preserved : goal.loop-i-preserved
loop-i-preserved g c =
    let t = turn _ _ _ _ c.loop-i.invariant c.in-Some.ensures.steps in
    elim c.if-is_asked.branch [
      | goal.then-is_asked w ↦ rw w.out-is (write_more _ _ _ _ c.loop-i.invariant c.in-Some.ensures.steps
          (asked_byte _ _ (turn_accepted _ _ _ _ c.loop-i.invariant c.in-Some.ensures.steps c.args.set.now.accepted) c.requires.pool_accepted w.none.ensures w.holds.ensures (w.from.ensures ∙ one_bool _)))
      | goal.else-is_asked w ↦ rw w.out-is (write_kept _ _ _ _ c.loop-i.invariant c.in-Some.ensures.steps
          (c.loop-i.invariant.ahead _ (omega arith) ∙ c.requires.rest_there _ c.in-Some.rule t.below t.rule_is (rw w.if-is_asked.false at c.is_asked.ensures)
          ∙ ap (λ (rule : List ℕ). one (verdict (formula rule) (rows c.args.pool.now))) (sym t.rule_is)))
    ]
