-- `engine::reasons::mark_ranged` meets its contract. Assumes nothing.
use Prim.Native.Nat.{◌+◌}
use mathlib.Core.Path.{◌≡◌, refl, sym, ap, ◌∙◌}
use mathlib.Core.Bool.{Bool, true, false, cond, ◌||◌}
use native.Mathlib.Omega.{arith}
use lib.ListN.{length, set, length-set}
use Rattle.engine.specs.Ready.{ranges_by}
use Rattle.engine.proofs.Marking.{any_more, mark_more, no_rows}
use Rattle.engine.proofs.reasons.mark_ranged.Goals.{then-ranges, else-ranges}
use Rattle.engine.proofs.reasons.mark_ranged.Goals as goal

hit_or : (found hit : Bool) → hit ≡ true → true ≡ (found || hit)
hit_or true hit h = refl
hit_or false hit h = sym h

miss_or : (found hit : Bool) → hit ≡ false → found ≡ (found || hit)
miss_or true hit h = refl
miss_or false hit h = sym h

pub loop-i-init : goal.loop-i-init
loop-i-init c =
    let n = no_rows c.args.pool.now (ranges_by c.args.pool.now c.args.b c.args.q.now) c.args.run.start c.args.out.now in
    (n.0, n.1, refl)

pub loop-i-preserved : goal.loop-i-preserved
loop-i-preserved c =
    let f = any_more c.args.pool.now c.requires.accepted (ranges_by c.args.pool.now c.args.b c.args.q.now) c.args.run.start c.loop-i.i _ c.ranges-in-loop-i.ensures _ c.loop-i.invariant.0 in
    let m = mark_more c.args.pool.now c.requires.accepted (ranges_by c.args.pool.now c.args.b c.args.q.now) c.args.run.start c.loop-i.i _ c.ranges-in-loop-i.ensures (omega (arith, c.requires.rows_bound.0, c.loop-i-test.true)) _ _ c.loop-i.invariant.1 in
    elim c.if-ranges.branch [
      | then-ranges w ↦ (
        w.found-is ∙ hit_or _ _ w.if-ranges.true ∙ f,
        w.out-is ∙ sym (ap (λ z. cond z (set c.loop-i.out (c.args.run.start + c.loop-i.i) 1) c.loop-i.out) w.if-ranges.true) ∙ m,
        ap (λ l. length l) w.out-is ∙ length-set _ _ _ ∙ c.loop-i.invariant.2,
      )
      | else-ranges w ↦ (
        w.found-is ∙ miss_or _ _ w.if-ranges.false ∙ f,
        w.out-is ∙ sym (ap (λ z. cond z (set c.loop-i.out (c.args.run.start + c.loop-i.i) 1) c.loop-i.out) w.if-ranges.false) ∙ m,
        ap (λ l. length l) w.out-is ∙ c.loop-i.invariant.2,
      )
    ]
