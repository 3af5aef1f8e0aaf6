-- `engine::reasons::mark_whole` meets its contract. Assumes nothing.
use mathlib.Core.Path.{sym, ◌∙◌}
use Rattle.engine.proofs.Wholes.{same_name, whole_found, whole_as_it_is, whole_now, whole_stays}
use Rattle.engine.proofs.reasons.mark_whole.Goals as goal

pub returns-then-eq-clause-found_value : goal.returns-then-eq-clause-found_value
returns-then-eq-clause-found_value c = whole_found _ _ _ _ _ c.requires.covers c.in-Roots.is _ _ c.requires.marked_whole (same_name c.args.whole c.args.q.now.name (sym c.eq.ensures ∙ c.if-eq.true))

pub returns-then-eq-clause-out_after : goal.returns-then-eq-clause-out_after
returns-then-eq-clause-out_after c = whole_as_it_is _ _ _ _ _ c.requires.covers c.in-Roots.is _ _ c.requires.marked_whole (same_name c.args.whole c.args.q.now.name (sym c.eq.ensures ∙ c.if-eq.true))

pub returns-then-found-clause-marked_whole_2 : goal.returns-then-found-clause-marked_whole_2
returns-then-found-clause-marked_whole_2 c =
    whole_now _ _ _ _ _ c.requires.covers c.in-Roots.is _ c.mark_ranged-found.ensures.value c.if-found.true _ _ c.mark_ranged-found.ensures.out_after

pub returns-else-found-clause-marked_whole_2 : goal.returns-else-found-clause-marked_whole_2
returns-else-found-clause-marked_whole_2 c = whole_stays c.args.pool.now c.args.whole c.args.out.now c.requires.marked_whole _ _ c.mark_ranged-found.ensures.out_after

pub returns-in-Under-clause-marked_whole_2 : goal.returns-in-Under-clause-marked_whole_2
returns-in-Under-clause-marked_whole_2 c = whole_stays c.args.pool.now c.args.whole c.args.out.now c.requires.marked_whole _ _ c.mark_ranged-found-in-Under.ensures.out_after
