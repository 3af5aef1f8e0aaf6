-- `engine::reasons::mark_ranged` meets its contract. Assumes nothing.
use mathlib.Core.Path.{◌≡◌}
use lib.ListN.{length}
use Rattle.base.specs.Lists.{any, select}
use Rattle.tables.specs.Words.{rows_from}
use Rattle.engine.specs.Ready.{ranges_by}
use Rattle.engine.specs.Marked.{mark_in}
use Rattle.engine.proofs.reasons.mark_ranged.Given as goal

abbrev pub invariant-loop-i : goal.invariant-loop-i
invariant-loop-i l =
    (l.found ≡ any (ranges_by l.pool l.b l.q) (rows_from l.pool l.fn.run.start l.i))
    × (l.out ≡ mark_in l.pool (select (ranges_by l.pool l.b l.q) (rows_from l.pool l.fn.run.start l.i)) l.initial.out)
    × (length l.out ≡ length l.initial.out)
