-- `tables::twins::first_twin` meets its contract. Assumes nothing.
use mathlib.Core.List.{◌++◌}
use mathlib.Core.Path.{◌≡◌}
use Rattle.std.specs.Prelude.{None}
use Rattle.base.specs.Search.{found}
use Rattle.tables.specs.Tables.{has_twin}
use Rattle.tables.specs.Links.{twins_at, Chained}
use Rattle.tables.proofs.twins.first_twin.Given as goal

abbrev pub invariant-loop-i : goal.invariant-loop-i
invariant-loop-i l = record {
  linked : l.chains.rows ≡ l.i;
  chained : Chained (twins_at (l.s ++ l.t)) l.chains;
  none : found (has_twin (l.s ++ l.t)) l.i ≡ None;
}
