-- `tables::parents::check_parents` meets its contract: a search for 11 that notes the first 26. Assumes nothing.
use mathlib.Core.Path.{◌≡◌}
use Rattle.std.specs.Prelude.{None}
use Rattle.base.specs.Search.{found}
use Rattle.tables.specs.Tables.{no_parent, wrong_depth}
use Rattle.tables.specs.Links.{places_at, Chained}
use Rattle.tables.proofs.parents.check_parents.Given as goal

abbrev pub invariant-loop-i : goal.invariant-loop-i
invariant-loop-i l = record {
  linked : l.chains.rows ≡ l.i;
  chained : Chained (places_at l.t) l.chains;
  parents : found (no_parent l.t) l.i ≡ None;
  depths : l.depth ≡ found (wrong_depth l.t) l.i;
}
