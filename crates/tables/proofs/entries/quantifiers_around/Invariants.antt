-- `tables::entries::quantifiers_around` meets its contract. Assumes nothing.
use Rattle.tables.proofs.Nesting.{Climbs}
use Rattle.tables.proofs.entries.quantifiers_around.Given as goal

abbrev pub invariant-loop-i : goal.invariant-loop-i
invariant-loop-i l = Climbs l.rule l.j l.count l.inner l.i
