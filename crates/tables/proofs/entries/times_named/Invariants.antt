-- `tables::entries::times_named` meets its contract. Assumes nothing.
use Rattle.base.proofs.Sums.{Summed}
use Rattle.tables.specs.Words.{entry_at}
use Rattle.tables.specs.Rules.{namings}
use Rattle.tables.proofs.entries.times_named.Given as goal

abbrev pub invariant-loop-i : goal.invariant-loop-i
invariant-loop-i l = Summed (λ k. namings (entry_at l.rule k) l.j) 2 l.n l.i l.sum
