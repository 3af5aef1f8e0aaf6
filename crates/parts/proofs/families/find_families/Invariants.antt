-- `parts::families::find_families` meets its contract. Assumes nothing.
use Rattle.parts.specs.Families.{FamiliesWithin}
use Rattle.parts.proofs.families.find_families.Given as goal

abbrev pub invariant-loop-row : goal.invariant-loop-row
invariant-loop-row l = FamiliesWithin l.table l.families l.row
