-- `parts::keeping::keep_rows` meets its contract. The loop's invariant: it is known of the rows passed which of them stay. Assumes nothing.
use Rattle.logic.specs.Formulas.{formulas_of}
use Rattle.parts.specs.Keeping.{Keeps}
use Rattle.parts.specs.Modes.{word_of}
use Rattle.parts.proofs.keeping.keep_rows.Given as goal

abbrev pub invariant-loop-row : goal.invariant-loop-row
invariant-loop-row l = Keeps (formulas_of l.set.rules.now l.set.counts.now) l.table (word_of l.mode) l.kept l.row
