-- The counts as the code holds them; cited by private contracts alone. Assumes nothing.
use Rattle.std.specs.Prelude.{ℕ, List, [], ◌∷◌}
use Rattle.checker.specs.declared.counting.Counts.{Counts}

-- in the order in which they are printed
abbrev pub words_of : Counts → List ℕ
words_of c = c.verdict ∷ c.rows ∷ c.branch ∷ c.full ∷ c.marks ∷ []
