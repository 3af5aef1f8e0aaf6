-- What the private functions of the device's side require and promise of the rows that they write. A reader of the public contract need
-- not believe it. Assumes nothing.
use Rattle.std.specs.Prelude.{ℕ, zero, suc, ◌≤◌, ◌≡◌, Bool, true, false, List, [], ◌∷◌, ◌++◌, get_or, length}
use Rattle.base.specs.Lists.{when}
use Rattle.tables.specs.Words.{row_at, row_count, rows}
use Rattle.tables.specs.Answers.{Answer, is_done}
use Rattle.tables.specs.declared.Row.{Row}
use Rattle.logic.specs.Formulas.{Formula}
use Rattle.logic.specs.Parts.{part_of, words_of}

-- row i, if it is kept
abbrev pub row_sent : List ℕ → ℕ → Bool → List Row
row_sent t i k = when k (row_at t i ∷ [])

-- of n rows from row i on those that are kept
unfoldable pub rows_sent : List ℕ → List Bool → ℕ → ℕ → List Row
rows_sent t kept i zero = []
rows_sent t kept i (suc n) = row_sent t i (get_or kept i false) ++ rows_sent t kept (suc i) n

-- a work array marks the rows sent, unless the answer is a refusal
pub record Marks (Fs : List Formula) (t : List ℕ) (m room : ℕ) (answer : Answer) (kept : List Bool) : Type 0 where
  pub sized : is_done answer ≡ true → row_count t ≤ length kept
  pub sent : is_done answer ≡ true → rows_sent t kept 0 (row_count t) ≡ part_of Fs m (rows t)
  pub fits : is_done answer ≡ true → length (words_of (part_of Fs m (rows t))) ≤ room
