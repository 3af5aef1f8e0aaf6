-- 02, wish 13: the archive's order of a table's words, column after column, and its inverse. Assumes nothing.
use Rattle.std.specs.Prelude.{◌≡◌, ℕ, zero, suc, ◌+◌, ◌-◌, ◌%◌, ◌^◌, ◌≤◌, true, List, [], ◌∷◌, ◌++◌, length}
use Rattle.tables.specs.Answers.{Answer, Done, is_done, unless, fitting, output}
use Rattle.tables.specs.Words.{AllWords, word, whole, line_count, row_words}
use Rattle.tables.specs.Trips.{up_to}
use Rattle.tables.specs.declared.refusals.Fault.TheVariants.{Rows}

-- ---- differences and sums of words, wrapping at 32 bits
abbrev pub wrapping_sub : ℕ → ℕ → ℕ
wrapping_sub a b = (a + 2 ^ 32 - b) % 2 ^ 32

abbrev pub wrapping_add : ℕ → ℕ → ℕ
wrapping_add a b = (a + b) % 2 ^ 32

-- ---- runs of words by their places
-- n words: f 0, f 1 and so on
unfoldable pub words_below : (ℕ → ℕ) → ℕ → List ℕ
words_below f zero = []
words_below f (suc n) = words_below f n ++ (f n ∷ [])

-- n lines of m words, one after the other: f i j is word j of line i
unfoldable pub lines_below : (ℕ → ℕ → ℕ) → ℕ → ℕ → List ℕ
lines_below f m zero = []
lines_below f m (suc n) = lines_below f m n ++ words_below (f n) m

-- ---- the archive's order of a table with rows of k words
-- in column c: the first word stands as it is; each further one is replaced by its difference from the row above
unfoldable pub archived_word : ℕ → List ℕ → ℕ → ℕ → ℕ
archived_word k table c zero = word k table zero c
archived_word k table c (suc i) = wrapping_sub (word k table (suc i) c) (word k table i c)

-- column after column, in the row's order: k lines with a word for each row
abbrev pub to_columns : ℕ → List ℕ → List ℕ
to_columns k table = lines_below (archived_word k table) (line_count k table) k

-- ---- its inverse, from k columns of n words
-- in row i: the first word of a column stands as it is; each further one is added to the row above
unfoldable pub restored_word : ℕ → List ℕ → ℕ → ℕ → ℕ
restored_word n columns zero c = word n columns c zero
restored_word n columns (suc i) c = wrapping_add (word n columns c (suc i)) (restored_word n columns i c)

-- row after row
abbrev pub from_columns : ℕ → List ℕ → List ℕ
from_columns k columns = lines_below (restored_word (line_count k columns) columns) k (line_count k columns)

-- ---- the two calls: refused if the words aren't a whole number of rows, then if the output is too short; no other test
-- the number of words, or the refusal
unfoldable pub reorder_answer : (List ℕ → List ℕ) → List ℕ → ℕ → Answer
reorder_answer reorder ws room = unless (whole row_words ws) Rows (fitting (reorder ws) room)

-- the words in their other order and what stood past them, or as it was
unfoldable pub reorder_out : (List ℕ → List ℕ) → List ℕ → List ℕ → List ℕ
reorder_out reorder ws out = output (reorder_answer reorder ws (length out)) (reorder ws) out

abbrev pub to_columns_answer : List ℕ → ℕ → Answer
to_columns_answer table room = reorder_answer (to_columns row_words) table room

abbrev pub to_columns_out : List ℕ → List ℕ → List ℕ
to_columns_out table out = reorder_out (to_columns row_words) table out

abbrev pub from_columns_answer : List ℕ → ℕ → Answer
from_columns_answer columns room = reorder_answer (from_columns row_words) columns room

abbrev pub from_columns_out : List ℕ → List ℕ → List ℕ
from_columns_out columns out = reorder_out (from_columns row_words) columns out

-- ---- the claims
-- the inverse gives back the table, for every run of whole rows, accepted or not, and the other way round
pub record Inverse (k : ℕ) (ws : List ℕ) : Type 0 where
  pub table_back : from_columns k (to_columns k ws) ≡ ws
  pub columns_back : to_columns k (from_columns k ws) ≡ ws

-- for any number of columns
abbrev pub Inverses : Type 0
Inverses = (k : ℕ) (ws : List ℕ) → AllWords ws → whole k ws ≡ true → Inverse k ws

-- a call is accepted exactly if the words are whole rows and the output is not shorter; it answers their number
abbrev pub AcceptedExactly : (List ℕ → List ℕ) → Type 0
AcceptedExactly reorder =
    (ws : List ℕ) (room : ℕ)
    → (is_done (reorder_answer reorder ws room) ≡ true → (whole row_words ws ≡ true) × (length ws ≤ room))
    × (whole row_words ws ≡ true → length ws ≤ room → reorder_answer reorder ws room ≡ Done (length ws))

-- the words that a call has written into the buffer `out`
abbrev pub reordered : (List ℕ → List ℕ) → List ℕ → List ℕ → List ℕ
reordered reorder ws out = up_to (reorder_answer reorder ws (length out)) (reorder_out reorder ws out)

-- what one call has written, in any buffer that is long enough, the other gives back, into any other
abbrev pub GivesBack : (List ℕ → List ℕ) → (List ℕ → List ℕ) → Type 0
GivesBack there back =
    (ws first second : List ℕ) → AllWords ws → whole row_words ws ≡ true → length ws ≤ length first → length ws ≤ length second
    → (reorder_answer back (reordered there ws first) (length second) ≡ Done (length ws))
    × (reordered back (reordered there ws first) second ≡ ws)

pub record ArchiveCalls : Type 0 where
  pub to_exactly : AcceptedExactly (to_columns row_words)
  pub from_exactly : AcceptedExactly (from_columns row_words)
  pub to_then_from : GivesBack (to_columns row_words) (from_columns row_words)
  pub from_then_to : GivesBack (from_columns row_words) (to_columns row_words)
