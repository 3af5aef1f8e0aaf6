-- 01, Tables: rules and tables in runs of words. Assumes nothing.
use Rattle.std.specs.Prelude.{ℕ, zero, suc, ◌+◌, ◌*◌, ◌/◌, ◌%◌, ◌≤◌, Bool, ◌||◌, List, [], ◌∷◌, length, get_or, eqb, ltb}
use Rattle.base.specs.Lists.{concat_map}
use Rattle.tables.specs.declared.Row.{Row}
use Rattle.tables.specs.declared.Entry.{Entry}

-- all words are 32-bit unsigned: the largest one
abbrev pub word_limit : ℕ
word_limit = 4294967295

-- each word is one, as in every lent run of words
abbrev pub AllWords : List ℕ → Type 0
AllWords ws = (i : ℕ) → get_or ws i 0 ≤ word_limit

-- word c of line i in a run of k words a line
abbrev pub word : ℕ → List ℕ → ℕ → ℕ → ℕ
word k ws i c = get_or ws (k * i + c) 0

-- the run is whole lines of k words
abbrev pub whole : ℕ → List ℕ → Bool
whole k ws = eqb (length ws % k) 0

-- how many whole lines it has
abbrev pub line_count : ℕ → List ℕ → ℕ
line_count k ws = length ws / k

-- device, at and name are 1 to 65,535
abbrev pub not_identifier : ℕ → Bool
not_identifier x = ltb x 1 || ltb 65535 x

-- ---- tables: a row is six words, `device at up deep name value`
abbrev pub row_words : ℕ
row_words = 6

abbrev pub row_at : List ℕ → ℕ → Row
row_at t i = record {
  device = word row_words t i 0;
  at = word row_words t i 1;
  up = word row_words t i 2;
  deep = word row_words t i 3;
  name = word row_words t i 4;
  value = word row_words t i 5;
}

-- the words of a row, in the row's order
abbrev pub columns_of : Row → List ℕ
columns_of r = r.device ∷ r.at ∷ r.up ∷ r.deep ∷ r.name ∷ r.value ∷ []

-- the words of rows, one after another
abbrev pub words_of : List Row → List ℕ
words_of T = concat_map columns_of T

-- the number of whole rows
abbrev pub row_count : List ℕ → ℕ
row_count t = line_count row_words t

-- n rows from row i on
unfoldable pub rows_from : List ℕ → ℕ → ℕ → List Row
rows_from t i zero = []
rows_from t i (suc n) = row_at t i ∷ rows_from t (suc i) n

-- a table's rows
abbrev pub rows : List ℕ → List Row
rows t = rows_from t 0 (row_count t)

-- ---- rules: an entry is four words, `kind a b c`
abbrev pub entry_words : ℕ
entry_words = 4

abbrev pub entry_at : List ℕ → ℕ → Entry
entry_at r i = record {
  kind = word entry_words r i 0;
  a = word entry_words r i 1;
  b = word entry_words r i 2;
  c = word entry_words r i 3;
}

-- the words of an entry, in the entry's order
abbrev pub entry_columns : Entry → List ℕ
entry_columns e = e.kind ∷ e.a ∷ e.b ∷ e.c ∷ []

abbrev pub entry_count : List ℕ → ℕ
entry_count r = line_count entry_words r
