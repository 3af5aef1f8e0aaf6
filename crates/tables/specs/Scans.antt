-- What the private contracts of reading and writing files cite besides specs/Files.antt. Assumes nothing.
use Rattle.std.specs.Prelude.{ℕ, ◌+◌, ◌≤◌, ◌<◌, ◌≡◌, Bool, true, false, cond, ◌&&◌, List, [], ◌∷◌, ◌++◌, length, drop, set, ltb, leb, eqb}
use Rattle.base.specs.Lists.{select}
use Rattle.tables.specs.Words.{word_limit}
use Rattle.tables.specs.Values.{is_below_zero, opposite}
use Rattle.std.specs.Prelude.{Option, Some, None}
use Rattle.tables.specs.Files.{Format, format, may_begin, digit_of, with_digit, minus_byte, word_of, number_text, at_start, scan_all, words_from, at_line}
use Rattle.tables.specs.declared.reading.Scan.{Scan}
use Rattle.tables.specs.declared.reading.Pending.{Pending}
use Rattle.tables.specs.declared.columns.Format as source

abbrev pub format_of : source.Format → Format
format_of f = format f.columns f.signs

-- the digit of a byte, if it is one
abbrev pub digit : ℕ → Option ℕ
digit b = cond (ltb (digit_of b) 10) (Some (digit_of b)) None

-- the bounds of a state; a number not begun has no value
pub record Sound (f : Format) (s : Scan) : Type 0 where
  pub column_lt : s.column.index < f.columns
  pub value_le : s.number.value ≤ word_limit
  pub none_yet : may_begin s.phase ≡ true → s.number.value ≡ 0

-- ---- storing the words of lines that are known to pass: the number being read, and the place of its word
abbrev pub first_pending : Pending
first_pending = record { number = record { minus = false; value = 0 }; place = 0 }

-- the number is a word
pub record IsWord (minus : Bool) (v : ℕ) : Type 0 where
  pub size_le : v ≤ word_limit
  pub word_le : word_of minus v ≤ word_limit

-- after a byte: a digit, a minus sign, or the byte that ends the number
unfoldable pub pending_after : Pending → ℕ → Pending
pending_after n b =
    cond (ltb (digit_of b) 10) (record { number = record { minus = n.number.minus; value = with_digit n.number.value (digit_of b) }; place = n.place })
    (cond (eqb b minus_byte) (record { number = record { minus = true; value = n.number.value }; place = n.place })
    (record { number = record { minus = false; value = 0 }; place = n.place + 1 }))

-- the word that it stands for
abbrev pub word_pending : Pending → ℕ
word_pending n = word_of n.number.minus n.number.value

-- the words that are stored of some bytes of lines that pass
unfoldable pub stored_from : Pending → List ℕ → List ℕ
stored_from n [] = []
stored_from n (b ∷ bs) =
    cond (ltb n.place (pending_after n b).place) (word_pending n ∷ stored_from (pending_after n b) bs) (stored_from (pending_after n b) bs)

-- the output that holds them, and what stood past them
abbrev pub stored_in : List ℕ → List ℕ → List ℕ
stored_in bs out = stored_from first_pending bs ++ drop (length (stored_from first_pending bs)) out

-- the output after a step from n to r: the number that it ended is stored
unfoldable pub put_of : List ℕ → Pending → Pending → List ℕ
put_of out n r = cond (ltb n.place r.place) (set out n.place (word_pending n)) out

-- the bytes pass 19 in some format, and their words fit the output
pub record Fillable (bs out : List ℕ) : Type 0 where
  pub read_as : Format
  pub some_columns : 0 < read_as.columns
  pub good_lines : at_line (scan_all read_as at_start bs) ≡ true
  pub room : length (words_from read_as at_start bs) ≤ length out

-- ---- signs
-- the size of a word that is to have a minus sign
abbrev pub size_below : Bool → ℕ → Option ℕ
size_below signed w = cond (signed && is_below_zero w) (Some (opposite w)) None

-- ---- the length of the text
-- the bytes that the words take without signs: each its digits and the byte after it
unfoldable pub plain_length : List ℕ → ℕ
plain_length [] = 0
plain_length (w ∷ ws) = length (number_text w) + 1 + plain_length ws

-- how many of the words are n or more
abbrev pub count_from : ℕ → List ℕ → ℕ
count_from n ws = length (select (λ w. leb n w) ws)
