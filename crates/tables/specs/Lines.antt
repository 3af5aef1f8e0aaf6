-- What a file is, line by line, and where 19 is found: in 01's words, beside the definition by steps in specs/Files. Assumes nothing.
use Rattle.std.specs.Prelude.{ℕ, ◌+◌, ◌≤◌, ◌<◌, ◌≡◌, Bool, true, false, cond, ◌&&◌, List, [], ◌∷◌, ◌++◌, length, get_or, eqb}
use Rattle.tables.specs.Words.{word_limit, entry_words, row_words}
use Rattle.tables.specs.Values.{value_limit, opposite}
use Rattle.tables.specs.Rules.{comparison_kind}
use Rattle.tables.specs.Files.{Format, format, is_last, may_sign, digit_byte, minus_byte, with_digit, starts_with, lines, read_words, check_file}
use Rattle.tables.specs.Files.{rule_format, pool_format}
use Rattle.tables.specs.declared.columns.Signs.TheVariants.{Nowhere}
use Rattle.tables.specs.Answers.{Answer}
use Rattle.tables.specs.Answers.{Done, Refused}
use Rattle.tables.specs.declared.refusals.Fault.TheVariants.{Line}

-- the bytes are the decimal digits of a number: none may stand after a 0 that begins it
pub data Decimal : List ℕ → ℕ → Type 0 where
  single : {d : ℕ} → d < 10 → Decimal (digit_byte d ∷ []) d
  extended : {t : List ℕ} {v d : ℕ} → Decimal t v → 0 < v → d < 10 → Decimal (t ++ (digit_byte d ∷ [])) (with_digit v d)

-- the bytes are a number within its limits, and the word that it is
pub data IsNumber (signed : Bool) : List ℕ → ℕ → Type 0 where
  from_zero : {t : List ℕ} {v : ℕ} → Decimal t v → v ≤ cond signed value_limit word_limit → IsNumber signed t v
  below_zero : {t : List ℕ} {v : ℕ} → signed ≡ true → Decimal t v → 0 < v → v ≤ value_limit + 1
      → IsNumber signed (minus_byte ∷ t) (opposite v)

-- a line from column c on, and its words: so many numbers with one space between, ended by byte 10. Each tells whether the last may have
-- a sign.
pub data LineFrom (f : Format) : ℕ → Bool → List ℕ → List ℕ → Type 0 where
  at_last : {c : ℕ} {told : Bool} {t : List ℕ} {w : ℕ}
      → is_last f.columns c ≡ true → IsNumber (may_sign f.columns c told) t w
      → LineFrom f c told (t ++ (10 ∷ [])) (w ∷ [])
  at_next : {c : ℕ} {told : Bool} {t l : List ℕ} {w : ℕ} {ws : List ℕ}
      → is_last f.columns c ≡ false → IsNumber (may_sign f.columns c told) t w → LineFrom f (c + 1) (f.tells c w told) l ws
      → LineFrom f c told (t ++ (32 ∷ l)) (w ∷ ws)

abbrev pub IsLine : Format → List ℕ → Type 0
IsLine f l = (ws : List ℕ) × LineFrom f 0 false l ws

-- lines, and their words end to end
pub data AllLines (f : Format) : List (List ℕ) → List ℕ → Type 0 where
  no_lines : AllLines f [] []
  line_first : {l ws rest : List ℕ} {ls : List (List ℕ)} → LineFrom f 0 false l ws → AllLines f ls rest
      → AllLines f (l ∷ ls) (ws ++ rest)

-- what the numbers from column c on tell
unfoldable pub told_by : Format → ℕ → Bool → List ℕ → Bool
told_by f c told [] = told
told_by f c told (w ∷ ws) = told_by f (c + 1) (f.tells c w told) ws

-- so that a sign may stand in c where the line's kind is a comparison and its b is 1, and in the value of a row; nowhere else, and nowhere
-- in the program's text
pub record WhereSigns : Type 0 where
  pub constants : (kind a b : ℕ)
      → may_sign entry_words 3 (told_by rule_format 0 false (kind ∷ a ∷ b ∷ [])) ≡ (comparison_kind kind && eqb b 1)
  pub values : (device at up deep name : ℕ)
      → may_sign row_words 5 (told_by pool_format 0 false (device ∷ at ∷ up ∷ deep ∷ name ∷ [])) ≡ true
  pub kind_a_b : (c : ℕ) (told : Bool) → c < 3 → may_sign entry_words c told ≡ false
  pub before_value : (c : ℕ) (told : Bool) → c < 5 → may_sign row_words c told ≡ false
  pub nowhere : (k c : ℕ) (ws : List ℕ) → told_by (format k Nowhere) c false ws ≡ false

-- the lines of some bytes, each with its byte 10; what stands after the last byte 10 is a line that is not ended
abbrev pub onto_first : ℕ → List (List ℕ) → List (List ℕ)
onto_first b [] = (b ∷ []) ∷ []
onto_first b (l ∷ ls) = (b ∷ l) ∷ ls

unfoldable pub lines_of : List ℕ → List (List ℕ)
lines_of [] = []
lines_of (b ∷ bs) = cond (eqb b 10) ((b ∷ []) ∷ lines_of bs) (onto_first b (lines_of bs))

abbrev pub line_at : List (List ℕ) → ℕ → List ℕ
line_at ls i = get_or ls i []

-- Reading lines gives these words and this answer: either each line is so, and they are its words end to end; or 19 has the first line that
-- is not. The line of names is line 1.
pub data ByLines (f : Format) (ls : List (List ℕ)) (words : List ℕ) : Answer → Type 0 where
  every_line : AllLines f ls words → ByLines f ls words (Done (length words))
  first_other : (i : ℕ) → i < length ls → ((j : ℕ) → j < i → IsLine f (line_at ls j)) → (IsLine f (line_at ls i) → ⊥)
      → ByLines f ls words (Refused Line (i + 2))

-- the claim, for every file that passes 18
abbrev pub FilesByLines : Type 0
FilesByLines =
    (names : List ℕ) (f : Format) (file : List ℕ) → 0 < f.columns → starts_with names file ≡ true
    → ByLines f (lines_of (lines names file)) (read_words names f file) (check_file names f file)
