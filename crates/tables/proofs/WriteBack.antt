-- What is read from a file is written back as that file, for any line of names and any format. Assumes nothing.
use Prim.Native.Nat.{ℕ, ◌+◌, ◌≤◌, ◌<◌}
use mathlib.Core.Path.{◌≡◌, refl, sym, ap, ◌∙◌}
use mathlib.Core.Bool.{Bool, true, false, cond, false≢true}
use mathlib.Core.List.{List, [], ◌∷◌, ◌++◌, append_assoc}
use native.Mathlib.Omega.{arith}
use lib.ListN.{length, drop}
use lib.Seq.{append_snoc}
use lib.Dec.{ltb, leb, eqb}
use borrow.Author.Tests.{lt-ltb, le-ltb, ltb-true, leb-true, eqb-true}
use Rattle.base.proofs.Bools.{and_left, and_right, either}
use Rattle.tables.specs.declared.reading.Phase.{Phase}
use Rattle.tables.specs.declared.reading.Phase.TheVariants.{BeforeNumber, AfterMinus, InDigits, AtFault}
use Rattle.tables.specs.declared.reading.Scan.{Scan}
use Rattle.tables.specs.Answers.{is_done}
use Rattle.tables.specs.Words.{word_limit}
use Rattle.tables.specs.Values.{value_limit, is_below_zero, opposite}
use Rattle.tables.specs.Files.{Format, byte_after, may_sign, digit_byte, minus_byte, with_digit, is_within, word_of, number_text}
use Rattle.tables.specs.Files.{word_text, text_from, lines_text, write_text, is_before, may_begin, in_digits, after_minus, in_number, word_read, past_number, step_of}
use Rattle.tables.specs.Files.{at_start, scan_all, words_from, at_line, starts_with, lines, at_end, read_words, check_file}
use Rattle.tables.proofs.Digits.{text_one, text_grow}
use Rattle.tables.proofs.Steps.{View, begins, grows, ends, takes_sign, stops, before_is, before_begins, view, no_fault, quiet, loud}

-- ---- the text of the number that is being read: its sign, and its digits so far
sign : Bool → List ℕ
sign minus = cond minus (minus_byte ∷ []) []

digits : Scan → List ℕ
digits s = cond (in_digits s.phase) (number_text s.number.value) []

part : Scan → List ℕ
part s = sign s.number.minus ++ digits s

begin_digits : (p : Phase) → may_begin p ≡ true → in_digits p ≡ false
begin_digits BeforeNumber e = refl
begin_digits AfterMinus e = refl
begin_digits InDigits e = absurd (false≢true e)
begin_digits AtFault e = absurd (false≢true e)

digits_none : (s : Scan) → may_begin s.phase ≡ true → digits s ≡ []
unfolding digits
digits_none s p = rw (begin_digits s.phase p)

digits_some : (s : Scan) → in_digits s.phase ≡ true → digits s ≡ number_text s.number.value
unfolding digits
digits_some s e = rw e

-- before a number there is no sign
abbrev Clean : Scan → Type 0
Clean s = is_before s.phase ≡ true → s.number.minus ≡ false

clean : {f : Format} {s : Scan} {b : ℕ} {r : Scan} → View f s b r → Clean r
clean (begins d h x p) e = absurd (false≢true e)
clean (grows d h x p v m) e = absurd (false≢true e)
clean (ends p x w) e = refl
clean (takes_sign p x) e = absurd (false≢true e)
clean stops e = absurd (false≢true e)

-- a number within its limits is written with the sign and the digits that it was read with
text_within : (signed minus : Bool) (v : ℕ) → is_within signed minus v ≡ true → word_text signed (word_of minus v) ≡ sign minus ++ number_text v
unfolding word_text sign
text_within false false v e = refl
text_within true false v e = rw (le-ltb value_limit v (leb-true v value_limit e))
text_within false true v e = let z : ◌≡◌ {A = ℕ} 0 1 = cc in absurd (omega arith)
text_within true true v e =
    let p : 0 < v = ltb-true 0 v (and_left (ltb 0 v) (leb v (value_limit + 1)) e) in
    let q : v ≤ value_limit + 1 = leb-true v (value_limit + 1) (and_right (ltb 0 v) (leb v (value_limit + 1)) e) in
    let b : is_below_zero (opposite v) ≡ true = lt-ltb value_limit (opposite v) (omega arith) in
    let o : opposite (opposite v) ≡ v = omega arith in
    rw (b, o)

part_past : (f : Format) (s : Scan) → part (past_number f s) ≡ []
unfolding part sign digits
part_past f s = refl

-- ---- a byte that ends no number stands behind what was read of it
module _ (s : Scan) (b : ℕ) where
  longer : (r : Scan) (l : List ℕ) → r.number.minus ≡ s.number.minus → digits s ++ (b ∷ []) ≡ l → digits r ≡ l → part s ++ (b ∷ []) ≡ part r
  unfolding part
  longer r l m e d = append_assoc (sign s.number.minus) (digits s) (b ∷ [])
      ∙ ap (λ (t : List ℕ). sign s.number.minus ++ t) (e ∙ sym d) ∙ sym (ap (λ (t : Bool). sign t ++ digits r) m)

  longer_begins : (d : ℕ) → d < 10 → b ≡ digit_byte d → may_begin s.phase ≡ true → part s ++ (b ∷ []) ≡ part (in_number s d)
  longer_begins d h x p =
      longer (in_number s d) (digit_byte d ∷ []) refl
      (ap (λ (l : List ℕ). l ++ (b ∷ [])) (digits_none s p) ∙ ap (λ (n : ℕ). n ∷ []) x)
      (digits_some (in_number s d) refl ∙ text_one d h)

  longer_grows : (d : ℕ) → d < 10 → b ≡ digit_byte d → in_digits s.phase ≡ true → 0 < s.number.value → with_digit s.number.value d ≤ word_limit
      → part s ++ (b ∷ []) ≡ part (in_number s (with_digit s.number.value d))
  longer_grows d h x p v m =
      longer (in_number s (with_digit s.number.value d)) (number_text s.number.value ++ (digit_byte d ∷ [])) refl
      (ap (λ (l : List ℕ). l ++ (b ∷ [])) (digits_some s p) ∙ ap (λ (n : ℕ). number_text s.number.value ++ (n ∷ [])) x)
      (digits_some (in_number s (with_digit s.number.value d)) refl ∙ text_grow s.number.value d v h m)

  longer_signs : is_before s.phase ≡ true → s.number.minus ≡ false → b ≡ minus_byte → part s ++ (b ∷ []) ≡ part (after_minus s)
  unfolding part sign digits
  longer_signs p m x = rw (before_is s.phase p, m, x)

-- ---- what is being read and what is left make the text of the words to come
module _ (f : Format) (s : Scan) (b : ℕ) (bs : List ℕ) where
  goes_on : (r : Scan) → step_of f s b ≡ r → r.count ≡ s.count → part s ++ (b ∷ []) ≡ part r
      → part r ++ bs ≡ text_from f s.column.index s.column.told (words_from f r bs)
      → part s ++ (b ∷ bs) ≡ text_from f s.column.index s.column.told (words_from f s (b ∷ bs))
  goes_on r q c e ih =
      sym (append_snoc (part s) b bs) ∙ ap (λ (l : List ℕ). l ++ bs) e
      ∙ ih ∙ ap (text_from f s.column.index s.column.told) (sym (quiet f s r b bs q c))

  turn : (r : Scan) → step_of f s b ≡ r → View f s b r → Clean s → is_before (scan_all f r bs).phase ≡ true
      → part r ++ bs ≡ text_from f r.column.index r.column.told (words_from f r bs)
      → part s ++ (b ∷ bs) ≡ text_from f s.column.index s.column.told (words_from f s (b ∷ bs))
  unfolding text_from part
  turn r q (begins d h x p) k e ih = goes_on r q refl (longer_begins s b d h x p) ih
  turn r q (grows d h x p v m) k e ih = goes_on r q refl (longer_grows s b d h x p v m) ih
  turn r q (takes_sign p x) k e ih = goes_on r q refl (longer_signs s b p (k p) x) ih
  turn r q (ends p x w) k e ih =
      let w_is : part s ≡ word_text (may_sign f.columns s.column.index s.column.told) (word_read s)
      = ap (λ (l : List ℕ). sign s.number.minus ++ l) (digits_some s p) ∙ sym (text_within (may_sign f.columns s.column.index s.column.told) s.number.minus s.number.value w) in
      let b_is : part s ++ (b ∷ bs) ≡ word_text (may_sign f.columns s.column.index s.column.told) (word_read s) ++ (byte_after f.columns s.column.index ∷ bs)
      = ap (λ (l : List ℕ). l ++ (b ∷ bs)) w_is ∙ ap (λ (n : ℕ). word_text (may_sign f.columns s.column.index s.column.told) (word_read s) ++ (n ∷ bs)) x in
      b_is
      ∙ ap (λ (l : List ℕ). word_text (may_sign f.columns s.column.index s.column.told) (word_read s) ++ (byte_after f.columns s.column.index ∷ l))
      (sym (ap (λ (l : List ℕ). l ++ bs) (part_past f s)) ∙ ih)
      ∙ ap (text_from f s.column.index s.column.told) (sym (loud f s (past_number f s) b bs q refl))
  turn r q stops k e ih = absurd (no_fault f s bs e)

back : (f : Format) (s : Scan) (bs : List ℕ) → Clean s → is_before (scan_all f s bs).phase ≡ true → part s ++ bs ≡ text_from f s.column.index s.column.told (words_from f s bs)
unfolding scan_all words_from text_from part sign
back f s [] k e = rw (digits_none s (before_begins s.phase e), k e)
back f s (b ∷ bs) k e = turn f s b bs (step_of f s b) refl (view f s b) k e (back f (step_of f s b) bs (clean (view f s b)) e)

-- from the start of a line
pub fresh_back : (f : Format) (s : Scan) (bs : List ℕ) → is_before s.phase ≡ true → s.number.minus ≡ false → is_before (scan_all f s bs).phase ≡ true → bs ≡ text_from f s.column.index s.column.told (words_from f s bs)
unfolding part sign digits
fresh_back f s bs p m e = sym (rw (before_is s.phase p, m)) ∙ back f s bs (λ _. m) e

starts_split : (names file : List ℕ) → starts_with names file ≡ true → names ++ drop (length names) file ≡ file
unfolding starts_with
starts_split [] file e = refl
starts_split (x ∷ names) [] e = let z : ◌≡◌ {A = ℕ} 0 1 = cc in absurd (omega arith)
starts_split (x ∷ names) (y ∷ file) e =
    ap (λ (n : ℕ). n ∷ (names ++ drop (length names) file)) (eqb-true x y (and_left (eqb x y) (starts_with names file) e))
    ∙ ap (λ (l : List ℕ). y ∷ l) (starts_split names file (and_right (eqb x y) (starts_with names file) e))

-- each file that passes 18 and 19 is what writing its words gives
pub write_read : (names : List ℕ) (f : Format) (file : List ℕ) → is_done (check_file names f file) ≡ true → write_text names f (read_words names f file) ≡ file
unfolding write_text read_words check_file
write_read names f file ok = either (starts_with names file)
    (λ p. either (at_line (at_end names f file)) (λ q. found p q) (λ q. absurd (false≢true (rw (p, q) at ok))))
    (λ p. absurd (false≢true (rw p at ok)))
  where
    found : starts_with names file ≡ true → at_line (at_end names f file) ≡ true → names ++ lines_text f (words_from f at_start (lines names file)) ≡ file
    found p q =
        let r : Scan = at_end names f file in
        ap (λ (l : List ℕ). names ++ l) (sym (fresh_back f at_start (lines names file) refl refl (and_left (is_before r.phase) (eqb r.column.index 0) q)))
        ∙ starts_split names file p
