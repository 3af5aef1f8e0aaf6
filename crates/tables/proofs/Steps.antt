-- What a step of reading a file did, and the bounds that it keeps. Assumes nothing.
use Prim.Native.Nat.{ℕ, ◌+◌, ◌≤◌, ◌<◌}
use mathlib.Core.Path.{◌≡◌, refl, sym, ap, ◌∙◌}
use mathlib.Core.Bool.{Bool, true, false, cond, ◌&&◌, false≢true}
use mathlib.Core.List.{List, [], ◌∷◌}
use native.Mathlib.Omega.{arith}
use lib.ListN.{length}
use lib.Dec.{ltb, leb, eqb}
use borrow.Author.Tests.{ltb-true, ltb-false, lt-ltb, le-ltb, le-leb, leb-true, eqb-true, eqb-false}
use Rattle.base.proofs.Bools.{and_left, and_right, either}
use Rattle.tables.specs.declared.reading.Phase.{Phase}
use Rattle.tables.specs.declared.reading.Phase.TheVariants.{BeforeNumber, AfterMinus, InDigits, AtFault}
use Rattle.tables.specs.declared.reading.Scan.{Scan}
use Rattle.tables.specs.Words.{word_limit}
use Rattle.tables.specs.Values.{value_limit}
use Rattle.tables.specs.Files.{Format, is_last, byte_after, next_column, may_sign, digit_byte, minus_byte, digit_of, with_digit}
use Rattle.tables.specs.Files.{is_before, may_begin, in_digits, may_grow, is_within, word_of, after_minus, in_number, at_fault, word_read, past_number, digit_step}
use Rattle.tables.specs.Files.{may_end, other_step, step_of, scan_all, words_from}
use Rattle.tables.specs.Scans.{Sound, IsWord}

pub before_is : (p : Phase) → is_before p ≡ true → p ≡ BeforeNumber
before_is BeforeNumber e = refl
before_is AfterMinus e = absurd (false≢true e)
before_is InDigits e = absurd (false≢true e)
before_is AtFault e = absurd (false≢true e)

pub before_begins : (p : Phase) → is_before p ≡ true → may_begin p ≡ true
before_begins p e = rw (before_is p e)

-- the number read is within the limits of its column
abbrev pub in_limits : Format → Scan → Bool
in_limits f s = is_within (may_sign f.columns s.column.index s.column.told) s.number.minus s.number.value

pub data View (f : Format) (s : Scan) (b : ℕ) : Scan → Type 0 where
  begins : (d : ℕ) → d < 10 → b ≡ digit_byte d → may_begin s.phase ≡ true → View f s b (in_number s d)
  grows : (d : ℕ) → d < 10 → b ≡ digit_byte d → in_digits s.phase ≡ true → 0 < s.number.value → with_digit s.number.value d ≤ word_limit
      → View f s b (in_number s (with_digit s.number.value d))
  ends : in_digits s.phase ≡ true → b ≡ byte_after f.columns s.column.index → in_limits f s ≡ true → View f s b (past_number f s)
  takes_sign : is_before s.phase ≡ true → b ≡ minus_byte → View f s b (after_minus s)
  stops : View f s b (at_fault s)

digit_byte_lem : (b : ℕ) → digit_of b < 10 → b ≡ digit_byte (digit_of b)
unfolding digit_of
digit_byte_lem b h = either (leb 48 b && leb b 57)
    (λ e. let p : 48 ≤ b = leb-true 48 b (and_left (leb 48 b) (leb b 57) e) in rw e (omega arith))
    (λ e. let z : 10 < 10 = (rw e at h) in omega arith)

pub digit_of_lem : (d : ℕ) → d < 10 → digit_of (digit_byte d) ≡ d
unfolding digit_of
digit_of_lem d h =
    let p : 48 ≤ 48 + d = omega arith in
    let q : 48 + d ≤ 57 = omega arith in
    rw (le-leb 48 (48 + d) p, le-leb (48 + d) 57 q) (omega arith)

pub after_digit : (k c : ℕ) → digit_of (byte_after k c) ≡ 10
unfolding digit_of byte_after
after_digit k c = either (is_last k c) (λ e. rw e) (λ e. rw e)

pub after_minus_lem : (k c : ℕ) → eqb (byte_after k c) minus_byte ≡ false
unfolding byte_after
after_minus_lem k c = either (is_last k c) (λ e. rw e) (λ e. rw e)

pub view : (f : Format) (s : Scan) (b : ℕ) → View f s b (step_of f s b)
unfolding step_of digit_step other_step
view f s b = either (ltb (digit_of b) 10) digit other
  where
    digit : ltb (digit_of b) 10 ≡ true → View f s b (step_of f s b)
    digit e =
        let l : digit_of b < 10 = ltb-true _ _ e in
        either (may_begin s.phase)
        (λ p. rw (e, p) (begins (digit_of b) l (digit_byte_lem b l) p))
        (λ p. either (in_digits s.phase && may_grow s.number.value (digit_of b))
        (λ q. let m : may_grow s.number.value (digit_of b) ≡ true = and_right (in_digits s.phase) (may_grow s.number.value (digit_of b)) q in
        rw (e, p, q) (grows (digit_of b) l (digit_byte_lem b l)
        (and_left (in_digits s.phase) (may_grow s.number.value (digit_of b)) q)
        (ltb-true _ _ (and_left (ltb 0 s.number.value) (leb (with_digit s.number.value (digit_of b)) word_limit) m))
        (leb-true _ _ (and_right (ltb 0 s.number.value) (leb (with_digit s.number.value (digit_of b)) word_limit) m))))
        (λ q. rw (e, p, q) stops))

    behind_digit : Bool
    behind_digit = in_digits s.phase

    is_after : Bool
    is_after = eqb b (byte_after f.columns s.column.index)

    other : ltb (digit_of b) 10 ≡ false → View f s b (step_of f s b)
    other e = either (may_end f.columns s b)
        (λ q. let h : (behind_digit && is_after) ≡ true = and_left (behind_digit && is_after) (in_limits f s) q in
        rw (e, q) (ends (and_left behind_digit is_after h) (eqb-true _ _ (and_right behind_digit is_after h)) (and_right (behind_digit && is_after) (in_limits f s) q)))
        (λ q. either (is_before s.phase && eqb b minus_byte)
        (λ p. rw (e, q, p) (takes_sign (and_left (is_before s.phase) (eqb b minus_byte) p) (eqb-true _ _ (and_right (is_before s.phase) (eqb b minus_byte) p))))
        (λ p. rw (e, q, p) stops))

-- the numbers that have ended stay or are one more; the line stays or is the next
pub record Counted (s r : Scan) : Type 0 where
  pub ge : s.count ≤ r.count
  pub le : r.count ≤ s.count + 1
  pub line_le : r.line ≤ s.line + 1

counted : {f : Format} {s : Scan} {b : ℕ} {r : Scan} → View f s b r → Counted s r
counted (begins d h e p) = record { ge = omega arith; le = omega arith; line_le = omega arith }
counted (grows d h e p v m) = record { ge = omega arith; le = omega arith; line_le = omega arith }
counted {f} {s} (ends p e w) = record { ge = omega arith; le = omega arith; line_le = next (is_last f.columns s.column.index) }
  where
    next : (t : Bool) → cond t (s.line + 1) s.line ≤ s.line + 1
    next true = omega arith
    next false = omega arith
counted (takes_sign p e) = record { ge = omega arith; le = omega arith; line_le = omega arith }
counted stops = record { ge = omega arith; le = omega arith; line_le = omega arith }

pub step_counted : (f : Format) (s : Scan) (b : ℕ) → Counted s (step_of f s b)
step_counted f s b = counted (view f s b)

pub next_lt : (k c : ℕ) → c < k → next_column k c < k
next_lt k c h = either (is_last k c)
    (λ e. rw e (omega arith))
    (λ e. let q : (c + 1 ≡ k → ⊥) = eqb-false (c + 1) k e in rw e (omega arith))

sound : {f : Format} {s : Scan} {b : ℕ} {r : Scan} → View f s b r → Sound f s → Sound f r
sound (begins d h e p) t = record { column_lt = t.column_lt; value_le = omega arith; none_yet = λ l. absurd (false≢true l) }
sound (grows d h e p v m) t = record { column_lt = t.column_lt; value_le = m; none_yet = λ l. absurd (false≢true l) }
sound {f} {s} (ends p e w) t = record { column_lt = next_lt f.columns s.column.index t.column_lt; value_le = omega arith; none_yet = λ l. refl }
sound {f} {s} (takes_sign p e) t = record { column_lt = t.column_lt; value_le = t.value_le; none_yet = λ l. t.none_yet (before_begins s.phase p) }
sound stops t = record { column_lt = t.column_lt; value_le = t.value_le; none_yet = λ l. absurd (false≢true l) }

pub step_sound : (f : Format) (s : Scan) (b : ℕ) → Sound f s → Sound f (step_of f s b)
step_sound f s b = sound (view f s b)

-- ---- a number within its limits is a word
within_word : (signed minus : Bool) (v : ℕ) → is_within signed minus v ≡ true → v ≤ word_limit → word_of minus v ≤ word_limit
within_word signed false v e h = h
within_word true true v e h = let p : 0 < v = ltb-true 0 v (and_left (ltb 0 v) (leb v (value_limit + 1)) e) in omega arith
within_word false true v e h = let z : ◌≡◌ {A = ℕ} 0 1 = cc in absurd (omega arith)

limits_word : (f : Format) (s : Scan) → Sound f s → in_limits f s ≡ true → IsWord s.number.minus s.number.value
limits_word f s t e = record {
  size_le = t.value_le;
  word_le = within_word (may_sign f.columns s.column.index s.column.told) s.number.minus s.number.value e t.value_le;
}

pub end_word : (f : Format) (s : Scan) (b : ℕ) → Sound f s → may_end f.columns s b ≡ true → IsWord s.number.minus s.number.value
end_word f s b t e = limits_word f s t (and_right (in_digits s.phase && eqb b (byte_after f.columns s.column.index)) (in_limits f s) e)

pub ended_word : (f : Format) (s r : Scan) (b : ℕ) → Sound f s → r ≡ step_of f s b → s.count < r.count → IsWord s.number.minus s.number.value
ended_word f s r b t e l = go (view f s b) (rw e at l)
  where
    go : {r : Scan} → View f s b r → s.count < r.count → IsWord s.number.minus s.number.value
    go (begins d h e p) l = absurd (omega arith)
    go (grows d h e p v m) l = absurd (omega arith)
    go (ends p e w) l = limits_word f s t w
    go (takes_sign p e) l = absurd (omega arith)
    go stops l = absurd (omega arith)

-- ---- a fault stays
fault_step : (f : Format) (s : Scan) (b : ℕ) → step_of f (at_fault s) b ≡ at_fault s
unfolding step_of digit_step other_step
fault_step f s b = either (ltb (digit_of b) 10) (λ e. rw e) (λ e. rw e)

pub fault_stays : (f : Format) (s : Scan) (bs : List ℕ) → scan_all f (at_fault s) bs ≡ at_fault s
unfolding scan_all
fault_stays f s [] = refl
fault_stays f s (b ∷ bs) = ap (λ (z : Scan). scan_all f z bs) (fault_step f s b) ∙ fault_stays f s bs

pub no_fault : (f : Format) (s : Scan) (bs : List ℕ) → is_before (scan_all f (at_fault s) bs).phase ≡ true → ⊥
no_fault f s bs e = false≢true (ap (λ (z : Scan). is_before z.phase) (sym (fault_stays f s bs)) ∙ e)

-- ---- the count at the end is the number of words
pub count_words : (f : Format) (s : Scan) (bs : List ℕ) → (scan_all f s bs).count ≡ s.count + length (words_from f s bs)
unfolding scan_all words_from
count_words f s [] = omega arith
count_words f s (b ∷ bs) = go (count_words f (step_of f s b) bs) (step_counted f s b)
  where
    go : (scan_all f (step_of f s b) bs).count ≡ (step_of f s b).count + length (words_from f (step_of f s b) bs) → Counted s (step_of f s b)
        → (scan_all f (step_of f s b) bs).count ≡ s.count + length (cond (ltb s.count (step_of f s b).count) (word_read s ∷ words_from f (step_of f s b) bs) (words_from f (step_of f s b) bs))
    go ih ct = either (ltb s.count (step_of f s b).count)
        (λ e. let p : s.count < (step_of f s b).count = ltb-true _ _ e in rw e (omega (arith, ct.le)))
        (λ e. let p : (step_of f s b).count ≤ s.count = ltb-false _ _ e in rw e (omega (arith, ct.ge)))

-- the words of a step that ends no number, and of one that does
pub quiet : (f : Format) (s r : Scan) (b : ℕ) (bs : List ℕ) → step_of f s b ≡ r → r.count ≡ s.count → words_from f s (b ∷ bs) ≡ words_from f r bs
unfolding words_from
quiet f s r b bs e c = ap (λ (z : Scan). cond (ltb s.count z.count) (word_read s ∷ words_from f z bs) (words_from f z bs)) e
    ∙ ap (λ (t : Bool). cond t (word_read s ∷ words_from f r bs) (words_from f r bs)) (le-ltb s.count r.count (omega arith))

pub loud : (f : Format) (s r : Scan) (b : ℕ) (bs : List ℕ) → step_of f s b ≡ r → r.count ≡ s.count + 1 → words_from f s (b ∷ bs) ≡ word_read s ∷ words_from f r bs
unfolding words_from
loud f s r b bs e c = ap (λ (z : Scan). cond (ltb s.count z.count) (word_read s ∷ words_from f z bs) (words_from f z bs)) e
    ∙ ap (λ (t : Bool). cond t (word_read s ∷ words_from f r bs) (words_from f r bs)) (lt-ltb s.count r.count (omega arith))
