-- What is written as a file is read back as the same words, for any line of names and any format. Assumes nothing.
use Prim.Native.Nat.{ℕ, zero, suc, ◌+◌, ◌*◌, ◌/◌, ◌%◌, ◌^◌, ◌≤◌, ◌<◌}
use mathlib.Core.Path.{◌≡◌, refl, sym, ap, ◌∙◌}
use mathlib.Core.Bool.{Bool, true, false, cond}
use mathlib.Core.List.{List, [], ◌∷◌, ◌++◌}
use native.Mathlib.Nat.{pow-succ', mod-eq_of_lt, mod_self, mod-add-mod}
use native.Mathlib.Omega.{arith}
use lib.ListN.{length}
use lib.Seq.{drop-append_seam}
use lib.Dec.{ltb}
use borrow.Author.Tests.{ltb-true, ltb-false, lt-ltb, le-leb, eq-eqb, eqb-true, eqb-false}
use Rattle.base.proofs.Bools.{either}
use Rattle.tables.specs.declared.reading.Phase.TheVariants.{BeforeNumber}
use Rattle.tables.specs.declared.reading.Scan.{Scan}
use Rattle.tables.specs.Answers.{is_done}
use Rattle.tables.specs.Words.{word_limit, AllWords, whole}
use Rattle.tables.specs.Values.{value_limit, is_below_zero, opposite}
use Rattle.tables.specs.Files.{Format, is_last, byte_after, next_column, column_after, may_sign, is_before, may_begin, in_digits, digit_byte, minus_byte, digit_of}
use Rattle.tables.specs.Files.{with_digit, is_within, digits_up_to, number_text, word_text, text_from, lines_text, write_text}
use Rattle.tables.specs.Files.{after_minus, in_number, word_read, past_number, digit_step, other_step, step_of, at_start, scan_all}
use Rattle.tables.specs.Files.{words_from, starts_with, lines, read_words, check_file}
use Rattle.tables.proofs.Steps.{before_is, before_begins, in_limits, digit_of_lem, after_digit, count_words, next_lt, loud}

pub scan_append : (f : Format) (s : Scan) (a b : List ℕ) → scan_all f s (a ++ b) ≡ scan_all f (scan_all f s a) b
unfolding scan_all
scan_append f s [] b = refl
scan_append f s (x ∷ a) b = scan_append f (step_of f s x) a b

pub words_append : (f : Format) (s : Scan) (a b : List ℕ) → words_from f s (a ++ b) ≡ words_from f s a ++ words_from f (scan_all f s a) b
unfolding scan_all words_from
words_append f s [] b = refl
words_append f s (x ∷ a) b = go (words_append f (step_of f s x) a b) (ltb s.count (step_of f s x).count)
  where
    go : words_from f (step_of f s x) (a ++ b) ≡ words_from f (step_of f s x) a ++ words_from f (scan_all f (step_of f s x) a) b → (t : Bool)
        → cond t (word_read s ∷ words_from f (step_of f s x) (a ++ b)) (words_from f (step_of f s x) (a ++ b))
        ≡ cond t (word_read s ∷ words_from f (step_of f s x) a) (words_from f (step_of f s x) a) ++ words_from f (scan_all f (step_of f s x) a) b
    go ih true = ap (λ (l : List ℕ). word_read s ∷ l) ih
    go ih false = ih

step_first : (f : Format) (s : Scan) (d : ℕ) → may_begin s.phase ≡ true → d < 10 → step_of f s (digit_byte d) ≡ in_number s d
unfolding step_of digit_step
step_first f s d p h = rw (digit_of_lem d h, lt-ltb d 10 h, p)

step_more : (f : Format) (s : Scan) (v d : ℕ) → 0 < v → d < 10 → with_digit v d ≤ word_limit → step_of f (in_number s v) (digit_byte d) ≡ in_number s (with_digit v d)
unfolding step_of digit_step
step_more f s v d p h m = rw (digit_of_lem d h, lt-ltb d 10 h, lt-ltb 0 v p, le-leb (10 * v + d) word_limit m)

step_after : (f : Format) (s : Scan) → in_digits s.phase ≡ true → in_limits f s ≡ true → step_of f s (byte_after f.columns s.column.index) ≡ past_number f s
unfolding step_of other_step
step_after f s p w =
    let b : ℕ = byte_after f.columns s.column.index in
    rw (after_digit f.columns s.column.index, p, eq-eqb b b refl, w)

step_minus : (f : Format) (s : Scan) → is_before s.phase ≡ true → step_of f s minus_byte ≡ after_minus s
unfolding step_of other_step digit_of
step_minus f s p = rw (before_is s.phase p)

scan_digits : (f : Format) (s : Scan) (n w : ℕ) → may_begin s.phase ≡ true → w < 10 ^ suc n → w ≤ word_limit → scan_all f s (digits_up_to (suc n) w) ≡ in_number s w
unfolding scan_all digits_up_to
scan_digits f s zero w p h m = rw (lt-ltb w 10 h) (step_first f s w p h)
scan_digits f s (suc n) w p h m = go (scan_digits f s n (w / 10) p (let e : 10 ^ suc (suc n) ≡ 10 * 10 ^ suc n = pow-succ' 10 (suc n) in omega arith) (omega arith))
  where
    go : scan_all f s (digits_up_to (suc n) (w / 10)) ≡ in_number s (w / 10)
        → scan_all f s (cond (ltb w 10) (digit_byte w ∷ []) (digits_up_to (suc n) (w / 10) ++ (digit_byte (w % 10) ∷ []))) ≡ in_number s w
    go ih = either (ltb w 10)
        (λ e. rw e (step_first f s w p (ltb-true w 10 e)))
        (λ e. let b : 10 ≤ w = ltb-false w 10 e in
        let j : 10 * (w / 10) + w % 10 ≡ w = omega arith in
        rw e (scan_append f s (digits_up_to (suc n) (w / 10)) (digit_byte (w % 10) ∷ []) ∙ ap (λ (z : Scan). step_of f z (digit_byte (w % 10))) ih
        ∙ step_more f s (w / 10) (w % 10) (omega arith) (omega arith) (omega arith) ∙ ap (in_number s) j))

no_length : (l : List ℕ) → length l ≡ 0 → l ≡ []
no_length [] e = refl
no_length (x ∷ l) e = absurd (omega arith)

-- past the word w
abbrev pub past_word : Format → Scan → ℕ → Scan
past_word f s w = record {
  phase = BeforeNumber;
  number = record { minus = false; value = 0 };
  column = column_after f s.column w;
  line = cond (is_last f.columns s.column.index) (s.line + 1) s.line;
  count = s.count + 1;
}

-- before a number
pub record Ready (s : Scan) : Type 0 where
  pub phase_is : is_before s.phase ≡ true
  pub minus_is : s.number.minus ≡ false

-- the text of a word is read as that word
record Reads (f : Format) (s : Scan) (w : ℕ) (t : List ℕ) : Type 0 where
  end : Scan
  scan : scan_all f s t ≡ end
  count : end.count ≡ s.count
  past : step_of f end (byte_after f.columns s.column.index) ≡ past_word f s w
  word : word_read end ≡ w

module _ (f : Format) (s : Scan) (w : ℕ) (r : Ready s) (m : w ≤ word_limit) where
  abbrev signed : Bool
  signed = may_sign f.columns s.column.index s.column.told

  reads_plain : (is_within signed false w ≡ true) → Reads f s w (number_text w)
  reads_plain e =
      let q : (in_number s w).number.minus ≡ false = r.minus_is in
      let word : word_read (in_number s w) ≡ w = ap (λ (t : Bool). cond t (opposite w) w) q in
      record {
        end = in_number s w;
        scan = scan_digits f s 9 w (before_begins s.phase r.phase_is) (omega arith) m;
        count = refl;
        past = step_after f (in_number s w) refl (ap (λ (t : Bool). is_within signed t w) q ∙ e) ∙ ap (past_word f s) word;
        word = word;
      }

  reads_below : signed ≡ true → is_below_zero w ≡ true → Reads f s w (minus_byte ∷ number_text (opposite w))
  unfolding scan_all
  reads_below e b =
      let h : value_limit < w = ltb-true value_limit w b in
      let v : ℕ = opposite w in
      let word : opposite v ≡ w = omega arith in
      let fits : is_within signed true v ≡ true = rw (e, lt-ltb 0 v (omega arith), le-leb v (value_limit + 1) (omega arith)) in
      record {
        end = in_number (after_minus s) v;
        scan = ap (λ (z : Scan). scan_all f z (number_text v)) (step_minus f s r.phase_is) ∙ scan_digits f (after_minus s) 9 v refl (omega arith) (omega arith);
        count = refl;
        past = step_after f (in_number (after_minus s) v) refl fits ∙ ap (past_word f s) word;
        word = word;
      }

  reads : Reads f s w (word_text signed w)
  unfolding word_text
  reads = either signed
      (λ e. either (is_below_zero w)
      (λ b. rw (e, b) (reads_below e b))
      (λ b. rw (e, b) (reads_plain (rw (e, le-leb w value_limit (ltb-false value_limit w b))))))
      (λ e. rw e (reads_plain (rw e)))

  -- a word and the byte after it
  pub word_scan : (bs : List ℕ) → scan_all f s (word_text signed w ++ (byte_after f.columns s.column.index ∷ bs)) ≡ scan_all f (past_word f s w) bs
  unfolding scan_all
  word_scan bs = let t = reads in
      scan_append f s (word_text signed w) (byte_after f.columns s.column.index ∷ bs)
      ∙ ap (λ (z : Scan). scan_all f (step_of f z (byte_after f.columns s.column.index)) bs) t.scan
      ∙ ap (λ (z : Scan). scan_all f z bs) t.past

  none_yet : words_from f s (word_text signed w) ≡ []
  none_yet = let t = reads in
      no_length (words_from f s (word_text signed w)) (omega (arith, count_words f s (word_text signed w), ap (λ (z : Scan). z.count) t.scan, t.count))

  word_words : (bs : List ℕ) → words_from f s (word_text signed w ++ (byte_after f.columns s.column.index ∷ bs)) ≡ w ∷ words_from f (past_word f s w) bs
  word_words bs = let t = reads in
      let b : ℕ = byte_after f.columns s.column.index in
      words_append f s (word_text signed w) (b ∷ bs)
      ∙ ap (λ (l : List ℕ). l ++ words_from f (scan_all f s (word_text signed w)) (b ∷ bs)) none_yet
      ∙ ap (λ (z : Scan). words_from f z (b ∷ bs)) t.scan
      ∙ loud f t.end (past_word f s w) b bs t.past (omega (arith, t.count))
      ∙ ap (λ (n : ℕ). n ∷ words_from f (past_word f s w) bs) t.word

next_mod : (k c : ℕ) → c < k → next_column k c ≡ (c + 1) % k
next_mod k c h = either (is_last k c)
    (λ e. let q : c + 1 ≡ k = eqb-true (c + 1) k e in rw e (sym (ap (λ (n : ℕ). n % k) q ∙ mod_self k)))
    (λ e. let q : (c + 1 ≡ k → ⊥) = eqb-false (c + 1) k e in let l : c + 1 < k = omega arith in rw e (sym (mod-eq_of_lt l)))

record Returned (f : Format) (s : Scan) (ws : List ℕ) : Type 0 where
  words_are : words_from f s (text_from f s.column.index s.column.told ws) ≡ ws
  phase_is : is_before (scan_all f s (text_from f s.column.index s.column.told ws)).phase ≡ true
  column_is : (scan_all f s (text_from f s.column.index s.column.told ws)).column.index ≡ (s.column.index + length ws) % f.columns

returned : (f : Format) (s : Scan) (ws : List ℕ) → Ready s → s.column.index < f.columns → AllWords ws → Returned f s ws
unfolding text_from scan_all words_from
returned f s [] p c h = record { words_are = refl; phase_is = p.phase_is; column_is = sym (ap (λ (n : ℕ). n % f.columns) (omega arith) ∙ mod-eq_of_lt c) }
returned f s (w ∷ ws) p c h = go (returned f r ws (record { phase_is = refl; minus_is = refl }) (next_lt f.columns s.column.index c) (λ i. h (suc i)))
  where
    r : Scan
    r = past_word f s w

    go : Returned f r ws → Returned f s (w ∷ ws)
    go t =
        let u : List ℕ = text_from f r.column.index r.column.told ws in
        let e : scan_all f s (text_from f s.column.index s.column.told (w ∷ ws)) ≡ scan_all f (past_word f s w) u = word_scan f s w p (h 0) u in
        record {
          words_are = word_words f s w p (h 0) u ∙ ap (λ (l : List ℕ). w ∷ l) t.words_are;
          phase_is = ap (λ (z : Scan). is_before z.phase) e ∙ t.phase_is;
          column_is = ap (λ (z : Scan). z.column.index) e ∙ t.column_is
              ∙ ap (λ (x : ℕ). (x + length ws) % f.columns) (next_mod f.columns s.column.index c)
              ∙ mod-add-mod (s.column.index + 1) f.columns (length ws) ∙ ap (λ (x : ℕ). x % f.columns) (omega arith);
        }

starts_own : (names bs : List ℕ) → starts_with names (names ++ bs) ≡ true
unfolding starts_with
starts_own [] bs = refl
starts_own (x ∷ names) bs = rw (eq-eqb x x refl) (starts_own names bs)

-- the words of what writing gives, and that it passes 18 and 19, where they fill whole lines
module _ (names : List ℕ) (f : Format) (ws : List ℕ) (pos : 0 < f.columns) (small : AllWords ws) where
  t : Returned f at_start ws
  t = returned f at_start ws (record { phase_is = refl; minus_is = refl }) pos small

  body : lines names (names ++ lines_text f ws) ≡ lines_text f ws
  body = drop-append_seam names (lines_text f ws)

  pub read_write : read_words names f (write_text names f ws) ≡ ws
  unfolding write_text read_words
  read_write = rw body t.words_are

  pub write_passes : whole f.columns ws ≡ true → is_done (check_file names f (write_text names f ws)) ≡ true
  unfolding write_text check_file
  write_passes w =
      let col : (scan_all f at_start (lines_text f ws)).column.index ≡ 0 = t.column_is ∙ ap (λ (n : ℕ). n % f.columns) (omega arith) ∙ eqb-true (length ws % f.columns) 0 w in
      rw (body, starts_own names (lines_text f ws), t.phase_is, eq-eqb _ 0 col)
