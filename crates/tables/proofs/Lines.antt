-- 19 by lines: reading by steps passes the lines of specs/Lines.antt and stops at the first that is none. Assumes nothing.
use Prim.Native.Nat.{ℕ, zero, suc, ◌+◌, ◌≤◌, ◌<◌}
use mathlib.Core.Path.{◌≡◌, refl, sym, ap, subst, ◌∙◌}
use mathlib.Core.Bool.{Bool, true, false, cond, ◌&&◌, false≢true}
use mathlib.Core.List.{List, [], ◌∷◌, ◌++◌, append-nil}
use native.Mathlib.Omega.{arith}
use lib.ListN.{length}
use lib.Dec.{eqb, ltb}
use borrow.Author.Tests.{eqb-true, eqb-false, ne_eqb, ltb-true}
use Rattle.base.proofs.Bools.{either}
use Rattle.tables.specs.Answers.{Done, Refused}
use Rattle.tables.specs.declared.reading.Phase.TheVariants.{BeforeNumber}
use Rattle.tables.specs.declared.reading.Scan.{Scan}
use Rattle.tables.specs.Words.{word_limit, AllWords}
use Rattle.tables.specs.Files.{Format, format, is_last, byte_after, may_sign, word_text, text_from, is_before, at_fault, word_read, step_of}
use Rattle.tables.specs.Files.{at_start, scan_all, words_from, at_line, lines, read_words, check_file}
use Rattle.tables.specs.declared.columns.Signs.TheVariants.{Nowhere}
use Rattle.tables.specs.Scans.{Sound}
use Rattle.tables.specs.Lines.{IsNumber, LineFrom, at_last, at_next, IsLine, AllLines, no_lines, line_first, onto_first}
use Rattle.tables.specs.Lines.{lines_of, line_at, told_by, WhereSigns, ByLines, every_line, first_other, FilesByLines}
use Rattle.tables.proofs.Steps.{View, begins, grows, ends, takes_sign, stops, view, fault_stays, step_sound, ended_word, count_words}
use Rattle.tables.proofs.ReadBack.{Ready, past_word, scan_append, words_append, word_scan}
use Rattle.tables.proofs.WriteBack.{fresh_back}
use Rattle.tables.proofs.LineTexts.{number_text_lem, text_line}
use Rattle.tables.specs.declared.refusals.Fault.TheVariants.{Line}

-- ---- bytes cut into lines
data Ended : List ℕ → Type 0 where
  end : Ended (10 ∷ [])
  on : {b : ℕ} {l : List ℕ} → (b ≡ 10 → ⊥) → Ended l → Ended (b ∷ l)

data Open : List ℕ → Type 0 where
  one : {b : ℕ} → (b ≡ 10 → ⊥) → Open (b ∷ [])
  on : {b : ℕ} {l : List ℕ} → (b ≡ 10 → ⊥) → Open l → Open (b ∷ l)

data Cut : List (List ℕ) → Type 0 where
  none : Cut []
  rest : {l : List ℕ} → Open l → Cut (l ∷ [])
  line : {l : List ℕ} {ls : List (List ℕ)} → Ended l → Cut ls → Cut (l ∷ ls)

onto : {b : ℕ} {ls : List (List ℕ)} → (b ≡ 10 → ⊥) → Cut ls → Cut (onto_first b ls)
onto h none = rest (one h)
onto h (rest o) = rest (on h o)
onto h (line e c) = line (on h e) c

cut : (bs : List ℕ) → Cut (lines_of bs)
unfolding lines_of
cut [] = none
cut (b ∷ bs) = either (eqb b 10)
    (λ e. rw e (line (subst (λ (x : ℕ). Ended (x ∷ [])) (sym (eqb-true b 10 e)) end) (cut bs)))
    (λ e. rw e (onto (eqb-false b 10 e) (cut bs)))

joined : List (List ℕ) → List ℕ
joined [] = []
joined (l ∷ ls) = l ++ joined ls

onto_joined : (b : ℕ) (ls : List (List ℕ)) → joined (onto_first b ls) ≡ b ∷ joined ls
unfolding joined
onto_joined b [] = refl
onto_joined b (l ∷ ls) = refl

lines_joined : (bs : List ℕ) → joined (lines_of bs) ≡ bs
unfolding lines_of joined
lines_joined [] = refl
lines_joined (b ∷ bs) = either (eqb b 10)
    (λ e. rw e (ap (λ (l : List ℕ). b ∷ l) (lines_joined bs)))
    (λ e. rw e (onto_joined b (lines_of bs) ∙ ap (λ (l : List ℕ). b ∷ l) (lines_joined bs)))

-- ---- within a line
-- before the first number of a line
abbrev fresh : ℕ → ℕ → Scan
fresh n count = record { phase = BeforeNumber; number = record { minus = false; value = 0 }; column = record { index = 0; told = false }; line = n; count = count }

record Inside (s r : Scan) : Type 0 where
  same_line : r.line ≡ s.line
  numbers : r.count + s.column.index ≡ s.count + r.column.index
  not_done : at_line r ≡ false

after_space : (k c b : ℕ) → b ≡ byte_after k c → (b ≡ 10 → ⊥) → is_last k c ≡ false
unfolding byte_after
after_space k c b e h = either (is_last k c) (λ q. absurd (h (e ∙ rw q))) (λ q. q)

after_end : (k c b : ℕ) → b ≡ byte_after k c → b ≡ 10 → is_last k c ≡ true
unfolding byte_after
after_end k c b e h = either (is_last k c) (λ q. q) (λ q. let z : ◌≡◌ {A = ℕ} 10 32 = sym h ∙ e ∙ rw q in absurd (omega arith))

inside : {f : Format} {s : Scan} {b : ℕ} {r : Scan} → View f s b r → (b ≡ 10 → ⊥) → Inside s r
inside (begins d h e p) n = record { same_line = refl; numbers = refl; not_done = refl }
inside (grows d h e p v m) n = record { same_line = refl; numbers = refl; not_done = refl }
inside (takes_sign p e) n = record { same_line = refl; numbers = refl; not_done = refl }
inside stops n = record { same_line = refl; numbers = refl; not_done = refl }
inside {f} {s} {b} (ends p e w) n =
    let q : is_last f.columns s.column.index ≡ false = after_space f.columns s.column.index b e n in
    record {
      same_line = rw q;
      numbers = rw q (omega arith);
      not_done = rw q (ne_eqb (s.column.index + 1) 0 (omega arith));
    }

-- a line that is not ended
scan_open : (f : Format) {l : List ℕ} → Open l → (s : Scan) → Inside s (scan_all f s l)
unfolding scan_all
scan_open f (one {b} h) s = inside (view f s b) h
scan_open f (on {b} {l} h o) s =
    let a = inside (view f s b) h in
    let t = scan_open f o (step_of f s b) in
    record { same_line = t.same_line ∙ a.same_line; numbers = omega (arith, a.numbers, t.numbers); not_done = t.not_done }

-- one that is: a fault within it, or the next line
data Past (f : Format) (s : Scan) : Scan → Type 0 where
  fault : (r : Scan) → r.line ≡ s.line → Past f s (at_fault r)
  ended : (n : ℕ) → n + s.column.index ≡ s.count + f.columns → Past f s (fresh (s.line + 1) n)

at_end_lem : {f : Format} {s : Scan} {r : Scan} → View f s 10 r → Past f s r
at_end_lem (begins d h e p) = absurd (omega arith)
at_end_lem (grows d h e p v m) = absurd (omega arith)
at_end_lem (takes_sign p e) = absurd (omega arith)
at_end_lem {f} {s} stops = fault s refl
at_end_lem {f} {s} (ends p e w) =
    let q : is_last f.columns s.column.index ≡ true = after_end f.columns s.column.index 10 e refl in
    rw q (ended (s.count + 1) (omega (arith, eqb-true (s.column.index + 1) f.columns q)))

scan_ended : (f : Format) {l : List ℕ} → Ended l → (s : Scan) → Past f s (scan_all f s l)
unfolding scan_all
scan_ended f end s = at_end_lem (view f s 10)
scan_ended f (on {b} {l} h e) s = go (inside (view f s b) h) (scan_ended f e (step_of f s b))
  where
    go : {r q : Scan} → Inside s r → Past f r q → Past f s q
    go a (fault r e) = fault r (e ∙ a.same_line)
    go a (ended n e) = subst (λ (m : ℕ). Past f s (fresh (m + 1) n)) (sym a.same_line) (ended n (omega (arith, a.numbers)))

-- ---- a line of numbers is read to its end
-- a number's text and the byte after it, at a state
number_then : (f : Format) (s : Scan) (c : ℕ) (told : Bool) (t : List ℕ) (w b : ℕ) (l : List ℕ) → IsNumber (may_sign f.columns c told) t w → Ready s
    → s.column.index ≡ c → s.column.told ≡ told → byte_after f.columns c ≡ b → scan_all f s (t ++ (b ∷ l)) ≡ scan_all f (past_word f s w) l
number_then f s c told t w b l m r ec et eb =
    let z = number_text_lem m in
    let same : may_sign f.columns s.column.index s.column.told ≡ may_sign f.columns c told = rw (ec, et) in
    let after : byte_after f.columns s.column.index ≡ b = ap (byte_after f.columns) ec ∙ eb in
    let text : t ++ (b ∷ l) ≡ word_text (may_sign f.columns s.column.index s.column.told) w ++ (byte_after f.columns s.column.index ∷ l)
    = ap (λ (x : List ℕ). x ++ (b ∷ l)) z.text ∙ ap (λ (x : Bool). word_text x w ++ (b ∷ l)) (sym same)
    ∙ ap (λ (x : ℕ). word_text (may_sign f.columns s.column.index s.column.told) w ++ (x ∷ l)) (sym after) in
    ap (scan_all f s) text ∙ word_scan f s w r z.word l

line_scan : (f : Format) {c : ℕ} {told : Bool} {l ws : List ℕ} → LineFrom f c told l ws → (s : Scan) → Ready s → s.column.index ≡ c → s.column.told ≡ told
    → (n : ℕ) × (scan_all f s l ≡ fresh (s.line + 1) n)
unfolding scan_all byte_after
line_scan f (at_last {c} {told} {t} {w} q m) s r ec et =
    (s.count + 1, number_then f s c told t w 10 [] m r ec et (rw q) ∙ rw (ec, q))
line_scan f (at_next {c} {told} {t} {l} {w} {ws} q m g) s r ec et =
    let more = line_scan f g (past_word f s w) (record { phase_is = refl; minus_is = refl }) (rw (ec, q)) (rw (ec, et, q)) in
    (more.0, number_then f s c told t w 32 l m r ec et (rw q) ∙ more.1 ∙ ap (λ (m : ℕ). fresh (m + 1) more.0) (rw (ec, q)))

-- ---- what is read to its end is a line
words_small : (f : Format) (s : Scan) (bs : List ℕ) → Sound f s → AllWords (words_from f s bs)
unfolding words_from
words_small f s [] t = λ i. omega arith
words_small f s (b ∷ bs) t = go (words_small f (step_of f s b) bs (step_sound f s b t))
  where
    go : AllWords (words_from f (step_of f s b) bs)
        → AllWords (cond (ltb s.count (step_of f s b).count) (word_read s ∷ words_from f (step_of f s b) bs) (words_from f (step_of f s b) bs))
    go ih = either (ltb s.count (step_of f s b).count)
        (λ e. rw e (both (ended_word f s (step_of f s b) b t refl (ltb-true s.count (step_of f s b).count e)).word_le))
        (λ e. rw e ih)
      where
        both : word_read s ≤ word_limit → AllWords (word_read s ∷ words_from f (step_of f s b) bs)
        both h zero = h
        both h (suc i) = ih i

is_line : (f : Format) (n c m : ℕ) (l : List ℕ) → 0 < f.columns → scan_all f (fresh n c) l ≡ fresh (n + 1) m → m ≡ c + f.columns
    → LineFrom f 0 false l (words_from f (fresh n c) l)
is_line f n c m l pos e h = go (words_from f (fresh n c) l) many small (fresh_back f (fresh n c) l refl refl (ap (λ (z : Scan). is_before z.phase) e))
  where
    many : length (words_from f (fresh n c) l) ≡ f.columns
    many = omega (arith, count_words f (fresh n c) l, ap (λ (z : Scan). z.count) e)

    small : AllWords (words_from f (fresh n c) l)
    small = words_small f (fresh n c) l (record { column_lt = pos; value_le = omega arith; none_yet = λ z. refl })

    go : (ws : List ℕ) → length ws ≡ f.columns → AllWords ws → l ≡ text_from f 0 false ws → LineFrom f 0 false l ws
    go [] k a t = absurd (omega arith)
    go (w ∷ ws) k a t = rw t (text_line f 0 false w ws (omega arith) a)

-- ---- all lines
data Reaches (f : Format) (ls : List (List ℕ)) (n : ℕ) (words : List ℕ) : Scan → Type 0 where
  all_lines : {r : Scan} → AllLines f ls words → at_line r ≡ true → Reaches f ls n words r
  to_first : {r : Scan} (i : ℕ) → i < length ls → ((j : ℕ) → j < i → IsLine f (line_at ls j)) → (IsLine f (line_at ls i) → ⊥)
      → at_line r ≡ false → r.line ≡ n + i → Reaches f ls n words r

no_line : (f : Format) (n c : ℕ) (l : List ℕ) (r : Scan) → scan_all f (fresh n c) l ≡ r → at_line r ≡ false → IsLine f l → ⊥
no_line f n c l r e h g =
    let z = line_scan f g.1 (fresh n c) (record { phase_is = refl; minus_is = refl }) refl refl in
    false≢true (sym h ∙ ap at_line (sym e ∙ z.1))

reaches : (f : Format) → 0 < f.columns → {ls : List (List ℕ)} → Cut ls → (n c : ℕ)
    → Reaches f ls n (words_from f (fresh n c) (joined ls)) (scan_all f (fresh n c) (joined ls))
unfolding scan_all words_from joined
reaches f pos none n c = all_lines {r = fresh n c} no_lines refl
reaches f pos (rest {l} o) n c =
    let t = scan_open f o (fresh n c) in
    rw (append-nil l) (to_first {r = scan_all f (fresh n c) l} 0 (omega arith) (λ j h. absurd (omega arith))
    (no_line f n c l (scan_all f (fresh n c) l) refl t.not_done) t.not_done (t.same_line ∙ omega arith))
reaches f pos (line {l} {ls} e k) n c =
    rw (scan_append f (fresh n c) l (joined ls), words_append f (fresh n c) l (joined ls))
    (go (scan_all f (fresh n c) l) refl (scan_ended f e (fresh n c)) (λ m. reaches f pos k (n + 1) m))
  where
    go : (r : Scan) → scan_all f (fresh n c) l ≡ r → Past f (fresh n c) r
        → ((m : ℕ) → Reaches f ls (n + 1) (words_from f (fresh (n + 1) m) (joined ls)) (scan_all f (fresh (n + 1) m) (joined ls)))
        → Reaches f (l ∷ ls) n (words_from f (fresh n c) l ++ words_from f r (joined ls)) (scan_all f r (joined ls))
    go r q (fault s h) ih = rw (fault_stays f s (joined ls))
        (to_first {r = at_fault s} 0 (omega arith) (λ j h. absurd (omega arith)) (no_line f n c l (at_fault s) q refl) refl (h ∙ omega arith))
    go r q (ended m h) ih = on_line (is_line f n c m l pos q (omega arith)) (ih m)
      where
        on_line : {t : Scan} {words : List ℕ} → LineFrom f 0 false l (words_from f (fresh n c) l) → Reaches f ls (n + 1) words t
            → Reaches f (l ∷ ls) n (words_from f (fresh n c) l ++ words) t
        on_line {t} g (all_lines a d) = all_lines {r = t} (line_first g a) d
        on_line {t} g (to_first i b a x d z) = to_first {r = t} (suc i) (omega arith) each x d (omega arith)
          where
            each : (j : ℕ) → j < suc i → IsLine f (line_at (l ∷ ls) j)
            each zero y = (words_from f (fresh n c) l, g)
            each (suc j) y = a j (omega arith)

-- ---- the answer
pub files_by_lines : FilesByLines
unfolding check_file read_words
files_by_lines names f file pos st =
    rw st (go (scan_all f at_start bs) refl (subst (λ (l : List ℕ). Reaches f (lines_of bs) 2 (words_from f at_start l) (scan_all f at_start l)) (lines_joined bs) (reaches f pos (cut bs) 2 0)))
  where
    bs : List ℕ
    bs = lines names file

    go : (r : Scan) → scan_all f at_start (lines names file) ≡ r → Reaches f (lines_of (lines names file)) 2 (words_from f at_start (lines names file)) r
        → ByLines f (lines_of (lines names file)) (words_from f at_start (lines names file))
        (cond (at_line (scan_all f at_start (lines names file))) (Done (length (words_from f at_start (lines names file)))) (Refused Line (scan_all f at_start (lines names file)).line))
    go r e (all_lines a d) = rw (e, d) (every_line a)
    go r e (to_first i b a x d z) =
        let p : i + 2 ≡ r.line = omega arith in
        rw (e, d) (subst (λ (m : ℕ). ByLines f (lines_of (lines names file)) (words_from f at_start (lines names file)) (Refused Line m)) p (first_other i b a x))

-- ---- where a sign may stand
pub where_signs : WhereSigns
unfolding told_by
where_signs = record {
  constants = λ kind a b. refl;
  values = λ device at up deep name. refl;
  kind_a_b = λ c told h. ap (λ (x : Bool). x && told) (ne_eqb (c + 1) 4 (omega arith));
  nowhere = no_signs;
  before_value = λ c told h. ap (λ (x : Bool). x && told) (ne_eqb (c + 1) 6 (omega arith));
}
  where
    no_signs : (k c : ℕ) (ws : List ℕ) → told_by (format k Nowhere) c false ws ≡ false
    no_signs k c [] = refl
    no_signs k c (w ∷ ws) = no_signs k (c + 1) ws
