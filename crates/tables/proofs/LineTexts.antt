-- A number within its limits is the text of its word, and a line the text of its words. Assumes nothing.
use Prim.Native.Nat.{ℕ, zero, suc, ◌+◌, ◌*◌, ◌/◌, ◌%◌, ◌^◌, ◌≤◌, ◌<◌}
use mathlib.Core.Path.{◌≡◌, refl, sym, ap, subst, ◌∙◌}
use mathlib.Core.Bool.{Bool, true, false, cond, ◌&&◌}
use mathlib.Core.List.{List, [], ◌∷◌, ◌++◌}
use native.Mathlib.Nat.{pow-succ'}
use native.Mathlib.Omega.{arith}
use lib.ListN.{length}
use lib.Dec.{ltb}
use borrow.Author.Tests.{lt-ltb, le-ltb, ltb-true, ltb-false, eq-eqb, ne_eqb}
use Rattle.base.proofs.Bools.{either}
use Rattle.tables.specs.Words.{word_limit, AllWords}
use Rattle.tables.specs.Values.{value_limit, is_below_zero, opposite}
use Rattle.tables.specs.Files.{Format, is_last, byte_after, may_sign, digit_byte, minus_byte, with_digit, digits_up_to, number_text, word_text, text_from}
use Rattle.tables.specs.Lines.{Decimal, single, extended, IsNumber, from_zero, below_zero, LineFrom, at_last, at_next}
use Rattle.tables.proofs.Digits.{text_one, text_grow}

-- ---- decimal digits
decimal_grows : {t : List ℕ} {v : ℕ} → Decimal t v → v ≤ word_limit → t ≡ number_text v
decimal_grows (single {d} h) l = sym (text_one d h)
decimal_grows (extended {t} {v} {d} p z h) l =
    ap (λ (s : List ℕ). s ++ (digit_byte d ∷ [])) (decimal_grows p (omega arith)) ∙ sym (text_grow v d z h l)

digits_decimal : (n w : ℕ) → w < 10 ^ suc n → Decimal (digits_up_to (suc n) w) w
unfolding digits_up_to
digits_decimal zero w h = rw (lt-ltb w 10 h) (single h)
digits_decimal (suc n) w h =
    go (digits_decimal n (w / 10) (let e : 10 ^ suc (suc n) ≡ 10 * 10 ^ suc n = pow-succ' 10 (suc n) in omega arith))
  where
    go : Decimal (digits_up_to (suc n) (w / 10)) (w / 10)
        → Decimal (cond (ltb w 10) (digit_byte w ∷ []) (digits_up_to (suc n) (w / 10) ++ (digit_byte (w % 10) ∷ []))) w
    go ih = either (ltb w 10)
        (λ e. rw e (single (ltb-true w 10 e)))
        (λ e. let b : 10 ≤ w = ltb-false w 10 e in
        let j : with_digit (w / 10) (w % 10) ≡ w = omega arith in
        rw e (subst (Decimal (digits_up_to (suc n) (w / 10) ++ (digit_byte (w % 10) ∷ []))) j (extended ih (omega arith) (omega arith))))

-- ---- numbers
pub record TextOf (signed : Bool) (t : List ℕ) (w : ℕ) : Type 0 where
  pub text : t ≡ word_text signed w
  pub word : w ≤ word_limit

limit_word : (signed : Bool) (v : ℕ) → v ≤ cond signed value_limit word_limit → v ≤ word_limit
limit_word true v h = omega arith
limit_word false v h = h

not_below : (signed : Bool) (v : ℕ) → v ≤ cond signed value_limit word_limit → (signed && is_below_zero v) ≡ false
not_below true v h = le-ltb value_limit v h
not_below false v h = refl

pub number_text_lem : {signed : Bool} {t : List ℕ} {w : ℕ} → IsNumber signed t w → TextOf signed t w
unfolding word_text
number_text_lem {signed} (from_zero {t} {v} d h) = record {
  text = decimal_grows d (limit_word signed v h) ∙ rw (not_below signed v h);
  word = limit_word signed v h;
}
number_text_lem {signed} (below_zero {t} {v} e d z h) =
    let b : is_below_zero (opposite v) ≡ true = lt-ltb value_limit (opposite v) (omega arith) in
    let o : opposite (opposite v) ≡ v = omega arith in
    record {
      text = ap (λ (s : List ℕ). minus_byte ∷ s) (decimal_grows d (omega arith)) ∙ rw (e, b, o);
      word = omega arith;
    }

pub text_number : (signed : Bool) (w : ℕ) → w ≤ word_limit → IsNumber signed (word_text signed w) w
unfolding word_text
text_number true w h = either (is_below_zero w)
    (λ e. let l : value_limit < w = ltb-true value_limit w e in
    let o : opposite (opposite w) ≡ w = omega arith in
    rw e (subst (IsNumber true (minus_byte ∷ number_text (opposite w))) o
    (below_zero refl (digits_decimal 9 (opposite w) (omega arith)) (omega arith) (omega arith))))
    (λ e. rw e (from_zero (digits_decimal 9 w (omega arith)) (ltb-false value_limit w e)))
text_number false w h = from_zero (digits_decimal 9 w (omega arith)) h

-- ---- lines: the text of the words of the columns from c on
pub text_line : (f : Format) (c : ℕ) (told : Bool) (w : ℕ) (ws : List ℕ) → c + length (w ∷ ws) ≡ f.columns → AllWords (w ∷ ws)
    → LineFrom f c told (text_from f c told (w ∷ ws)) (w ∷ ws)
unfolding text_from byte_after
text_line f c told w [] e h =
    let q : is_last f.columns c ≡ true = eq-eqb (c + 1) f.columns (omega arith) in
    rw q (subst (λ (b : Bool). LineFrom f c told (word_text b w ++ (10 ∷ [])) (w ∷ [])) (ap (λ (b : Bool). b && told) q)
    (at_last q (text_number (may_sign f.columns c told) w (h 0))))
text_line f c told w (x ∷ ws) e h =
    let q : is_last f.columns c ≡ false = ne_eqb (c + 1) f.columns (omega arith) in
    let rest : List ℕ = text_from f (c + 1) (f.tells c w told) (x ∷ ws) in
    rw q (subst (λ (b : Bool). LineFrom f c told (word_text b w ++ (32 ∷ rest)) (w ∷ x ∷ ws)) (ap (λ (b : Bool). b && told) q)
    (at_next q (text_number (may_sign f.columns c told) w (h 0)) (text_line f (c + 1) (f.tells c w told) x ws (omega arith) (λ i. h (suc i)))))
