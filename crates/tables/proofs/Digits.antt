-- The text of a number: its last digit, its length, and its digits from the front. Assumes nothing.
use Prim.Native.Nat.{ℕ, zero, suc, ◌+◌, ◌*◌, ◌/◌, ◌%◌, ◌^◌, ◌≤◌, ◌<◌}
use mathlib.Core.Path.{◌≡◌, refl, sym, ap, ◌∙◌}
use mathlib.Core.Bool.{Bool, true, false, cond}
use mathlib.Core.List.{List, [], ◌∷◌, ◌++◌}
use native.Mathlib.Nat.{zero-add, pow-succ', one-le-pow}
use native.Mathlib.Omega.{arith}
use lib.ListN.{length, length-append}
use lib.Dec.{ltb}
use borrow.Author.Tests.{lt-ltb, le-ltb, ltb-true, ltb-false}
use Rattle.base.proofs.Bools.{either}
use Rattle.tables.specs.Words.{word_limit}
use Rattle.tables.specs.Files.{digit_byte, with_digit, digits_up_to, number_text}

-- room for one digit more changes nothing where the digits fit
fuel : (n v : ℕ) → v < 10 ^ suc n → digits_up_to (suc (suc n)) v ≡ digits_up_to (suc n) v
unfolding digits_up_to
fuel zero v h = rw (lt-ltb v 10 h)
fuel (suc n) v h =
    let e : 10 ^ suc (suc n) ≡ 10 * 10 ^ suc n = pow-succ' 10 (suc n) in
    ap (λ (l : List ℕ). cond (ltb v 10) (digit_byte v ∷ []) (l ++ (digit_byte (v % 10) ∷ []))) (fuel n (v / 10) (omega arith))

pub text_one : (d : ℕ) → d < 10 → number_text d ≡ digit_byte d ∷ []
unfolding digits_up_to
text_one d h = rw (lt-ltb d 10 h)

text_div : (v : ℕ) → 10 ≤ v → v ≤ word_limit → number_text v ≡ number_text (v / 10) ++ (digit_byte (v % 10) ∷ [])
unfolding digits_up_to
text_div v h m = rw (le-ltb v 10 h) (ap (λ (l : List ℕ). l ++ (digit_byte (v % 10) ∷ [])) (sym (fuel 8 (v / 10) (omega arith))))

pub text_grow : (v d : ℕ) → 0 < v → d < 10 → with_digit v d ≤ word_limit → number_text (with_digit v d) ≡ number_text v ++ (digit_byte d ∷ [])
text_grow v d p h m =
    let q : (10 * v + d) / 10 ≡ v = omega arith in
    let r : (10 * v + d) % 10 ≡ d = omega arith in
    text_div (with_digit v d) (omega arith) m ∙ rw (q, r)

length_div : (v : ℕ) → 10 ≤ v → v ≤ word_limit → length (number_text v) ≡ length (number_text (v / 10)) + 1
length_div v h m = ap length (text_div v h m) ∙ length-append (number_text (v / 10)) (digit_byte (v % 10) ∷ [])

digits_le : (n w : ℕ) → length (digits_up_to n w) ≤ n
unfolding digits_up_to
digits_le zero w = omega arith
digits_le (suc n) w = go (digits_le n (w / 10)) (ltb w 10)
  where
    go : length (digits_up_to n (w / 10)) ≤ n → (t : Bool) → length (cond t (digit_byte w ∷ []) (digits_up_to n (w / 10) ++ (digit_byte (w % 10) ∷ []))) ≤ suc n
    go ih true = omega arith
    go ih false = omega (arith, length-append (digits_up_to n (w / 10)) (digit_byte (w % 10) ∷ []))

pub text_le : (w : ℕ) → length (number_text w) ≤ 10
text_le w = digits_le 10 w

pub digits_few : (m n w : ℕ) → w < 10 ^ suc n → length (digits_up_to m w) ≤ suc n
unfolding digits_up_to
digits_few zero n w h = omega arith
digits_few (suc m) n w h = go (λ k. digits_few m k (w / 10)) n h (ltb w 10) refl
  where
    go : ((k : ℕ) → w / 10 < 10 ^ suc k → length (digits_up_to m (w / 10)) ≤ suc k) → (n : ℕ) → w < 10 ^ suc n
        → (b : Bool) → ltb w 10 ≡ b → length (cond b (digit_byte w ∷ []) (digits_up_to m (w / 10) ++ (digit_byte (w % 10) ∷ []))) ≤ suc n
    go ih n h true e = omega arith
    go ih zero h false e = absurd (omega (arith, ltb-false w 10 e))
    go ih (suc n) h false e =
        let p : 10 ^ suc (suc n) ≡ 10 * 10 ^ suc n = pow-succ' 10 (suc n) in
        omega (arith, length-append (digits_up_to m (w / 10)) (digit_byte (w % 10) ∷ []), ih n (omega arith))

digits_pos : (n w : ℕ) → 1 ≤ length (digits_up_to (suc n) w)
unfolding digits_up_to
digits_pos n w = go (ltb w 10)
  where
    go : (b : Bool) → 1 ≤ length (cond b (digit_byte w ∷ []) (digits_up_to n (w / 10) ++ (digit_byte (w % 10) ∷ [])))
    go true = omega arith
    go false = omega (arith, length-append (digits_up_to n (w / 10)) (digit_byte (w % 10) ∷ []))

pub text_pos : (w : ℕ) → 1 ≤ length (number_text w)
text_pos w = digits_pos 9 w

-- ---- a number has more than n digits from 10 ^ n on, where there is room for them
pub digits_many : (m n w : ℕ) → n < m → 10 ^ n ≤ w → n < length (digits_up_to m w)
unfolding digits_up_to
digits_many zero n w l h = absurd (omega arith)
digits_many (suc m) zero w l h = digits_pos m w
digits_many (suc m) (suc n) w l h =
    let p : 10 ^ suc n ≡ 10 * 10 ^ n = pow-succ' 10 n in
    let q : 1 ≤ 10 ^ n = one-le-pow n 10 (omega arith) in
    let r : ltb w 10 ≡ false = le-ltb w 10 (omega arith) in
    rw r (omega (arith, length-append (digits_up_to m (w / 10)) (digit_byte (w % 10) ∷ []), digits_many m n (w / 10) (omega arith) (omega arith)))

pub wide_from : (n w : ℕ) → w ≤ word_limit → 10 ^ n ≤ w → n < length (number_text w)
wide_from zero w m h = text_pos w
wide_from (suc n) w m h =
    let p : 10 ^ suc n ≡ 10 * 10 ^ n = pow-succ' 10 n in
    let q : 1 ≤ 10 ^ n = one-le-pow n 10 (omega arith) in
    omega (arith, wide_from n (w / 10) (omega arith) (omega arith), length_div w (omega arith) m)

pub narrow_below : (n w : ℕ) → 0 < n → w < 10 ^ n → length (number_text w) ≤ n
narrow_below zero w z h = absurd (omega arith)
narrow_below (suc n) w z h = digits_few 10 n w h

pub from_wide : (n w : ℕ) → 0 < n → n < length (number_text w) → 10 ^ n ≤ w
from_wide n w z l = either (ltb w (10 ^ n))
    (λ e. absurd (omega (arith, narrow_below n w z (ltb-true w (10 ^ n) e))))
    (λ e. ltb-false w (10 ^ n) e)

pub below_narrow : (n w : ℕ) → w ≤ word_limit → length (number_text w) ≤ n → w < 10 ^ n
below_narrow n w m l = either (ltb w (10 ^ n))
    (λ e. ltb-true w (10 ^ n) e)
    (λ e. absurd (omega (arith, wide_from n w m (ltb-false w (10 ^ n) e))))

-- ---- digits from the front: the text of the number that they make, nothing before the first
abbrev pub so_far : ℕ → List ℕ
so_far u = cond (ltb 0 u) (number_text u) []

pub so_far_lem : (u : ℕ) → 0 < u → so_far u ≡ number_text u
so_far_lem u h = rw (lt-ltb 0 u h)

pub text_more : (u d : ℕ) → d < 10 → with_digit u d ≤ word_limit → number_text (with_digit u d) ≡ so_far u ++ (digit_byte d ∷ [])
text_more zero d h m = ap number_text (zero-add d) ∙ text_one d h
text_more (suc u) d h m = text_grow (suc u) d (omega arith) h m ∙ sym (ap (λ (l : List ℕ). l ++ (digit_byte d ∷ [])) (so_far_lem (suc u) (omega arith)))
