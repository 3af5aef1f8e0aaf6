-- One number: how many digits it has, and its digits put from the first to the last. Assumes nothing.
use Prim.Native.Nat.{ℕ, zero, suc, ◌+◌, ◌-◌, ◌*◌, ◌^◌, ◌≤◌, ◌<◌}
use mathlib.Core.Path.{◌≡◌, refl, sym, ap, ◌∙◌}
use mathlib.Core.List.{List, [], ◌∷◌, ◌++◌}
use native.Mathlib.Nat.{le_trans, zero-mul, add-mul, mul_assoc, mul_left_comm, le-mul_of_pos_right, pow-succ', one-le-pow, pow-le-pow_right}
use native.Mathlib.Omega.{arith}
use lib.ListN.{length, set, length-append}
use lib.Seq.{sets, length-sets}
use Rattle.base.proofs.Copies.{sets_append}
use Rattle.powers.specs.Powers.{word_digits, power_at}
use Rattle.powers.proofs.Powers.{power_is}
use Rattle.tables.specs.Words.{word_limit}
use Rattle.tables.specs.Files.{digit_byte, with_digit, number_text}
use Rattle.tables.proofs.Digits.{text_le, text_pos, wide_from, narrow_below, from_wide, below_narrow, so_far, so_far_lem, text_more}

-- ---- how many digits
-- w has at least n
pub record Widths (w n : ℕ) : Type 0 where
  pub low : 1 ≤ n
  pub high : n ≤ word_digits
  pub wide : n ≤ length (number_text w)

module _ (w : ℕ) (fits : w ≤ word_limit) where
  pub width_begin : Widths w 1
  width_begin = record { low = omega arith; high = omega arith; wide = text_pos w }

  pub width_more : (n x : ℕ) → Widths w n → n < word_digits → x ≡ power_at n → x ≤ w → Widths w (n + 1)
  width_more n x t h e l = record {
    low = omega arith;
    high = omega arith;
    wide = omega (arith, wide_from n w fits (rw (power_is n h) at (rw e at l)));
  }

  pub width_found : (n x : ℕ) → Widths w n → n < word_digits → x ≡ power_at n → w < x → n ≡ length (number_text w)
  width_found n x t h e l = omega (arith, t.wide, narrow_below n w t.low (rw (power_is n h) at (rw e at l)))

  pub width_end : (n : ℕ) → Widths w n → word_digits ≤ n → n ≡ length (number_text w)
  width_end n t h = omega (arith, t.wide, text_le w)

-- ---- one number, from its first digit
-- the digit d of v put behind u
behind : (i u v d r w : ℕ) → w ≡ u * 10 ^ suc i + v → v ≡ d * 10 ^ i + r → w ≡ with_digit u d * 10 ^ i + r
behind i u v d r w e f =
    let a : u * 10 ^ suc i ≡ 10 * (u * 10 ^ i) = ap (λ (n : ℕ). u * n) (pow-succ' 10 i) ∙ mul_left_comm u 10 (10 ^ i) in
    let b : with_digit u d * 10 ^ i ≡ 10 * u * 10 ^ i + d * 10 ^ i = add-mul (10 * u) d (10 ^ i) in
    let c : 10 * u * 10 ^ i ≡ 10 * (u * 10 ^ i) = mul_assoc 10 u (10 ^ i) in
    omega arith

-- a number from a power on has a digit there or above
nonzero : (x p r w : ℕ) → w ≡ x * p + r → r < p → p ≤ w → 0 < x
nonzero zero p r w e h l = absurd (omega (arith, zero-mul p))
nonzero (suc x) p r w e h l = omega arith

-- the bytes before p are those of `before`, the number without its last i + 1 digits, which are v
pub record Placing (out₀ : List ℕ) (at w : ℕ) (out : List ℕ) (i v p : ℕ) : Type 0 where
  pub before : ℕ
  pub whole : w ≡ before * 10 ^ suc i + v
  pub below : v < 10 ^ suc i
  pub few : i < word_digits
  pub starts : 0 < i → 10 ^ i ≤ w
  pub place : p ≡ at + length (so_far before)
  pub end : p + i + 1 ≡ at + length (number_text w)
  pub done : out ≡ sets out₀ at (so_far before)

module _ (out₀ : List ℕ) (at w : ℕ) (fits : w ≤ word_limit) where
  pub place_begin : (i : ℕ) → i + 1 ≡ length (number_text w) → Placing out₀ at w out₀ i w at
  place_begin i e =
      record {
        before = 0;
        whole = omega (arith, zero-mul (10 ^ suc i));
        below = below_narrow (suc i) w fits (omega arith);
        few = omega (arith, text_le w);
        starts = λ z. from_wide i w z (omega arith);
        place = omega arith;
        end = omega arith;
        done = refl;
      }

  pub place_length : (out : List ℕ) (i v p : ℕ) → Placing out₀ at w out i v p → length out ≡ length out₀
  place_length out i v p t = ap length t.done ∙ length-sets out₀ at (so_far t.before)

  pub place_room : (out : List ℕ) (i v p : ℕ) → Placing out₀ at w out i v p → at + length (number_text w) ≤ length out₀ → p + i < length out
  place_room out i v p t h = omega (arith, t.end, place_length out i v p t)

  put_behind : (out : List ℕ) (i v p b : ℕ) (t : Placing out₀ at w out i v p) → set out p b ≡ sets out₀ at (so_far t.before ++ (b ∷ []))
  put_behind out i v p b t =
      ap (λ (l : List ℕ). set l p b) t.done ∙ ap (λ (n : ℕ). set (sets out₀ at (so_far t.before)) n b) t.place
      ∙ sym (sets_append out₀ at (so_far t.before) (b ∷ []))

  -- v has no digit above the next one
  pub place_nine : (out : List ℕ) (i v p : ℕ) → Placing out₀ at w out i v p → v < 10 * power_at i
  place_nine out i v p t = rw (power_is i t.few) (omega (arith, t.below, pow-succ' 10 i))

  -- a digit of v, of which r is left
  pub place_more : (out : List ℕ) (i v p d r : ℕ) → Placing out₀ at w out i v p → 0 < i → v ≡ d * power_at i + r → r < power_at i → d ≤ 9
      → Placing out₀ at w (set out p (digit_byte d)) (i - 1) r (p + 1)
  place_more out i v p d r t z e' l' n =
      let e : v ≡ d * 10 ^ i + r = rw (power_is i t.few) at e' in
      let l : r < 10 ^ i = rw (power_is i t.few) at l' in
      let x : ℕ = with_digit t.before d in
      let s : suc (i - 1) ≡ i = omega arith in
      let whole : w ≡ x * 10 ^ i + r = behind i t.before v d r w t.whole e in
      let small : x ≤ word_limit = omega (arith, le-mul_of_pos_right x (one-le-pow i 10 (omega arith))) in
      let text : so_far x ≡ so_far t.before ++ (digit_byte d ∷ []) =
      so_far_lem x (nonzero x (10 ^ i) r w whole l (t.starts z)) ∙ text_more t.before d (omega arith) small in
      record {
        before = x;
        whole = rw s whole;
        below = rw s l;
        few = omega (arith, t.few);
        starts = λ y. le_trans (pow-le-pow_right (omega arith) (omega arith)) (t.starts z);
        place = omega (arith, t.place, ap length text, length-append (so_far t.before) (digit_byte d ∷ []));
        end = omega (arith, t.end);
        done = put_behind out i v p (digit_byte d) t ∙ sym (ap (sets out₀ at) text);
      }

  pub place_last : (out : List ℕ) (i v p : ℕ) → Placing out₀ at w out i v p → i ≤ 0 → v < 10
  place_last out i v p t h = let none : i ≡ 0 = omega arith in rw (ap (λ (n : ℕ). 10 ^ suc n) none) at t.below

  pub place_end : (out : List ℕ) (i v p : ℕ) → Placing out₀ at w out i v p → i ≤ 0 → set out p (digit_byte v) ≡ sets out₀ at (number_text w)
  place_end out i v p t h =
      let none : i ≡ 0 = omega arith in
      let ten : 10 ^ suc i ≡ 10 = ap (λ (n : ℕ). 10 ^ suc n) none in
      let whole : w ≡ with_digit t.before v = rw ten at t.whole ∙ omega arith in
      put_behind out i v p (digit_byte v) t
      ∙ sym (ap (λ (n : ℕ). sets out₀ at (number_text n)) whole
      ∙ ap (sets out₀ at) (text_more t.before v (place_last out i v p t h) (omega arith)))
