-- The table of powers, and the loop that subtracts a power. Assumes nothing.
use Prim.Native.Nat.{ℕ, ◌+◌, ◌-◌, ◌*◌, ◌/◌, ◌%◌, ◌^◌, ◌≤◌, ◌<◌, min}
use mathlib.Core.Path.{◌≡◌, refl, sym, ap, ◌∙◌}
use mathlib.Core.Bool.{Bool, false, not}
use mathlib.Core.List.{List}
use native.Mathlib.Nat.{zero-mul, suc-mul, one-le-pow, le-mul_of_pos_right, lt_of_mul-lt-mul_right}
use native.Mathlib.Nat.{mul-add-div_right, mul-add-mod_self_right, div-eq_of_lt, mod-eq_of_lt}
use native.Mathlib.Numerals.{add-one}
use native.Mathlib.Omega.{arith}
use lib.ListN.{get_or}
use lib.Dec.{eqb, ltb}
use borrow.Author.Tests.{eqb-true, ltb-true, ltb-false, not-false}
use Rattle.base.proofs.Bools.{either}
use Rattle.std.proofs.lemmas.List.{get_or_default, get_or_past}
use Rattle.base.specs.Search.{some, first_from}
use Rattle.base.proofs.Search.{none_at}
use Rattle.powers.specs.Powers.{word_digits, power_at, digit_at, Subtracted}
use Rattle.powers.specs.declared.Digit.{Digit}
use Rattle.powers.specs.declared.TheConstants.{POWERS}

-- ---- the table
abbrev powers : List ℕ
powers = POWERS

abbrev is_wrong : ℕ → Bool
is_wrong i = not (eqb (get_or powers i 0) (10 ^ i))

none_wrong : some is_wrong word_digits ≡ false
unfolding first_from
none_wrong = refl

pub powers_of_ten : (i : ℕ) → i < word_digits → get_or powers i 0 ≡ 10 ^ i
powers_of_ten i h =
    eqb-true (get_or powers i 0) (10 ^ i) (not-false (eqb (get_or powers i 0) (10 ^ i)) (none_at is_wrong word_digits i none_wrong h))

pub power_is : (i : ℕ) → i < word_digits → power_at i ≡ 10 ^ i
power_is i h = ap (λ (n : ℕ). 10 ^ n) (omega arith)

-- past the table stands its last entry
abbrev last_power : ℕ
last_power = get_or powers (word_digits - 1) 0

pub entry_is : (i : ℕ) → get_or powers i last_power ≡ power_at i
entry_is i = either (ltb i word_digits)
    (λ e. let h = ltb-true i word_digits e in get_or_default powers i last_power 0 h ∙ powers_of_ten i h ∙ sym (power_is i h))
    (λ e. let past : 9 ≡ min i (word_digits - 1) = omega (arith, ltb-false i word_digits e) in
    get_or_past powers i last_power (ltb-false i word_digits e) ∙ ap (λ (n : ℕ). 10 ^ n) past)

power_pos : (i : ℕ) → 1 ≤ power_at i
power_pos i = one-le-pow (min i (word_digits - 1)) 10 (omega arith)

-- ---- subtracting a power
abbrev pub Found : ℕ → ℕ → Digit → Type 0
Found v i d = (d ≡ digit_at v i) × Subtracted v i d

-- what was subtracted and what is left are the whole
pub record Subtracting (v i p times rest : ℕ) : Type 0 where
  pub power : p ≡ power_at i
  pub whole : v ≡ times * power_at i + rest

module _ (v i : ℕ) where
  pub subtract_begin : (p times rest : ℕ) → p ≡ power_at i → times ≡ 0 → rest ≡ v → Subtracting v i p times rest
  subtract_begin p times rest e z w = record { power = e; whole = rw z (omega (arith, zero-mul (power_at i))) }

  -- no more subtractions than v has ones
  pub subtract_times : (p times rest : ℕ) → Subtracting v i p times rest → p ≤ rest → times + 1 ≤ v
  subtract_times p times rest s h =
      omega (arith, s.power, s.whole, power_pos i, le-mul_of_pos_right times (power_pos i))

  pub subtract_less : (p times rest : ℕ) → Subtracting v i p times rest → p ≤ rest → rest - p < rest
  subtract_less p times rest s h = omega (arith, s.power, power_pos i)

  pub subtract_more : (p times rest : ℕ) → Subtracting v i p times rest → p ≤ rest → Subtracting v i p (times + 1) (rest - p)
  subtract_more p times rest s h = record {
    power = s.power;
    whole = rw (add-one times) (omega (arith, s.power, s.whole, suc-mul times (power_at i)));
  }

  -- where the rest is below the power they are quotient and remainder
  found : (d : Digit) → v ≡ d.times * power_at i + d.rest → d.rest < power_at i → Found v i d
  found d w h =
      let q : v / power_at i ≡ d.times =
      ap (λ (n : ℕ). n / power_at i) w ∙ mul-add-div_right (power_pos i) d.times d.rest ∙ omega (arith, div-eq_of_lt h) in
      let r : v % power_at i ≡ d.rest =
      ap (λ (n : ℕ). n % power_at i) w ∙ mul-add-mod_self_right d.times (power_at i) d.rest ∙ mod-eq_of_lt h in (
        rw (q, r),
        record {
          whole = w;
          below = h;
          nine = λ m. let l : d.times < 10 = lt_of_mul-lt-mul_right (power_at i) (omega arith) in omega arith;
        },
      )

  pub subtract_end : (d : Digit) (p times rest : ℕ) → Subtracting v i p times rest → rest < p → d.times ≡ times → d.rest ≡ rest → Found v i d
  subtract_end d p times rest s h e f =
      let w : v ≡ d.times * power_at i + d.rest =
      s.whole ∙ ap (λ (n : ℕ). n * power_at i + rest) (sym e) ∙ ap (λ (n : ℕ). d.times * power_at i + n) (sym f) in
      found d w (omega (arith, s.power))
