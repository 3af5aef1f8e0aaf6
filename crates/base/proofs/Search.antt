-- The one search law: a loop that looks for the first number below n at which a test holds, its invariant, kept by each turn, and what
-- it says at each way out; and what a search that has ended tells. Assumes nothing.
use Prim.Native.Nat.{ℕ, zero, suc, ◌+◌, ◌-◌, ◌≤◌, ◌<◌}
use mathlib.Core.Path.{◌≡◌, refl, sym, ap, subst, ◌∙◌}
use mathlib.Core.Logic.{⊎_elim}
use mathlib.Core.Bool.{Bool, true, false, cond, true≢false}
use native.Mathlib.Nat.{eq-or-lt_of_le}
use native.Mathlib.Numerals.{add-one}
use native.Mathlib.Omega.{arith}
use lib.Dec.{ltb}
use borrow.Author.Tests.{lt-ltb, le-ltb, ltb-true, ltb-false}
use Rattle.base.specs.Search.{first_from, first, some}
use Rattle.base.proofs.Bools.{either}

module _ (p : ℕ → Bool) (n : ℕ) where
  -- i numbers have been passed, and the answer is that of the rest
  pub record Passed (i : ℕ) : Type 0 where
    pub within : i ≤ n
    pub rest : first p n ≡ first_from p i (n - i)

  split : (i : ℕ) → i < n → first_from p i (n - i) ≡ cond (p i) i (first_from p (i + 1) (n - (i + 1)))
  unfolding first_from
  split i h =
      let e : n - i ≡ suc (n - (i + 1)) = omega arith in
      rw (e, add-one)

  pub begin : Passed 0
  begin = record { within = omega arith; rest = ap (first_from p 0) (omega arith) }

  pub hit : (i : ℕ) → Passed i → i < n → p i ≡ true → i ≡ first p n
  hit i s h e = sym (s.rest ∙ split i h ∙ ap (λ (b : Bool). cond b i (first_from p (i + 1) (n - (i + 1)))) e)

  pub miss : (i : ℕ) → Passed i → i < n → p i ≡ false → Passed (i + 1)
  miss i s h e = record { within = omega arith; rest = s.rest ∙ split i h ∙ ap (λ (b : Bool). cond b i (first_from p (i + 1) (n - (i + 1)))) e }

  pub none : (i : ℕ) → Passed i → n ≤ i → n ≡ first p n
  unfolding first_from
  none i s h =
      let z : n - i ≡ 0 = omega arith in
      let w : i ≤ n = s.within in
      let e : n ≡ i = omega arith in
      sym (s.rest ∙ rw (z, ← e))

-- the same for a loop that counts on from a number s, n numbers long
module _ (p : ℕ → Bool) (s n : ℕ) where
  pub record PassedOn (i : ℕ) : Type 0 where
    pub from : s ≤ i
    pub passed : Passed (λ j. p (s + j)) n (i - s)

  at_number : (i : ℕ) → s ≤ i → p (s + (i - s)) ≡ p i
  at_number i h = ap p (omega arith)

  pub begin_on : PassedOn s
  begin_on =
      let z : s - s ≡ 0 = omega arith in
      record { from = omega arith; passed = subst (Passed (λ j. p (s + j)) n) (sym z) (begin _ n) }

  pub hit_on : (i : ℕ) → PassedOn i → i < s + n → p i ≡ true → i ≡ s + first (λ j. p (s + j)) n
  hit_on i w h e =
      let f = w.from in
      let k = hit (λ j. p (s + j)) n (i - s) w.passed (omega arith) (at_number i f ∙ e) in omega (arith, k)

  pub miss_on : (i : ℕ) → PassedOn i → i < s + n → p i ≡ false → PassedOn (i + 1)
  miss_on i w h e =
      let f = w.from in
      let z : i + 1 - s ≡ i - s + 1 = omega arith in
      record {
        from = omega arith;
        passed = subst (Passed (λ j. p (s + j)) n) (sym z) (miss (λ j. p (s + j)) n (i - s) w.passed (omega arith) (at_number i f ∙ e));
      }

  pub none_on : (i : ℕ) → PassedOn i → s + n ≤ i → s + n ≡ s + first (λ j. p (s + j)) n
  none_on i w h = ap (◌+◌ s) (none (λ j. p (s + j)) n (i - s) w.passed (omega arith))

from_le : (p : ℕ → Bool) (i n : ℕ) → first_from p i n ≤ i + n
unfolding first_from
from_le p i zero = omega arith
from_le p i (suc n) = pick (p i) (from_le p (suc i) n)
  where
    pick : (b : Bool) → first_from p (suc i) n ≤ suc i + n → cond b i (first_from p (suc i) n) ≤ i + suc n
    pick true h = omega arith
    pick false h = omega arith

pub first_le : (p : ℕ → Bool) (n : ℕ) → first p n ≤ n
first_le p n = omega (arith, from_le p 0 n)

from_none : (p : ℕ → Bool) (a n i : ℕ) → a ≤ i → i < first_from p a n → p i ≡ false
unfolding first_from
from_none p a zero i h l = absurd (omega arith)
from_none p a (suc n) i h l = either (p a)
    (λ e. let m : i < a = (rw e at l) in absurd (omega arith))
    (λ e. ⊎_elim (λ q. ap p (sym q) ∙ e) (λ q. from_none p (suc a) n i q (rw e at l)) (eq-or-lt_of_le h))

-- the test fails at each number before the first
pub none_before : (p : ℕ → Bool) (n i : ℕ) → i < first p n → p i ≡ false
none_before p n i l = from_none p 0 n i (omega arith) l

from_at : (p : ℕ → Bool) (a n : ℕ) → first_from p a n < a + n → p (first_from p a n) ≡ true
unfolding first_from
from_at p a zero l = absurd (omega arith)
from_at p a (suc n) l = either (p a)
    (λ e. rw (e, e))
    (λ e. let m : first_from p (suc a) n < a + suc n = (rw e at l) in rw e (from_at p (suc a) n (omega arith)))

-- it holds at the first
pub at_first : (p : ℕ → Bool) (n : ℕ) → first p n < n → p (first p n) ≡ true
at_first p n l = from_at p 0 n (omega arith)

pub some_at : (p : ℕ → Bool) (n j : ℕ) → j < n → p j ≡ true → some p n ≡ true
some_at p n j h e = either (ltb j (first p n))
    (λ s. absurd (true≢false (sym e ∙ none_before p n j (ltb-true _ _ s))))
    (λ s. lt-ltb (first p n) n (omega (arith, ltb-false j (first p n) s)))

pub some_none : (p : ℕ → Bool) (n : ℕ) → ((j : ℕ) → j < n → p j ≡ false) → some p n ≡ false
some_none p n h = either (ltb (first p n) n)
    (λ s. absurd (true≢false (sym (at_first p n (ltb-true _ _ s)) ∙ h (first p n) (ltb-true _ _ s))))
    (λ s. s)

-- where the search finds nothing, the test fails everywhere
pub none_at : (p : ℕ → Bool) (n i : ℕ) → some p n ≡ false → i < n → p i ≡ false
none_at p n i e l = none_before p n i (omega (arith, ltb-false (first p n) n e))

-- a search that answers whether the test holds anywhere
pub found : (p : ℕ → Bool) (n i : ℕ) → i < n → p i ≡ true → true ≡ some p n
found p n i h e = sym (some_at p n i h e)

pub found_none : (p : ℕ → Bool) (n i : ℕ) → Passed p n i → n ≤ i → false ≡ some p n
found_none p n i s h = sym (le-ltb (first p n) n (let e : n ≡ first p n = none p n i s h in omega arith))

-- two tests that agree below n have the same first number there
from_same : (p q : ℕ → Bool) (i n : ℕ) → ((j : ℕ) → i ≤ j → j < i + n → p j ≡ q j) → first_from p i n ≡ first_from q i n
unfolding first_from
from_same p q i zero h = refl
from_same p q i (suc n) h =
    ap (λ (b : Bool). cond b i (first_from p (suc i) n)) (h i (omega arith) (omega arith))
    ∙ ap (cond (q i) i) (from_same p q (suc i) n (λ j k l. h j (omega arith) (omega arith)))

pub first_same : (p q : ℕ → Bool) (n : ℕ) → ((j : ℕ) → j < n → p j ≡ q j) → first p n ≡ first q n
first_same p q n h = from_same p q 0 n (λ j k l. h j (omega arith))

pub some_same : (p q : ℕ → Bool) (n : ℕ) → ((j : ℕ) → j < n → p j ≡ q j) → some p n ≡ some q n
some_same p q n h = ap (λ (m : ℕ). ltb m n) (first_same p q n h)
