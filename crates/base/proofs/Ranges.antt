-- Searches of a range of numbers by the library's `find`, `any` and `all`: what they answer is `found` and `some`. Assumes nothing.
use Prim.Native.Nat.{ℕ, zero, suc, ◌+◌, ◌≤◌, ◌<◌}
use mathlib.Core.Path.{◌≡◌, refl, sym, ap, ◌∙◌}
use mathlib.Core.Bool.{Bool, true, false, not, true≢false}
use mathlib.Core.List.{List}
use native.Mathlib.Omega.{arith}
use lib.Dec.{ltb}
use borrow.Author.Tests.{ltb-true, ltb-false, le-ltb, lt-ltb}
use denote.Ref.{Bor}
use denote.Param.Members.{Mut}
use Rattle.std.specs.Prelude.{Option, Some, None}
use Rattle.std.specs.declared.ops.Range.{Range}
use Rattle.std.specs.Iterator.{YieldsThen}
use Rattle.std.specs.List.{FoldsTo, range_with_len, list_any, list_all}
use Rattle.std.specs.Fn.{Called, CalledAt}
use Rattle.std.specs.Option.{MatchOption, unwrap_or}
use Rattle.std.specs.Bool.{⊤}
use Rattle.std.proofs.iter.Yields.{nat_range_steps}
use Rattle.std.proofs.lemmas.Iterator.{first_from_Range, YieldsList-from_range}
use Rattle.std.proofs.lemmas.Iterator.Search.{any_from_yields_List, all_from_yields_List}
use Rattle.base.specs.Search.{first_from, first, some, found}
use Rattle.base.proofs.Search.{first_le, none_before, at_first, some_at, some_none}
use Rattle.base.proofs.Bools.{either}

same_first : (p : ℕ → Bool) (n i : ℕ) → i < n → p i ≡ true → ((k : ℕ) → k < i → p k ≡ false) → first p n ≡ i
same_first p n i l e h =
    let below : first p n < n = ltb-true _ _ (some_at p n i l e) in
    let at : p (first p n) ≡ true = at_first p n below in
    let not_above : (i < first p n → ⊥) = (λ m. true≢false (sym e ∙ none_before p n i m)) in
    let not_below : (first p n < i → ⊥) = (λ m. true≢false (sym at ∙ h (first p n) m)) in
    omega (arith, not_above, not_below)

-- how a number is known to be the first
pub first_at : (p : ℕ → Bool) (n i : ℕ) → i < n → p i ≡ true → ((k : ℕ) → k < i → p k ≡ false) → found p n ≡ Some i
first_at p n i l e h =
    let some_e : some p n ≡ true = some_at p n i l e in
    rw (some_e, same_first p n i l e h)

pub nowhere : (p : ℕ → Bool) (n : ℕ) → ((k : ℕ) → k < n → p k ≡ false) → found p n ≡ None
nowhere p n h = let e : some p n ≡ false = some_none p n h in rw e

-- the same of a search that answers n for none
pub found_first : (p : ℕ → Bool) (n i : ℕ) → i ≡ first p n → i < n → found p n ≡ Some i
found_first p n i e l = let t : ltb (first p n) n ≡ true = lt-ltb (first p n) n (omega arith) in rw (t, ← e)

pub found_past : (p : ℕ → Bool) (n i : ℕ) → i ≡ first p n → n ≤ i → found p n ≡ None
found_past p n i e l = let t : ltb (first p n) n ≡ false = le-ltb (first p n) n (omega arith) in rw t

-- where the search asks for n itself if there is none
pub first_or : (p : ℕ → Bool) (n : ℕ) {r : Option ℕ} → r ≡ found p n → unwrap_or r n ≡ first p n
first_or p n e = either (some p n)
    (λ q. rw (e, q))
    (λ q. rw (e, q) (omega (arith, first_le p n, ltb-false (first p n) n q)))

next : (a : ℕ) → a + 1 ≡ suc a
next a = omega arith

-- the library's `any` and `all` over the numbers of a range
any_from : (p : ℕ → Bool) (a n e : ℕ) → e ≡ a + n → list_any p (range_with_len a n) ≡ ltb (first_from p a n) e
unfolding first_from
any_from p a zero e m = sym (le-ltb a e (omega arith))
any_from p a (suc n) e m = either (p a)
    (λ t. rw (t, lt-ltb a e (omega arith)))
    (λ t. rw t (any_from p (a + 1) n e (omega arith) ∙ ap (λ (k : ℕ). ltb (first_from p k n) e) (next a)))

all_from : (p : ℕ → Bool) (a n e : ℕ) → e ≡ a + n → list_all (λ x. not (p x)) (range_with_len a n) ≡ not (ltb (first_from p a n) e)
unfolding first_from
all_from p a zero e m = ap not (sym (le-ltb a e (omega arith)))
all_from p a (suc n) e m = either (p a)
    (λ t. rw (t, lt-ltb a e (omega arith)))
    (λ t. rw t (all_from p (a + 1) n e (omega arith) ∙ ap (λ (k : ℕ). not (ltb (first_from p k n) e)) (next a)))

module _ {F : Type 0} {g : Mut F (Bor ℕ × Unit {0}) Bool} (p : ℕ → Bool) (n : ℕ) where
  pub found_by_find : (u : Range ℕ) (f : F) (r : Option ℕ)
      → (xs : List ℕ) × (j : F) × YieldsThen nat_range_steps (record { start = 0; end = n }) xs r u × FoldsTo (λ p x q. CalledAt g p x false q) f xs j × MatchOption r ⊤ (λ x. (h : F) × CalledAt g j x true h)
      → ((x : ℕ) (b : Bool) (q : F) → CalledAt g f x b q → (q ≡ f) × (b ≡ p x))
      → r ≡ found p n
  found_by_find u f r ran h =
      conclude r (first_from_Range _ u f r (λ x. p x ≡ true) (λ x. p x ≡ false) ran (λ x q k. sym (h x true q k).1) (λ x q k. ((h x false q k).0, sym (h x false q k).1)))
    where
      conclude : (r : Option ℕ) → MatchOption r ((k : ℕ) → 0 ≤ k → k < n → p k ≡ false) (λ i. (0 ≤ i) × (i < n) × (p i ≡ true) × ((k : ℕ) → 0 ≤ k → k < i → p k ≡ false)) → r ≡ found p n
      conclude None m = sym (nowhere p n (λ k l. m k (omega arith) l))
      conclude (Some i) m = sym (first_at p n i m.1 m.2 (λ k l. m.3 k (omega arith) l))

module _ {F : Type 0} {h : Mut F (ℕ × Unit {0}) Bool} (p : ℕ → Bool) (n : ℕ) where
  pub some_by_any : (u : Range ℕ) (f : F) (r : Bool)
      → (xs : List ℕ) × (o : Option ℕ) × (j : F) × YieldsThen nat_range_steps (record { start = 0; end = n }) xs o u × FoldsTo (λ p x q. Called h p (x, tt) false q) f xs j × MatchOption o (r ≡ false) (λ x. (r ≡ true) × ((k : F) × Called h j (x, tt) true k))
      → ((x : ℕ) (b : Bool) (q : F) → Called h f (x, tt) b q → (q ≡ f) × (b ≡ p x))
      → r ≡ some p n
  some_by_any u f r ran calls = any_from_yields_List p u f r ran (YieldsList-from_range 0 n n refl (omega arith)) calls ∙ any_from p 0 n n (omega arith)

  pub none_by_all : (u : Range ℕ) (f : F) (r : Bool)
      → (xs : List ℕ) × (o : Option ℕ) × (j : F) × YieldsThen nat_range_steps (record { start = 0; end = n }) xs o u × FoldsTo (λ p x q. Called h p (x, tt) true q) f xs j × MatchOption o (r ≡ true) (λ x. (r ≡ false) × ((k : F) × Called h j (x, tt) false k))
      → ((x : ℕ) (b : Bool) (q : F) → Called h f (x, tt) b q → (q ≡ f) × (b ≡ not (p x)))
      → r ≡ not (some p n)
  none_by_all u f r ran calls = all_from_yields_List (λ x. not (p x)) u f r ran (YieldsList-from_range 0 n n refl (omega arith)) calls ∙ all_from p 0 n n (omega arith)
