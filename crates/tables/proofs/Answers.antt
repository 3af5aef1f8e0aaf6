-- What an accepted answer tells of the checks before it, and when checks are passed. Assumes nothing.
use Prim.Native.Nat.{ℕ, ◌<◌}
use mathlib.Core.Path.{◌∙◌, ◌≡◌, refl, sym, ap, ap₂, subst}
use mathlib.Core.Bool.{Bool, true, false, cond, ◌||◌, true≢false, false≢true}
use mathlib.Core.List.Memᴰ
use mathlib.Core.List.{List, [], ◌∷◌, ◌++◌}
use mathlib.Core.Logic.{◌⊎◌, inl, inr}
use lib.Dec.{ltb}
use borrow.Author.Tests.{ltb-true}
use Rattle.base.specs.Lists.{◌∈◌, any}
use Rattle.base.specs.Search.{first, some}
use Rattle.base.proofs.Bools.{either}
use Rattle.base.proofs.Lists.{any_at}
use Rattle.base.proofs.Search.{some_none, none_at, none_before, at_first, first_same}
use Rattle.std.specs.Prelude.{Err}
use Rattle.std.specs.Result.{is_ok}
use Rattle.tables.proofs.FaultNumbers.{same_number, is_fault, is_fault_true, is_fault_same}
use Rattle.tables.specs.declared.refusals.Fault.{Fault}
use Rattle.tables.specs.Answers.{number, place, is_done, and_then, unless, unless_any, in_order}
use Rattle.tables.specs.Answers.{Answer}
use Rattle.tables.specs.Answers.{Done, Refused}

-- ---- one check before the next answer
pub unless_ok : (ok : Bool) (k : Fault) (next : Answer) → is_done (unless ok k next) ≡ true → ok ≡ true
unless_ok true k next e = refl
unless_ok false k next e = e

pub unless_next : (ok : Bool) (k : Fault) (next : Answer) → is_done (unless ok k next) ≡ true → is_done next ≡ true
unless_next true k next e = e
unless_next false k next e = absurd (false≢true e)

pub unless_passed : (ok : Bool) (k : Fault) (next : Answer) → ok ≡ true → unless ok k next ≡ next
unless_passed ok k next e = rw e

-- a refusal with another number is that of the next answer
pub unless_past : (ok : Bool) (j : Fault) (next : Answer) (k : Fault) (p : ℕ) → (j ≡ k → ⊥) → unless ok j next ≡ Refused k p → next ≡ Refused k p
unless_past true j next k p h e = e
unless_past false j next k p h e = absurd (h (same_number j k (ap number e)))

pub and_then_first : (a next : Answer) → is_done (and_then a next) ≡ true → is_done a ≡ true
and_then_first (Done n) next e = refl
and_then_first (Err r) next e = e

pub and_then_next : (a next : Answer) → is_done (and_then a next) ≡ true → is_done next ≡ true
and_then_next (Done n) next e = e
and_then_next (Err r) next e = absurd (false≢true e)

pub and_then_passed : (a next : Answer) → is_done a ≡ true → and_then a next ≡ next
and_then_passed (Done n) next e = refl
and_then_passed (Err r) next e = absurd (false≢true e)

-- ---- a check at n places
module _ (fault : ℕ → Bool) (k : Fault) (n : ℕ) (next : Answer) where
  choose : (b : Bool) → is_done (cond b (Refused k (first fault n)) next) ≡ true → (b ≡ false) × (is_done next ≡ true)
  choose true e = absurd (false≢true e)
  choose false e = (refl, e)

  pub none_of : is_done (unless_any fault k n next) ≡ true → (i : ℕ) → i < n → fault i ≡ false
  none_of e i h = none_at fault n i (choose (some fault n) e).0 h

  pub unless_any_next : is_done (unless_any fault k n next) ≡ true → is_done next ≡ true
  unless_any_next e = (choose (some fault n) e).1

  pub unless_any_passed : ((i : ℕ) → i < n → fault i ≡ false) → unless_any fault k n next ≡ next
  unless_any_passed h = rw (some_none fault n h)

-- a fault is one of those checked, by a test that computes
pub listed : (ks : List Fault) (k : Fault) → any (is_fault k) ks ≡ true → k ∈ ks
listed ks k e = let w = any_at (is_fault k) ks e in subst (λ (x : Fault). x ∈ ks) (sym (is_fault_true k w.0 w.2)) w.1

-- ---- checks in order: where they end accepted, no place has a fault of any of their numbers, and the other way round
module _ (fault : Fault → ℕ → Bool) (n : ℕ) where
  pub no_fault : (ks : List Fault) → is_done (in_order fault n ks) ≡ true → (k : Fault) → k ∈ ks → (i : ℕ) → i < n → fault k i ≡ false
  no_fault [] e k x3 i h = elim x3 [ ]
  no_fault (x ∷ ks) e k (Memᴰ.head s) i h = rw s (none_of (fault x) x n (in_order fault n ks) e i h)
  no_fault (x ∷ ks) e k (Memᴰ.tail m) i h = no_fault ks (unless_any_next (fault x) x n (in_order fault n ks) e) k m i h

  pub in_order_passed : (ks : List Fault) → ((k : Fault) → k ∈ ks → (i : ℕ) → i < n → fault k i ≡ false) → in_order fault n ks ≡ Done n
  in_order_passed [] h = refl
  in_order_passed (x ∷ ks) h =
      let e : in_order fault n ks ≡ Done n = in_order_passed ks (λ k m. h k (Memᴰ.tail m)) in
      rw (unless_any_passed (fault x) x n (in_order fault n ks) (h x (Memᴰ.head refl))) e

-- checks that find the same faults answer the same
pub in_order_same : (f g : Fault → ℕ → Bool) (n : ℕ) → ((k : Fault) (i : ℕ) → i < n → f k i ≡ g k i) → (ks : List Fault) → in_order f n ks ≡ in_order g n ks
in_order_same f g n h [] = refl
in_order_same f g n h (k ∷ ks) =
    ap₂ (λ (m : ℕ) (next : Answer). cond (ltb m n) (Refused k m) next) (first_same (f k) (g k) n (h k)) (in_order_same f g n h ks)

-- ---- a refusal: its place is the first one with the fault of its number
pub record FirstAtFault (fault : Fault → ℕ → Bool) (n : ℕ) (k : Fault) (p : ℕ) : Type 0 where
  pub inside : p < n
  pub at_fault_lem : fault k p ≡ true
  pub none_earlier : (i : ℕ) → i < p → fault k i ≡ false

-- fault x stands in the list before k
abbrev pub before : Fault → Fault → List Fault → Bool
before x k [] = false
before x k (y ∷ ks) = cond (is_fault y k) false (is_fault y x || before x k ks)

module _ (fault : Fault → ℕ → Bool) (n : ℕ) (k : Fault) (p : ℕ) where
  found : (x : Fault) → some (fault x) n ≡ true → Refused x (first (fault x) n) ≡ Refused k p → FirstAtFault fault n k p
  found x s e =
      subst (FirstAtFault fault n k) (ap place e)
      (subst (λ (y : Fault). FirstAtFault fault n y (first (fault x) n)) (same_number _ _ (ap number e))
      (record { inside = ltb-true _ _ s; at_fault_lem = at_first (fault x) n (ltb-true _ _ s); none_earlier = none_before (fault x) n }))

  pub first_at_fault : (ks : List Fault) → in_order fault n ks ≡ Refused k p → FirstAtFault fault n k p
  first_at_fault [] e = absurd (true≢false (ap is_done e))
  first_at_fault (x ∷ ks) e = either (some (fault x) n)
      (λ s. found x s (rw s at e))
      (λ s. first_at_fault ks (rw s at e))

  -- and no place has the fault of a number that is tested before it
  pub passed_earlier : (ks : List Fault) → in_order fault n ks ≡ Refused k p → (x : Fault) → before x k ks ≡ true
      → (i : ℕ) → i < n → fault x i ≡ false
  passed_earlier [] e x b i h = absurd (false≢true b)
  passed_earlier (y ∷ ks) e x b i h = either (some (fault y) n)
      (λ s. let z : Refused y (first (fault y) n) ≡ Refused k p = (rw s at e) in
      let q : is_fault y k ≡ true = is_fault_same y k (same_number y k (ap number z)) in
      absurd (false≢true (rw q at b)))
      (λ s. either (is_fault y x)
      (λ q. subst (λ (z : Fault). fault z i ≡ false) (is_fault_true y x q) (none_at (fault y) n i s h))
      (λ q. passed_earlier ks (rw s at e) x (rest (is_fault y k) (rw q at b)) i h))
    where
      rest : (c : Bool) → cond c false (before x k ks) ≡ true → before x k ks ≡ true
      rest true z = absurd (false≢true z)
      rest false z = z

-- a check among the first is one of all, and each is among the first or the last
pub in_first : {k : Fault} (l : Fault) (ks : List Fault) → k ∈ ks → k ∈ (ks ++ l ∷ [])
in_first l [] m = elim m [ ]
in_first l (x ∷ ks) (Memᴰ.head e) = Memᴰ.head e
in_first l (x ∷ ks) (Memᴰ.tail m) = Memᴰ.tail (in_first l ks m)

pub first_or_last : {k l : Fault} (ks : List Fault) → k ∈ (ks ++ l ∷ []) → (k ∈ ks) ⊎ (k ≡ l)
first_or_last [] (Memᴰ.head e) = inr e
first_or_last [] (Memᴰ.tail m) = elim m [ ]
first_or_last (x ∷ ks) (Memᴰ.head e) = inl (Memᴰ.head e)
first_or_last {k} {l} (x ∷ ks) (Memᴰ.tail m) = go (first_or_last ks m)
  where
    go : (k ∈ ks) ⊎ (k ≡ l) → (k ∈ (x ∷ ks)) ⊎ (k ≡ l)
    go (inl h) = inl (Memᴰ.tail h)
    go (inr e) = inr e

done_ok : (a : Answer) → is_done a ≡ is_ok a
done_ok (Done n) = refl
done_ok (Err r) = refl

pub done_if : (a b : Answer) (t : Bool) → a ≡ b → is_ok a ≡ t → is_done b ≡ t
done_if a b t e o = ap is_done (sym e) ∙ done_ok a ∙ o
