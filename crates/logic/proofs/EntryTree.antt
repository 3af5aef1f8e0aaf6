-- Entries that pass checks 4 and 5 are a tree under entry 0: each other entry has a parent before it. Assumes nothing.
use Prim.Native.Nat.{ℕ, zero, suc, ◌+◌, ◌≤◌, ◌<◌}
use mathlib.Core.Path.{◌≡◌, refl, sym, ap, ◌∙◌}
use mathlib.Core.Logic.{⊎_elim}
use mathlib.Core.Bool.{Bool, true, false, ◌&&◌, ◌||◌, true≢false, false≢true}
use mathlib.Core.List.{List}
use native.Mathlib.Nat.{eq-or-lt_of_le}
use native.Mathlib.Omega.{arith}
use lib.Dec.{eqb, ltb, leb}
use borrow.Author.Tests.{eqb-true, leb-true, leb-false, lt-ltb, ltb-true, ltb-false, not-false}
use Rattle.base.specs.Search.{sum_below}
use Rattle.base.proofs.Bools.{either, and_left, and_right, or_left, or_right, or_cases}
use Rattle.tables.specs.Words.{entry_at, entry_count}
use Rattle.tables.specs.Rules.{is_quantifier, is_connective, has_child, one, namings, is_child, times_named, around_from, around}
use Rattle.tables.specs.Rules.{bad_place, bad_child, bad_naming}
use Rattle.tables.specs.declared.Entry.{Entry}

-- ---- who names an entry
some_term : (f : ℕ → ℕ) (n : ℕ) → 0 < sum_below f n → (i : ℕ) × (i < n) × (0 < f i)
unfolding sum_below
some_term f zero h = absurd (omega arith)
some_term f (suc n) h = either (ltb 0 (f n))
    (λ s. (n, omega arith, ltb-true 0 (f n) s))
    (λ s. let w = some_term f n (omega (arith, ltb-false 0 (f n) s)) in (w.0, omega (arith, w.1), w.2))

is_named : (a b : Bool) → 0 < one a + one b → (a || b) ≡ true
is_named true b h = refl
is_named false true h = refl
is_named false false h = absurd (omega arith)

module _ (e : Entry) (j : ℕ) where
  named_child : 0 < namings e j → is_child e j ≡ true
  named_child = is_named (has_child e && eqb e.a j) (is_connective e && eqb e.b j)

  pub parent_kind : is_child e j ≡ true → (1 ≤ e.kind) × (e.kind ≤ 6)
  parent_kind c = ⊎_elim
      (λ q. between 1 6 (and_left (has_child e) (eqb e.a j) q))
      (λ q. let w = between 2 4 (and_left (is_connective e) (eqb e.b j) q) in (omega (arith, w.0), omega (arith, w.1)))
      (or_cases (has_child e && eqb e.a j) (is_connective e && eqb e.b j) c)
    where
      between : (a b : ℕ) → (leb a e.kind && leb e.kind b) ≡ true → (a ≤ e.kind) × (e.kind ≤ b)
      between a b q = (
        leb-true a e.kind (and_left (leb a e.kind) (leb e.kind b) q),
        leb-true e.kind b (and_right (leb a e.kind) (leb e.kind b) q),
      )

-- ---- the nearest entry below i that names j, and the quantifiers around j
pub record Parent (r : List ℕ) (i j : ℕ) : Type 0 where
  pub parent : ℕ
  pub below : parent < i
  pub child : is_child (entry_at r parent) j ≡ true
  pub around_is : around_from r i j ≡ one (is_quantifier (entry_at r parent)) + around r parent

wider_parent : (r : List ℕ) (i j : ℕ) → is_child (entry_at r i) j ≡ false → Parent r i j → Parent r (suc i) j
unfolding around_from
wider_parent r i j e w = record { parent = w.parent; below = omega (arith, w.below); child = w.child; around_is = rw e w.around_is }

nearest : (r : List ℕ) (i j k : ℕ) → k < i → is_child (entry_at r k) j ≡ true → Parent r i j
unfolding around_from
nearest r zero j k l e = absurd (omega arith)
nearest r (suc i) j k l e = either (is_child (entry_at r i) j)
    (λ c. record { parent = i; below = omega arith; child = c; around_is = rw c refl })
    (λ c. wider_parent r i j c (nearest r i j k (other c) e))
  where
    other : is_child (entry_at r i) j ≡ false → k < i
    other c = ⊎_elim
        (λ q. absurd (true≢false (sym e ∙ ap (λ (m : ℕ). is_child (entry_at r m) j) (omega (arith, q)) ∙ c)))
        (λ q. omega (arith, q))
        (eq-or-lt_of_le l)

module _ (r : List ℕ) (children : (i : ℕ) → i < entry_count r → bad_child (entry_count r) i (entry_at r i) ≡ false)
    (named : (j : ℕ) → j < entry_count r → bad_naming r j ≡ false) where
  abbrev n : ℕ
  n = entry_count r

  later_place : (i j k : ℕ) (c : Bool) → (c && bad_place n i k) ≡ false → (c && eqb k j) ≡ true → i < j
  later_place i j k true e q = omega (arith, leb-false k i (or_left (leb k i) (leb n k) e), eqb-true k j q)
  later_place i j k false e q = absurd (false≢true q)

  child_above : (i j : ℕ) → i < n → is_child (entry_at r i) j ≡ true → i < j
  child_above i j h e = ⊎_elim
      (λ q. later_place i j (entry_at r i).a (has_child (entry_at r i)) (or_left _ _ (children i h)) q)
      (λ q. later_place i j (entry_at r i).b (is_connective (entry_at r i))
      (or_right (has_child (entry_at r i) && bad_place n i (entry_at r i).a) _ (children i h)) q)
      (or_cases _ _ e)

  -- the parent of an entry but 0
  pub parent_of_lem : (j : ℕ) → 0 < j → j < n → Parent r j j
  parent_of_lem j l h =
      let once : times_named r j ≡ 1 = eqb-true (times_named r j) 1 (not-false _ (rw (lt-ltb 0 j l) at (named j h))) in
      let w = some_term (λ i. namings (entry_at r i) j) n (omega (arith, once)) in
      let e = named_child (entry_at r w.0) j w.2 in
      nearest r j j w.0 (child_above w.0 j w.1 e) e
