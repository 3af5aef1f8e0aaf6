-- Each row's family, row by row. Assumes nothing.
use Prim.Native.Nat.{ℕ, ◌+◌, ◌<◌, ◌≤◌}
use mathlib.Core.Path.{◌≡◌, sym, ap, ◌∙◌}
use mathlib.Core.Logic.{◌⊎◌, ⊎_elim, inl, inr}
use mathlib.Core.Bool.{false}
use mathlib.Core.List.{List}
use native.Mathlib.Nat.{eq-or-lt_of_le}
use native.Mathlib.Omega.{arith}
use lib.ListN.{length, set, length-set}
use lib.Seq.{get_or-set_same, get_or-set_other}
use lib.Dec.{eqb}
use borrow.Author.Tests.{eqb-true, eqb-false}
use Rattle.base.proofs.Bools.{either}
use Rattle.tables.specs.Words.{row_at, row_count}
use Rattle.tables.specs.Tables.{is_parent, row_limit}
use Rattle.tables.proofs.Accepted.{few_rows}
use Rattle.parts.specs.Families.{OneDevice, parent_of, family_at, FamiliesWithin}
use Rattle.parts.specs.declared.families.Family.{Family}
use Rattle.parts.proofs.Parentage.{parent_le, only_parent}

pub families_begin : (t : List ℕ) (fs : List Family) → length fs ≡ row_limit → FamiliesWithin t fs 0
families_begin t fs l = record {
  sized = l;
  parent = λ i h. absurd (omega arith);
  behind = λ i h. absurd (omega arith);
  within = λ i h. absurd (omega arith);
  none_later = λ i j h a l. absurd (omega arith);
}

-- one more row: it ends behind itself, and so does its parent
module _ {t : List ℕ} (one : OneDevice t) {i p : ℕ} (h : i < row_count t) (p_is : p ≡ parent_of t i) where
  pub few : i < row_limit
  few = omega (arith, few_rows t one.accepted)

  pub parent_before : p ≤ i
  parent_before = omega (arith, parent_le t one.accepted i h)

  module _ {fs : List Family} (s : FamiliesWithin t fs i) where
    abbrev with_own : List Family
    with_own = set fs i (record { parent = p; end = i + 1 })

    abbrev next : List Family
    next = set with_own p (record { parent = (family_at with_own p).parent; end = i + 1 })

    sized_once : length with_own ≡ row_limit
    sized_once = length-set fs i _ ∙ s.sized

    own : (k : ℕ) → k < i + 1 → ((k ≡ i) × (family_at with_own k ≡ record { parent = p; end = i + 1 })) ⊎ ((k < i) × (family_at with_own k ≡ family_at fs k))
    own k l = ⊎_elim
        (λ q. let z : k ≡ i = omega arith in inl (z, ap (family_at with_own) z ∙ get_or-set_same fs i _ _ (omega (arith, s.sized, few))))
        (λ q. let z : k < i = omega arith in inr (z, get_or-set_other fs i k _ _ (λ w. omega arith)))
        (eq-or-lt_of_le l)

    -- a row is the new one's parent, or stands as it was written
    parents_or : (k : ℕ) → k < i + 1 → ((k ≡ p) × (family_at next k ≡ record { parent = (family_at with_own k).parent; end = i + 1 })) ⊎ ((k ≡ p → ⊥) × (family_at next k ≡ family_at with_own k))
    parents_or k l = either (eqb k p)
        (λ e. let z : k ≡ p = eqb-true k p e in
        inl (z, ap (family_at next) z ∙ get_or-set_same with_own p _ _ (omega (arith, sized_once, parent_before, few)) ∙ ap (λ (j : ℕ). record { parent = (family_at with_own j).parent; end = i + 1 }) (sym z)))
        (λ e. inr (eqb-false k p e, get_or-set_other with_own p k _ _ (eqb-false k p e)))

    parent_is : (k : ℕ) → k < i + 1 → (family_at next k).parent ≡ parent_of t k
    parent_is k l = same (⊎_elim (λ q. ap (λ (f : Family). f.parent) q.1) (λ q. ap (λ (f : Family). f.parent) q.1) (parents_or k l))
      where
        same : (family_at next k).parent ≡ (family_at with_own k).parent → (family_at next k).parent ≡ parent_of t k
        same e = e ∙ ⊎_elim
            (λ q. ap (λ (f : Family). f.parent) q.1 ∙ p_is ∙ ap (parent_of t) (sym q.0))
            (λ q. ap (λ (f : Family). f.parent) q.1 ∙ s.parent k q.0)
            (own k l)

    -- a row's end is the new row's, or the row is no parent of the new one and ends where it did
    ends : (P : ℕ → Type 0) (k : ℕ) → k < i + 1 → P (i + 1) → (k < i → (k ≡ p → ⊥) → P (family_at fs k).end) → P (family_at next k).end
    ends P k l new old = ⊎_elim
        (λ q. rw (q.1) new)
        (λ q. rw (q.1) (⊎_elim (λ u. rw (u.1) new) (λ u. rw (u.1) (old u.0 q.0)) (own k l)))
        (parents_or k l)

    pub families_more : FamiliesWithin t next (i + 1)
    families_more = record {
      sized = length-set with_own p _ ∙ sized_once;
      parent = parent_is;
      behind = λ k l. ends (λ x. k < x) k l l (λ z n. s.behind k z);
      within = λ k l. ends (λ x. x ≤ i + 1) k l (omega arith) (λ z n. omega (arith, s.within k z));
      none_later = λ k j l. ends (λ x. x ≤ j → j < i + 1 → is_parent (row_at t j) (row_at t k) ≡ false) k l (λ a c. absurd (omega arith)) (λ z n a c. last k j z n a c);
    }
      where
        last : (k j : ℕ) → k < i → (k ≡ p → ⊥) → (family_at fs k).end ≤ j → j < i + 1 → is_parent (row_at t j) (row_at t k) ≡ false
        last k j z n a c = ⊎_elim
            (λ q. let y : j ≡ i = omega arith in ap (λ (m : ℕ). is_parent (row_at t m) (row_at t k)) y
            ∙ either (is_parent (row_at t i) (row_at t k)) (λ f. absurd (n (only_parent t one.accepted i h k (omega arith) f ∙ sym p_is))) (λ f. f))
            (λ q. s.none_later k j z a (omega arith))
            (eq-or-lt_of_le c)
