-- An accepted rule or template has no more levels than the limit, and 6 is given at the first quantifier too many. Assumes nothing.
use Prim.Native.Nat.{ℕ, zero, suc, ◌+◌, ◌-◌, ◌≤◌, ◌<◌, max}
use mathlib.Core.Path.{◌≡◌, refl, sym, ap, ◌∙◌}
use mathlib.Core.Bool.{true, false, ◌&&◌, ◌||◌, true≢false, false≢true}
use mathlib.Core.List.{List}
use native.Mathlib.Nat.{max-le, le-max_left, le-max_right}
use native.Mathlib.Omega.{arith}
use lib.Dec.{eqb, ltb, leb}
use borrow.Author.Tests.{eqb-true, le-leb, leb-true, ltb-true, ltb-false}
use Rattle.base.proofs.Bools.{either, and_left, and_right, and_both}
use Rattle.tables.specs.Answers.{is_done}
use Rattle.tables.specs.Words.{entry_at, entry_count}
use Rattle.tables.specs.Rules.{nesting_limit, is_quantifier, one, is_child, around_from, around, bad_child, bad_naming}
use Rattle.tables.specs.Rules.{entry_fault, check_entries}
use Rattle.tables.specs.declared.Entry.{Entry}
use Rattle.tables.specs.Answers.{Refused}
use Rattle.tables.proofs.AcceptedRule as entries
use Rattle.tables.proofs.AcceptedRule.{refused_entry, passed_entries}
use Rattle.tables.proofs.Answers.{FirstAtFault}
use Rattle.logic.specs.Formulas.{Formula, joined, build, formula_by}
use Rattle.tables.specs.declared.Connective.TheVariants.{And}
use Rattle.tables.specs.declared.Operand.{Operand}
use Rattle.logic.specs.Nesting.{levels, LevelsLimited}
use Rattle.logic.proofs.Formulas.{later, later_is, formula_later, formula_at_lem}
use Rattle.logic.proofs.EntryTree.{parent_kind, parent_of_lem}
use Rattle.tables.specs.declared.Fault.TheVariants.{Nesting}
use Rattle.tables.specs.declared.Fault.TheVariants.{Child}
use Rattle.tables.specs.declared.Fault.TheVariants.{Naming}
use Rattle.tables.specs.declared.Fault.TheVariants.{RuleLength}
use Rattle.tables.specs.Refusals.{number_of}

-- ---- the levels of an entry around which d quantifiers stand
two_sides : (d l x y : ℕ) → d + x ≤ l → d + y ≤ l → d + max x y ≤ l
two_sides d l x y h g = let m : max x y ≤ l - d = max-le (omega arith) (omega arith) in omega arith

module _ (operand : ℕ → ℕ → Operand) (a b c : ℕ) (f : ℕ → Formula) (d l : ℕ) (low : d ≤ l) where
  -- kinds 2 to 4
  connective : d + levels (f a) ≤ l → d + levels (f b) ≤ l → d + levels (joined And (f a) (f b)) ≤ l
  unfolding levels
  connective left right = omega (arith, left, right, two_sides d l (levels (f a)) (levels (f b)) left right)

  levels_build : (k : ℕ) → (1 ≤ k → k ≤ 4 → d + levels (f a) ≤ l) → (2 ≤ k → k ≤ 4 → d + levels (f b) ≤ l)
      → (5 ≤ k → k ≤ 6 → d + 1 + levels (f a) ≤ l)
      → d + levels (build operand (record { kind = k; a = a; b = b; c = c }) f) ≤ l
  unfolding levels
  levels_build zero left right body = omega arith
  levels_build (suc zero) left right body = left (omega arith) (omega arith)
  levels_build (suc (suc zero)) left right body = connective (left (omega arith) (omega arith)) (right (omega arith) (omega arith))
  levels_build (suc (suc (suc zero))) left right body = connective (left (omega arith) (omega arith)) (right (omega arith) (omega arith))
  levels_build (suc (suc (suc (suc zero)))) left right body = connective (left (omega arith) (omega arith)) (right (omega arith) (omega arith))
  levels_build (suc (suc (suc (suc (suc zero))))) left right body = omega (arith, body (omega arith) (omega arith))
  levels_build (suc (suc (suc (suc (suc (suc zero)))))) left right body = omega (arith, body (omega arith) (omega arith))
  levels_build (suc (suc (suc (suc (suc (suc (suc zero))))))) left right body = omega arith
  levels_build (suc (suc (suc (suc (suc (suc (suc (suc zero)))))))) left right body = omega arith
  levels_build (suc (suc (suc (suc (suc (suc (suc (suc (suc zero))))))))) left right body = omega arith
  levels_build (suc (suc (suc (suc (suc (suc (suc (suc (suc (suc k)))))))))) left right body = omega arith

module _ (operand : ℕ → ℕ → Operand) (most : ℕ) (r : List ℕ) (ok : is_done (check_entries most r) ≡ true) where
  -- the limit holds at an entry, and within it
  Within : ℕ → Type 0
  Within i = around r i ≤ nesting_limit → around r i + levels (formula_by operand r i) ≤ nesting_limit

  module _ (i : ℕ) (h : i < entry_count r) (later : (j : ℕ) → i < j → j < entry_count r → Within j) where
    abbrev x : Entry
    x = entry_at r i

    entry_within : Within i
    unfolding Within
    entry_within low =
        rw (formula_at_lem operand most r ok i h)
        (levels_build operand x.a x.b x.c (formula_by operand r) (around r i) nesting_limit low x.kind left right body)
      where
        left : 1 ≤ x.kind → x.kind ≤ 4 → around r i + levels (formula_by operand r x.a) ≤ nesting_limit
        left s t =
            let l = entries.child_later most r ok i h (omega arith) in
            let same = entries.child_depth most r ok i h t in
            omega (arith, later x.a l.0 l.1 (omega (arith, same)), same)

        right : 2 ≤ x.kind → x.kind ≤ 4 → around r i + levels (formula_by operand r x.b) ≤ nesting_limit
        right s t =
            let l = entries.right_later most r ok i h s t in
            let same = entries.right_depth most r ok i h s t in
            omega (arith, later x.b l.0 l.1 (omega (arith, same)), same)

        body : 5 ≤ x.kind → x.kind ≤ 6 → around r i + 1 + levels (formula_by operand r x.a) ≤ nesting_limit
        body s t =
            let l = entries.child_later most r ok i h t in
            let more = entries.body_depth most r ok i h s t in
            omega (arith, later x.a l.0 l.1 (omega (arith, more, entries.nesting most r ok i h s t)), more)

  -- an entry with fewer than m behind it
  within : (m i : ℕ) → i < entry_count r → entry_count r ≤ i + m → Within i
  within zero i h f = absurd (omega arith)
  within (suc m) i h f = entry_within i h (λ j l k. within m j k (omega arith))

  rule_within : levels (formula_by operand r 0) ≤ nesting_limit
  unfolding around_from Within
  rule_within = omega (arith, within (entry_count r) 0 (entries.some_entry most r ok) (omega arith) (omega arith))

-- ---- of the quantifiers around an entry the innermost has one less around it
Inside : List ℕ → ℕ → ℕ → Type 0
Inside r i m = (k : ℕ) × (k < i) × (is_quantifier (entry_at r k) ≡ true) × (around r k ≡ m)

module _ (r : List ℕ) (i m : ℕ) where
  wider : Inside r i m → Inside r (suc i) m
  unfolding Inside
  wider w = (w.0, omega (arith, w.1), w.2, w.3)

  at_parent : one (is_quantifier (entry_at r i)) + around r i ≡ suc m → (around r i ≡ suc m → Inside r i m) → Inside r (suc i) m
  unfolding Inside
  at_parent e f = either (is_quantifier (entry_at r i))
      (λ q. (i, omega arith, q, omega (arith, rw q at e)))
      (λ q. wider (f (omega (arith, rw q at e))))

innermost : (r : List ℕ) (i j m : ℕ) → around_from r i j ≡ suc m → Inside r i m
unfolding around_from
innermost r zero j m e = absurd (omega arith)
innermost r (suc i) j m e = either (is_child (entry_at r i) j)
    (λ c. at_parent r i m (rw c at e) (innermost r i i m))
    (λ c. wider r i m (innermost r i j m (rw c at e)))

-- ---- a formula has the levels of its parts
module _ (operand : ℕ → ℕ → Operand) (a b c : ℕ) (f : ℕ → Formula) (j : ℕ) where
  abbrev entry : ℕ → Entry
  entry k = record { kind = k; a = a; b = b; c = c }

  only : (eqb a j || false) ≡ true → levels (f j) ≡ levels (f a)
  only e = either (eqb a j)
      (λ q. ap (λ (n : ℕ). levels (f n)) (sym (eqb-true a j q)))
      (λ q. absurd (false≢true (rw q at e)))

  sides : (eqb a j || eqb b j) ≡ true → levels (f j) ≤ max (levels (f a)) (levels (f b))
  sides e = either (eqb a j)
      (λ q. rw (← eqb-true a j q) (le-max_left (levels (f a)) (levels (f b))))
      (λ q. let z : eqb b j ≡ true = (rw q at e) in rw (← eqb-true b j z) (le-max_right (levels (f a)) (levels (f b))))

  -- of an entry's child, and one more for a quantifier
  levels_child : (k : ℕ) → 1 ≤ k → k ≤ 6 → is_child (entry k) j ≡ true
      → one (is_quantifier (entry k)) + levels (f j) ≤ levels (build operand (entry k) f)
  unfolding levels
  levels_child zero l h e = absurd (omega arith)
  levels_child (suc zero) l h e = omega (arith, only e)
  levels_child (suc (suc zero)) l h e = omega (arith, sides e)
  levels_child (suc (suc (suc zero))) l h e = omega (arith, sides e)
  levels_child (suc (suc (suc (suc zero)))) l h e = omega (arith, sides e)
  levels_child (suc (suc (suc (suc (suc zero))))) l h e = omega (arith, only e)
  levels_child (suc (suc (suc (suc (suc (suc zero)))))) l h e = omega (arith, only e)
  levels_child (suc (suc (suc (suc (suc (suc (suc k))))))) l h e = absurd (omega arith)

  levels_quantifier : (k : ℕ) → is_quantifier (entry k) ≡ true → 0 < levels (build operand (entry k) f)
  unfolding levels
  levels_quantifier k e = go k (leb-true 5 k (and_left (leb 5 k) (leb k 6) e)) (leb-true k 6 (and_right (leb 5 k) (leb k 6) e))
    where
      go : (n : ℕ) → 5 ≤ n → n ≤ 6 → 0 < levels (build operand (entry n) f)
      go zero l h = absurd (omega arith)
      go (suc zero) l h = absurd (omega arith)
      go (suc (suc zero)) l h = absurd (omega arith)
      go (suc (suc (suc zero))) l h = absurd (omega arith)
      go (suc (suc (suc (suc zero)))) l h = absurd (omega arith)
      go (suc (suc (suc (suc (suc zero))))) l h = omega arith
      go (suc (suc (suc (suc (suc (suc zero)))))) l h = omega arith
      go (suc (suc (suc (suc (suc (suc (suc n))))))) l h = absurd (omega arith)

-- ---- in entries that pass 4 and 5
module _ (operand : ℕ → ℕ → Operand) (r : List ℕ) (children : (i : ℕ) → i < entry_count r → bad_child (entry_count r) i (entry_at r i) ≡ false)
    (named : (j : ℕ) → j < entry_count r → bad_naming r j ≡ false) where
  abbrev n : ℕ
  n = entry_count r

  -- the levels of an entry are within its parent's, and with the quantifiers around it within the rule's
  child_levels : (i j : ℕ) → i < j → j < n → is_child (entry_at r i) j ≡ true
      → one (is_quantifier (entry_at r i)) + levels (formula_by operand r j) ≤ levels (formula_by operand r i)
  child_levels i j l h c =
      let e = entry_at r i in
      let k = parent_kind e j c in
      omega (
        arith,
        levels_child operand e.a e.b e.c (later operand r i) j e.kind k.0 k.1 c,
        ap levels (later_is operand r i j l),
        ap levels (formula_later operand r i (omega arith)),
      )

  Rule-levels : ℕ → Type 0
  Rule-levels j = around r j + levels (formula_by operand r j) ≤ levels (formula_by operand r 0)

  entry_levels : (j : ℕ) → j < n → ((i : ℕ) → i < j → i < n → Rule-levels i) → Rule-levels j
  unfolding around_from Rule-levels
  entry_levels zero h earlier = omega arith
  entry_levels (suc j) h earlier =
      let q = parent_of_lem r children named (suc j) (omega arith) h in
      omega (
        arith,
        q.around_is,
        child_levels q.parent (suc j) q.below h q.child,
        earlier q.parent q.below (omega (arith, q.below)),
      )

  rule_levels : (m j : ℕ) → j < m → j < n → Rule-levels j
  rule_levels zero j l h = absurd (omega arith)
  rule_levels (suc m) j l h = entry_levels j h (λ i k g. rule_levels m i (omega arith) g)

-- ---- refused for its nesting
not_length : RuleLength ≡ Nesting → ⊥
not_length e = let z : number_of RuleLength ≡ number_of Nesting = ap number_of e in omega arith

module _ (operand : ℕ → ℕ → Operand) (most : ℕ) (r : List ℕ) (p : ℕ) (refused : check_entries most r ≡ Refused Nesting p) where
  at_first : FirstAtFault (entry_fault most r) (entry_count r) Nesting p
  at_first = refused_entry most r Nesting p not_length refused

  too_deep_lem : (is_quantifier (entry_at r p) && leb nesting_limit (around r p)) ≡ true
  unfolding entry_fault
  too_deep_lem = at_first.at_fault_lem

  at_quantifier : is_quantifier (entry_at r p) ≡ true
  at_quantifier = and_left _ _ too_deep_lem

  none_earlier : (i : ℕ) → i < p → is_quantifier (entry_at r i) ≡ true → nesting_limit ≤ around r i → ⊥
  unfolding entry_fault
  none_earlier i h q l = true≢false (sym (and_both _ _ q (le-leb nesting_limit (around r i) l)) ∙ at_first.none_earlier i h)

  as_many_around : around r p ≡ nesting_limit
  unfolding Inside
  as_many_around = either (ltb nesting_limit (around r p))
      (λ s. let more = ltb-true nesting_limit (around r p) s in
      let w = innermost r p p (around r p - 1) (omega arith) in
      absurd (none_earlier w.0 w.1 w.2 (omega (arith, w.3))))
      (λ s. omega (arith, ltb-false nesting_limit (around r p) s, leb-true nesting_limit (around r p) (and_right (is_quantifier (entry_at r p)) _ too_deep_lem)))

  more_levels : nesting_limit < levels (formula_by operand r 0)
  unfolding entry_fault Rule-levels
  more_levels =
      let h = at_first.inside in
      let passed = passed_entries most r Nesting p not_length refused in
      let e = entry_at r p in
      omega (
        arith,
        as_many_around,
        levels_quantifier operand e.a e.b e.c (later operand r p) 0 e.kind at_quantifier,
        ap levels (formula_later operand r p h),
        rule_levels operand r (passed Child refl) (passed Naming refl) (suc p) p (omega arith) h,
      )

pub limited : LevelsLimited
limited operand most r = record {
  accepted = rule_within operand most r;
  refused = more_levels operand most r;
  at_quantifier = at_quantifier operand most r;
  as_many_around = as_many_around operand most r;
}
