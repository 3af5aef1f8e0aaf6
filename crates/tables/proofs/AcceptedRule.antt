-- What 1 to 7 tell of the entries of an accepted rule or template, whatever b of a comparison may be at most: kinds, children later and
-- named once, nesting, variables bound. Assumes nothing.
use Prim.Native.Nat.{ℕ, zero, suc, ◌+◌, ◌*◌, ◌≤◌, ◌<◌}
use mathlib.Core.Path.{◌≡◌, refl, ap, ◌∙◌}
use mathlib.Core.Logic.{⊎_elim}
use mathlib.Core.Bool.{Bool, true, false, ◌&&◌, ◌||◌, false≢true}
use mathlib.Core.List.{List}
use native.Mathlib.Nat.{eq-or-lt_of_le}
use native.Mathlib.Omega.{arith}
use lib.ListN.{length}
use lib.Dec.{ltb, leb, eqb}
use borrow.Author.Tests.{lt-ltb, ltb-false, leb-false, eqb-true, eq-eqb, le-leb, lt-leb, not-false}
use Rattle.base.specs.Lists.{◌∈◌}
use Rattle.base.specs.Search.{sum_below}
use Rattle.base.proofs.Bools.{either, and_both, and_rest, or_left, or_right}
use Rattle.tables.specs.Answers.{is_done, in_order}
use Rattle.tables.specs.Words.{entry_words, entry_at, entry_count}
use Rattle.tables.specs.Rules.{nesting_limit, is_quantifier, is_connective, is_comparison, has_child, one, namings, is_child, times_named}
use Rattle.tables.specs.Rules.{around_from, around, unknown_kind, bad_word, bad_place, bad_child, bad_naming, too_deep, unbound, entry_fault}
use Rattle.tables.specs.Rules.{entry_limit, rule_length, rule_checks, check_entries}
use Rattle.tables.specs.declared.Entry.{Entry}
use Rattle.tables.specs.Answers.{Done, Refused}
use Rattle.tables.proofs.Answers.{unless_past, unless_ok, unless_next, unless_passed, listed, no_fault, in_order_passed}
use Rattle.tables.proofs.Answers.{FirstAtFault, first_at_fault, before, passed_earlier}
use Rattle.tables.proofs.Faults.{not_too_high}
use Rattle.tables.proofs.Whole.{whole_lines, rule_whole, rule_some, rule_few}
use Rattle.tables.specs.declared.refusals.Fault.TheVariants.{RuleLength, Kind, Word, Child, Naming, Nesting, Unbound}
use Rattle.tables.specs.declared.refusals.Fault.{Fault}

-- ---- a sum holds each of its terms
term_le : (f : ℕ → ℕ) (n i : ℕ) → i < n → f i ≤ sum_below f n
unfolding sum_below
term_le f zero i h = absurd (omega arith)
term_le f (suc n) i h = ⊎_elim
    (λ e. let q : i ≡ n = omega arith in omega (arith, ap f q))
    (λ l. omega (arith, term_le f n i (omega arith)))
    (eq-or-lt_of_le h)

two_terms_le : (f : ℕ → ℕ) (n i k : ℕ) → i < k → k < n → f i + f k ≤ sum_below f n
unfolding sum_below
two_terms_le f zero i k l h = absurd (omega arith)
two_terms_le f (suc n) i k l h = ⊎_elim
    (λ e. let q : k ≡ n = omega arith in omega (arith, ap f q, term_le f n i (omega arith)))
    (λ m. omega (arith, two_terms_le f n i k l (omega arith)))
    (eq-or-lt_of_le h)

counted : (a b : Bool) → (a || b) ≡ true → 1 ≤ one a + one b
counted true b e = omega arith
counted false true e = omega arith
counted false false e = absurd (false≢true e)

-- ---- kinds by their numbers
module _ (e : Entry) where
  between : (a b : ℕ) → a ≤ e.kind → e.kind ≤ b → (leb a e.kind && leb e.kind b) ≡ true
  between a b h k = and_both _ _ (le-leb a e.kind h) (le-leb e.kind b k)

  pub is_quantifier_lem : 5 ≤ e.kind → e.kind ≤ 6 → is_quantifier e ≡ true
  is_quantifier_lem = between 5 6

  pub not_quantifier : e.kind ≤ 4 → is_quantifier e ≡ false
  not_quantifier h = rw (lt-leb 5 e.kind (omega arith))

module _ (most : ℕ) (r : List ℕ) (ok : is_done (check_entries most r) ≡ true) where
  length_ok : rule_length r ≡ true
  unfolding check_entries
  length_ok = unless_ok (rule_length r) RuleLength (in_order (entry_fault most r) (entry_count r) rule_checks) ok

  -- the words are those of whole entries, of which there is one
  pub whole_entries : length r ≡ entry_words * entry_count r
  whole_entries = whole_lines entry_words r (rule_whole r length_ok)

  pub some_entry : 0 < entry_count r
  some_entry = rule_some r length_ok

  pub few_entries : entry_count r ≤ entry_limit
  few_entries = rule_few r length_ok

  faultless : (k : Fault) → k ∈ rule_checks → (i : ℕ) → i < entry_count r → entry_fault most r k i ≡ false
  unfolding check_entries
  faultless = no_fault (entry_fault most r) (entry_count r) rule_checks (unless_next (rule_length r) RuleLength (in_order (entry_fault most r) (entry_count r) rule_checks) ok)

  -- the checks answer the number of entries
  pub checked_count : check_entries most r ≡ Done (entry_count r)
  unfolding check_entries
  checked_count =
      unless_passed (rule_length r) RuleLength (in_order (entry_fault most r) (entry_count r) rule_checks) length_ok
      ∙ in_order_passed (entry_fault most r) (entry_count r) rule_checks faultless

  -- each entry but 0 is named once
  pub named_once : (j : ℕ) → 0 < j → j < entry_count r → times_named r j ≡ 1
  unfolding entry_fault
  named_once j p h =
      let e : bad_naming r j ≡ false = faultless Naming (listed rule_checks Naming refl) j h in
      eqb-true (times_named r j) 1 (not-false _ (rw (lt-ltb 0 j p) at e))

  pub one_parent : (i k j : ℕ) → i < k → k < entry_count r → 0 < j → j < entry_count r → is_child (entry_at r i) j ≡ true → is_child (entry_at r k) j ≡ true → ⊥
  one_parent i k j l h p hj e f =
      omega (
        arith,
        named_once j p hj,
        two_terms_le (λ m. namings (entry_at r m) j) (entry_count r) i k l h,
        counted (has_child (entry_at r i) && eqb (entry_at r i).a j) (is_connective (entry_at r i) && eqb (entry_at r i).b j) e,
        counted (has_child (entry_at r k) && eqb (entry_at r k).a j) (is_connective (entry_at r k) && eqb (entry_at r k).b j) f,
      )

  -- around a child stand those around its parent, and the parent if it is a quantifier
  around_child : (i j : ℕ) → i < j → j < entry_count r → is_child (entry_at r i) j ≡ true → around r j ≡ one (is_quantifier (entry_at r i)) + around r i
  unfolding around_from
  around_child i j l h e = from j l (omega arith)
    where
      from : (m : ℕ) → i < m → m ≤ j → around_from r m j ≡ one (is_quantifier (entry_at r i)) + around r i
      from zero a b = absurd (omega arith)
      from (suc m) a b = ⊎_elim
          (λ q. let q' : m ≡ i = omega arith in rw (q', e))
          (λ q. let a' : i < m = omega arith in either (is_child (entry_at r m) j)
          (λ f. absurd (one_parent i m j a' (omega arith) (omega arith) h e f))
          (λ f. rw f (from m a' (omega arith))))
          (eq-or-lt_of_le a)

  module _ (i : ℕ) (h : i < entry_count r) where
    pub kind_range : (1 ≤ (entry_at r i).kind) × ((entry_at r i).kind ≤ 9)
    unfolding entry_fault
    kind_range =
        let e : unknown_kind (entry_at r i) ≡ false = faultless Kind (listed rule_checks Kind refl) i h in
        (ltb-false (entry_at r i).kind 1 (or_left (ltb (entry_at r i).kind 1) (ltb 9 (entry_at r i).kind) e), ltb-false 9 (entry_at r i).kind (or_right (ltb (entry_at r i).kind 1) (ltb 9 (entry_at r i).kind) e))

    children_ok : bad_child (entry_count r) i (entry_at r i) ≡ false
    unfolding entry_fault
    children_ok = faultless Child (listed rule_checks Child refl) i h

    later : (j : ℕ) → bad_place (entry_count r) i j ≡ false → (i < j) × (j < entry_count r)
    later j e = (leb-false j i (or_left (leb j i) (leb (entry_count r) j) e), leb-false (entry_count r) j (or_right (leb j i) (leb (entry_count r) j) e))

    -- the child of each kind but comparisons, and the right child of connectives
    module _ (low : (entry_at r i).kind ≤ 6) where
      has_child_lem : has_child (entry_at r i) ≡ true
      has_child_lem = between (entry_at r i) 1 6 kind_range.0 low

      pub child_later : (i < (entry_at r i).a) × ((entry_at r i).a < entry_count r)
      child_later = later (entry_at r i).a (and_rest (has_child (entry_at r i)) _ (or_left (has_child (entry_at r i) && bad_place (entry_count r) i (entry_at r i).a) _ children_ok) has_child_lem)

      child_around : around r (entry_at r i).a ≡ one (is_quantifier (entry_at r i)) + around r i
      child_around = around_child i (entry_at r i).a child_later.0 child_later.1
          (rw (and_both (has_child (entry_at r i)) _ has_child_lem (eq-eqb (entry_at r i).a (entry_at r i).a refl)))

    pub child_depth : (entry_at r i).kind ≤ 4 → around r (entry_at r i).a ≡ around r i
    child_depth low = child_around (omega arith) ∙ rw (not_quantifier (entry_at r i) low) (omega arith)

    module _ (high : 2 ≤ (entry_at r i).kind) (low : (entry_at r i).kind ≤ 4) where
      connective : is_connective (entry_at r i) ≡ true
      connective = between (entry_at r i) 2 4 high low

      pub right_later : (i < (entry_at r i).b) × ((entry_at r i).b < entry_count r)
      right_later = later (entry_at r i).b (and_rest (is_connective (entry_at r i)) _ (or_right (has_child (entry_at r i) && bad_place (entry_count r) i (entry_at r i).a) _ children_ok) connective)

      pub right_depth : around r (entry_at r i).b ≡ around r i
      right_depth =
          around_child i (entry_at r i).b right_later.0 right_later.1
          (or_second (has_child (entry_at r i) && eqb (entry_at r i).a (entry_at r i).b) _ (and_both (is_connective (entry_at r i)) _ connective (eq-eqb (entry_at r i).b (entry_at r i).b refl)))
          ∙ rw (not_quantifier (entry_at r i) low) (omega arith)
        where
          or_second : (a b : Bool) → b ≡ true → (a || b) ≡ true
          or_second true b e = refl
          or_second false b e = e

    -- b of a comparison is at most that
    pub b_limited : 7 ≤ (entry_at r i).kind → (entry_at r i).b ≤ most
    unfolding entry_fault
    b_limited high =
        let e = entry_at r i in
        let words : bad_word most e ≡ false = faultless Word (listed rule_checks Word refl) i h in
        ltb-false most e.b (and_rest (is_comparison e) (ltb most e.b) (not_too_high e most words) (between e 7 9 high kind_range.1))

    unbound_ok : unbound (around r i) (entry_at r i) ≡ false
    unfolding entry_fault
    unbound_ok = faultless Unbound (listed rule_checks Unbound refl) i h

    -- a quantifier binds one of the variables in its body, and its parent's variable is bound
    module _ (high : 5 ≤ (entry_at r i).kind) (low : (entry_at r i).kind ≤ 6) where
      pub body_depth : around r (entry_at r i).a ≡ around r i + 1
      body_depth = child_around low ∙ rw (is_quantifier_lem (entry_at r i) high low) (omega arith)

      pub nesting : around r i < nesting_limit
      unfolding entry_fault
      nesting =
          let e : too_deep r i ≡ false = faultless Nesting (listed rule_checks Nesting refl) i h in
          leb-false nesting_limit (around r i) (and_rest (is_quantifier (entry_at r i)) _ e (is_quantifier_lem (entry_at r i) high low))

      pub over_bound_lem : (entry_at r i).b ≤ around r i
      over_bound_lem =
          ltb-false (around r i) (entry_at r i).b
          (and_rest (is_quantifier (entry_at r i)) _ (or_left (is_quantifier (entry_at r i) && ltb (around r i) (entry_at r i).b) _ unbound_ok) (is_quantifier_lem (entry_at r i) high low))

    -- a comparison's variables are bound
    module _ (high : 7 ≤ (entry_at r i).kind) where
      compared_ok : (leb (around r i) (entry_at r i).a || (eqb (entry_at r i).b 0 && leb (around r i) (entry_at r i).c)) ≡ false
      compared_ok =
          and_rest (is_comparison (entry_at r i)) _ (or_right (is_quantifier (entry_at r i) && ltb (around r i) (entry_at r i).b) _ unbound_ok)
          (between (entry_at r i) 7 9 high kind_range.1)

      pub left_bound : (entry_at r i).a < around r i
      left_bound = leb-false (around r i) (entry_at r i).a (or_left (leb (around r i) (entry_at r i).a) _ compared_ok)

      pub right_bound : (entry_at r i).b ≡ 0 → (entry_at r i).c < around r i
      right_bound e =
          leb-false (around r i) (entry_at r i).c
          (and_rest (eqb (entry_at r i).b 0) _ (or_right (leb (around r i) (entry_at r i).a) _ compared_ok) (eq-eqb (entry_at r i).b 0 e))

-- ---- a refused rule or template: but for 1, the place is the first entry with the fault of that number, and no entry has an earlier one
module _ (most : ℕ) (r : List ℕ) (k : Fault) (p : ℕ) (h : RuleLength ≡ k → ⊥) (refused : check_entries most r ≡ Refused k p) where
  in_entries : in_order (entry_fault most r) (entry_count r) rule_checks ≡ Refused k p
  unfolding check_entries
  in_entries = unless_past (rule_length r) RuleLength _ k p h refused

  pub refused_entry : FirstAtFault (entry_fault most r) (entry_count r) k p
  refused_entry = first_at_fault (entry_fault most r) (entry_count r) k p rule_checks in_entries

  pub passed_entries : (x : Fault) → before x k rule_checks ≡ true → (i : ℕ) → i < entry_count r → entry_fault most r x i ≡ false
  passed_entries = passed_earlier (entry_fault most r) (entry_count r) k p rule_checks in_entries
