-- Entries that the checks do not tell apart, one in a template and one in a rule: then the checks answer the same. Assumes nothing.
use Prim.Native.Nat.{ℕ, zero, suc, ◌+◌, ◌-◌, ◌/◌, ◌%◌, ◌≤◌, ◌<◌}
use mathlib.Core.Path.{◌≡◌, refl, sym, ap, ap₂, subst, ◌∙◌}
use mathlib.Core.Bool.{true, false, cond, not, false≢true, ◌&&◌, ◌||◌}
use mathlib.Core.List.{List, [], ◌∷◌}
use native.Mathlib.Omega.{arith}
use lib.ListN.{length}
use lib.Dec.{eqb, ltb, leb}
use borrow.Author.Tests.{lt-ltb, le-ltb, ltb-true, ltb-false, leb-true, eqb-true, eq-eqb}
use Rattle.base.proofs.Bools.{either, and_left, and_right, and_both}
use Rattle.base.specs.Search.{sum_below}
use Rattle.base.proofs.Sums.{sum_same}
use Rattle.tables.specs.Answers.{Answer, Refused, unless, in_order}
use Rattle.tables.specs.Words.{entry_words, entry_at, entry_count}
use Rattle.tables.specs.Rules.{nesting_limit, is_quantifier, is_comparison, one, namings, is_child, times_named, around_from, around}
use Rattle.tables.specs.Rules.{to_constant, to_parameter, bad_word, bad_child, unbound, entry_fault, entry_limit, rule_length, rule_checks, check_entries}
use Rattle.tables.specs.declared.Entry.{Entry}
use Rattle.base.proofs.Search.{first_same}
use Rattle.tables.proofs.Faults.{words_same}
use Rattle.templates.specs.Templates.{is_blank, parameter, filled_entry}
use Rattle.templates.proofs.Filling.{filled_other, filled_blank}
use Rattle.tables.specs.declared.refusals.Fault.TheVariants.{RuleLength, Kind, Word, Child, Naming, Nesting, Unbound}
use Rattle.tables.specs.declared.refusals.Fault.{Fault}

pub record Alike (e f : Entry) : Type 0 where
  pub kind : f.kind ≡ e.kind
  pub words : bad_word to_constant f ≡ bad_word to_parameter e
  pub children : (n i : ℕ) → bad_child n i f ≡ bad_child n i e
  pub names : (j : ℕ) → namings f j ≡ namings e j
  pub child : (j : ℕ) → is_child f j ≡ is_child e j
  pub variables : (d : ℕ) → unbound d f ≡ unbound d e

-- ---- an entry and what filling makes of it
-- a comparison with b = 2 and one with b = 1, by their kind
blank_alike : (k a c p : ℕ) → k ≤ 2
    → Alike (record { kind = 7 + k; a = a; b = to_parameter; c = c }) (record { kind = 7 + k; a = a; b = to_constant; c = p })
blank_alike zero a c p h = record { kind = refl; words = refl; children = λ n i. refl; names = λ j. refl; child = λ j. refl; variables = λ d. refl }
blank_alike (suc zero) a c p h = record { kind = refl; words = refl; children = λ n i. refl; names = λ j. refl; child = λ j. refl; variables = λ d. refl }
blank_alike (suc (suc zero)) a c p h = record { kind = refl; words = refl; children = λ n i. refl; names = λ j. refl; child = λ j. refl; variables = λ d. refl }
blank_alike (suc (suc (suc k))) a c p h = absurd (omega arith)

-- where b isn't 2, above 1 is above 2
module _ (e : Entry) (other : is_blank e ≡ false) where
  apart : is_comparison e ≡ true → e.b ≡ to_parameter → ⊥
  apart c q = false≢true (sym other ∙ and_both (is_comparison e) _ c (eq-eqb e.b to_parameter q))

  above : is_comparison e ≡ true → ltb to_constant e.b ≡ ltb to_parameter e.b
  above c = either (ltb to_parameter e.b)
      (λ s. lt-ltb to_constant e.b (omega (arith, ltb-true to_parameter e.b s)) ∙ sym s)
      (λ s. let n : (e.b ≡ 2) → ⊥ = apart c in le-ltb to_constant e.b (omega (arith, ltb-false to_parameter e.b s)) ∙ sym s)

  too_high_lem : (is_comparison e && ltb to_constant e.b) ≡ (is_comparison e && ltb to_parameter e.b)
  too_high_lem = either (is_comparison e) (λ c. ap (◌&&◌ (is_comparison e)) (above c)) (λ c. rw c)

  other_alike : Alike e e
  other_alike = record {
    kind = refl;
    words = words_same e to_constant to_parameter too_high_lem;
    children = λ n i. refl;
    names = λ j. refl;
    child = λ j. refl;
    variables = λ d. refl;
  }

module _ (ps : List ℕ) (e : Entry) where
  -- the entry with that kind and b, and what filling makes of it
  abbrev Of : ℕ → ℕ → Type 0
  Of k b = Alike (record { kind = k; a = e.a; b = b; c = e.c }) (record { kind = k; a = e.a; b = to_constant; c = parameter ps e.c })

  of_blank : is_blank e ≡ true → Of e.kind e.b
  of_blank g =
      let compares = and_left (is_comparison e) _ g in
      let low = leb-true 7 e.kind (and_left (leb 7 e.kind) _ compares) in
      let high = leb-true e.kind 9 (and_right (leb 7 e.kind) _ compares) in
      let k_is : 7 + (e.kind - 7) ≡ e.kind = omega (arith, low) in
      subst (λ (k : ℕ). Of k e.b) k_is
      (subst (Of (7 + (e.kind - 7))) (sym (eqb-true e.b to_parameter (and_right (is_comparison e) _ g)))
      (blank_alike (e.kind - 7) e.a e.c (parameter ps e.c) (omega (arith, high))))

  pub filled_alike : Alike e (filled_entry ps e)
  filled_alike = either (is_blank e)
      (λ g. subst (Alike e) (sym (filled_blank ps e g)) (of_blank g))
      (λ f. subst (Alike e) (sym (filled_other ps e f)) (other_alike e f))

-- ---- a rule of as many words, each of its entries alike the template's
module _ (t r : List ℕ) (as_long : length r ≡ length t) (alike : (i : ℕ) → i < entry_count t → Alike (entry_at t i) (entry_at r i)) where
  abbrev n : ℕ
  n = entry_count t

  as_many : entry_count r ≡ n
  as_many = ap (λ (l : ℕ). l / entry_words) as_long

  quantifies : (i : ℕ) → i < n → is_quantifier (entry_at r i) ≡ is_quantifier (entry_at t i)
  quantifies i h = ap (λ (k : ℕ). leb 5 k && leb k 6) (alike i h).kind

  around_from_lem : (m j : ℕ) → m ≤ n → around_from r m j ≡ around_from t m j
  unfolding around_from
  around_from_lem zero j h = refl
  around_from_lem (suc m) j h =
      λ k. cond ((alike m (omega arith)).child j k) (one (quantifies m (omega arith) k) + around_from_lem m m (omega arith) k) (around_from_lem m j (omega arith) k)

  around_same : (i : ℕ) → i < n → around r i ≡ around t i
  around_same i h = around_from_lem i i (omega arith)

  named_same : (j : ℕ) → times_named r j ≡ times_named t j
  named_same j =
      ap (sum_below (λ i. namings (entry_at r i) j)) as_many
      ∙ sum_same (λ i. namings (entry_at r i) j) (λ i. namings (entry_at t i) j) n (λ i h. (alike i h).names j)

  children : (i : ℕ) → i < n → bad_child (entry_count r) i (entry_at r i) ≡ bad_child n i (entry_at t i)
  children i h = ap (λ (m : ℕ). bad_child m i (entry_at r i)) as_many ∙ (alike i h).children n i

  variables : (i : ℕ) → i < n → unbound (around r i) (entry_at r i) ≡ unbound (around t i) (entry_at t i)
  variables i h = ap (λ (d : ℕ). unbound d (entry_at r i)) (around_same i h) ∙ (alike i h).variables (around t i)

  -- one check and those behind it
  then_same : (k : Fault) (ks : List Fault) → ((i : ℕ) → i < n → entry_fault to_constant r k i ≡ entry_fault to_parameter t k i)
      → in_order (entry_fault to_constant r) n ks ≡ in_order (entry_fault to_parameter t) n ks
      → in_order (entry_fault to_constant r) n (k ∷ ks) ≡ in_order (entry_fault to_parameter t) n (k ∷ ks)
  then_same k ks here behind =
      ap₂ (λ (m : ℕ) (next : Answer). cond (ltb m n) (Refused k m) next) (first_same (entry_fault to_constant r k) (entry_fault to_parameter t k) n here) behind

  faults_same : in_order (entry_fault to_constant r) n rule_checks ≡ in_order (entry_fault to_parameter t) n rule_checks
  unfolding entry_fault
  faults_same =
      then_same Kind (Word ∷ Child ∷ Naming ∷ Nesting ∷ Unbound ∷ []) (λ i h z. ltb ((alike i h).kind z) 1 || ltb 9 ((alike i h).kind z))
      (then_same Word (Child ∷ Naming ∷ Nesting ∷ Unbound ∷ []) (λ i h. (alike i h).words)
      (then_same Child (Naming ∷ Nesting ∷ Unbound ∷ []) children
      (then_same Naming (Nesting ∷ Unbound ∷ []) (λ i h z. ltb 0 i && not (eqb (named_same i z) 1))
      (then_same Nesting (Unbound ∷ []) (λ i h z. quantifies i h z && leb nesting_limit (around_same i h z))
      (then_same Unbound [] variables refl)))))

  pub checks_same : check_entries to_constant r ≡ check_entries to_parameter t
  unfolding check_entries
  checks_same =
      ap (λ (l : ℕ). unless (eqb (l % entry_words) 0 && (leb 1 (l / entry_words) && leb (l / entry_words) entry_limit)) RuleLength
      (in_order (entry_fault to_constant r) (l / entry_words) rule_checks)) as_long
      ∙ ap (unless (rule_length t) RuleLength) faults_same
