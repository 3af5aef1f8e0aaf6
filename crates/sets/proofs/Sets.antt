-- Rules laid end to end: where each stands, what an accepted set tells, and a walk over its rules. Assumes nothing.
use Prim.Native.Nat.{ℕ, zero, suc, ◌+◌, ◌-◌, ◌*◌, ◌%◌, ◌≤◌, ◌<◌}
use native.Mathlib.Numerals.{add-one}
use native.Mathlib.Omega.{arith}
use mathlib.Core.Path.{◌≡◌, refl, sym, ap, ap₂, subst, ◌∙◌}
use mathlib.Core.Bool.{Bool, true, ◌&&◌}
use mathlib.Core.List.Memᴰ
use mathlib.Core.List.{List, [], ◌∷◌}
use lib.ListN.{length, take, drop, length-drop}
use lib.Seq.{length-take-le}
use lib.Dec.{eqb, leb}
use borrow.Author.Tests.{eqb-true, eqb-false, leb-true}
use Rattle.std.specs.Prelude.{Err}
use Rattle.base.specs.Lists.{◌∈◌}
use Rattle.base.specs.Search.{sum_below}
use Rattle.base.proofs.Bools.{either, and_left, and_right}
use Rattle.base.proofs.Sums.{sum_grows}
use Rattle.tables.specs.Answers.{Answer, Done, Refused, place, is_done}
use Rattle.tables.specs.Words.{whole, entry_words, entry_count}
use Rattle.tables.specs.Rules.{to_constant, entry_fault, rule_length, rule_checks, check_entries, check_rule, accepted_rule}
use Rattle.tables.specs.declared.refusals.Fault.{Fault}
use Rattle.tables.specs.declared.refusals.Fault.TheVariants.{RuleLength, Counts}
use Rattle.tables.proofs.Answers.{first_at_fault, unless_ok, unless_next, unless_passed, and_then_first, and_then_next, and_then_passed}
use Rattle.sets.specs.Sets.{set_limit, entries_of, entries_before, rule_at, rules_from, rules_of, counts_fit, shifted, rule_by_rule, check_set, accepted_set}

-- ---- a rule's refusal
-- its place is not past the rule
pub refused_place : (r : List ℕ) {k : Fault} {p : ℕ} → check_rule r ≡ Refused k p → p ≤ entry_count r
unfolding check_entries
refused_place r {k} {p} e = either (rule_length r)
    (λ q. let f = first_at_fault (entry_fault to_constant r) (entry_count r) k p rule_checks (rw q at e) in omega (arith, f.inside))
    (λ q. let z : Refused RuleLength 0 ≡ Refused k p = (rw q at e) in omega (arith, ap place z))

shifted_done : (before : ℕ) (a : Answer) → is_done (shifted before a) ≡ is_done a
shifted_done before (Done n) = refl
shifted_done before (Err r) = refl

module _ (rules counts : List ℕ) where
  abbrev answer_at : ℕ → Answer
  answer_at i = shifted (entries_before counts i) (check_rule (rule_at rules counts i))

  -- ---- whether the counts fit
  abbrev number_ok : Bool
  number_ok = leb 1 (length counts) && leb (length counts) set_limit

  abbrev entries_ok : Bool
  entries_ok = whole entry_words rules && eqb (entries_before counts (length counts)) (entry_count rules)

  pub number_few : number_ok ≡ true → length counts ≤ set_limit
  number_few e = leb-true (length counts) set_limit (and_right (leb 1 (length counts)) _ e)

  -- ---- what an accepted set tells, and when a set is accepted
  rules_passed : (k i : ℕ) (next : Answer) → is_done (rule_by_rule rules counts i k next) ≡ true
      → (j : ℕ) → i ≤ j → j < i + k → accepted_rule (rule_at rules counts j) ≡ true
  unfolding rule_by_rule
  rules_passed zero i next e j l h = absurd (omega arith)
  rules_passed (suc k) i next e j l h = either (eqb j i)
      (λ q. subst (λ (x : ℕ). accepted_rule (rule_at rules counts x) ≡ true) (sym (eqb-true j i q))
      (sym (shifted_done (entries_before counts i) (check_rule (rule_at rules counts i))) ∙ and_then_first (answer_at i) _ e))
      (λ q. let apart : ¬ (j ≡ i) = eqb-false j i q in
      rules_passed k (suc i) next (and_then_next (answer_at i) _ e) j (omega arith) (omega arith))

  all_passed : (k i : ℕ) (next : Answer) → ((j : ℕ) → i ≤ j → j < i + k → accepted_rule (rule_at rules counts j) ≡ true)
      → rule_by_rule rules counts i k next ≡ next
  unfolding rule_by_rule
  all_passed zero i next h = refl
  all_passed (suc k) i next h =
      and_then_passed (answer_at i) _ (shifted_done (entries_before counts i) (check_rule (rule_at rules counts i)) ∙ h i (omega arith) (omega arith))
      ∙ all_passed k (suc i) next (λ j l g. h j (omega arith) (omega arith))

  pub counts_fit_lem : accepted_set rules counts ≡ true → counts_fit rules counts ≡ true
  unfolding check_set
  counts_fit_lem e = unless_ok (counts_fit rules counts) Counts _ e

  pub each_accepted : accepted_set rules counts ≡ true → (i : ℕ) → i < length counts → accepted_rule (rule_at rules counts i) ≡ true
  unfolding check_set
  each_accepted e i h = rules_passed (length counts) 0 _ (unless_next (counts_fit rules counts) Counts _ e) i (omega arith) (omega arith)

  pub set_done : counts_fit rules counts ≡ true → ((i : ℕ) → i < length counts → accepted_rule (rule_at rules counts i) ≡ true)
      → check_set rules counts ≡ Done (length counts)
  unfolding check_set
  set_done f h = unless_passed (counts_fit rules counts) Counts _ f ∙ all_passed (length counts) 0 _ (λ j l g. h j (omega arith))

  -- ---- the list of its rules
  in_from : (k i : ℕ) {r : List ℕ} → r ∈ rules_from rules counts i k → (j : ℕ) × (i ≤ j) × (j < i + k) × (r ≡ rule_at rules counts j)
  unfolding rules_from
  in_from zero i m = elim m [ ]
  in_from (suc k) i (Memᴰ.head e) = (i, omega arith, omega arith, e)
  in_from (suc k) i (Memᴰ.tail m) = let w = in_from k (suc i) m in (w.0, omega (arith, w.1), omega (arith, w.2), w.3)

  pub length_rules : (k i : ℕ) → length (rules_from rules counts i k) ≡ k
  unfolding rules_from
  length_rules zero i = refl
  length_rules (suc k) i = ap suc (length_rules k (suc i))

  pub rule_accepted : accepted_set rules counts ≡ true → {r : List ℕ} → r ∈ rules_of rules counts → accepted_rule r ≡ true
  rule_accepted e m =
      let w = in_from (length counts) 0 m in
      subst (λ (x : List ℕ). accepted_rule x ≡ true) (sym w.3) (each_accepted e w.0 (omega (arith, w.2)))

  -- ---- counts that fit
  module _ (fit : counts_fit rules counts ≡ true) where
    pub set_few : length counts ≤ set_limit
    set_few = number_few (and_left number_ok _ fit)

    entries_fit : entries_ok ≡ true
    entries_fit = and_right number_ok _ fit

    pub words_are : length rules ≡ entry_words * entries_before counts (length counts)
    words_are =
        let sum = eqb-true (entries_before counts (length counts)) (entry_count rules) (and_right (whole entry_words rules) _ entries_fit) in
        let left = eqb-true (length rules % entry_words) 0 (and_left (whole entry_words rules) _ entries_fit) in
        omega (arith, sum, left)

  -- ---- an accepted set
  pub accepted_few : accepted_set rules counts ≡ true → length counts ≤ set_limit
  accepted_few e = set_few (counts_fit_lem e)

  pub accepted_there : accepted_set rules counts ≡ true → entry_words * entries_before counts (length counts) ≤ length rules
  accepted_there e = omega (arith, words_are (counts_fit_lem e))

  -- ---- a walk over the rules: i are passed, and so many entries with them
  pub record Walked (i before : ℕ) : Type 0 where
    pub fit : counts_fit rules counts ≡ true
    pub within : i ≤ length counts
    pub before_is : before ≡ entries_before counts i

  pub walk_begin : counts_fit rules counts ≡ true → Walked 0 0
  unfolding sum_below
  walk_begin fit = record { fit = fit; within = omega arith; before_is = refl }

  module _ {i before : ℕ} (w : Walked i before) (h : i < length counts) where
    pub walk_more : {end : ℕ} → end ≡ before + entries_of counts i → Walked (i + 1) end
    unfolding sum_below
    walk_more e = record {
      fit = w.fit;
      within = omega arith;
      before_is = e ∙ ap (λ (b : ℕ). b + entries_of counts i) w.before_is ∙ ap (sum_below (entries_of counts)) (sym (add-one i));
    }

    -- the rule's words lie in the set's
    pub rule_inside : entry_words * (before + entries_of counts i) ≤ length rules
    unfolding sum_below
    rule_inside =
        let grown : sum_below (entries_of counts) (suc i) ≤ entries_before counts (length counts) = sum_grows (entries_of counts) (suc i) (length counts) (omega arith) in
        omega (arith, words_are w.fit, grown, w.before_is)

    -- those from word to word are the rule
    pub rule_is : {end : ℕ} → end ≡ before + entries_of counts i
        → take (entry_words * end - entry_words * before) (drop (entry_words * before) rules) ≡ rule_at rules counts i
    rule_is {end} e =
        let n : entry_words * end - entry_words * before ≡ entry_words * entries_of counts i = omega (arith, e) in
        ap₂ (λ (k b : ℕ). take k (drop (entry_words * b) rules)) n w.before_is

    -- as many as its count says
    pub rule_words : length (rule_at rules counts i) ≡ entry_words * entries_of counts i
    rule_words =
        let behind : length (drop (entry_words * entries_before counts i) rules) ≡ length rules - entry_words * entries_before counts i = length-drop (entry_words * entries_before counts i) rules in
        length-take-le (entry_words * entries_of counts i) (drop (entry_words * entries_before counts i) rules) (omega (arith, behind, rule_inside, w.before_is))

    one_less : length counts - i ≡ suc (length counts - (i + 1))
    one_less = omega arith

    -- the rules left
    pub rules_left : rules_from rules counts i (length counts - i) ≡ rule_at rules counts i ∷ rules_from rules counts (i + 1) (length counts - (i + 1))
    unfolding rules_from
    rules_left =
        ap (rules_from rules counts i) one_less
        ∙ ap (λ (j : ℕ). rule_at rules counts i ∷ rules_from rules counts j (length counts - (i + 1))) (sym (add-one i))

  pub none_left : (i : ℕ) → length counts ≤ i → rules_from rules counts i (length counts - i) ≡ []
  unfolding rules_from
  none_left i h = let z : length counts - i ≡ 0 = omega arith in ap (rules_from rules counts i) z
