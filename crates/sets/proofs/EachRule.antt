-- Going over a set's rules: the first rule and those behind it, and a loop that has passed i of them. Assumes nothing.
use Prim.Native.Nat.{ℕ, zero, suc, ◌+◌, ◌-◌, ◌*◌, ◌≤◌, ◌<◌}
use native.Mathlib.Numerals.{add-one}
use native.Mathlib.Omega.{arith}
use mathlib.Core.Path.{◌≡◌, refl, sym, ap, ap₂, ◌∙◌}
use mathlib.Core.List.{List, [], ◌∷◌}
use lib.ListN.{length, take, drop}
use lib.Seq.{drop-drop}
use Rattle.std.specs.List.{sum}
use Rattle.std.proofs.lemmas.Grind.{common_steps}
use Rattle.base.specs.Search.{sum_below}
use Rattle.tables.specs.Words.{entry_words}
use Rattle.sets.specs.Sets.{entries_of, entries_before, rule_at, rules_from, rules_of}

pub before_more : (count : ℕ) (counts : List ℕ) (i : ℕ) → entries_before (count ∷ counts) (suc i) ≡ count + entries_before counts i
unfolding sum_below
before_more count counts zero = omega arith
before_more count counts (suc i) = let e = before_more count counts i in omega arith

pub counted : (counts : List ℕ) → entries_before counts (length counts) ≡ sum counts
unfolding sum_below
counted [] = refl
counted (count ∷ counts) = grind (arith, common_steps, before_more count counts (length counts), counted counts)

module _ (rules : List ℕ) (count : ℕ) (counts : List ℕ) where
  rule_more : (i : ℕ) → rule_at rules (count ∷ counts) (suc i) ≡ rule_at (drop (entry_words * count) rules) counts i
  rule_more i =
      let e : entry_words * entries_before (count ∷ counts) (suc i) ≡ entry_words * count + entry_words * entries_before counts i =
      omega (arith, before_more count counts i) in
      ap (take (entry_words * entries_of counts i)) (ap (λ (k : ℕ). drop k rules) e ∙ sym (drop-drop (entry_words * entries_before counts i) (entry_words * count) rules))

  from_more : (k i : ℕ) → rules_from rules (count ∷ counts) (suc i) k ≡ rules_from (drop (entry_words * count) rules) counts i k
  unfolding rules_from
  from_more zero i = refl
  from_more (suc k) i = ap₂ ◌∷◌ (rule_more i) (from_more k (suc i))

  pub rules_more : rules_of rules (count ∷ counts) ≡ take (entry_words * count) rules ∷ rules_of (drop (entry_words * count) rules) counts
  unfolding rules_from sum_below
  rules_more = ap (◌∷◌ (take (entry_words * count) rules)) (from_more (length counts) 0)

-- ---- a loop over the rules of a set: i are passed, and these are left
pub record Passed (rules counts : List ℕ) (i : ℕ) (left : List (List ℕ)) : Type 0 where
  pub within : i ≤ length counts
  pub left_is : left ≡ rules_from rules counts i (length counts - i)

module _ (rules counts : List ℕ) where
  pub pass_begin : {left : List (List ℕ)} → left ≡ rules_of rules counts → Passed rules counts 0 left
  pass_begin e =
      let z : length counts ≡ length counts - 0 = omega arith in
      record { within = omega arith; left_is = e ∙ ap (rules_from rules counts 0) z }

  -- the next rule: it is rule i, and the others are left
  pub record Turn (i : ℕ) (rule : List ℕ) (left : List (List ℕ)) : Type 0 where
    pub below : i < length counts
    pub rule_is : rule ≡ rule_at rules counts i
    pub next : Passed rules counts (i + 1) left

  pass_from : (k i : ℕ) {rule : List ℕ} {left : List (List ℕ)} → i + k ≡ length counts → rule ∷ left ≡ rules_from rules counts i k → Turn i rule left
  unfolding rules_from
  pass_from zero i s e = absurd (cc e)
  pass_from (suc k) i {rule} {left} s e =
      let z : k ≡ length counts - (i + 1) = omega arith in
      let tail : left ≡ rules_from rules counts (suc i) k = cc e in
      record {
        below = omega arith;
        rule_is = cc e;
        next = record { within = omega arith; left_is = tail ∙ ap (λ (j : ℕ). rules_from rules counts j k) (sym (add-one i)) ∙ ap (rules_from rules counts (i + 1)) z };
      }

  pub pass_turn : {i : ℕ} {all : List (List ℕ)} → Passed rules counts i all → {rule : List ℕ} {left : List (List ℕ)} → all ≡ rule ∷ left → Turn i rule left
  pass_turn {i} p e = let w : i ≤ length counts = p.within in pass_from (length counts - i) i (omega arith) (sym e ∙ p.left_is)

  pass_none : (k i : ℕ) → [] ≡ rules_from rules counts i k → k ≡ 0
  unfolding rules_from
  pass_none zero i e = refl
  pass_none (suc k) i e = absurd (cc e)

  pub pass_end : {i : ℕ} {all : List (List ℕ)} → Passed rules counts i all → all ≡ [] → i ≡ length counts
  pass_end {i} p e = let w : i ≤ length counts = p.within in let z = pass_none (length counts - i) i (sym e ∙ p.left_is) in omega (arith, z)
