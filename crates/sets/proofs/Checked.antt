-- The loop that checks a set rule by rule: the answer is that of the rules left. Assumes nothing.
use Prim.Native.Nat.{ℕ, zero, suc, ◌+◌, ◌*◌, ◌≤◌, ◌<◌}
use native.Mathlib.Omega.{arith}
use mathlib.Core.Path.{◌≡◌, refl, sym, ap, ◌∙◌}
use mathlib.Core.Bool.{true, false}
use mathlib.Core.List.{List, [], ◌∷◌}
use lib.ListN.{length, length-append}
use Rattle.base.specs.Lists.{concat_map}
use Rattle.base.specs.Search.{sum_below}
use Rattle.tables.specs.Answers.{Answer, Done, Refused, is_done, and_then}
use Rattle.tables.specs.Words.{entry_words, entry_count}
use Rattle.tables.specs.Rules.{to_constant, check_rule}
use Rattle.tables.specs.declared.refusals.Fault.{Fault}
use Rattle.tables.specs.declared.refusals.Fault.TheVariants.{Counts}
use Rattle.tables.proofs.Answers.{unless_passed}
use Rattle.tables.proofs.AcceptedRule.{checked_count}
use Rattle.sets.specs.Sets.{entries_of, entries_before, rule_at, rules_from, rules_of, counts_fit, shifted, rule_by_rule, check_set}
use Rattle.sets.proofs.Sets.{refused_place}
use Rattle.sets.proofs.EndToEnd.{laid_out}

-- the answer of rules, where so many entries stand before them
unfoldable pub answers : ℕ → List (List ℕ) → Answer → Answer
answers before [] next = next
answers before (rule ∷ rules) next = and_then (shifted before (check_rule rule)) (answers (before + entry_count rule) rules next)

module _ (rules counts : List ℕ) where
  by_rules : (k i : ℕ) (next : Answer) → ((j : ℕ) → i ≤ j → j < i + k → entry_count (rule_at rules counts j) ≡ entries_of counts j)
      → rule_by_rule rules counts i k next ≡ answers (entries_before counts i) (rules_from rules counts i k) next
  unfolding rule_by_rule rules_from answers sum_below
  by_rules zero i next h = refl
  by_rules (suc k) i next h =
      let here : entries_of counts i ≡ entry_count (rule_at rules counts i) = sym (h i (omega arith) (omega arith)) in
      ap (and_then (shifted (entries_before counts i) (check_rule (rule_at rules counts i))))
      (by_rules k (suc i) next (λ j l m. h j (omega arith) (omega arith))
      ∙ ap (λ (n : ℕ). answers (entries_before counts i + n) (rules_from rules counts (suc i) k) next) here)

  pub record Checked (before : ℕ) (left : List (List ℕ)) : Type 0 where
    pub answer : check_set rules counts ≡ answers before left (Done (length counts))
    pub inside : entry_words * before + length (concat_map (λ rule. rule) left) ≤ length rules

  pub counts_fail : counts_fit rules counts ≡ false → Refused Counts 0 ≡ check_set rules counts
  unfolding check_set
  counts_fail e = rw e refl

  pub check_begin : counts_fit rules counts ≡ true → {left : List (List ℕ)} → left ≡ rules_of rules counts → Checked 0 left
  unfolding check_set sum_below
  check_begin fit {left} e =
      rw e
      let laid = laid_out rules counts fit in
      record {
        answer = unless_passed (counts_fit rules counts) Counts _ fit
            ∙ by_rules (length counts) 0 _ (λ j l h. let w = laid.words j (omega arith) in omega (arith, w));
        inside = omega (arith, ap length laid.end_to_end);
      }

  module _ {before : ℕ} {all : List (List ℕ)} (checked : Checked before all) {rule : List ℕ} {left : List (List ℕ)} (next : all ≡ rule ∷ left) where
    c : Checked before (rule ∷ left)
    c = rw next at checked

    rule_inside : entry_words * before + (length rule + length (concat_map (λ r. r) left)) ≤ length rules
    rule_inside = omega (arith, c.inside, length-append rule (concat_map (λ r. r) left))

    pub refused_inside : {k : Fault} {p : ℕ} → Refused k p ≡ check_rule rule → entry_words * (before + p) ≤ length rules
    refused_inside e = let p-le = refused_place rule (sym e) in omega (arith, p-le, rule_inside)

    pub rule_refused : {k : Fault} {p : ℕ} → Refused k p ≡ check_rule rule → Refused k (before + p) ≡ check_set rules counts
    unfolding answers
    rule_refused e = sym (c.answer ∙ ap (λ (a : Answer). and_then (shifted before a) (answers (before + entry_count rule) left (Done (length counts)))) (sym e))

    pub done_count : {n : ℕ} → Done n ≡ check_rule rule → n ≡ entry_count rule
    done_count e = cc (checked_count to_constant rule (sym (ap is_done e)))

    pub done_inside : {n : ℕ} → Done n ≡ check_rule rule → entry_words * (before + n) ≤ length rules
    done_inside e = let n_is = done_count e in omega (arith, n_is, rule_inside)

    pub check_more : {n : ℕ} → Done n ≡ check_rule rule → Checked (before + n) left
    unfolding answers
    check_more {n} e =
        let n_is = done_count e in
        record {
          answer = c.answer ∙ ap (λ (a : Answer). and_then (shifted before a) (answers (before + entry_count rule) left (Done (length counts)))) (sym e)
              ∙ ap (λ (m : ℕ). answers (before + m) left (Done (length counts))) (sym n_is);
          inside = omega (arith, n_is, rule_inside);
        }

  pub check_end : {before : ℕ} {all : List (List ℕ)} → Checked before all → all ≡ [] → Done (length counts) ≡ check_set rules counts
  unfolding answers
  check_end {before} c e = sym (c.answer ∙ ap (λ (left : List (List ℕ)). answers before left (Done (length counts))) e)
