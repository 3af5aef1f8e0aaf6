-- The rules of a set are its words laid end to end, and a set is accepted by its rules. Assumes nothing.
use Prim.Native.Nat.{ℕ, zero, suc, ◌+◌, ◌*◌, ◌≤◌, ◌<◌}
use native.Mathlib.Omega.{arith}
use mathlib.Core.Path.{◌≡◌, refl, sym, ap, ◌∙◌}
use mathlib.Core.Bool.{true}
use mathlib.Core.List.Memᴰ
use mathlib.Core.List.{List, ◌++◌}
use lib.ListN.{length, drop, take-append-drop, drop_of_length-le}
use lib.Seq.{drop-drop}
use lib.Dec.{eqb}
use borrow.Author.Tests.{eqb-true, eqb-false}
use Rattle.base.specs.Lists.{◌∈◌, concat_map}
use Rattle.base.specs.Search.{sum_below}
use Rattle.base.proofs.Bools.{either}
use Rattle.tables.specs.Answers.{is_done}
use Rattle.tables.specs.Words.{entry_words}
use Rattle.sets.specs.Sets.{entries_of, entries_before, rule_at, rules_from, counts_fit, LaidOut, EndToEnd, AcceptedByRules}
use Rattle.sets.proofs.Sets.{counts_fit_lem, rule_accepted, set_done, words_are, rule_words}

module _ (rules counts : List ℕ) where
  rule_in : (k i j : ℕ) → i ≤ j → j < i + k → rule_at rules counts j ∈ rules_from rules counts i k
  unfolding rules_from
  rule_in zero i j l h = absurd (omega arith)
  rule_in (suc k) i j l h = either (eqb j i)
      (λ q. Memᴰ.head (ap (rule_at rules counts) (eqb-true j i q)))
      (λ q. let apart : ¬ (j ≡ i) = eqb-false j i q in Memᴰ.tail (rule_in k (suc i) j (omega arith) (omega arith)))

  module _ (fit : counts_fit rules counts ≡ true) where
    -- the rules from rule i on are the words behind those before it
    laid_from : (k i : ℕ) → i + k ≡ length counts → concat_map (λ rule. rule) (rules_from rules counts i k) ≡ drop (entry_words * entries_before counts i) rules
    unfolding rules_from sum_below
    laid_from zero i e =
        let z : i ≡ length counts = omega arith in
        let all : length rules ≤ entry_words * entries_before counts i = omega (arith, words_are rules counts fit, ap (entries_before counts) z) in
        sym (drop_of_length-le rules all)
    laid_from (suc k) i e =
        let a = entry_words * entries_before counts i in
        let n = entry_words * entries_of counts i in
        let z : entry_words * (entries_before counts i + entries_of counts i) ≡ a + n = omega arith in
        ap (◌++◌ (rule_at rules counts i)) (laid_from k (suc i) (omega arith) ∙ ap (λ (j : ℕ). drop j rules) z ∙ sym (drop-drop n a rules))
        ∙ take-append-drop n (drop a rules)

    pub laid_out : LaidOut rules counts
    unfolding sum_below
    laid_out = record {
      end_to_end = laid_from (length counts) 0 (omega arith);
      words = λ i h. rule_words rules counts (record { fit = fit; within = omega arith; before_is = refl }) h;
    }

pub end_to_end : EndToEnd
end_to_end = laid_out

pub accepted_by_rules : AcceptedByRules
accepted_by_rules rules counts = (
  λ e. (counts_fit_lem rules counts e, λ rule m. rule_accepted rules counts e m),
  λ fit each. ap is_done (set_done rules counts fit (λ i h. each (rule_at rules counts i) (rule_in rules counts (length counts) 0 i (omega arith) (omega arith)))),
)
