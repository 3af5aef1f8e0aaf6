-- 02, wish 1: a set is up to 32 rules laid end to end, with a list of their entry counts. Assumes nothing.
use Rattle.std.specs.Prelude.{ℕ, zero, suc, ◌+◌, ◌*◌, ◌<◌, ◌≡◌, Bool, true, ◌&&◌, List, [], ◌∷◌, length, get_or, take, drop, eqb, leb, Err}
use Rattle.base.specs.Lists.{◌∈◌, concat_map}
use Rattle.base.specs.Search.{sum_below}
use Rattle.tables.specs.Answers.{Answer, Done, Refused, is_done, and_then, unless}
use Rattle.tables.specs.Words.{whole, entry_words, entry_count}
use Rattle.tables.specs.Rules.{check_rule, accepted_rule}
use Rattle.tables.specs.declared.refusals.Fault.TheVariants.{Counts}

-- a set is up to 32 rules
abbrev pub set_limit : ℕ
set_limit = 32

-- ---- where each rule stands
-- the number of entries of rule i
abbrev pub entries_of : List ℕ → ℕ → ℕ
entries_of counts i = get_or counts i 0

-- the number of entries before rule i
abbrev pub entries_before : List ℕ → ℕ → ℕ
entries_before counts i = sum_below (entries_of counts) i

-- the words of rule i
abbrev pub rule_at : List ℕ → List ℕ → ℕ → List ℕ
rule_at rules counts i = take (entry_words * entries_of counts i) (drop (entry_words * entries_before counts i) rules)

-- k rules from rule i on
unfoldable pub rules_from : List ℕ → List ℕ → ℕ → ℕ → List (List ℕ)
rules_from rules counts i zero = []
rules_from rules counts i (suc k) = rule_at rules counts i ∷ rules_from rules counts (suc i) k

-- the rules of the set
abbrev pub rules_of : List ℕ → List ℕ → List (List ℕ)
rules_of rules counts = rules_from rules counts 0 (length counts)

-- ---- the refusals
-- no counts, more than 32, or counts that don't add up to the entries (a leftover word is such a case)
abbrev pub counts_fit : List ℕ → List ℕ → Bool
counts_fit rules counts =
    (leb 1 (length counts) && leb (length counts) set_limit)
    && (whole entry_words rules && eqb (entries_before counts (length counts)) (entry_count rules))

-- a rule's answer, with a refusal's place counted from the first entry of the set, of which so many stand before the rule
abbrev pub shifted : ℕ → Answer → Answer
shifted before (Done n) = Done n
shifted before (Err r) = Refused r.fault (before + r.place)

-- the checks of k rules from rule i on, rule by rule, before the next answer
unfoldable pub rule_by_rule : List ℕ → List ℕ → ℕ → ℕ → Answer → Answer
rule_by_rule rules counts i zero next = next
rule_by_rule rules counts i (suc k) next =
    and_then (shifted (entries_before counts i) (check_rule (rule_at rules counts i))) (rule_by_rule rules counts (suc i) k next)

-- the answer of the set's checks: the number of rules, or the first refusal
unfoldable pub check_set : List ℕ → List ℕ → Answer
check_set rules counts = unless (counts_fit rules counts) Counts (rule_by_rule rules counts 0 (length counts) (Done (length counts)))

-- a set is accepted if its checks find no fault
abbrev pub accepted_set : List ℕ → List ℕ → Bool
accepted_set rules counts = is_done (check_set rules counts)

-- ---- the claims
-- where the counts fit, the rules laid end to end are the set's words, and each has as many whole entries as its count says
pub record LaidOut (rules counts : List ℕ) : Type 0 where
  pub end_to_end : concat_map (λ rule. rule) (rules_of rules counts) ≡ rules
  pub words : (i : ℕ) → i < length counts → length (rule_at rules counts i) ≡ entry_words * entries_of counts i

abbrev pub EndToEnd : Type 0
EndToEnd = (rules counts : List ℕ) → counts_fit rules counts ≡ true → LaidOut rules counts

-- a set is accepted exactly if its counts fit and each of its rules is accepted
abbrev pub EachAccepted : List ℕ → List ℕ → Type 0
EachAccepted rules counts = (rule : List ℕ) → rule ∈ rules_of rules counts → accepted_rule rule ≡ true

abbrev pub AcceptedByRules : Type 0
AcceptedByRules =
    (rules counts : List ℕ)
    → (accepted_set rules counts ≡ true → (counts_fit rules counts ≡ true) × EachAccepted rules counts)
    × (counts_fit rules counts ≡ true → EachAccepted rules counts → accepted_set rules counts ≡ true)
