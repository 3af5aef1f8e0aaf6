-- 02, wish 5: templates, which are rules with blanks, and the rule that filling one gives. Assumes nothing.
use Rattle.std.specs.Prelude.{ℕ, zero, suc, ◌≤◌, ◌<◌, ◌≡◌, Bool, true, false, cond, not, ◌&&◌, List, [], ◌++◌, length, get_or, take, eqb, leb}
use Rattle.base.specs.Search.{some}
use Rattle.tables.specs.Answers.{Answer, Done, value, is_done, and_then, unless, unless_any, fitting, output}
use Rattle.tables.specs.Words.{whole, entry_words, entry_columns, entry_at, entry_count}
use Rattle.tables.specs.Rules.{is_comparison, to_constant, to_parameter, check_rule, check_template, accepted_rule}
use Rattle.tables.specs.declared.Entry.{Entry}
use Rattle.tables.specs.declared.refusals.Fault.TheVariants.{Blank, Parameters}

-- a blank: a comparison with b = 2, whose c is a parameter number
abbrev pub is_blank : Entry → Bool
is_blank e = is_comparison e && eqb e.b to_parameter

-- a list of up to 16 parameters, numbered from 0
abbrev pub parameter_limit : ℕ
parameter_limit = 16

-- where there is none, the call is refused
abbrev pub parameter : List ℕ → ℕ → ℕ
parameter parameters p = get_or parameters p 0

-- ---- the refusals, after 1 to 7
-- entry i has a parameter number without a parameter, where so many are given
abbrev pub lacks_parameter : List ℕ → ℕ → ℕ → Bool
lacks_parameter template count i = is_blank (entry_at template i) && leb count (entry_at template i).c

-- entry i is a blank with the number p
abbrev pub has_number : List ℕ → ℕ → ℕ → Bool
has_number template p i = is_blank (entry_at template i) && eqb (entry_at template i).c p

-- parameter p is used: some blank has its number
abbrev pub is_used : List ℕ → ℕ → Bool
is_used template p = some (has_number template p) (entry_count template)

-- each of so many parameters is used
abbrev pub all_used : List ℕ → ℕ → Bool
all_used template count = not (some (λ p. not (is_used template p)) count)

-- there are not over 16 parameters, and none is never used
abbrev pub parameters_fit : List ℕ → ℕ → Bool
parameters_fit template count = leb count parameter_limit && all_used template count

-- ---- the filled rule
-- each blank has b = 1 and the parameter as constant
abbrev pub with_parameter : List ℕ → Entry → Entry
with_parameter parameters e = record { kind = e.kind; a = e.a; b = to_constant; c = parameter parameters e.c }

-- every other entry is the template's
abbrev pub filled_entry : List ℕ → Entry → Entry
filled_entry parameters e = cond (is_blank e) (with_parameter parameters e) e

-- the words of n entries from number i on
unfoldable pub filled_from : List ℕ → List ℕ → ℕ → ℕ → List ℕ
filled_from template parameters i zero = []
filled_from template parameters i (suc n) =
    entry_columns (filled_entry parameters (entry_at template i)) ++ filled_from template parameters (suc i) n

abbrev pub filled : List ℕ → List ℕ → List ℕ
filled template parameters = filled_from template parameters 0 (entry_count template)

-- ---- the call: the number of words, or the refusal; the filled rule and what stood past it, or as it was
unfoldable pub fill_answer : List ℕ → List ℕ → ℕ → Answer
fill_answer template parameters room =
    and_then (check_template template)
    (unless_any (lacks_parameter template (length parameters)) Blank (entry_count template)
    (unless (parameters_fit template (length parameters)) Parameters (fitting (filled template parameters) room)))

unfoldable pub fill_out : List ℕ → List ℕ → List ℕ → List ℕ
fill_out template parameters out = output (fill_answer template parameters (length out)) (filled template parameters) out

-- ---- the claims
-- each blank's number has a parameter, where so many are given
abbrev pub EachHasParameter : List ℕ → ℕ → Type 0
EachHasParameter template count = (i : ℕ) → i < entry_count template → is_blank (entry_at template i) ≡ true → (entry_at template i).c < count

-- each of so many parameters has a blank with its number
abbrev pub EachHasBlank : List ℕ → ℕ → Type 0
EachHasBlank template count =
    (p : ℕ) → p < count → (i : ℕ) × (i < entry_count template) × (is_blank (entry_at template i) ≡ true) × ((entry_at template i).c ≡ p)

pub record Fillable (template parameters : List ℕ) (room : ℕ) : Type 0 where
  pub checked : is_done (check_template template) ≡ true
  pub each_has_parameter : EachHasParameter template (length parameters)
  pub few : length parameters ≤ parameter_limit
  pub each_has_blank : EachHasBlank template (length parameters)
  pub fits : length template ≤ room

-- a call is accepted exactly if it is so
abbrev pub FilledExactly : Type 0
FilledExactly =
    (template parameters : List ℕ) (room : ℕ)
    → (is_done (fill_answer template parameters room) ≡ true → Fillable template parameters room)
    × (Fillable template parameters room → is_done (fill_answer template parameters room) ≡ true)

-- 1 to 7 can't tell the filled rule from a template of whole entries: the same number of entries, or number and place
abbrev pub CheckedAlike : Type 0
CheckedAlike = (template parameters : List ℕ) → whole entry_words template ≡ true → check_rule (filled template parameters) ≡ check_template template

-- the words that an accepted call has written
abbrev pub written : List ℕ → List ℕ → List ℕ → List ℕ
written template parameters out = take (value (fill_answer template parameters (length out))) (fill_out template parameters out)

pub record Ordinary (template parameters rule : List ℕ) : Type 0 where
  -- an ordinary rule of as many entries
  pub accepted : check_rule rule ≡ Done (entry_count template)
  -- it differs from the template in the blanks alone
  pub but_for_blanks : (i : ℕ) → i < entry_count template → entry_at rule i ≡ filled_entry parameters (entry_at template i)

abbrev pub FillsToRules : Type 0
FillsToRules =
    (template parameters out : List ℕ) → is_done (fill_answer template parameters (length out)) ≡ true
    → Ordinary template parameters (written template parameters out)

-- a rule with a blank is refused wherever rules are checked
abbrev pub BlanksRefused : Type 0
BlanksRefused = (rule : List ℕ) (i : ℕ) → i < entry_count rule → is_blank (entry_at rule i) ≡ true → accepted_rule rule ≡ false
