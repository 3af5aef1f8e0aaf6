-- 02, wish 7: quantifiers around one another. Assumes nothing.
use Rattle.std.specs.Prelude.{ℕ, suc, ◌≤◌, ◌<◌, max, ◌≡◌, true, List}
use Rattle.tables.specs.Answers.{is_done}
use Rattle.tables.specs.Words.{entry_at}
use Rattle.tables.specs.Rules.{nesting_limit, is_quantifier, around, check_entries}
use Rattle.tables.specs.Answers.{Refused}
use Rattle.logic.specs.Formulas.{Formula, negation, joined, quantified, compared, formula_by}
use Rattle.tables.specs.declared.Operand.{Operand}
use Rattle.tables.specs.declared.Fault.TheVariants.{Nesting}

-- how many quantifiers of a formula stand around one another at most
unfoldable pub levels : Formula → ℕ
levels (negation φ) = levels φ
levels (joined c φ ψ) = max (levels φ) (levels ψ)
levels (quantified q o n φ) = suc (levels φ)
levels (compared c v w) = 0

-- of a rule and of a template: whatever b of a comparison may be, and however b and c are read
pub record Limited (operand : ℕ → ℕ → Operand) (most : ℕ) (rule : List ℕ) : Type 0 where
  -- in an accepted rule no more stand around one another than the limit, and in one refused with 6 more do
  pub accepted : is_done (check_entries most rule) ≡ true → levels (formula_by operand rule 0) ≤ nesting_limit
  pub refused : (p : ℕ) → check_entries most rule ≡ Refused Nesting p → nesting_limit < levels (formula_by operand rule 0)
  -- 6 is given at a quantifier with as many around it as the limit
  pub at_quantifier : (p : ℕ) → check_entries most rule ≡ Refused Nesting p → is_quantifier (entry_at rule p) ≡ true
  pub as_many_around : (p : ℕ) → check_entries most rule ≡ Refused Nesting p → around rule p ≡ nesting_limit

-- the claim: so it is for every run of words
abbrev pub LevelsLimited : Type 0
LevelsLimited = (operand : ℕ → ℕ → Operand) (most : ℕ) (rule : List ℕ) → Limited operand most rule
