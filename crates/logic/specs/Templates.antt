-- 02, wish 5: what a template says, by reading parameters directly, and that the filled rule says the same. Assumes nothing.
use Rattle.std.specs.Prelude.{ℕ, ◌≡◌, Bool, true, cond, List, length, eqb}
use Rattle.tables.specs.Answers.{is_done, and_then}
use Rattle.tables.specs.Words.{rows}
use Rattle.tables.specs.Rules.{one, to_parameter}
use Rattle.tables.specs.Tables.{check_table}
use Rattle.tables.specs.declared.Row.{Row}
use Rattle.tables.specs.Answers.{Done}
use Rattle.templates.specs.Templates.{parameter, fill_answer, written}
use Rattle.logic.specs.Formulas.{Formula, operand_of, formula_by, formula}
use Rattle.tables.specs.declared.Operand.{Operand}
use Rattle.tables.specs.declared.Operand.TheVariants.{Constant}
use Rattle.logic.specs.Verdict.{verdict, verdict_answer}

-- b and c of a comparison in a template: 2 is the parameter with the number c, the rest as in a rule
abbrev pub operand_in : List ℕ → ℕ → ℕ → Operand
operand_in parameters b x = cond (eqb b to_parameter) (Constant (parameter parameters x)) (operand_of b x)

-- entry 0 is the whole template
abbrev pub template_formula : List ℕ → List ℕ → Formula
template_formula template parameters = formula_by (operand_in parameters) template 0

-- a template's meaning on a table, the parameters read directly
abbrev pub template_verdict : List ℕ → List ℕ → List Row → Bool
template_verdict template parameters T = verdict (template_formula template parameters) T

-- ---- the claims
-- the rule that filling writes has that verdict on every table, accepted or not
abbrev pub FilledVerdict : Type 0
FilledVerdict =
    (template parameters out : List ℕ) → is_done (fill_answer template parameters (length out)) ≡ true
    → (T : List Row) → verdict (formula (written template parameters out)) T ≡ template_verdict template parameters T

-- the call for the verdict answers it on every accepted pool, and the pool's refusal on every other
abbrev pub FilledAnswer : Type 0
FilledAnswer =
    (template parameters out pool : List ℕ) → is_done (fill_answer template parameters (length out)) ≡ true
    → verdict_answer (written template parameters out) pool
    ≡ and_then (check_table pool) (Done (one (template_verdict template parameters (rows pool))))
