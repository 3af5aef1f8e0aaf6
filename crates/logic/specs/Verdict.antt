-- 01, Verdict; 02, wish 1, the verdicts of a set. Assumes nothing.
use Rattle.std.specs.Prelude.{ℕ, suc, Bool, true, false, not, cond, ◌&&◌, ◌||◌, List, [], ◌∷◌, map, length, eqb}
use Rattle.base.specs.Lists.{select}
use Rattle.tables.specs.Answers.{and_then, fitting, output}
use Rattle.tables.specs.Words.{rows}
use Rattle.tables.specs.Values.{is_less, is_at_most}
use Rattle.tables.specs.Rules.{one, any_name, check_rule}
use Rattle.tables.specs.Tables.{root, is_parent, check_table}
use Rattle.tables.specs.declared.Row.{Row}
use Rattle.tables.specs.Answers.{Answer}
use Rattle.tables.specs.Answers.{Done}
use Rattle.sets.specs.Sets.{check_set}
use Rattle.logic.specs.Formulas.{Formula, negation, joined, quantified, compared, formula, formulas_of}
use Rattle.tables.specs.declared.Quantifier.{Quantifier}
use Rattle.tables.specs.declared.Quantifier.TheVariants.{Every, Exists}
use Rattle.tables.specs.declared.Connective.{Connective}
use Rattle.tables.specs.declared.Connective.TheVariants.{And, Or, Implies}
use Rattle.tables.specs.declared.Comparison.{Comparison}
use Rattle.tables.specs.declared.Comparison.TheVariants.{Equal, Less, AtMost}
use Rattle.tables.specs.declared.Over.{Over}
use Rattle.tables.specs.declared.Over.TheVariants.{Roots, Under}
use Rattle.tables.specs.declared.Operand.{Operand}
use Rattle.tables.specs.declared.Operand.TheVariants.{Variable, Constant}

-- ---- bindings give each variable a row or nothing
pub data Place : Type 0 where
  nothing : Place
  bound : Row → Place

abbrev pub Bindings : Type 0
Bindings = ℕ → Place

-- they start with none bound
abbrev pub none_bound : Bindings
none_bound v = nothing

-- binding one variable
abbrev pub bind : ℕ → Place → Bindings → Bindings
bind x p b v = cond (eqb v x) p (b v)

-- ---- comparisons are of values, by the signed order
abbrev pub value_at : Place → ℕ
value_at nothing = 0
value_at (bound r) = r.value

abbrev pub value_of : Bindings → Operand → ℕ
value_of b (Variable v) = value_at (b v)
value_of b (Constant k) = k

abbrev pub compare : Comparison → ℕ → ℕ → Bool
compare Equal m n = eqb m n
compare Less m n = is_less m n
compare AtMost m n = is_at_most m n

-- ---- connectives
abbrev pub connect : Connective → Bool → Bool → Bool
connect And a b = a && b
connect Or a b = a || b
connect Implies a b = not a || b

-- ---- quantifiers
-- a quantifier's name test: any name (02, wish 2), or its own
unfoldable pub named : ℕ → Row → Bool
named n r = eqb n any_name || eqb r.name n

-- the row's parent is the bound row
abbrev pub hangs : Place → Row → Bool
hangs nothing r = false
hangs (bound p) r = is_parent r p

-- a quantifier ranges over the rows that pass its name test and are roots, or whose parent is the bound row
abbrev pub ranges : Over → ℕ → Bindings → Row → Bool
ranges Roots n b r = root r && named n r
ranges (Under v) n b r = hangs (b v) r && named n r

-- over no rows, kind 5 is true and kind 6 false: this is also what each row's body has to be for the quantifier not to be decided
abbrev pub settled : Quantifier → Bool
settled Every = true
settled Exists = false

abbrev pub both : Quantifier → Bool → Bool → Bool
both Every a b = a && b
both Exists a b = a || b

abbrev pub fold : Quantifier → (Row → Bool) → List Row → Bool
fold q f [] = settled q
fold q f (r ∷ rs) = both q (f r) (fold q f rs)

-- ---- the formula holds on the table T, with d variables bound
unfoldable pub holds : Formula → List Row → ℕ → Bindings → Bool
holds (negation φ) T d b = not (holds φ T d b)
holds (joined c φ ψ) T d b = connect c (holds φ T d b) (holds ψ T d b)
holds (quantified q o n φ) T d b = fold q (λ r. holds φ T (suc d) (bind d (bound r) b)) (select (ranges o n b) T)
holds (compared c v w) T d b = compare c (value_at (b v)) (value_of b w)

unfoldable pub verdict : Formula → List Row → Bool
verdict F T = holds F T 0 none_bound

-- ---- the call: 1 true, 0 false, or the refusal; rule before table
unfoldable pub verdict_answer : List ℕ → List ℕ → Answer
verdict_answer rule pool = and_then (check_rule rule) (and_then (check_table pool) (Done (one (verdict (formula rule) (rows pool)))))

-- ---- the call for a set: one byte per rule, and what stood past them, or as it was; the number of rules, or the refusal
abbrev pub verdict_bytes : List Formula → List Row → List ℕ
verdict_bytes Fs T = map (λ F. one (verdict F T)) Fs

unfoldable pub set_verdicts_answer : List ℕ → List ℕ → List ℕ → ℕ → Answer
set_verdicts_answer rules counts pool room =
    and_then (check_set rules counts) (and_then (check_table pool) (fitting (verdict_bytes (formulas_of rules counts) (rows pool)) room))

unfoldable pub set_verdicts_out : List ℕ → List ℕ → List ℕ → List ℕ → List ℕ
set_verdicts_out rules counts pool out =
    output (set_verdicts_answer rules counts pool (length out)) (verdict_bytes (formulas_of rules counts) (rows pool)) out
