-- 01, Tables: the formula that a rule's entries stand for; 02, wish 1, those of a set's rules. Assumes nothing.
use Rattle.std.specs.Prelude.{ℕ, zero, suc, ◌-◌, List, [], ◌∷◌, map, get_or}
use Rattle.tables.specs.Words.{entry_at, entry_count}
use Rattle.tables.specs.declared.Entry.{Entry}
use Rattle.sets.specs.Sets.{rules_of}
use Rattle.tables.specs.declared.Quantifier.{Quantifier}
use Rattle.tables.specs.declared.Quantifier.TheVariants.{Every, Exists}
use Rattle.tables.specs.declared.Connective.{Connective}
use Rattle.tables.specs.declared.Connective.TheVariants.{And, Or, Implies}
use Rattle.tables.specs.declared.Comparison.{Comparison}
use Rattle.tables.specs.declared.Comparison.TheVariants.{Equal, Less, AtMost}
use Rattle.tables.specs.declared.Over.{Over}
use Rattle.tables.specs.declared.Over.TheVariants.{Roots, Under}
use Rattle.tables.specs.declared.Operand.{Operand}
use Rattle.tables.specs.declared.Operand.TheVariants.{Variable, Constant}

-- a quantifier binds in its body the variable whose number is the count of quantifiers around it
pub data Formula : Type 0 where
  negation : Formula → Formula
  joined : Connective → Formula → Formula → Formula
  quantified : Quantifier → Over → ℕ → Formula → Formula
  compared : Comparison → ℕ → Operand → Formula

-- b of a quantifier: 0 roots, else 1 + variable of the parent
abbrev pub over_of : ℕ → Over
over_of zero = Roots
over_of (suc v) = Under v

-- b and c of a comparison: 0 variable, 1 constant, and that variable or constant
abbrev pub operand_of : ℕ → ℕ → Operand
operand_of zero x = Variable x
operand_of (suc b) x = Constant x

-- stands where no accepted rule has an entry
abbrev pub no_formula : Formula
no_formula = compared Equal 0 (Variable 0)

-- an entry, over the formulas of its children, where `operand` reads b and c of a comparison: one line for each kind
abbrev pub build : (ℕ → ℕ → Operand) → Entry → (ℕ → Formula) → Formula
build operand e child =
    get_or
    (no_formula
    ∷ negation (child e.a)
    ∷ joined And (child e.a) (child e.b)
    ∷ joined Or (child e.a) (child e.b)
    ∷ joined Implies (child e.a) (child e.b)
    ∷ quantified Every (over_of e.b) e.c (child e.a)
    ∷ quantified Exists (over_of e.b) e.c (child e.a)
    ∷ compared Equal e.a (operand e.b e.c)
    ∷ compared Less e.a (operand e.b e.c)
    ∷ compared AtMost e.a (operand e.b e.c)
    ∷ []) e.kind no_formula

-- the formulas of n entries from number i on: a child's number exceeds its parent's
unfoldable pub formulas : (ℕ → ℕ → Operand) → List ℕ → ℕ → ℕ → List Formula
formulas operand r i zero = []
formulas operand r i (suc n) =
    let later = formulas operand r (suc i) n in
    build operand (entry_at r i) (λ k. get_or later (k - suc i) no_formula) ∷ later

-- the formula of entry k, where comparisons are read so
unfoldable pub formula_by : (ℕ → ℕ → Operand) → List ℕ → ℕ → Formula
formula_by operand r k = get_or (formulas operand r 0 (entry_count r)) k no_formula

-- of a rule
abbrev pub formula_at : List ℕ → ℕ → Formula
formula_at = formula_by operand_of

-- entry 0 is the whole rule
abbrev pub formula : List ℕ → Formula
formula r = formula_at r 0

-- the formulas of a set's rules
abbrev pub formulas_of : List ℕ → List ℕ → List Formula
formulas_of rules counts = map formula (rules_of rules counts)
