-- 01, Spare rows: how an entry reads on one device's rows, with each variable bound to one of them or elsewhere. Assumes nothing.
use Rattle.std.specs.Prelude.{ℕ, suc, Bool, true, false, not, cond, List, [], ◌∷◌}
use Rattle.base.specs.Lists.{select, any}
use Rattle.tables.specs.declared.Row.{Row}
use Rattle.logic.specs.Formulas.{Formula, negation, joined, quantified, compared}
use Rattle.tables.specs.declared.Quantifier.{Quantifier}
use Rattle.tables.specs.declared.Quantifier.TheVariants.{Every, Exists}
use Rattle.tables.specs.declared.Connective.{Connective}
use Rattle.tables.specs.declared.Connective.TheVariants.{And, Or, Implies}
use Rattle.tables.specs.declared.Comparison.{Comparison}
use Rattle.tables.specs.declared.Over.{Over}
use Rattle.tables.specs.declared.Over.TheVariants.{Roots, Under}
use Rattle.tables.specs.declared.Operand.{Operand}
use Rattle.tables.specs.declared.Operand.TheVariants.{Variable, Constant}
use Rattle.logic.specs.Verdict.{Place, nothing, bound, Bindings, bind, compare, ranges, settled}

-- true, false or open; a place that is nothing stands for elsewhere
pub data Reading : Type 0 where
  certain : Bool → Reading
  undecided : Reading

-- it reads that value
abbrev pub reads : Bool → Reading → Bool
reads true (certain a) = a
reads false (certain a) = not a
reads k undecided = false

-- ---- not and and; or and implies follow from them
abbrev pub not_reading : Reading → Reading
not_reading (certain a) = certain (not a)
not_reading undecided = undecided

abbrev pub and_reading : Reading → Reading → Reading
and_reading (certain false) y = certain false
and_reading (certain true) y = y
and_reading undecided (certain false) = certain false
and_reading undecided (certain true) = undecided
and_reading undecided undecided = undecided

abbrev pub connect_reading : Connective → Reading → Reading → Reading
connect_reading And x y = and_reading x y
connect_reading Or x y = not_reading (and_reading (not_reading x) (not_reading y))
connect_reading Implies x y = not_reading (and_reading x (not_reading y))

-- ---- a comparison that touches an elsewhere variable is open
pub data Value : Type 0 where
  known : ℕ → Value
  unknown : Value

abbrev pub value_read : Place → Value
value_read nothing = unknown
value_read (bound r) = known r.value

abbrev pub operand_read : Bindings → Operand → Value
operand_read b (Variable v) = value_read (b v)
operand_read b (Constant k) = known k

abbrev pub compare_reading : Comparison → Value → Value → Reading
compare_reading c (known m) (known n) = certain (compare c m n)
compare_reading c (known m) unknown = undecided
compare_reading c unknown y = undecided

-- ---- a quantifier; `body p` is its body's reading with its own variable at p, and `own` are the rows that it ranges over
abbrev pub both_reading : Quantifier → Reading → Reading → Reading
both_reading Every x y = connect_reading And x y
both_reading Exists x y = connect_reading Or x y

-- under a bound row: kind 5 is false if some row's body is false, true if all are true, else open
abbrev pub under_bound : Quantifier → (Place → Reading) → List Row → Reading
under_bound q body [] = certain (settled q)
under_bound q body (r ∷ rs) = both_reading q (body (bound r)) (under_bound q body rs)

-- over roots, the first test: the body is false (kind 5) for some own root
abbrev pub first_test : Quantifier → (Place → Reading) → List Row → Bool
first_test q body own = any (λ r. reads (not (settled q)) (body (bound r))) own

-- the second test: the body is true (kind 5) with the variable elsewhere
abbrev pub second_test : Quantifier → (Place → Reading) → Bool
second_test q body = reads (settled q) (body nothing)

-- kind 5 is true if the body is true with its own variable elsewhere, else open
abbrev pub under_elsewhere : Quantifier → (Place → Reading) → Reading
under_elsewhere q body = cond (second_test q body) (certain (settled q)) undecided

abbrev pub over_roots : Quantifier → (Place → Reading) → List Row → Reading
over_roots q body own = cond (first_test q body own) (certain (not (settled q))) (under_elsewhere q body)

abbrev pub under_place : Quantifier → Place → (Place → Reading) → List Row → Reading
under_place q nothing body own = under_elsewhere q body
under_place q (bound p) body own = under_bound q body own

abbrev pub quantify : Quantifier → Over → Bindings → (Place → Reading) → List Row → Reading
quantify q Roots b body own = over_roots q body own
quantify q (Under v) b body own = under_place q (b v) body own

-- ---- the reading of a formula on the device's rows D, with d variables bound or elsewhere
unfoldable pub reading : Formula → List Row → ℕ → Bindings → Reading
reading (negation φ) D d b = not_reading (reading φ D d b)
reading (joined c φ ψ) D d b = connect_reading c (reading φ D d b) (reading ψ D d b)
reading (quantified q o n φ) D d b = quantify q o b (λ p. reading φ D (suc d) (bind d p b)) (select (ranges o n b) D)
reading (compared c v w) D d b = compare_reading c (value_read (b v)) (operand_read b w)
