-- What an entry is by its kind. Assumes nothing.
use Rattle.std.specs.Prelude.{ℕ, ◌-◌, ◌≡◌, ◌≤◌, cond, eqb}
use Rattle.tables.specs.Rules.{is_not, is_connective, is_quantifier}
use Rattle.tables.specs.declared.Entry.{Entry}
use Rattle.tables.specs.declared.nodes.Connective.{Connective}
use Rattle.tables.specs.declared.nodes.Connective.TheVariants.{And, Or, Implies}
use Rattle.tables.specs.declared.nodes.Quantifier.{Quantifier}
use Rattle.tables.specs.declared.nodes.Quantifier.TheVariants.{Every, Exists}
use Rattle.tables.specs.declared.nodes.Comparison.{Comparison}
use Rattle.tables.specs.declared.nodes.Comparison.TheVariants.{Equal, Less, AtMost}
use Rattle.tables.specs.declared.nodes.Over.{Over}
use Rattle.tables.specs.declared.nodes.Over.TheVariants.{Roots, Under}
use Rattle.tables.specs.declared.nodes.Operand.{Operand}
use Rattle.tables.specs.declared.nodes.Operand.TheVariants.{Variable, Constant}
use Rattle.tables.specs.declared.nodes.Node.{Node}
use Rattle.tables.specs.declared.nodes.Node.TheVariants as node

abbrev pub connective_kind : ℕ → Connective
connective_kind k = cond (eqb k 2) And (cond (eqb k 3) Or Implies)

abbrev pub quantifier_kind : ℕ → Quantifier
quantifier_kind k = cond (eqb k 5) Every Exists

abbrev pub comparison_kind : ℕ → Comparison
comparison_kind k = cond (eqb k 7) Equal (cond (eqb k 8) Less AtMost)

-- b and c of a comparison: 0 variable, else constant, and that variable or constant
abbrev pub operand_at : Entry → Operand
operand_at e = cond (eqb e.b 0) (Variable e.c) (Constant e.c)

-- b of a quantifier: 0 roots, else 1 + variable of the parent
abbrev pub over_at : Entry → Over
over_at e = cond (eqb e.b 0) Roots (Under (e.b - 1))

-- an entry's parts
abbrev pub node_of : Entry → Node
node_of e =
    cond (is_not e) (node.Not e.a)
    (cond (is_connective e) (node.Connective (connective_kind e.kind) e.a e.b)
    (cond (is_quantifier e) (node.Quantifier (quantifier_kind e.kind) (over_at e) e.c e.a)
    (node.Comparison (comparison_kind e.kind) e.a (operand_at e))))

-- what is known of an entry once its parts are; 7 to 9 is said of a known kind alone
abbrev pub Parts : Entry → Node → Type 0
Parts e (node.Not body) = (e.kind ≡ 1) × (body ≡ e.a)
Parts e (node.Connective by left right) = (2 ≤ e.kind) × (e.kind ≤ 4) × (by ≡ connective_kind e.kind) × (left ≡ e.a) × (right ≡ e.b)
Parts e (node.Quantifier by over name body) = (5 ≤ e.kind) × (e.kind ≤ 6) × (by ≡ quantifier_kind e.kind) × (over ≡ over_at e) × (name ≡ e.c) × (body ≡ e.a)
Parts e (node.Comparison by variable operand) = (1 ≤ e.kind → 7 ≤ e.kind) × (by ≡ comparison_kind e.kind) × (variable ≡ e.a) × (operand ≡ operand_at e)
