-- What an entry of an accepted rule tells once its parts are known: its formula, and that its parts can be asked in turn. Assumes nothing.
use Prim.Native.Nat.{ℕ, zero, suc, ◌+◌, ◌-◌, ◌<◌, ◌≤◌}
use mathlib.Core.Path.{◌≡◌, refl, sym, ap, ◌∙◌}
use mathlib.Core.Bool.{cond, true}
use mathlib.Core.List.{List}
use native.Mathlib.Omega.{arith}
use lib.Dec.{eqb}
use borrow.Author.Tests.{ne_eqb}
use Rattle.tables.specs.Words.{entry_at, entry_count}
use Rattle.tables.specs.Rules.{nesting_limit, around, accepted_rule}
use Rattle.tables.specs.Nodes.{quantifier_kind, comparison_kind, Parts}
use Rattle.tables.specs.declared.Entry.{Entry}
use Rattle.tables.specs.declared.nodes.Node.TheVariants as node
use Rattle.tables.specs.declared.nodes.Connective.{Connective}
use Rattle.tables.specs.declared.nodes.Quantifier.{Quantifier}
use Rattle.tables.specs.declared.nodes.Comparison.{Comparison}
use Rattle.tables.specs.declared.nodes.Over.{Over}
use Rattle.tables.specs.declared.nodes.Over.TheVariants.{Roots, Under}
use Rattle.tables.specs.declared.nodes.Operand.{Operand}
use Rattle.tables.specs.declared.nodes.Operand.TheVariants.{Variable, Constant}
use Rattle.logic.specs.Formulas.{negation, joined, quantified, compared, over_of, operand_of, formula_at}
use Rattle.engine.proofs.Opened.{Opened, opened, not_formula, joined_formula, quantified_formula, compared_formula}
use Rattle.parts.specs.Ranges.{OverBound}
use Rattle.parts.specs.Device.{Bound}

pub over_is : (u : ℕ) → cond (eqb u 0) Roots (Under (u - 1)) ≡ over_of u
over_is zero = refl
over_is (suc v) =
    let z : suc v - 1 ≡ v = omega arith in
    rw (ne_eqb (suc v) 0 (λ q. omega arith), z)

operand_is : (u k : ℕ) → cond (eqb u 0) (Variable k) (Constant k) ≡ operand_of u k
operand_is zero k = refl
operand_is (suc u) k = rw (ne_eqb (suc u) 0 (λ q. omega arith))

-- an entry behind e, with d variables around it
pub record Inner (rule : List ℕ) (e d a : ℕ) : Type 0 where
  pub later : e < a
  pub inside : a < entry_count rule
  pub depth : around rule a ≡ d

module _ (rule : List ℕ) (ok : accepted_rule rule ≡ true) {e : ℕ} (inside : e < entry_count rule) {x : Entry} (x_is : x ≡ entry_at rule e) where
  opens : Opened rule e x
  opens = opened rule ok e inside x x_is

  module _ {body : ℕ} (p : Parts x (node.Not body)) where
    pub not_is : formula_at rule e ≡ negation (formula_at rule body)
    not_is = rw p.1 (not_formula rule e x opens p.0)

    pub not_body : Inner rule e (around rule e) body
    not_body = let l = opens.child (omega arith) in rw p.1 (record { later = l.0; inside = l.1; depth = opens.child_depth (omega arith) })

  module _ {by : Connective} {left right : ℕ} (p : Parts x (node.Connective by left right)) where
    pub joined_is : formula_at rule e ≡ joined by (formula_at rule left) (formula_at rule right)
    joined_is = rw (p.2, p.3, p.4) (joined_formula rule e x opens p.0 p.1)

    pub left_side : Inner rule e (around rule e) left
    left_side = let l = opens.child (omega arith) in rw p.3 (record { later = l.0; inside = l.1; depth = opens.child_depth (omega arith) })

    pub right_side : Inner rule e (around rule e) right
    right_side = let l = opens.right p.0 p.1 in rw p.4 (record { later = l.0; inside = l.1; depth = opens.right_depth p.0 p.1 })

  module _ {by : Quantifier} {over : Over} {name body : ℕ} (p : Parts x (node.Quantifier by over name body)) where
    pub quantified_is : formula_at rule e ≡ quantified by over name (formula_at rule body)
    quantified_is = rw (p.2, p.3, p.4, p.5) (quantified_formula rule e x opens p.0 p.1 ∙ ap (λ (o : Over). quantified (quantifier_kind x.kind) o x.c (formula_at rule x.a)) (sym (over_is x.b)))

    pub body_inside : Inner rule e (around rule e + 1) body
    body_inside = let l = opens.child (omega arith) in rw p.5 (record { later = l.0; inside = l.1; depth = opens.body_depth p.0 p.1 })

    pub room : around rule e < nesting_limit
    room = opens.nesting p.0 p.1

    pub over_depth : x.b ≤ around rule e
    over_depth = opens.over_bound_lem p.0 p.1

    pub over_bound : OverBound over
    over_bound = rw p.3 (go x.b (omega (arith, over_depth, room)))
      where
        go : (u : ℕ) → u ≤ nesting_limit → OverBound (cond (eqb u 0) Roots (Under (u - 1)))
        go zero h = tt
        go (suc v) h = rw (ne_eqb (suc v) 0 (λ q. omega arith)) (omega arith)

  module _ {by : Comparison} {variable : ℕ} {operand : Operand} (p : Parts x (node.Comparison by variable operand)) where
    seven : 7 ≤ x.kind
    seven = p.0 opens.kind_range.0

    pub compared_is : formula_at rule e ≡ compared by variable operand
    compared_is = rw (p.1, p.2, p.3) (compared_formula rule e x opens seven ∙ ap (compared (comparison_kind x.kind) x.a) (sym (operand_is x.b x.c)))

    module _ {d : ℕ} (depth_is : d ≡ around rule e) (shallow : d ≤ nesting_limit) where
      pub variable_bound : variable < nesting_limit
      variable_bound = omega (arith, p.2, opens.left_bound seven)

      pub operand_bound : Bound operand
      operand_bound = rw p.3 (go x.b x.c (λ z. omega (arith, opens.right_bound seven z)))
        where
          go : (u k : ℕ) → (u ≡ 0 → k < nesting_limit) → Bound (cond (eqb u 0) (Variable k) (Constant k))
          go zero k h = h refl
          go (suc u) k h = rw (ne_eqb (suc u) 0 (λ q. omega arith)) tt
