-- What an entry of an accepted rule tells once its parts have been read: its formula, its children, its variables. Assumes nothing.
use Prim.Native.Nat.{ℕ, zero, suc, ◌+◌, ◌-◌, ◌<◌, ◌≤◌}
use mathlib.Core.Path.{◌≡◌, refl, sym, ap, ◌∙◌}
use mathlib.Core.Bool.{cond}
use mathlib.Core.List.{List}
use native.Mathlib.Omega.{arith}
use lib.Dec.{eqb}
use borrow.Author.Tests.{ne_eqb}
use Rattle.tables.specs.Words.{entry_at, entry_count, row_count}
use Rattle.tables.specs.Rules.{nesting_limit, around}
use Rattle.tables.specs.Nodes.{Parts}
use Rattle.tables.specs.declared.Entry.{Entry}
use Rattle.tables.specs.declared.Connective.{Connective}
use Rattle.tables.specs.declared.Quantifier.{Quantifier}
use Rattle.tables.specs.declared.Comparison.{Comparison}
use Rattle.tables.specs.declared.Over.{Over}
use Rattle.tables.specs.declared.Over.TheVariants.{Roots, Under}
use Rattle.tables.specs.declared.Operand.{Operand}
use Rattle.tables.specs.declared.Operand.TheVariants.{Variable, Constant}
use Rattle.tables.specs.declared.Node.TheVariants as node
use Rattle.logic.specs.Formulas.{negation, joined, compared, over_of, operand_of, formula_at}
use Rattle.engine.specs.Ready.{NamedOther, NamedParent, Ready, ReadyRun, formula_by}
use Rattle.engine.specs.declared.bindings.Bindings.{Bindings}
use Rattle.engine.specs.declared.ranges.Quantified.{Quantified}
use Rattle.engine.proofs.Opened.{Opened, opened, not_formula, joined_formula, quantified_formula, compared_formula}

over_same : (u : ℕ) → cond (eqb u 0) Roots (Under (u - 1)) ≡ over_of u
over_same zero = refl
over_same (suc u) = rw (ne_eqb (suc u) 0 (λ z. omega arith)) (ap Under (let z : suc u - 1 ≡ u = omega arith in z))

operand_same : (u x : ℕ) → cond (eqb u 0) (Variable x) (Constant x) ≡ operand_of u x
operand_same zero x = refl
operand_same (suc u) x = rw (ne_eqb (suc u) 0 (λ z. omega arith)) refl

module _ (rule pool : List ℕ) (b : Bindings) (e : ℕ) (ready : Ready rule pool b e) (x : Entry) (x_is : x ≡ entry_at rule e) where
  entry : Opened rule e x
  entry = opened rule ready.rule_accepted e ready.inside x x_is

  child : (a : ℕ) → a < entry_count rule → around rule a ≡ around rule e → Ready rule pool b a
  child a l d = record {
    rule_accepted = ready.rule_accepted;
    pool_accepted = ready.pool_accepted;
    inside = l;
    depth_is = ready.depth_is ∙ sym d;
    placed = ready.placed;
  }

  module _ (a : ℕ) (p : Parts x (node.Not a)) where
    pub not_later : (e < a) × (a < entry_count rule)
    not_later = rw p.1 (entry.child (omega (arith, p.0)))

    pub not_ready : Ready rule pool b a
    not_ready = child a not_later.1 (rw p.1 (entry.child_depth (omega (arith, p.0))))

    pub not_is : formula_at rule e ≡ negation (formula_at rule a)
    not_is = rw p.1 (not_formula rule e x entry p.0)

  module _ (by : Connective) (l r : ℕ) (p : Parts x (node.Connective by l r)) where
    pub left_later : (e < l) × (l < entry_count rule)
    left_later = rw p.3 (entry.child (omega (arith, p.1)))

    pub left_ready : Ready rule pool b l
    left_ready = child l left_later.1 (rw p.3 (entry.child_depth p.1))

    pub right_later : (e < r) × (r < entry_count rule)
    right_later = rw p.4 (entry.right p.0 p.1)

    pub right_ready : Ready rule pool b r
    right_ready = child r right_later.1 (rw p.4 (entry.right_depth p.0 p.1))

    pub joined_is : formula_at rule e ≡ joined by (formula_at rule l) (formula_at rule r)
    joined_is = rw (p.2, p.3, p.4) (joined_formula rule e x entry p.0 p.1)

  module _ (by : Quantifier) (over : Over) (n a : ℕ) (p : Parts x (node.Quantifier by over n a)) where
    abbrev q : Quantified
    q = record { by = by; over = over; name = n; body = a }

    pub body_later : (e < a) × (a < entry_count rule)
    body_later = rw p.5 (entry.child p.1)

    over_is : over ≡ over_of x.b
    over_is = p.3 ∙ over_same x.b

    pub parent_bound : (v : ℕ) → over ≡ Under v → v < b.depth
    parent_bound v v_is = go x.b (entry.over_bound_lem p.0 p.1) (sym over_is ∙ v_is)
      where
        go : (u : ℕ) → u ≤ around rule e → over_of u ≡ Under v → v < b.depth
        go zero l h = cc
        go (suc w) l h = let z : w ≡ v = cc in omega (arith, ready.depth_is)

    pub parent_named : NamedParent over
    parent_named v v_is = omega (arith, parent_bound v v_is, ready.placed.shallow)

    pub run_ready : (i k : ℕ) → i + k ≤ row_count pool → ReadyRun rule pool b q i k
    run_ready i k h = record {
      rule_accepted = ready.rule_accepted;
      pool_accepted = ready.pool_accepted;
      placed = ready.placed;
      inside = body_later.1;
      body_depth = rw p.5 (entry.body_depth p.0 p.1 ∙ ap (λ (d : ℕ). d + 1) (sym ready.depth_is));
      room = omega (arith, entry.nesting p.0 p.1, ready.depth_is);
      parent = parent_named;
      place = h;
    }

    pub quantified_is : formula_at rule e ≡ formula_by rule q
    quantified_is = rw (p.2, over_is, p.4, p.5) (quantified_formula rule e x entry p.0 p.1)

  module _ (by : Comparison) (v : ℕ) (o : Operand) (p : Parts x (node.Comparison by v o)) where
    high : 7 ≤ x.kind
    high = p.0 entry.kind_range.0

    operand_is : o ≡ operand_of x.b x.c
    operand_is = p.3 ∙ operand_same x.b x.c

    pub variable_named : v < nesting_limit
    variable_named = omega (arith, p.2, entry.left_bound high, ready.depth_is, ready.placed.shallow)

    pub other_named : NamedOther o
    other_named w w_is = go x.b (entry.right_bound high) (sym operand_is ∙ w_is)
      where
        go : (u : ℕ) → (u ≡ 0 → x.c < around rule e) → operand_of u x.c ≡ Variable w → w < nesting_limit
        go zero h z = let y : x.c ≡ w = cc in omega (arith, h refl, ready.depth_is, ready.placed.shallow)
        go (suc u) h z = cc

    pub compared_is : formula_at rule e ≡ compared by v o
    compared_is = rw (p.1, p.2, operand_is) (compared_formula rule e x entry high)
