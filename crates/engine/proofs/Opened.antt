-- What an entry of an accepted rule tells when the code has read it: its formula by its kind, its children, its variables. Assumes nothing.
use Prim.Native.Nat.{ℕ, zero, suc, ◌+◌, ◌-◌, ◌<◌, ◌≤◌}
use mathlib.Core.Path.{◌≡◌, refl, sym, ap, subst, ◌∙◌}
use mathlib.Core.Bool.{true}
use mathlib.Core.List.{List}
use native.Mathlib.Omega.{arith}
use Rattle.tables.specs.Words.{entry_at, entry_count}
use Rattle.tables.specs.Rules.{nesting_limit, to_constant, around, accepted_rule}
use Rattle.tables.specs.declared.Entry.{Entry}
use Rattle.tables.proofs.AcceptedRule as entries
use Rattle.logic.specs.Formulas.{Formula, negation, joined, quantified, compared, over_of, operand_of, build, formula_at}
use Rattle.logic.proofs.Formulas.{formula_at_lem}
use Rattle.tables.specs.Nodes.{connective_kind, quantifier_kind, comparison_kind}

pub record Opened (rule : List ℕ) (e : ℕ) (x : Entry) : Type 0 where
  pub formula_is : formula_at rule e ≡ build operand_of x (formula_at rule)
  pub kind_range : (1 ≤ x.kind) × (x.kind ≤ 9)
  pub child : x.kind ≤ 6 → (e < x.a) × (x.a < entry_count rule)
  pub child_depth : x.kind ≤ 4 → around rule x.a ≡ around rule e
  pub right : 2 ≤ x.kind → x.kind ≤ 4 → (e < x.b) × (x.b < entry_count rule)
  pub right_depth : 2 ≤ x.kind → x.kind ≤ 4 → around rule x.b ≡ around rule e
  pub body_depth : 5 ≤ x.kind → x.kind ≤ 6 → around rule x.a ≡ around rule e + 1
  pub nesting : 5 ≤ x.kind → x.kind ≤ 6 → around rule e < nesting_limit
  pub over_bound_lem : 5 ≤ x.kind → x.kind ≤ 6 → x.b ≤ around rule e
  pub left_bound : 7 ≤ x.kind → x.a < around rule e
  pub right_bound : 7 ≤ x.kind → x.b ≡ 0 → x.c < around rule e

pub opened : (rule : List ℕ) → accepted_rule rule ≡ true → (e : ℕ) → e < entry_count rule → (x : Entry) → x ≡ entry_at rule e → Opened rule e x
opened rule ok e h x x_is =
    subst (Opened rule e) (sym x_is)
    (record {
      formula_is = formula_at_lem operand_of to_constant rule ok e h;
      kind_range = entries.kind_range to_constant rule ok e h;
      child = entries.child_later to_constant rule ok e h;
      child_depth = entries.child_depth to_constant rule ok e h;
      right = entries.right_later to_constant rule ok e h;
      right_depth = entries.right_depth to_constant rule ok e h;
      body_depth = entries.body_depth to_constant rule ok e h;
      nesting = entries.nesting to_constant rule ok e h;
      over_bound_lem = entries.over_bound_lem to_constant rule ok e h;
      left_bound = entries.left_bound to_constant rule ok e h;
      right_bound = entries.right_bound to_constant rule ok e h;
    })

-- ---- the formula by the entry's kind
module _ (a b c : ℕ) (f : ℕ → Formula) where
  connective : (k : ℕ) → k ≤ 2 → build operand_of (record { kind = 2 + k; a = a; b = b; c = c }) f ≡ joined (connective_kind (2 + k)) (f a) (f b)
  connective zero h = refl
  connective (suc zero) h = refl
  connective (suc (suc zero)) h = refl
  connective (suc (suc (suc k))) h = absurd (omega arith)

  quantifier : (k : ℕ) → k ≤ 1 → build operand_of (record { kind = 5 + k; a = a; b = b; c = c }) f ≡ quantified (quantifier_kind (5 + k)) (over_of b) c (f a)
  quantifier zero h = refl
  quantifier (suc zero) h = refl
  quantifier (suc (suc k)) h = absurd (omega arith)

  comparison : (k : ℕ) → k ≤ 2 → build operand_of (record { kind = 7 + k; a = a; b = b; c = c }) f ≡ compared (comparison_kind (7 + k)) a (operand_of b c)
  comparison zero h = refl
  comparison (suc zero) h = refl
  comparison (suc (suc zero)) h = refl
  comparison (suc (suc (suc k))) h = absurd (omega arith)

module _ (rule : List ℕ) (e : ℕ) (x : Entry) (o : Opened rule e x) where
  -- the entry with another kind
  with_kind : ℕ → Formula
  with_kind k = build operand_of (record { kind = k; a = x.a; b = x.b; c = x.c }) (formula_at rule)

  pub not_formula : x.kind ≡ 1 → formula_at rule e ≡ negation (formula_at rule x.a)
  unfolding with_kind
  not_formula h = o.formula_is ∙ ap with_kind h

  module _ (h : 2 ≤ x.kind) (l : x.kind ≤ 4) where
    pub joined_formula : formula_at rule e ≡ joined (connective_kind x.kind) (formula_at rule x.a) (formula_at rule x.b)
    unfolding with_kind
    joined_formula =
        o.formula_is
        ∙ subst (λ (k : ℕ). with_kind k ≡ joined (connective_kind k) (formula_at rule x.a) (formula_at rule x.b)) (let z : 2 + (x.kind - 2) ≡ x.kind = omega arith in z)
        (connective x.a x.b x.c (formula_at rule) (x.kind - 2) (omega arith))

  module _ (h : 5 ≤ x.kind) (l : x.kind ≤ 6) where
    pub quantified_formula : formula_at rule e ≡ quantified (quantifier_kind x.kind) (over_of x.b) x.c (formula_at rule x.a)
    unfolding with_kind
    quantified_formula =
        o.formula_is
        ∙ subst (λ (k : ℕ). with_kind k ≡ quantified (quantifier_kind k) (over_of x.b) x.c (formula_at rule x.a)) (let z : 5 + (x.kind - 5) ≡ x.kind = omega arith in z)
        (quantifier x.a x.b x.c (formula_at rule) (x.kind - 5) (omega arith))

  pub compared_formula : 7 ≤ x.kind → formula_at rule e ≡ compared (comparison_kind x.kind) x.a (operand_of x.b x.c)
  unfolding with_kind
  compared_formula h =
      o.formula_is
      ∙ subst (λ (k : ℕ). with_kind k ≡ compared (comparison_kind k) x.a (operand_of x.b x.c)) (let z : 7 + (x.kind - 7) ≡ x.kind = omega arith in z)
      (comparison x.a x.b x.c (formula_at rule) (x.kind - 7) (omega (arith, o.kind_range.1)))
