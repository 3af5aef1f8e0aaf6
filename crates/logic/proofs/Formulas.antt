-- The formula of an entry of an accepted rule or template is built from those of its children, however comparisons are read. Assumes nothing.
use Prim.Native.Nat.{ℕ, zero, suc, ◌+◌, ◌-◌, ◌<◌, ◌≤◌}
use mathlib.Core.Path.{◌≡◌, refl, ap, ap₂, ◌∙◌}
use mathlib.Core.Bool.{true}
use mathlib.Core.List.{List}
use native.Mathlib.Omega.{arith}
use lib.ListN.{get_or, drop}
use lib.Seq.{get_or-drop}
use Rattle.tables.specs.Words.{entry_at, entry_count}
use Rattle.tables.specs.Answers.{is_done}
use Rattle.tables.specs.Rules.{check_entries}
use Rattle.tables.proofs.AcceptedRule.{child_later, right_later}
use Rattle.logic.specs.Formulas.{Formula, negation, joined, quantified, over_of, no_formula}
use Rattle.tables.specs.declared.Quantifier.TheVariants.{Every, Exists}
use Rattle.tables.specs.declared.Connective.TheVariants.{And, Or, Implies}
use Rattle.tables.specs.declared.Operand.{Operand}
use Rattle.logic.specs.Formulas.{build, formulas, formula_by}

-- the formula of entry i + k, over those that follow it
formulas_at : (operand : ℕ → ℕ → Operand) (r : List ℕ) (i n k : ℕ) → k < n
    → get_or (formulas operand r i n) k no_formula
    ≡ build operand (entry_at r (i + k)) (λ j. get_or (drop (suc k) (formulas operand r i n)) (j - suc (i + k)) no_formula)
unfolding formulas
formulas_at operand r i zero k h = absurd (omega arith)
formulas_at operand r i (suc n) zero h =
    ap (λ (m : ℕ). build operand (entry_at r m) (λ j. get_or (formulas operand r (suc i) n) (j - suc m) no_formula)) (omega arith)
formulas_at operand r i (suc n) (suc k) h =
    formulas_at operand r (suc i) n k (omega arith)
    ∙ ap (λ (m : ℕ). build operand (entry_at r m) (λ j. get_or (drop (suc k) (formulas operand r (suc i) n)) (j - suc m) no_formula)) (omega arith)

-- only the formulas of an entry's children count
build_same : (operand : ℕ → ℕ → Operand) (k a b c : ℕ) (f g : ℕ → Formula) → (k ≤ 6 → f a ≡ g a) → (2 ≤ k → k ≤ 4 → f b ≡ g b)
    → build operand (record { kind = k; a = a; b = b; c = c }) f ≡ build operand (record { kind = k; a = a; b = b; c = c }) g
build_same operand zero a b c f g l r = refl
build_same operand (suc zero) a b c f g l r = ap negation (l (omega arith))
build_same operand (suc (suc zero)) a b c f g l r = ap₂ (joined And) (l (omega arith)) (r (omega arith) (omega arith))
build_same operand (suc (suc (suc zero))) a b c f g l r = ap₂ (joined Or) (l (omega arith)) (r (omega arith) (omega arith))
build_same operand (suc (suc (suc (suc zero)))) a b c f g l r = ap₂ (joined Implies) (l (omega arith)) (r (omega arith) (omega arith))
build_same operand (suc (suc (suc (suc (suc zero))))) a b c f g l r = ap (quantified Every (over_of b) c) (l (omega arith))
build_same operand (suc (suc (suc (suc (suc (suc zero)))))) a b c f g l r = ap (quantified Exists (over_of b) c) (l (omega arith))
build_same operand (suc (suc (suc (suc (suc (suc (suc k))))))) a b c f g l r = refl

-- the formula of entry k, over those of later entries
module _ (operand : ℕ → ℕ → Operand) (r : List ℕ) (k : ℕ) where
  pub later : ℕ → Formula
  later j = get_or (drop (suc k) (formulas operand r 0 (entry_count r))) (j - suc k) no_formula

  pub later_is : (j : ℕ) → k < j → later j ≡ formula_by operand r j
  unfolding later formula_by
  later_is j l =
      get_or-drop (suc k) (formulas operand r 0 (entry_count r)) (j - suc k) no_formula
      ∙ ap (λ (m : ℕ). get_or (formulas operand r 0 (entry_count r)) m no_formula) (omega arith)

  pub formula_later : k < entry_count r → formula_by operand r k ≡ build operand (entry_at r k) later
  unfolding later formula_by
  formula_later h =
      formulas_at operand r 0 (entry_count r) k h
      ∙ ap (λ (m : ℕ). build operand (entry_at r m) (λ j. get_or (drop (suc k) (formulas operand r 0 (entry_count r))) (j - suc m) no_formula))
      (let z : 0 + k ≡ k = omega arith in z)

module _ (operand : ℕ → ℕ → Operand) (most : ℕ) (r : List ℕ) (ok : is_done (check_entries most r) ≡ true) where
  pub formula_at_lem : (k : ℕ) → k < entry_count r → formula_by operand r k ≡ build operand (entry_at r k) (formula_by operand r)
  formula_at_lem k h =
      formula_later operand r k h
      ∙ build_same operand (entry_at r k).kind (entry_at r k).a (entry_at r k).b (entry_at r k).c (later operand r k) (formula_by operand r)
      (λ l. later_is operand r k (entry_at r k).a (child_later most r ok k h l).0)
      (λ l m. later_is operand r k (entry_at r k).b (right_later most r ok k h l m).0)
