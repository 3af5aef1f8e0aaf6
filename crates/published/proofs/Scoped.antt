-- An accepted rule's variables are bound where they are used. Assumes nothing.
use Prim.Native.Nat.{ℕ, zero, suc, ◌+◌, ◌≤◌, ◌<◌}
use native.Mathlib.Numerals.{add-one}
use native.Mathlib.Omega.{arith}
use mathlib.Core.Path.{◌≡◌, refl, sym, ap, ◌∙◌}
use mathlib.Core.Bool.{Bool, true, ◌&&◌}
use mathlib.Core.List.{List}
use lib.Dec.{ltb}
use borrow.Author.Tests.{lt-ltb}
use Rattle.base.proofs.Bools.{and_both}
use Rattle.tables.specs.Words.{entry_at, entry_count}
use Rattle.tables.specs.Rules.{to_constant, around_from, around, accepted_rule}
use Rattle.tables.proofs.AcceptedRule.{kind_range, some_entry, child_later, child_depth, right_later, right_depth, body_depth, over_bound_lem, left_bound, right_bound}
use Rattle.logic.specs.Formulas.{Formula, negation, joined, quantified, compared, over_of, operand_of, build, formula_at, formula}
use Rattle.tables.specs.declared.Over.{Over}
use Rattle.tables.specs.declared.Over.TheVariants.{Roots, Under}
use Rattle.tables.specs.declared.Operand.{Operand}
use Rattle.tables.specs.declared.Operand.TheVariants.{Variable, Constant}
use Rattle.logic.proofs.Formulas.{formula_at_lem}

-- ---- every variable is bound where it is used; d quantifiers stand around
abbrev pub over_bound : Over → ℕ → Bool
over_bound Roots d = true
over_bound (Under x) d = ltb x d

abbrev pub operand_bound : Operand → ℕ → Bool
operand_bound (Variable x) d = ltb x d
operand_bound (Constant k) d = true

unfoldable pub scoped : Formula → ℕ → Bool
scoped (negation φ) d = scoped φ d
scoped (joined c φ ψ) d = scoped φ d && scoped ψ d
scoped (quantified q o p φ) d = over_bound o d && scoped φ (suc d)
scoped (compared c x y) d = ltb x d && operand_bound y d

-- ---- an entry's formula, by its kind, from those of its children
module _ (a b c d : ℕ) (f : ℕ → Formula) where
  over_is : b ≤ d → over_bound (over_of b) d ≡ true
  over_is = go b
    where
      go : (x : ℕ) → x ≤ d → over_bound (over_of x) d ≡ true
      go zero h = refl
      go (suc x) h = lt-ltb x d (omega arith)

  operand_is : (b ≡ 0 → c < d) → operand_bound (operand_of b c) d ≡ true
  operand_is = go b
    where
      go : (x : ℕ) → (x ≡ 0 → c < d) → operand_bound (operand_of x c) d ≡ true
      go zero h = lt-ltb c d (h refl)
      go (suc x) h = refl

  -- what the checks say of a connective's, a quantifier's and a comparison's words
  record Bound (kind : ℕ) : Type 0 where
    known : (1 ≤ kind) × (kind ≤ 9)
    left : kind ≤ 4 → scoped (f a) d ≡ true
    right : 2 ≤ kind → kind ≤ 4 → scoped (f b) d ≡ true
    over : 5 ≤ kind → kind ≤ 6 → b ≤ d
    body : 5 ≤ kind → kind ≤ 6 → scoped (f a) (suc d) ≡ true
    first : 7 ≤ kind → a < d
    second : 7 ≤ kind → b ≡ 0 → c < d

  build_scoped : (kind : ℕ) → Bound kind → scoped (build operand_of (record { kind = kind; a = a; b = b; c = c }) f) d ≡ true
  unfolding scoped
  build_scoped zero h = absurd (omega (arith, h.known.0))
  build_scoped (suc zero) h = h.left (omega arith)
  build_scoped (suc (suc zero)) h = and_both _ _ (h.left (omega arith)) (h.right (omega arith) (omega arith))
  build_scoped (suc (suc (suc zero))) h = and_both _ _ (h.left (omega arith)) (h.right (omega arith) (omega arith))
  build_scoped (suc (suc (suc (suc zero)))) h = and_both _ _ (h.left (omega arith)) (h.right (omega arith) (omega arith))
  build_scoped (suc (suc (suc (suc (suc zero))))) h = and_both _ _ (over_is (h.over (omega arith) (omega arith))) (h.body (omega arith) (omega arith))
  build_scoped (suc (suc (suc (suc (suc (suc zero)))))) h = and_both _ _ (over_is (h.over (omega arith) (omega arith))) (h.body (omega arith) (omega arith))
  build_scoped (suc (suc (suc (suc (suc (suc (suc zero))))))) h = and_both _ _ (lt-ltb a d (h.first (omega arith))) (operand_is (h.second (omega arith)))
  build_scoped (suc (suc (suc (suc (suc (suc (suc (suc zero)))))))) h = and_both _ _ (lt-ltb a d (h.first (omega arith))) (operand_is (h.second (omega arith)))
  build_scoped (suc (suc (suc (suc (suc (suc (suc (suc (suc zero))))))))) h = and_both _ _ (lt-ltb a d (h.first (omega arith))) (operand_is (h.second (omega arith)))
  build_scoped (suc (suc (suc (suc (suc (suc (suc (suc (suc (suc k)))))))))) h = absurd (omega (arith, h.known.1))

-- ---- from the last entry back to entry 0
module _ (r : List ℕ) (ok : accepted_rule r ≡ true) where
  -- an entry's formula is scoped if those of the later entries are
  entry_scoped : (i : ℕ) → i < entry_count r → ((j d : ℕ) → (i < j) × (j < entry_count r) → around r j ≡ d → scoped (formula_at r j) d ≡ true)
      → scoped (formula_at r i) (around r i) ≡ true
  entry_scoped i h later =
      ap (λ (φ : Formula). scoped φ (around r i)) (formula_at_lem operand_of to_constant r ok i h)
      ∙ build_scoped (entry_at r i).a (entry_at r i).b (entry_at r i).c (around r i) (formula_at r) (entry_at r i).kind
      (record {
        known = kind_range to_constant r ok i h;
        left = λ k. later (entry_at r i).a (around r i) (child_later to_constant r ok i h (omega arith)) (child_depth to_constant r ok i h k);
        right = λ j k. later (entry_at r i).b (around r i) (right_later to_constant r ok i h j k) (right_depth to_constant r ok i h j k);
        over = λ j k. over_bound_lem to_constant r ok i h j k;
        body = λ j k. later (entry_at r i).a (suc (around r i)) (child_later to_constant r ok i h k) (body_depth to_constant r ok i h j k ∙ add-one (around r i));
        first = λ j. left_bound to_constant r ok i h j;
        second = λ j e. right_bound to_constant r ok i h j e;
      })

  scoped_from : (m i : ℕ) → i < entry_count r → entry_count r ≤ i + m → scoped (formula_at r i) (around r i) ≡ true
  scoped_from zero i h l = absurd (omega arith)
  scoped_from (suc m) i h l = entry_scoped i h (λ j d w e. ap (scoped (formula_at r j)) (sym e) ∙ scoped_from m j w.1 (omega (arith, w.0)))

  pub rule_scoped : scoped (formula r) 0 ≡ true
  unfolding around_from
  rule_scoped = scoped_from (entry_count r) 0 (some_entry to_constant r ok) (omega arith)
