-- The filled rule's formula is the template's with the parameters read directly (specs/Templates). Assumes nothing.
use Prim.Native.Nat.{ℕ, zero, suc, ◌+◌, ◌-◌, ◌≤◌}
use mathlib.Core.Path.{◌≡◌, refl, ap, ap₂, ◌∙◌}
use mathlib.Core.Bool.{Bool, true}
use mathlib.Core.List.{List, ◌∷◌}
use native.Mathlib.Omega.{arith}
use lib.ListN.{get_or, length}
use lib.Dec.{eqb}
use borrow.Author.Tests.{le-leb, lt-leb}
use Rattle.base.proofs.Bools.{either}
use Rattle.tables.specs.Answers.{is_done, and_then}
use Rattle.tables.specs.Words.{entry_at, entry_count, rows}
use Rattle.tables.specs.Rules.{one, to_parameter, check_rule}
use Rattle.tables.specs.Tables.{check_table}
use Rattle.tables.specs.declared.Entry.{Entry}
use Rattle.tables.specs.Answers.{Done}
use Rattle.tables.proofs.Answers.{and_then_passed}
use Rattle.templates.specs.Templates.{filled_entry, filled, fill_answer, written}
use Rattle.templates.proofs.Filling.{filled_other, filled_entry_lem, filled_length}
use Rattle.templates.proofs.Ordinary.{written_is, fills_to_rules}
use Rattle.logic.specs.Formulas.{Formula, operand_of, no_formula, build, formulas, formula_by, formula}
use Rattle.logic.specs.Verdict.{verdict, verdict_answer}
use Rattle.logic.specs.Templates.{operand_in, template_formula, FilledVerdict, FilledAnswer}

-- ---- an entry and what filling makes of it, over the same formulas of their children
module _ (ps : List ℕ) (a b c : ℕ) (f : ℕ → Formula) where
  Same : Entry → Type 0
  Same e = build operand_of (filled_entry ps e) f ≡ build (operand_in ps) e f

  abbrev entry : ℕ → Entry
  entry k = record { kind = k; a = a; b = b; c = c }

  -- by its kind; of a comparison b is 2, or it is read as in a rule
  build_filled : (k : ℕ) → Same (entry k)
  unfolding Same
  build_filled zero = refl
  build_filled (suc zero) = refl
  build_filled (suc (suc zero)) = refl
  build_filled (suc (suc (suc zero))) = refl
  build_filled (suc (suc (suc (suc zero)))) = refl
  build_filled (suc (suc (suc (suc (suc zero))))) = refl
  build_filled (suc (suc (suc (suc (suc (suc zero)))))) = refl
  build_filled (suc (suc (suc (suc (suc (suc (suc zero))))))) = either (eqb b to_parameter) (λ g. rw g) (λ g. rw g)
  build_filled (suc (suc (suc (suc (suc (suc (suc (suc zero)))))))) = either (eqb b to_parameter) (λ g. rw g) (λ g. rw g)
  build_filled (suc (suc (suc (suc (suc (suc (suc (suc (suc zero))))))))) = either (eqb b to_parameter) (λ g. rw g) (λ g. rw g)
  build_filled (suc (suc (suc (suc (suc (suc (suc (suc (suc (suc k)))))))))) =
      let ten : ℕ = suc (suc (suc (suc (suc (suc (suc (suc (suc (suc k))))))))) in
      ap (λ (e : Entry). build operand_of e f) (filled_other ps (entry ten) (rw (le-leb 7 ten (omega arith), lt-leb ten 9 (omega arith))))

-- ---- from the last entry back to entry 0
module _ (t ps : List ℕ) where
  formulas_filled : (i n : ℕ) → i + n ≤ entry_count t → formulas operand_of (filled t ps) i n ≡ formulas (operand_in ps) t i n
  unfolding formulas Same
  formulas_filled i zero h = refl
  formulas_filled i (suc n) h =
      let later = formulas_filled (suc i) n (omega arith) in
      let e = entry_at t i in
      ap₂ ◌∷◌
      (ap₂ (λ (x : Entry) (l : List Formula). build operand_of x (λ k. get_or l (k - suc i) no_formula)) (filled_entry_lem t ps i (omega arith)) later
      ∙ build_filled ps e.a e.b e.c (λ k. get_or (formulas (operand_in ps) t (suc i) n) (k - suc i) no_formula) e.kind)
      later

  formula_filled : formula (filled t ps) ≡ template_formula t ps
  unfolding formula_by
  formula_filled =
      ap (λ (n : ℕ). get_or (formulas operand_of (filled t ps) 0 n) 0 no_formula) (let l = filled_length t ps in omega (arith, l))
      ∙ ap (λ (l : List Formula). get_or l 0 no_formula) (formulas_filled 0 (entry_count t) (omega arith))

-- so has the rule that filling writes that formula, and with it the template's verdict
pub written_formula : (t ps out : List ℕ) → is_done (fill_answer t ps (length out)) ≡ true → formula (written t ps out) ≡ template_formula t ps
written_formula t ps out ok = ap formula (written_is t ps out ok) ∙ formula_filled t ps

pub filled_verdict : FilledVerdict
filled_verdict t ps out ok T = ap (λ (F : Formula). verdict F T) (written_formula t ps out ok)

pub filled_answer : FilledAnswer
unfolding verdict_answer
filled_answer t ps out pool ok =
    and_then_passed (check_rule (written t ps out)) _ (ap is_done (fills_to_rules t ps out ok).accepted)
    ∙ ap (λ (b : Bool). and_then (check_table pool) (Done (one b))) (filled_verdict t ps out ok (rows pool))
