-- 02, wish 1: what a set of rules has to do with its rules. Assumes nothing.
use Rattle.std.specs.Prelude.{ℕ, ◌≡◌, true, List, [], ◌∷◌, length, leb}
use Rattle.base.specs.Lists.{◌∈◌, all}
use Rattle.tables.specs.Answers.{and_then, unless, value, output}
use Rattle.tables.specs.Words.{whole, entry_words, entry_count}
use Rattle.tables.specs.Rules.{check_rule}
use Rattle.tables.specs.declared.Row.{Row}
use Rattle.tables.specs.Answers.{Done}
use Rattle.sets.specs.Sets.{rules_of, check_set}
use Rattle.logic.specs.Formulas.{Formula, joined}
use Rattle.tables.specs.declared.Connective.TheVariants.{And}
use Rattle.logic.specs.Verdict.{verdict, verdict_answer, set_verdicts_answer, set_verdicts_out}
use Rattle.logic.specs.Parts.{reached, spare, reached_by_any, spare_for_each, part_of, part_answer, part_out, set_part_answer, set_part_out}
use Rattle.logic.specs.Demand.{Cut}
use Rattle.tables.specs.declared.Fault.TheVariants.{ShortOutput}

-- ---- one rule is a set of one, with its own count
abbrev pub own_count : List ℕ → List ℕ
own_count rule = entry_count rule ∷ []

-- the set's calls then give what the calls on the rule give: the same refusals, but for 17 of the byte buffer; the byte is the verdict's
-- value; the part is the same
pub record OfOne (rule : List ℕ) : Type 0 where
  pub rules_are : rules_of rule (own_count rule) ≡ rule ∷ []
  pub checked : check_set rule (own_count rule) ≡ and_then (check_rule rule) (Done 1)
  pub verdicts : (pool : List ℕ) (room : ℕ)
      → set_verdicts_answer rule (own_count rule) pool room ≡ and_then (verdict_answer rule pool) (unless (leb 1 room) ShortOutput (Done 1))
  pub bytes : (pool out : List ℕ) → set_verdicts_out rule (own_count rule) pool out
      ≡ output (set_verdicts_answer rule (own_count rule) pool (length out)) (value (verdict_answer rule pool) ∷ []) out
  pub part : (table : List ℕ) (mode room : ℕ) → set_part_answer rule (own_count rule) table mode room ≡ part_answer rule table mode room
  pub part_words : (table : List ℕ) (mode : ℕ) (out : List ℕ) → set_part_out rule (own_count rule) table mode out ≡ part_out rule table mode out

-- the claim, for a rule of whole entries: with a leftover word the set is 20, the rule 1
abbrev pub SetOfOne : Type 0
SetOfOne = (rule : List ℕ) → whole entry_words rule ≡ true → OfOne rule

-- for a set of one, reached and spare are those of its rule, and with them parts and cuts
pub record OneFormula (F : Formula) (D : List Row) : Type 0 where
  pub reached_is : reached_by_any (F ∷ []) D ≡ reached F D
  pub spare_is : spare_for_each (F ∷ []) D ≡ spare F D

abbrev pub AsOneFormula : Type 0
AsOneFormula = (F : Formula) (D : List Row) → OneFormula F D

-- ---- a cut for a set is a cut for each of its rules
abbrev pub CutForEach : Type 0
CutForEach =
    (F : Formula) (Fs : List Formula) (D C : List Row)
    → (Cut (spare_for_each (F ∷ Fs) D) D C → (G : Formula) → G ∈ (F ∷ Fs) → Cut (spare G D) D C)
    × (((G : Formula) → G ∈ (F ∷ Fs) → Cut (spare G D) D C) → Cut (spare_for_each (F ∷ Fs) D) D C)

-- ---- a set asks for the rows that its rules ask for in one, joined by and
abbrev pub conjunction : Formula → List Formula → Formula
conjunction F [] = F
conjunction F (G ∷ Gs) = joined And F (conjunction G Gs)

abbrev pub AsConjunction : Type 0
AsConjunction =
    (F : Formula) (Fs : List Formula) (D : List Row)
    → (verdict (conjunction F Fs) D ≡ all (λ G. verdict G D) (F ∷ Fs))
    × ((mode : ℕ) → part_of (F ∷ Fs) mode D ≡ part_of (conjunction F Fs ∷ []) mode D)
