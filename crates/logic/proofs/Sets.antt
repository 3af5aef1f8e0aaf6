-- A set of one rule is that rule; a cut for a set is a cut for each rule; a set asks for what its conjunction asks for. Assumes nothing.
use Prim.Native.Nat.{ℕ, ◌+◌, ◌*◌}
use native.Mathlib.Omega.{arith}
use mathlib.Core.Path.{◌≡◌, refl, sym, ap, ap₂, fun_ext, ◌∙◌}
use mathlib.Core.Logic.{◌⊎◌, inl, inr}
use mathlib.Core.Bool.{Bool, true, not, cond, ◌&&◌, ◌||◌, and-true, or-false}
use mathlib.Core.List.Memᴰ
use mathlib.Core.List.{List, [], ◌∷◌, map}
use lib.ListN.{length}
use lib.Seq.{take_all}
use lib.Dec.{eqb, leb}
use borrow.Author.Tests.{eq-eqb}
use Rattle.base.specs.Lists.{◌∈◌, all}
use Rattle.base.specs.Search.{sum_below}
use Rattle.base.proofs.Bools.{and_both}
use Rattle.tables.specs.Answers.{and_then, unless, fitting, value, output}
use Rattle.tables.specs.Words.{whole, entry_words, entry_count, rows}
use Rattle.tables.specs.Rules.{one, check_rule}
use Rattle.tables.specs.Tables.{check_table}
use Rattle.tables.specs.declared.Row.{Row}
use Rattle.tables.specs.Answers.{Answer}
use Rattle.tables.specs.Answers.{Done, Refused}
use Rattle.tables.proofs.Answers.{unless_passed}
use Rattle.tables.proofs.Whole.{whole_lines}
use Rattle.sets.specs.Sets.{rule_at, rules_from, rules_of, counts_fit, shifted, rule_by_rule, check_set}
use Rattle.logic.specs.Formulas.{Formula, formula, formulas_of}
use Rattle.logic.specs.Verdict.{holds, verdict, verdict_answer, set_verdicts_answer, set_verdicts_out}
use Rattle.logic.specs.Parts.{reached_in, reached, spare_in, spare, reached_by_any, spare_for_each, part_by, branch_part, full_part, part_of, words_of, send_answer, send_out}
use Rattle.logic.specs.Demand.{Under}
use Rattle.logic.specs.Sets.{own_count, OfOne, SetOfOne, AsOneFormula, CutForEach, conjunction, AsConjunction}
use Rattle.logic.proofs.Cuts.{cut_for}
use Rattle.tables.specs.declared.Fault.TheVariants.{ShortOutput, Counts}
use Rattle.std.specs.Prelude.{Err}

-- ---- a set of one
unshifted : (a : Answer) → shifted 0 a ≡ a
unshifted (Done n) = refl
unshifted (Err r) = ap (Refused r.fault) (omega arith)

module _ (rule : List ℕ) (ok : whole entry_words rule ≡ true) where
  abbrev n : ℕ
  n = entry_count rule

  whole_rule : rule_at rule (own_count rule) 0 ≡ rule
  unfolding sum_below
  whole_rule = take_all (entry_words * n) rule (omega (arith, whole_lines entry_words rule ok))

  rules_one : rules_of rule (own_count rule) ≡ rule ∷ []
  unfolding rules_from
  rules_one = ap (λ (r : List ℕ). r ∷ []) whole_rule

  formulas_one : formulas_of rule (own_count rule) ≡ formula rule ∷ []
  formulas_one = ap (map formula) rules_one

  fits : counts_fit rule (own_count rule) ≡ true
  unfolding sum_below
  fits = and_both (whole entry_words rule) (eqb (0 + n) n) ok (eq-eqb (0 + n) n (omega arith))

  check_one : check_set rule (own_count rule) ≡ and_then (check_rule rule) (Done 1)
  unfolding check_set rule_by_rule sum_below
  check_one =
      unless_passed (counts_fit rule (own_count rule)) Counts _ fits
      ∙ ap (λ (a : Answer). and_then a (Done 1)) (unshifted (check_rule (rule_at rule (own_count rule) 0)) ∙ ap check_rule whole_rule)

  -- the rule's refusals, then the table's, then 17
  in_turn : (a b : Answer) (v room : ℕ) → and_then (and_then a (Done 1)) (and_then b (fitting (v ∷ []) room)) ≡ and_then (and_then a (and_then b (Done v))) (unless (leb 1 room) ShortOutput (Done 1))
  in_turn (Done x) (Done y) v room = refl
  in_turn (Done x) (Err r) v room = refl
  in_turn (Err r) b v room = refl

  value_is : (a b : Answer) (v room : ℕ) (out : List ℕ)
      → output (and_then (and_then a (Done 1)) (and_then b (fitting (v ∷ []) room))) (v ∷ []) out
      ≡ output (and_then (and_then a (Done 1)) (and_then b (fitting (v ∷ []) room))) (value (and_then a (and_then b (Done v))) ∷ []) out
  value_is (Done x) (Done y) v room out = refl
  value_is (Done x) (Err r) v room out = refl
  value_is (Err r) b v room out = refl

  module _ (pool : List ℕ) where
    abbrev byte : ℕ
    byte = one (verdict (formula rule) (rows pool))

    abbrev answered : Answer → List Formula → ℕ → Answer
    answered a Fs room = and_then a (and_then (check_table pool) (fitting (map (λ F. one (verdict F (rows pool))) Fs) room))

    verdicts_one : (room : ℕ) → set_verdicts_answer rule (own_count rule) pool room ≡ and_then (verdict_answer rule pool) (unless (leb 1 room) ShortOutput (Done 1))
    unfolding set_verdicts_answer verdict_answer
    verdicts_one room = ap₂ (λ (a : Answer) (Fs : List Formula). answered a Fs room) check_one formulas_one ∙ in_turn (check_rule rule) (check_table pool) byte room

    bytes_one : (out : List ℕ) → set_verdicts_out rule (own_count rule) pool out
        ≡ output (set_verdicts_answer rule (own_count rule) pool (length out)) (value (verdict_answer rule pool) ∷ []) out
    unfolding set_verdicts_out set_verdicts_answer verdict_answer
    bytes_one out =
        ap₂ (λ (a : Answer) (Fs : List Formula). output (answered a Fs (length out)) (map (λ F. one (verdict F (rows pool))) Fs) out) check_one formulas_one
        ∙ value_is (check_rule rule) (check_table pool) byte (length out) out
        ∙ sym (ap₂ (λ (a : Answer) (Fs : List Formula). output (answered a Fs (length out)) (value (verdict_answer rule pool) ∷ []) out) check_one formulas_one)

  -- a value that no one reads
  same_next : (a next : Answer) → and_then (and_then a (Done 1)) next ≡ and_then a next
  same_next (Done x) next = refl
  same_next (Err r) next = refl

  send_one : (table : List ℕ) (mode room : ℕ) → send_answer (check_set rule (own_count rule)) (formulas_of rule (own_count rule)) table mode room ≡ send_answer (check_rule rule) (formula rule ∷ []) table mode room
  unfolding send_answer
  send_one table mode room =
      ap₂ (λ (a : Answer) (Fs : List Formula). send_answer a Fs table mode room) check_one formulas_one ∙ same_next (check_rule rule) _

  words_one : (table : List ℕ) (mode : ℕ) (out : List ℕ) → send_out (check_set rule (own_count rule)) (formulas_of rule (own_count rule)) table mode out ≡ send_out (check_rule rule) (formula rule ∷ []) table mode out
  unfolding send_out
  words_one table mode out =
      ap₂ (λ (a : Answer) (Fs : List Formula). output a (words_of (part_of Fs mode (rows table))) out) (send_one table mode (length out)) formulas_one

  of_one : OfOne rule
  of_one = record {
    rules_are = rules_one;
    checked = check_one;
    verdicts = verdicts_one;
    bytes = bytes_one;
    part = send_one;
    part_words = words_one;
  }

pub set_of_one : SetOfOne
set_of_one = of_one

pub as_one_formula : AsOneFormula
unfolding reached_by_any spare_for_each
as_one_formula F D = record { reached_is = fun_ext (λ r. or-false (reached F D r)); spare_is = fun_ext (λ r. and-true (spare F D r)) }

-- ---- cuts
pub cut_for_each : CutForEach
unfolding spare_for_each
cut_for_each F Fs D C = (
  λ c G m. cut_for c G m,
  λ h. record {
    keeps = (h F (Memᴰ.head refl)).keeps;
    left_out = λ r i n. go r (F ∷ Fs) (λ G m. (h G m).left_out r i n);
    sent = (h F (Memᴰ.head refl)).sent;
  },
)
  where
    Above : Row → Type 0
    Above r = (s : Row) × (s ∈ D) × (¬ (s ∈ C)) × Under D r s

    go : (r : Row) (Gs : List Formula) → ((G : Formula) → G ∈ Gs → (spare G D r ≡ true) ⊎ Above r) → (all (λ G. spare G D r) Gs ≡ true) ⊎ Above r
    go r [] h = inl refl
    go r (G ∷ Gs) h = both (h G (Memᴰ.head refl)) (go r Gs (λ H m. h H (Memᴰ.tail m)))
      where
        both : (spare G D r ≡ true) ⊎ Above r → (all (λ H. spare H D r) Gs ≡ true) ⊎ Above r → ((spare G D r && all (λ H. spare H D r) Gs) ≡ true) ⊎ Above r
        both (inl e) (inl f) = inl (and_both _ _ e f)
        both (inl e) (inr u) = inr u
        both (inr u) f = inr u

-- ---- the conjunction
module _ (D : List Row) where
  verdicts_joined : (F : Formula) (Gs : List Formula) → verdict (conjunction F Gs) D ≡ all (λ G. verdict G D) (F ∷ Gs)
  unfolding verdict holds
  verdicts_joined F [] = sym (and-true (verdict F D))
  verdicts_joined F (G ∷ Gs) = ap (◌&&◌ (verdict F D)) (verdicts_joined G Gs)

  module _ (r : Row) where
    reached_joined : (F : Formula) (Gs : List Formula) → reached_by_any (F ∷ Gs) D r ≡ reached (conjunction F Gs) D r
    unfolding reached_by_any reached reached_in
    reached_joined F [] = or-false (reached F D r)
    reached_joined F (G ∷ Gs) = ap (◌||◌ (reached F D r)) (reached_joined G Gs)

    spare_joined : (F : Formula) (Gs : List Formula) → spare_for_each (F ∷ Gs) D r ≡ spare (conjunction F Gs) D r
    unfolding spare_for_each spare spare_in
    spare_joined F [] = and-true (spare F D r)
    spare_joined F (G ∷ Gs) = ap (◌&&◌ (spare F D r)) (spare_joined G Gs)

  part_joined : (F : Formula) (Gs : List Formula) (mode : ℕ) → part_of (F ∷ Gs) mode D ≡ part_of (conjunction F Gs ∷ []) mode D
  unfolding part_of branch_part full_part
  part_joined F Gs mode =
      let K = conjunction F Gs in
      ap₂ (λ (is_reached is_spare : Row → Bool). cond (eqb mode 1) D (cond (eqb mode 2) (part_by is_reached D) (part_by (λ r. not (is_spare r)) D)))
      (fun_ext (λ r. reached_joined r F Gs ∙ sym (reached_joined r K [])))
      (fun_ext (λ r. spare_joined r F Gs ∙ sym (spare_joined r K [])))

pub as_conjunction : AsConjunction
as_conjunction F Fs D = (verdicts_joined D F Fs, part_joined D F Fs)
