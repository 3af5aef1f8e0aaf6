-- What the code that writes the table after a step rests on, over plain variables. Assumes nothing.
use Prim.Native.Nat.{ℕ, ◌+◌, ◌-◌, ◌≤◌}
use mathlib.Core.Path.{◌≡◌, refl, sym, ap, ap₂, ◌∙◌}
use mathlib.Core.Bool.{Bool, true, false, not, cond, ◌&&◌, ◌||◌}
use mathlib.Core.List.{List, ◌++◌}
use native.Mathlib.Omega.{arith}
use lib.ListN.{length, take, drop, length-append, length-drop}
use lib.Seq.{sets, sets-eq, length-take-le, take_all}
use lib.Dec.{eqb, ltb, leb}
use borrow.Author.Tests.{leb-true, ltb-true, ne_eqb, not-true}
use Rattle.base.proofs.Copies.{sets_append}
use Rattle.base.proofs.Bools.{and_left, and_right}
use Rattle.base.proofs.Search.{first_le}
use Rattle.tables.specs.Answers.{is_done, value, unless}
use Rattle.tables.specs.Words.{row_at, row_count}
use Rattle.tables.specs.Tables.{is_above}
use Rattle.tables.specs.declared.Row.{Row}
use Rattle.tables.specs.Answers.{Answer, Done, Refused}
use Rattle.tables.specs.declared.refusals.Fault.TheVariants.{Absent, Removal}
use Rattle.tables.specs.declared.refusals.Fault.TheVariants as fault
use Rattle.tables.proofs.Answers.{unless_ok, unless_next, unless_passed}
use Rattle.plans.specs.Plans.{step_words, kind_of, setting, adding, removing, is_step, step_row, place_for, is_there, has_under, step_place, after_set, after_add, after_remove, table_after}
use Rattle.plans.specs.Steps.{number_of, IsRead, place_of, after_step}
use Rattle.plans.specs.Changing.{spliced, StepPlaced}
use Rattle.plans.specs.declared.steps.StepKind.{StepKind}
use Rattle.plans.specs.declared.steps.StepKind.TheVariants.{Set, Add, Remove}
use Rattle.plans.specs.declared.steps.Step.{Step}

-- ---- a table with some words exchanged for others
-- the words from some word on, as the code takes them
rest_is : (t : List ℕ) (behind : ℕ) → take (length t - behind) (drop behind t) ≡ drop behind t
rest_is t behind = take_all (length t - behind) (drop behind t) (omega (arith, length-drop behind t))

pub behind_length : (t : List ℕ) (behind : ℕ) → length (take (length t - behind) (drop behind t)) ≡ length t - behind
behind_length t behind = ap length (rest_is t behind) ∙ length-drop behind t

module _ (t : List ℕ) (before : ℕ) (m : List ℕ) (behind : ℕ) (h : before ≤ length t) (g : behind ≤ length t) where
  pub splice_length : length (spliced t before m behind) ≡ before + length m + (length t - behind)
  splice_length =
      let a = length-append (take before t) (m ++ drop behind t) in
      let b = length-append m (drop behind t) in
      omega (arith, a, b, length-take-le before t h, length-drop behind t)

  module _ (out : List ℕ) where
    module _ (l : before + length m + (length t - behind) ≤ length out) where
      pub splice_words : {x y z : List ℕ} → x ≡ sets out 0 (take before t) → y ≡ sets x before m
          → z ≡ sets y (before + length m) (take (length t - behind) (drop behind t))
          → z ≡ spliced t before m behind ++ drop (length (spliced t before m behind)) out
      splice_words x_is y-is z_is =
          z_is
          ∙ ap₂ (λ (o b : List ℕ). sets o (before + length m) b) (y-is ∙ ap (λ (o : List ℕ). sets o before m) x_is) (rest_is t behind)
          ∙ ap₂ (λ (i j : ℕ). sets (sets (sets out 0 (take before t)) i m) j (drop behind t)) (sym front) (ap (λ (n : ℕ). n + length m) (sym front))
          ∙ sym (sets_append (sets out 0 (take before t)) (length (take before t)) m (drop behind t))
          ∙ ap (λ (n : ℕ). sets (sets out 0 (take before t)) n (m ++ drop behind t)) (from_zero (length (take before t)))
          ∙ sym (sets_append out 0 (take before t) (m ++ drop behind t))
          ∙ sets-eq (spliced t before m behind) out 0 (omega (arith, splice_length))
          ∙ ap (λ (n : ℕ). spliced t before m behind ++ drop n out) (sym (from_zero (length (spliced t before m behind))))
        where
          front : length (take before t) ≡ before
          front = length-take-le before t h

          from_zero : (n : ℕ) → n ≡ 0 + n
          from_zero n = omega arith

-- ---- the call
-- what 23 to 25 let pass
module _ (t s : List ℕ) where
  abbrev passed_23 : Answer
  passed_23 = unless (adding s || is_there t (step_row s)) Absent (unless (not (removing s && has_under t (step_row s))) Removal (Done (place_for t (step_row s))))

  pub passed_there : is_done (step_place t s) ≡ true → (adding s || is_there t (step_row s)) ≡ true
  unfolding step_place
  passed_there ok = unless_ok (adding s || is_there t (step_row s)) Absent _ (unless_next (is_step s) fault.Step passed_23 ok)

  pub passed_words : is_done (step_place t s) ≡ true → step_words ≤ length s
  unfolding step_place
  passed_words ok = leb-true step_words (length s) (and_left (leb step_words (length s)) _ (unless_ok (is_step s) fault.Step passed_23 ok))

  pub passed_kind : is_done (step_place t s) ≡ true → (setting s || (adding s || removing s)) ≡ true
  unfolding step_place
  passed_kind ok = and_right (leb step_words (length s)) _ (unless_ok (is_step s) fault.Step passed_23 ok)

  pub passed_25 : is_done (step_place t s) ≡ true → (removing s && has_under t (step_row s)) ≡ false
  unfolding step_place
  passed_25 ok = not-true (removing s && has_under t (step_row s)) (unless_ok (not (removing s && has_under t (step_row s))) Removal _
      (unless_next (adding s || is_there t (step_row s)) Absent _ (unless_next (is_step s) fault.Step passed_23 ok)))

  pub passed_place : is_done (step_place t s) ≡ true → step_place t s ≡ Done (place_for t (step_row s))
  unfolding step_place
  passed_place ok =
      unless_passed (is_step s) fault.Step passed_23 (unless_ok (is_step s) fault.Step passed_23 ok)
      ∙ unless_passed (adding s || is_there t (step_row s)) Absent _ (passed_there ok)
      ∙ unless_passed (not (removing s && has_under t (step_row s))) Removal _
      (unless_ok (not (removing s && has_under t (step_row s))) Removal _
      (unless_next (adding s || is_there t (step_row s)) Absent _ (unless_next (is_step s) fault.Step passed_23 ok)))

  -- a row to set or remove is there
  pub passed_row : is_done (step_place t s) ≡ true → adding s ≡ false → is_there t (step_row s) ≡ true
  passed_row ok e = ap (λ (b : Bool). b || is_there t (step_row s)) (sym e) ∙ passed_there ok

  -- ---- a step that is read
  pub no_step : is_step s ≡ false → step_place t s ≡ Refused fault.Step 0
  unfolding step_place
  no_step e = ap (λ (b : Bool). unless b fault.Step passed_23) e

  module _ {step : Step} (read : IsRead s step) where
    -- by a step's kind as a number, and its row
    abbrev place_by : ℕ → Row → Answer
    place_by k r = unless (eqb k 2 || is_there t r) Absent (unless (not (eqb k 3 && has_under t r)) Removal (Done (place_for t r)))

    abbrev after_by : ℕ → Row → List ℕ
    after_by k r = cond (eqb k 1) (after_set (place_for t r) r.value t) (cond (eqb k 2) (after_add (place_for t r) r t) (after_remove (place_for t r) t))

    pub place_read : step_place t s ≡ place_of t step
    unfolding step_place
    place_read = ap (λ (b : Bool). unless b fault.Step passed_23) read.is_a_step ∙ ap₂ place_by read.kind (sym read.row)

    pub after_read : table_after t s ≡ after_step t step (place_for t step.row)
    unfolding table_after
    after_read = ap₂ after_by read.kind (sym read.row) ∙ of_kind step.kind
      where
        of_kind : (k : StepKind) → after_by (number_of k) step.row ≡ after_step t (record { kind = k; row = step.row }) (place_for t step.row)
        of_kind Set = refl
        of_kind Add = refl
        of_kind Remove = refl

    -- where 24 and 25 pass, the place is the row's
    module _ {place : ℕ} (done : place_of t step ≡ Done place) where
      pub step_done : step_place t s ≡ Done place
      step_done = place_read ∙ done

      ok : is_done (step_place t s) ≡ true
      ok = ap is_done step_done

      placed : place ≡ place_for t step.row
      placed = ap value (sym step_done ∙ passed_place ok) ∙ ap (place_for t) (sym read.row)

      pub row_done : place_for t (step_row s) ≡ place
      row_done = ap (place_for t) (sym read.row) ∙ sym placed

      pub after_done : table_after t s ≡ after_step t step place
      after_done = after_read ∙ ap (after_step t step) (sym placed)

      pub step_placed : StepPlaced t step place
      step_placed = record {
        within = rw placed (first_le (λ i. not (is_above step.row (row_at t i))) (row_count t));
        there = λ e. rw (placed, read.row) (ltb-true (place_for t (step_row s)) (row_count t) (and_left (ltb (place_for t (step_row s)) (row_count t)) _ (passed_row ok (ne_eqb (kind_of s) 2 (λ q. e (sym read.kind ∙ q))))));
      }
