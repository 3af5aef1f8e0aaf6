-- A step of a plan leaves the verdict of a formula none of whose quantifiers reaches the step's row. Assumes nothing.
use Prim.Native.Nat.{ℕ, ◌*◌}
use mathlib.Core.Path.{◌≡◌, refl, sym, ap, subst, ◌∙◌}
use mathlib.Core.Bool.{Bool, true, false, true≢false}
use mathlib.Core.List.{List, ◌∷◌, ◌++◌}
use lib.ListN.{length}
use Rattle.base.specs.Lists.{put, select}
use Rattle.base.proofs.Bools.{either}
use Rattle.base.proofs.Lists.{select_append}
use Rattle.tables.specs.Answers.{is_done}
use Rattle.tables.specs.Words.{row_words, row_at, row_count, rows}
use Rattle.tables.specs.Tables.{accepted_table}
use Rattle.tables.specs.declared.Row.{Row}
use Rattle.tables.proofs.Accepted.{whole_rows}
use Rattle.plans.specs.Plans.{removing, step_row, place_for, step_place, with_value, table_after}
use Rattle.plans.proofs.Changes.{by_kind, set_adds_none, remove_adds_none, front, behind_it, from_it, rows_before_lem, rows_around, rows_set, rows_add, rows_remove, row_set, row_add}
use Rattle.logic.specs.Formulas.{Formula}
use Rattle.tables.specs.declared.Over.{Over}
use Rattle.logic.specs.Verdict.{Bindings, ranges, verdict}
use Rattle.logic.specs.Parts.{reached}
use Rattle.logic.specs.Trial.{UnreachedKept}
use Rattle.logic.proofs.Ranging.{ranges_same}
use Rattle.logic.proofs.Untouched.{Alike, verdict_same}

-- a quantifier does not look at values
ranges_value : (o : Over) (n : ℕ) (b : Bindings) (v : ℕ) (r : Row) → ranges o n b (with_value v r) ≡ ranges o n b r
ranges_value o n b v r = ranges_same r (with_value v r) refl refl o n b refl

-- a row that doesn't pass the test makes no difference
select_skip : (f : Row → Bool) (A C : List Row) {x : Row} → f x ≡ false → select f (A ++ (x ∷ C)) ≡ select f (A ++ C)
select_skip f A C {x} e =
    select_append f A (x ∷ C) ∙ ap (λ (b : Bool). select f A ++ put b x (select f C)) e ∙ sym (select_append f A C)

module _ (A C : List Row) where
  alike_set : (x : Row) (v : ℕ) → Alike (with_value v x) (A ++ (x ∷ C)) (A ++ (with_value v x ∷ C))
  alike_set x v = record {
    same_rows = λ o n b e.
        select_skip (ranges o n b) A C (sym (ranges_value o n b v x) ∙ e) ∙ sym (select_skip (ranges o n b) A C e);
  }

  alike_add : (x : Row) → Alike x (A ++ C) (A ++ (x ∷ C))
  alike_add x = record { same_rows = λ o n b e. sym (select_skip (ranges o n b) A C e) }

  alike_remove : (x : Row) → Alike x (A ++ (x ∷ C)) (A ++ C)
  alike_remove x = record { same_rows = λ o n b e. select_skip (ranges o n b) A C e }

module _ (t s : List ℕ) (ok : accepted_table t ≡ true) (passed : is_done (step_place t s) ≡ true) where
  abbrev place : ℕ
  place = place_for t (step_row s)

  whole : length t ≡ row_words * row_count t
  whole = whole_rows t ok

  -- by the rows before and after
  alike : {r : Row} {T T' : List Row} → rows t ≡ T → rows (table_after t s) ≡ T' → Alike r T T' → Alike r (rows t) (rows (table_after t s))
  alike {r} {T} {T'} e f same =
      subst (λ (X : List Row). Alike r X (rows (table_after t s))) (sym e) (subst (λ (X : List Row). Alike r T X) (sym f) same)

  module _ (F : Formula) where
    abbrev same_verdict : Type 0
    same_verdict = verdict F (rows t) ≡ verdict F (rows (table_after t s))

    -- from the row in the table after
    from_after : {r : Row} → row_at (table_after t s) place ≡ r → Alike r (rows t) (rows (table_after t s))
        → reached F (rows (table_after t s)) (row_at (table_after t s) place) ≡ false → same_verdict
    from_after {r} row_is same miss =
        verdict_same r (rows (table_after t s)) (rows t) (rows (table_after t s)) same (λ q m n. n) F (ap (reached F (rows (table_after t s))) (sym row_is) ∙ miss)

    -- of a removed row, in the table before
    pub kept_removed : removing s ≡ true → reached F (rows t) (row_at t place) ≡ false → same_verdict
    kept_removed e miss = verdict_same (row_at t place) (rows t) (rows t) (rows (table_after t s)) same (λ q m n. m) F miss
      where
        same : Alike (row_at t place) (rows t) (rows (table_after t s))
        same = alike (rows_around t s whole passed (remove_adds_none t s e)) (rows_remove t s whole e)
            (alike_remove (front t s whole) (behind_it t s whole) (row_at t place))

    -- of a row set or added, in the table after
    pub kept_other : removing s ≡ false → reached F (rows (table_after t s)) (row_at (table_after t s) place) ≡ false → same_verdict
    kept_other e miss = by_kind t s passed
        (λ q. from_after (row_set t s whole q)
        (alike (rows_around t s whole passed (set_adds_none t s q)) (rows_set t s whole q)
        (alike_set (front t s whole) (behind_it t s whole) (row_at t place) (step_row s).value)) miss)
        (λ q. from_after (row_add t s whole q)
        (alike (rows_before_lem t s whole) (rows_add t s whole q) (alike_add (front t s whole) (from_it t s whole) (step_row s))) miss)
        (λ q. absurd (true≢false (sym q ∙ e)))

pub unreached_kept : UnreachedKept
unreached_kept t s ok passed F miss = either (removing s)
    (λ e. kept_removed t s ok passed F e (rw e at miss))
    (λ e. kept_other t s ok passed F e (rw e at miss))
