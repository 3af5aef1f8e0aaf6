-- What a step does, in rows: a row is there exactly if some row has its device and at, and a step changes that row alone. Assumes nothing.
use Prim.Native.Nat.{ℕ, ◌*◌, ◌≤◌, ◌<◌}
use native.Mathlib.Nat.{eq-or-lt_of_le}
use native.Mathlib.Omega.{arith}
use mathlib.Core.Path.{◌≡◌, refl, sym, ap, ap₂, subst, ◌∙◌}
use mathlib.Core.Logic.{⊎_elim}
use mathlib.Core.Bool.{Bool, true, false, not, cond, ◌&&◌, ◌||◌, true≢false}
use mathlib.Core.List.Memᴰ
use mathlib.Core.List.{List, [], ◌∷◌, ◌++◌, map}
use lib.ListN.{length}
use lib.Seq.{append_snoc}
use lib.Dec.{eqb, ltb, leb}
use borrow.Author.Tests.{ltb-true, ltb-false, lt-ltb, eqb-true, eq-eqb, not-true, not-false, le-ltb}
use Rattle.base.specs.Lists.{◌∈◌, put, select}
use Rattle.base.specs.Search.{first, some}
use Rattle.base.proofs.Bools.{either, and_left, and_right, and_both}
use Rattle.base.proofs.Search.{none_before, at_first, some_at}
use Rattle.base.proofs.Lists.{select_append, select_all}
use Rattle.tables.specs.Answers.{is_done, unless}
use Rattle.tables.specs.Words.{row_words, row_at, row_count, rows}
use Rattle.tables.specs.Tables.{same_row, is_above, accepted_table}
use Rattle.tables.specs.declared.Row.{Row}
use Rattle.tables.specs.Answers.{Answer}
use Rattle.tables.specs.Answers.{Done}
use Rattle.tables.proofs.Accepted.{ordered, whole_rows}
use Rattle.tables.proofs.Ordered.{placed}
use Rattle.tables.proofs.OrderedRows.{is_above_lem, Key, above_key, Rising, rising_across, rows_above, rows_parented}
use Rattle.plans.specs.Plans.{step_words, kind_of, setting, adding, removing, step_row, place_for, is_there, step_place, with_value, after_set, after_remove, table_after, ThereExactly, SameNeeds, OnlyNeeded, OnlyThatRow}
use Rattle.plans.proofs.Changes.{after_set_lem, after_remove_lem, by_kind, row_same, set_adds_none, remove_adds_none, front, behind_it, from_it, rows_before_lem, rows_around, rows_set, rows_add, rows_remove}
use Rattle.tables.specs.declared.Fault.TheVariants.{Step, Absent, Removal}

and-false : (b : Bool) → (b && false) ≡ false
and-false true = refl
and-false false = refl

-- ---- places
module _ (r p : Row) (e : same_row p r ≡ true) where
  pub same_device : p.device ≡ r.device
  same_device = eqb-true p.device r.device (and_left (eqb p.device r.device) _ e)

  pub same_at : p.at ≡ r.at
  same_at = eqb-true p.at r.at (and_right (eqb p.device r.device) _ e)

  -- what it is above, the other is above
  above_same : (b : Row) → is_above p b ≡ is_above r b
  above_same b = ap₂ (λ (d a : ℕ). ltb b.device d || (eqb b.device d && ltb b.at a)) same_device same_at

module _ (t : List ℕ) (r : Row) (ok : accepted_table t ≡ true) where
  abbrev not_above : ℕ → Bool
  not_above i = not (is_above r (row_at t i))

  -- a row in the same place is at the place
  at_place : (i : ℕ) → i < row_count t → same_row (row_at t i) r ≡ true → place_for t r ≡ i
  at_place i h e = ⊎_elim (λ q. q) (λ q. absurd (behind q)) (eq-or-lt_of_le not_behind)
    where
      itself : is_above r (row_at t i) ≡ false
      itself = sym (above_same r (row_at t i) e (row_at t i)) ∙ never (row_at t i)
        where
          never : (b : Row) → is_above b b ≡ false
          never b = ap₂ (λ (x y : Bool). x || (eqb b.device b.device && y)) (le-ltb b.device b.device (omega arith)) (le-ltb b.at b.at (omega arith)) ∙ and-false (eqb b.device b.device)

      not_behind : place_for t r ≤ i
      not_behind = either (ltb i (place_for t r))
          (λ q. absurd (true≢false (sym (not-false (is_above r (row_at t i)) (none_before not_above (row_count t) i (ltb-true i (place_for t r) q))) ∙ itself)))
          (λ q. ltb-false i (place_for t r) q)

      behind : place_for t r < i → ⊥
      behind l =
          let low = not-true (is_above r (row_at t (place_for t r))) (at_first not_above (row_count t) (omega (arith, l, h))) in
          let above = is_above_lem (row_at t (place_for t r)) (row_at t i) (rows_above t (placed t (ordered t ok)) (place_for t r) i l h) in
          true≢false (sym above ∙ above_same r (row_at t i) e (row_at t (place_for t r)) ∙ low)

pub there_exactly : ThereExactly
there_exactly t r ok = either (some (λ i. same_row (row_at t i) r) (row_count t))
    (λ e.
    let i = first (λ i. same_row (row_at t i) r) (row_count t) in
    let h : i < row_count t = ltb-true i (row_count t) e in
    let same = at_first (λ i. same_row (row_at t i) r) (row_count t) h in
    let p = at_place t r ok i h same in
    and_both (ltb (place_for t r) (row_count t)) (same_row (row_at t (place_for t r)) r)
    (lt-ltb (place_for t r) (row_count t) (omega (arith, p, h))) (ap (λ (k : ℕ). same_row (row_at t k) r) p ∙ same) ∙ sym e)
    (λ e. either (is_there t r)
    (λ q. absurd (true≢false (sym (some_at (λ i. same_row (row_at t i) r) (row_count t) (place_for t r)
    (ltb-true (place_for t r) (row_count t) (and_left (ltb (place_for t r) (row_count t)) _ q)) (and_right (ltb (place_for t r) (row_count t)) _ q)) ∙ e)))
    (λ q. q ∙ sym e))

-- ---- rows around a row in rows that rise
module _ (s x : Row) (same : same_row x s ≡ true) (A C : List Row) (rise : Rising (A ++ (x ∷ C))) where
  elsewhere : (r : Row) → (same_row r s ≡ true → ⊥) → same_row r s ≡ false
  elsewhere r never = either (same_row r s) (λ e. absurd (never e)) (λ e. e)

  key : (r : Row) → same_row r s ≡ true → Key r x
  key r e = record {
    device = same_device s r e ∙ sym (same_device s x same);
    at = same_at s r e ∙ sym (same_at s x same);
  }

  before : (r : Row) → r ∈ A → same_row r s ≡ false
  before r m = elsewhere r (λ e. above_key r x (rising_across A (x ∷ C) rise r x m (Memᴰ.head refl)) (key r e))

  behind : (r : Row) → r ∈ C → same_row r s ≡ false
  behind r m = elsewhere r (λ e. above_key x r (rising_across (A ++ (x ∷ [])) C (subst Rising (sym (append_snoc A x C)) rise) x r
      (Memᴰ.append_right A (Memᴰ.head refl)) m) (turned (key r e)))
    where
      turned : {p q : Row} → Key p q → Key q p
      turned k = record { device = sym k.device; at = sym k.at }

  -- only that row is left out, and only that row is changed
  pub left_out : select (λ r. not (same_row r s)) (A ++ (x ∷ C)) ≡ A ++ C
  left_out =
      select_append (λ r. not (same_row r s)) A (x ∷ C)
      ∙ ap (λ (b : Bool). select (λ r. not (same_row r s)) A ++ put (not b) x (select (λ r. not (same_row r s)) C)) same
      ∙ ap₂ ◌++◌ (select_all (λ r. not (same_row r s)) A (λ r m. ap not (before r m))) (select_all (λ r. not (same_row r s)) C (λ r m. ap not (behind r m)))

  pub changed_one : (f : Row → Row) → map (λ r. cond (same_row r s) (f r) r) (A ++ (x ∷ C)) ≡ A ++ (f x ∷ C)
  changed_one f = map-append g A (x ∷ C) ∙ ap₂ ◌++◌ (same_map A before) (ap₂ ◌∷◌ (ap (λ (b : Bool). cond b (f x) x) same) (same_map C behind))
    where
      g : Row → Row
      g r = cond (same_row r s) (f r) r

      map-append : (h : Row → Row) (xs ys : List Row) → map h (xs ++ ys) ≡ map h xs ++ map h ys
      map-append h [] ys = refl
      map-append h (z ∷ xs) ys = ap (◌∷◌ (h z)) (map-append h xs ys)

      same_map : (xs : List Row) → ((r : Row) → r ∈ xs → same_row r s ≡ false) → map (λ r. cond (same_row r s) (f r) r) xs ≡ xs
      same_map [] h = refl
      same_map (z ∷ xs) h = ap₂ ◌∷◌ (ap (λ (b : Bool). cond b (f z) z) (h z (Memᴰ.head refl))) (same_map xs (λ r m. h r (Memᴰ.tail m)))

-- ---- a step that 23 to 25 let pass
module _ (t s : List ℕ) (ok : accepted_table t ≡ true) (passed : is_done (step_place t s) ≡ true) where
  whole : length t ≡ row_words * row_count t
  whole = whole_rows t ok

  abbrev x : Row
  x = row_at t (place_for t (step_row s))

  rising : (none : adding s ≡ false) → Rising (front t s whole ++ (x ∷ behind_it t s whole))
  rising none = subst Rising (rows_around t s whole passed none) (rows_parented t (placed t (ordered t ok))).rise

  set_one : setting s ≡ true → rows (table_after t s) ≡ map (λ r. cond (same_row r (step_row s)) (with_value (step_row s).value r) r) (rows t)
  set_one e =
      let none = set_adds_none t s e in
      rows_set t s whole e
      ∙ sym (ap (map (λ r. cond (same_row r (step_row s)) (with_value (step_row s).value r) r)) (rows_around t s whole passed none)
      ∙ changed_one (step_row s) x (row_same t s passed none) (front t s whole) (behind_it t s whole) (rising none) (with_value (step_row s).value))

  removed : removing s ≡ true → rows (table_after t s) ≡ select (λ r. not (same_row r (step_row s))) (rows t)
  removed e =
      let none = remove_adds_none t s e in
      rows_remove t s whole e
      ∙ sym (ap (select (λ r. not (same_row r (step_row s)))) (rows_around t s whole passed none)
      ∙ left_out (step_row s) x (row_same t s passed none) (front t s whole) (behind_it t s whole) (rising none))

  module _ (e : adding s ≡ true) (fine : accepted_table (table_after t s) ≡ true) where
    itself : same_row (step_row s) (step_row s) ≡ true
    itself = and_both _ _ (eq-eqb (step_row s).device (step_row s).device refl) (eq-eqb (step_row s).at (step_row s).at refl)

    added : (step_row s ∈ rows (table_after t s)) × (rows t ≡ select (λ r. not (same_row r (step_row s))) (rows (table_after t s)))
    added = (
      subst (λ (T : List Row). step_row s ∈ T) (sym (rows_add t s whole e)) (Memᴰ.append_right (front t s whole) (Memᴰ.head refl)),
      rows_before_lem t s whole
          ∙ sym (ap (select (λ r. not (same_row r (step_row s)))) (rows_add t s whole e)
          ∙ left_out (step_row s) (step_row s) itself (front t s whole) (from_it t s whole)
          (subst Rising (rows_add t s whole e) (rows_parented (table_after t s) (placed (table_after t s) (ordered (table_after t s) fine))).rise)),
    )

pub only_that_row : OnlyThatRow
only_that_row t s ok passed = record { set_one = set_one t s ok passed; added = added t s ok passed; removed = removed t s ok passed }

-- ---- words that a kind doesn't need
module _ (t : List ℕ) where
  -- where a row stands, whether it is there and whether rows are under it, by its device and at
  abbrev place_by : ℕ → ℕ → ℕ
  place_by d a = first (λ i. not (ltb (row_at t i).device d || (eqb (row_at t i).device d && ltb (row_at t i).at a))) (row_count t)

  abbrev there_by : ℕ → ℕ → Bool
  there_by d a = ltb (place_by d a) (row_count t) && (eqb (row_at t (place_by d a)).device d && eqb (row_at t (place_by d a)).at a)

  abbrev under_by : ℕ → ℕ → Bool
  under_by d a = some (λ i. eqb d (row_at t i).device && eqb a (row_at t i).up) (row_count t)

  -- what 23 to 25 answer, by length, kind, device and at
  abbrev answer_by : ℕ → ℕ → ℕ → ℕ → Answer
  answer_by l k d a =
      unless (leb step_words l && (eqb k 1 || (eqb k 2 || eqb k 3))) Step
      (unless (eqb k 2 || there_by d a) Absent (unless (not (eqb k 3 && under_by d a)) Removal (Done (place_by d a))))

  module _ (s s' : List ℕ) (same : SameNeeds s s') where
    same_answer : step_place t s ≡ step_place t s'
    unfolding step_place
    same_answer =
        ap₂ (λ (l k : ℕ). answer_by l k (step_row s).device (step_row s).at) same.long same.kind
        ∙ ap₂ (λ (d a : ℕ). answer_by (length s') (kind_of s') d a) same.device same.at

    same_place : place_for t (step_row s) ≡ place_for t (step_row s')
    same_place = ap₂ place_by same.device same.at

    other_kind : (k : ℕ) {b : Bool} → eqb (kind_of s) k ≡ b → eqb (kind_of s') k ≡ b
    other_kind k e = ap (λ (x : ℕ). eqb x k) (sym same.kind) ∙ e

    same_after : adding s ≡ false → is_done (step_place t s) ≡ true → table_after t s ≡ table_after t s'
    same_after none passed = by_kind t s passed
        (λ e. after_set_lem t s e ∙ ap₂ (λ (p v : ℕ). after_set p v t) same_place (same.value e) ∙ sym (after_set_lem t s' (other_kind 1 e)))
        (λ e. absurd (true≢false (sym e ∙ none)))
        (λ e. after_remove_lem t s e ∙ ap (λ (p : ℕ). after_remove p t) same_place ∙ sym (after_remove_lem t s' (other_kind 3 e)))

pub only_needed : OnlyNeeded
only_needed t s s' same none = (same_answer t s s' same, same_after t s s' same none)
