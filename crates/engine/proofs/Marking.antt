-- Marking rows one after the other is marking them all, and a single row is one byte. Assumes nothing.
use Prim.Native.Nat.{ℕ, zero, suc, ◌+◌, ◌<◌, ◌≤◌}
use mathlib.Core.Path.{◌≡◌, refl, sym, ap, ap₂, ◌∙◌}
use mathlib.Core.Bool.{Bool, true, false, cond, ◌||◌, false≢true}
use mathlib.Core.List.{List, [], ◌∷◌, ◌++◌, map, append-nil}
use native.Mathlib.Omega.{arith}
use lib.ListN.{set, replicate}
use lib.Dec.{eqb}
use borrow.Author.Tests.{eq-eqb, ne_eqb, eqb-true}
use Rattle.base.specs.Lists.{put, select, any, concat_map}
use Rattle.base.proofs.Bools.{either, and_left, and_right, and_both, or_left, or_right}
use Rattle.base.proofs.Lists.{select_append}
use Rattle.tables.specs.Words.{row_at, row_count, rows, rows_from}
use Rattle.tables.specs.Rules.{one}
use Rattle.tables.specs.Tables.{same_row, accepted_table}
use Rattle.tables.specs.declared.Row.{Row}
use Rattle.tables.proofs.Accepted.{same_place}
use Rattle.logic.specs.Marks.{row_of}
use Rattle.logic.proofs.Walks.{rows_append}
use Rattle.engine.specs.Places.{place_of}
use Rattle.engine.specs.Marked.{mark_rows, mark_in, mark_at}

-- ---- two lists of rows
any_or : (p : Row → Bool) (xs ys : List Row) → any p (xs ++ ys) ≡ (any p xs || any p ys)
any_or p [] ys = refl
any_or p (x ∷ xs) ys = ap (λ (b : Bool). p x || b) (any_or p xs ys) ∙ go (p x)
  where
    go : (b : Bool) → (b || (any p xs || any p ys)) ≡ ((b || any p xs) || any p ys)
    go true = refl
    go false = refl

any_append : (p : Row → Bool) (xs ys : List Row) (m : ℕ) → cond (any p (xs ++ ys)) 1 m ≡ cond (any p ys) 1 (cond (any p xs) 1 m)
any_append p xs ys m = ap (λ (b : Bool). cond b 1 m) (any_or p xs ys) ∙ go (any p xs) (any p ys)
  where
    go : (a b : Bool) → cond (a || b) 1 m ≡ cond b 1 (cond a 1 m)
    go true true = refl
    go true false = refl
    go false b = refl

pub mark_append : (T a b : List Row) (m : List ℕ) → mark_rows T (a ++ b) m ≡ mark_rows T b (mark_rows T a m)
unfolding mark_rows
mark_append [] a b m = refl
mark_append (t ∷ T) a b [] = refl
mark_append (t ∷ T) a b (x ∷ m) = ap₂ ◌∷◌ (any_append (same_row t) a b x) (mark_append T a b m)

pub mark_none : (T : List Row) (m : List ℕ) → mark_rows T [] m ≡ m
unfolding mark_rows
mark_none [] m = refl
mark_none (t ∷ T) [] = refl
mark_none (t ∷ T) (x ∷ m) = ap (◌∷◌ x) (mark_none T m)

mark_same : (A B : List Row) → ((t : Row) → any (same_row t) A ≡ any (same_row t) B) → (T : List Row) (m : List ℕ) → mark_rows T A m ≡ mark_rows T B m
unfolding mark_rows
mark_same A B h [] m = refl
mark_same A B h (t ∷ T) [] = refl
mark_same A B h (t ∷ T) (x ∷ m) = ap₂ ◌∷◌ (ap (λ (b : Bool). cond b 1 x) (h t)) (mark_same A B h T m)

-- ---- marking rows again, and in another order
module _ (T : List Row) (m : List ℕ) where
  pub mark_twice : (R : List Row) → mark_rows T R (mark_rows T R m) ≡ mark_rows T R m
  mark_twice R = sym (mark_append T R R m) ∙ mark_same (R ++ R) R (λ t. any_or (same_row t) R R ∙ go (any (same_row t) R)) T m
    where
      go : (b : Bool) → (b || b) ≡ b
      go true = refl
      go false = refl

  pub mark_turned : (R S : List Row) → mark_rows T R (mark_rows T S m) ≡ mark_rows T S (mark_rows T R m)
  mark_turned R S =
      sym (mark_append T S R m)
      ∙ mark_same (S ++ R) (R ++ S) (λ t. any_or (same_row t) S R ∙ go (any (same_row t) S) (any (same_row t) R) ∙ sym (any_or (same_row t) R S)) T m
      ∙ mark_append T R S m
    where
      go : (a b : Bool) → (a || b) ≡ (b || a)
      go true true = refl
      go true false = refl
      go false true = refl
      go false false = refl

-- ---- rows with one reason behind each
each_any : (R : List Row) (p : Row → Bool) (x : Row) (xs : List Row) → any p (concat_map (λ r. r ∷ R) (x ∷ xs)) ≡ any p ((x ∷ xs) ++ R)
each_any R p x [] = ap (any p) (append-nil (x ∷ R))
each_any R p x (y ∷ ys) =
    ap (λ (b : Bool). p x || b)
    (any_or p R (concat_map (λ r. r ∷ R) (y ∷ ys)) ∙ ap (λ (b : Bool). any p R || b) (each_any R p y ys ∙ any_or p (y ∷ ys) R)
    ∙ twice (any p R) (any p (y ∷ ys)) ∙ sym (any_or p (y ∷ ys) R))
  where
    twice : (r s : Bool) → (r || (s || r)) ≡ (s || r)
    twice true true = refl
    twice true false = refl
    twice false s = refl

module _ (p : Row → Bool) where
  some_selected : (xs : List Row) → any p xs ≡ true → (y : Row) × (ys : List Row) × (select p xs ≡ y ∷ ys)
  some_selected [] h = absurd (false≢true h)
  some_selected (x ∷ xs) h = go (p x) h (some_selected xs)
    where
      go : (b : Bool) → (b || any p xs) ≡ true → (any p xs ≡ true → (y : Row) × (ys : List Row) × (select p xs ≡ y ∷ ys)) → (y : Row) × (ys : List Row) × (put b x (select p xs) ≡ y ∷ ys)
      go true h k = (x, select p xs, refl)
      go false h k = k h

  none_selected : (xs : List Row) → any p xs ≡ false → select p xs ≡ []
  none_selected [] h = refl
  none_selected (x ∷ xs) h = rw (or_left (p x) (any p xs) h) (none_selected xs (or_right (p x) (any p xs) h))

  pub any_selected : (xs : List Row) → any p (select p xs) ≡ any p xs
  any_selected [] = refl
  any_selected (x ∷ xs) = either (p x)
      (λ h. rw (h, h) refl)
      (λ h. rw h (any_selected xs))

  -- the rows first, then the reason once
  pub mark_each : (T xs R : List Row) (m : List ℕ) → any p xs ≡ true → mark_rows T R (mark_rows T (select p xs) m) ≡ mark_rows T (concat_map (λ r. r ∷ R) (select p xs)) m
  mark_each T xs R m h =
      sym (mark_append T (select p xs) R m) ∙ mark_same (select p xs ++ R) (concat_map (λ r. r ∷ R) (select p xs)) (λ t. same t (some_selected xs h)) T m
    where
      same : (t : Row) → (y : Row) × (ys : List Row) × (select p xs ≡ y ∷ ys) → any (same_row t) (select p xs ++ R) ≡ any (same_row t) (concat_map (λ r. r ∷ R) (select p xs))
      same t (y, ys, e) = rw e (sym (each_any R (same_row t) y ys))

  pub mark_none_selected : (T xs R : List Row) (m : List ℕ) → any p xs ≡ false → mark_rows T (select p xs) m ≡ mark_rows T (concat_map (λ r. r ∷ R) (select p xs)) m
  mark_none_selected T xs R m h = rw (none_selected xs h)

-- ---- a single row
module _ (pool : List ℕ) (ok : accepted_table pool ≡ true) where
  same_row_lem : (i j : ℕ) → i < row_count pool → j < row_count pool → any (same_row (row_at pool i)) (row_at pool j ∷ []) ≡ eqb i j
  same_row_lem i j hi hj = either (same_row (row_at pool i) (row_at pool j))
      (λ e. rw e (sym (eq-eqb i j (same_place pool ok i j hi hj
      (eqb-true (row_at pool i).device (row_at pool j).device (and_left _ (eqb (row_at pool i).at (row_at pool j).at) e))
      (eqb-true (row_at pool i).at (row_at pool j).at (and_right (eqb (row_at pool i).device (row_at pool j).device) _ e))))))
      (λ e. rw e (sym (other e)))
    where
      other : same_row (row_at pool i) (row_at pool j) ≡ false → eqb i j ≡ false
      other e = either (eqb i j)
          (λ f. let q : i ≡ j = eqb-true i j f in
          let g : same_row (row_at pool i) (row_at pool j) ≡ true = and_both _ _
          (eq-eqb (row_at pool i).device (row_at pool j).device (ap (λ (n : ℕ). (row_at pool n).device) q))
          (eq-eqb (row_at pool i).at (row_at pool j).at (ap (λ (n : ℕ). (row_at pool n).at) q)) in
          let z : true ≡ false = sym g ∙ e in
          let y : ◌≡◌ {A = ℕ} 0 1 = cc in absurd (omega arith))
          (λ f. f)

  -- none of k rows from row i on is row j
  mark_past : (i k j : ℕ) (m : List ℕ) → i + k ≤ row_count pool → j < i → mark_rows (rows_from pool i k) (row_at pool j ∷ []) m ≡ m
  unfolding rows_from mark_rows
  mark_past i zero j m h l = refl
  mark_past i (suc k) j [] h l = refl
  mark_past i (suc k) j (x ∷ m) h l =
      ap₂ ◌∷◌ (ap (λ (b : Bool). cond b 1 x) (same_row_lem i j (omega arith) (omega arith) ∙ ne_eqb i j (λ e. omega arith)))
      (mark_past (suc i) k j m (omega arith) (omega arith))

  mark_at_lem : (i k j : ℕ) (m : List ℕ) → i + k ≤ row_count pool → j < k → mark_rows (rows_from pool i k) (row_at pool (i + j) ∷ []) m ≡ set m j 1
  unfolding rows_from mark_rows
  mark_at_lem i zero j m h l = absurd (omega arith)
  mark_at_lem i (suc k) j [] h l = refl
  mark_at_lem i (suc k) zero (x ∷ m) h l =
      let z : i + 0 ≡ i = omega arith in
      ap₂ ◌∷◌ (ap (λ (b : Bool). cond b 1 x) (same_row_lem i (i + 0) (omega arith) (omega arith) ∙ eq-eqb i (i + 0) (sym z)))
      (mark_past (suc i) k (i + 0) m (omega arith) (omega arith))
  mark_at_lem i (suc k) (suc j) (x ∷ m) h l =
      let z : i + suc j ≡ suc i + j = omega arith in
      ap₂ ◌∷◌ (ap (λ (b : Bool). cond b 1 x) (same_row_lem i (i + suc j) (omega arith) (omega arith) ∙ ne_eqb i (i + suc j) (λ e. omega arith)))
      (ap (λ (n : ℕ). mark_rows (rows_from pool (suc i) k) (row_at pool n ∷ []) m) z ∙ mark_at_lem (suc i) k j m (omega arith) (omega arith))

  pub mark_row : (j : ℕ) (m : List ℕ) → j < row_count pool → set m j 1 ≡ mark_in pool (row_at pool j ∷ []) m
  mark_row j m h =
      let z : 0 + j ≡ j = omega arith in
      sym (ap (λ (n : ℕ). mark_in pool (row_at pool n ∷ []) m) (sym z) ∙ mark_at_lem 0 (row_count pool) j m (omega arith) h)

  pub mark_place : (p : ℕ) (m : List ℕ) → p ≤ row_count pool → mark_at p m ≡ mark_in pool (row_of (place_of pool p)) m
  mark_place zero m h = sym (mark_none (rows pool) m)
  mark_place (suc j) m h = mark_row j m h

  -- one row more, if it passes a test
  module _ (p : Row → Bool) (i k : ℕ) (hit : Bool) (hit_is : hit ≡ p (row_at pool (i + k))) where
    pub any_more : (found : Bool) → found ≡ any p (rows_from pool i k) → (found || hit) ≡ any p (rows_from pool i (k + 1))
    unfolding rows_from
    any_more found f_is =
        ap₂ ◌||◌ f_is (hit_is ∙ last (p (row_at pool (i + k)))) ∙ sym (any_or p (rows_from pool i k) (rows_from pool (i + k) 1)) ∙ ap (any p) (sym (rows_append pool i k 1))
      where
        last : (b : Bool) → b ≡ (b || false)
        last true = refl
        last false = refl

    pub mark_more : i + k < row_count pool → (m₀ m : List ℕ) → m ≡ mark_in pool (select p (rows_from pool i k)) m₀
        → cond hit (set m (i + k) 1) m ≡ mark_in pool (select p (rows_from pool i (k + 1))) m₀
    unfolding rows_from
    mark_more l m₀ m m_is =
        go hit (sym hit_is)
        ∙ ap (mark_in pool (select p (rows_from pool (i + k) 1))) m_is
        ∙ sym (mark_append (rows pool) (select p (rows_from pool i k)) (select p (rows_from pool (i + k) 1)) m₀)
        ∙ ap (λ (R : List Row). mark_in pool R m₀) (sym (ap (select p) (rows_append pool i k 1) ∙ select_append p (rows_from pool i k) (rows_from pool (i + k) 1)))
      where
        go : (b : Bool) → p (row_at pool (i + k)) ≡ b → cond b (set m (i + k) 1) m ≡ mark_in pool (put (p (row_at pool (i + k))) (row_at pool (i + k)) []) m
        go true e = rw e (mark_row (i + k) m l)
        go false e = rw e (sym (mark_none (rows pool) m))

  -- a row and others behind it
  pub mark_first : (j : ℕ) (R : List Row) (m : List ℕ) → j < row_count pool → mark_in pool R (set m j 1) ≡ mark_in pool (row_at pool j ∷ R) m
  mark_first j R m h = ap (mark_in pool R) (mark_row j m h) ∙ sym (mark_append (rows pool) (row_at pool j ∷ []) R m)

-- none of the rows yet
pub no_rows : (pool : List ℕ) (p : Row → Bool) (i : ℕ) (m : List ℕ) → (false ≡ any p (rows_from pool i 0)) × (m ≡ mark_in pool (select p (rows_from pool i 0)) m)
unfolding rows_from
no_rows pool p i m = (refl, sym (mark_none (rows pool) m))

-- ---- on bytes that are 0
pub mark_zeros : (t : List ℕ) (i k : ℕ) (R : List Row) (rest : List ℕ)
    → mark_rows (rows_from t i k) R (replicate k 0 ++ rest) ≡ map (λ r. one (any (same_row r) R)) (rows_from t i k) ++ rest
unfolding rows_from mark_rows
mark_zeros t i zero R rest = refl
mark_zeros t i (suc k) R rest = ap₂ ◌∷◌ (byte (any (same_row (row_at t i)) R)) (mark_zeros t (suc i) k R rest)
  where
    byte : (b : Bool) → cond b 1 0 ≡ one b
    byte true = refl
    byte false = refl
