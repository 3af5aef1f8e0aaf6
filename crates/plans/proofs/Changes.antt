-- The rows of the table after a step: those before the step's row, and those behind it, are the table's. Assumes nothing.
use Prim.Native.Nat.{ℕ, suc, ◌+◌, ◌-◌, ◌*◌, ◌≤◌, ◌<◌}
use mathlib.Core.Logic.{⊎_elim}
use mathlib.Core.Path.{◌≡◌, refl, sym, ap, ap₂, subst, ◌∙◌}
use mathlib.Core.Bool.{Bool, true, false, not, cond, true≢false}
use mathlib.Core.List.{List, [], ◌∷◌, ◌++◌}
use native.Mathlib.Omega.{arith}
use lib.ListN.{length, take, drop, length-append, length-drop, take-append-drop}
use lib.Seq.{length-take-le, drop-drop}
use lib.Dec.{ltb}
use borrow.Author.Tests.{eqb-true, ne_eqb, ltb-true}
use Rattle.base.proofs.Bools.{and_left, and_right, or_cases}
use Rattle.base.proofs.Search.{first_le}
use Rattle.tables.specs.Answers.{is_done}
use Rattle.tables.specs.Words.{row_words, row_at, row_count, rows_from, rows, columns_of}
use Rattle.tables.specs.declared.Row.{Row}
use Rattle.tables.proofs.Words.{row_left, row_right}
use Rattle.tables.proofs.RowLists.{length_rows, rows_append}
use Rattle.tables.specs.Tables.{same_row, is_above}
use Rattle.plans.specs.Plans.{kind_of, setting, adding, removing, step_row, place_for, step_place, with_value, first_rows, from_row, after_set, after_add, after_remove, table_after}
use Rattle.plans.proofs.Splices.{passed_kind, passed_row}

-- a table of one row
one_row : (t : List ℕ) → length t ≡ row_words → rows t ≡ row_at t 0 ∷ []
unfolding rows_from
one_row t h = let e : row_count t ≡ 1 = omega arith in ap (rows_from t 0) e

module _ (t : List ℕ) (whole : length t ≡ row_words * row_count t) (p : ℕ) where
  module _ (h : p ≤ row_count t) where
    front_length : length (first_rows p t) ≡ row_words * p
    front_length = length-take-le (row_words * p) t (omega arith)

    front_whole : length (first_rows p t) ≡ row_words * row_count (first_rows p t)
    front_whole = omega (arith, front_length)

    front_count : row_count (first_rows p t) ≡ p
    front_count = omega (arith, front_length)

    -- the rows before the place, and those from it on
    abbrev rows_before : List Row
    rows_before = rows (first_rows p t)

    pub rows_split : rows t ≡ rows_before ++ rows (from_row p t)
    rows_split = ap rows (sym (take-append-drop (row_words * p) t)) ∙ rows_append (first_rows p t) (from_row p t) front_whole

    pub rows_with : (r : Row) (q : ℕ) → rows (first_rows p t ++ (columns_of r ++ from_row q t)) ≡ rows_before ++ (r ∷ rows (from_row q t))
    unfolding rows_from
    rows_with r q =
        rows_append (first_rows p t) (columns_of r ++ from_row q t) front_whole
        ∙ ap (λ (xs : List Row). rows_before ++ xs) (rows_append (columns_of r) (from_row q t) refl)

    pub rows_without : (q : ℕ) → rows (first_rows p t ++ from_row q t) ≡ rows_before ++ rows (from_row q t)
    rows_without q = rows_append (first_rows p t) (from_row q t) front_whole

    -- the row at the place
    pub row_with : (r : Row) (q : ℕ) → row_at (first_rows p t ++ (columns_of r ++ from_row q t)) p ≡ r
    row_with r q =
        let z : p ≡ p + 0 = omega arith in
        ap (row_at (first_rows p t ++ (columns_of r ++ from_row q t))) z ∙ row_right (first_rows p t) (columns_of r ++ from_row q t) p 0 front_length
        ∙ row_left (columns_of r) (from_row q t) 0 (omega arith)

  module _ (h : p < row_count t) where
    low : p ≤ row_count t
    low = omega arith

    abbrev rest : List ℕ
    rest = from_row p t

    rest_long : row_words ≤ length rest
    rest_long = omega (arith, length-drop (row_words * p) t)

    first_long : length (take row_words rest) ≡ row_words
    first_long = length-take-le row_words rest rest_long

    first_row : row_at (take row_words rest) 0 ≡ row_at t p
    first_row =
        let z : p + 0 ≡ p = omega arith in
        sym (row_left (take row_words rest) (drop row_words rest) 0 (omega (arith, first_long)))
        ∙ ap (λ (x : List ℕ). row_at x 0) (take-append-drop row_words rest)
        ∙ sym (row_right (first_rows p t) rest p 0 (front_length low))
        ∙ ap₂ row_at (take-append-drop (row_words * p) t) z

    behind : drop row_words rest ≡ from_row (suc p) t
    behind = let e : row_words * p + row_words ≡ row_words * suc p = omega arith in drop-drop row_words (row_words * p) t ∙ ap (λ (n : ℕ). drop n t) e

    pub rows_at : rows (from_row p t) ≡ row_at t p ∷ rows (from_row (suc p) t)
    rows_at =
        ap rows (sym (take-append-drop row_words rest))
        ∙ rows_append (take row_words rest) (drop row_words rest) (omega (arith, first_long))
        ∙ ap₂ ◌++◌ (one_row (take row_words rest) first_long ∙ ap (λ (r : Row). r ∷ []) first_row) (ap rows behind)

-- ---- a step that 23 to 25 let pass
module _ (t s : List ℕ) where
  abbrev place : ℕ
  place = place_for t (step_row s)

  pub place_low : place ≤ row_count t
  place_low = first_le (λ i. not (is_above (step_row s) (row_at t i))) (row_count t)

  pub after_set_lem : setting s ≡ true → table_after t s ≡ after_set place (step_row s).value t
  unfolding table_after
  after_set_lem e = ap (λ (b : Bool). cond b (after_set place (step_row s).value t) (cond (adding s) (after_add place (step_row s) t) (after_remove place t))) e

  pub after_add_lem : adding s ≡ true → table_after t s ≡ after_add place (step_row s) t
  unfolding table_after
  after_add_lem e =
      let other : setting s ≡ false = ne_eqb (kind_of s) 1 (λ q. omega (arith, q, eqb-true (kind_of s) 2 e)) in
      ap₂ (λ (b c : Bool). cond b (after_set place (step_row s).value t) (cond c (after_add place (step_row s) t) (after_remove place t))) other e

  pub after_remove_lem : removing s ≡ true → table_after t s ≡ after_remove place t
  unfolding table_after
  after_remove_lem e =
      let one : setting s ≡ false = ne_eqb (kind_of s) 1 (λ q. omega (arith, q, eqb-true (kind_of s) 3 e)) in
      let two : adding s ≡ false = ne_eqb (kind_of s) 2 (λ q. omega (arith, q, eqb-true (kind_of s) 3 e)) in
      ap₂ (λ (b c : Bool). cond b (after_set place (step_row s).value t) (cond c (after_add place (step_row s) t) (after_remove place t))) one two

  module _ (passed : is_done (step_place t s) ≡ true) where
    -- it has one of the three kinds
    pub by_kind : {P : Type 0} → (setting s ≡ true → P) → (adding s ≡ true → P) → (removing s ≡ true → P) → P
    by_kind f g h = ⊎_elim f (λ x. ⊎_elim g h (or_cases (adding s) _ x)) (or_cases (setting s) _ (passed_kind t s passed))

    pub row_there : adding s ≡ false → place < row_count t
    row_there e = ltb-true place (row_count t) (and_left (ltb place (row_count t)) _ (passed_row t s passed e))

    pub row_same : adding s ≡ false → same_row (row_at t place) (step_row s) ≡ true
    row_same e = and_right (ltb place (row_count t)) _ (passed_row t s passed e)

  pub set_adds_none : setting s ≡ true → adding s ≡ false
  set_adds_none e = ne_eqb (kind_of s) 2 (λ q. omega (arith, q, eqb-true (kind_of s) 1 e))

  pub remove_adds_none : removing s ≡ true → adding s ≡ false
  remove_adds_none e = ne_eqb (kind_of s) 2 (λ q. omega (arith, q, eqb-true (kind_of s) 3 e))

  -- ---- the rows before and after: those in front of the place, and those behind the row there
  module _ (whole : length t ≡ row_words * row_count t) where
    abbrev pub front : List Row
    front = rows (first_rows place t)

    abbrev pub behind_it : List Row
    behind_it = rows (from_row (suc place) t)

    abbrev pub from_it : List Row
    from_it = rows (from_row place t)

    -- the row set
    abbrev pub new_row : Row
    new_row = with_value (step_row s).value (row_at t place)

    pub rows_before_lem : rows t ≡ front ++ from_it
    rows_before_lem = rows_split t whole place place_low

    pub rows_around : is_done (step_place t s) ≡ true → adding s ≡ false → rows t ≡ front ++ (row_at t place ∷ behind_it)
    rows_around passed e = rows_before_lem ∙ ap (λ (B : List Row). front ++ B) (rows_at t whole place (row_there passed e))

    pub rows_set : setting s ≡ true → rows (table_after t s) ≡ front ++ (new_row ∷ behind_it)
    rows_set e = ap rows (after_set_lem e) ∙ rows_with t whole place place_low new_row (suc place)

    pub rows_add : adding s ≡ true → rows (table_after t s) ≡ front ++ (step_row s ∷ from_it)
    rows_add e = ap rows (after_add_lem e) ∙ rows_with t whole place place_low (step_row s) place

    pub rows_remove : removing s ≡ true → rows (table_after t s) ≡ front ++ behind_it
    rows_remove e = ap rows (after_remove_lem e) ∙ rows_without t whole place place_low (suc place)

    pub row_set : setting s ≡ true → row_at (table_after t s) place ≡ new_row
    row_set e = ap (λ (u : List ℕ). row_at u place) (after_set_lem e) ∙ row_with t whole place place_low new_row (suc place)

    pub row_add : adding s ≡ true → row_at (table_after t s) place ≡ step_row s
    row_add e = ap (λ (u : List ℕ). row_at u place) (after_add_lem e) ∙ row_with t whole place place_low (step_row s) place

    -- a row set or added is in the table after
    in_front : (r : Row) (others : List Row) → rows (table_after t s) ≡ front ++ (r ∷ others) → place < row_count (table_after t s)
    in_front r others e =
        let sum = length-append front (r ∷ others) in
        omega (arith, sum, ap length e, length_rows (table_after t s), length_rows (first_rows place t), front_count t whole place place_low)

    pub place_after : is_done (step_place t s) ≡ true → removing s ≡ false → place < row_count (table_after t s)
    place_after passed e = by_kind passed
        (λ q. in_front _ _ (rows_set q))
        (λ q. in_front _ _ (rows_add q))
        (λ q. absurd (true≢false (sym q ∙ e)))

    -- it has one row more at most
    pub after_long : is_done (step_place t s) ≡ true → length (table_after t s) ≤ length t + row_words
    after_long passed = by_kind passed
        (λ q. subst (λ (u : List ℕ). length u ≤ length t + row_words) (sym (after_set_lem q)) (short (columns_of new_row) refl (suc place) (omega arith)))
        (λ q. subst (λ (u : List ℕ). length u ≤ length t + row_words) (sym (after_add_lem q)) (short (columns_of (step_row s)) refl place (omega arith)))
        (λ q. omega (arith, ap length (after_remove_lem q), length-append (first_rows place t) (from_row (suc place) t), front_length t whole place place_low, length-drop (row_words * suc place) t, place_low))
      where
        short : (m : List ℕ) → length m ≡ row_words → (q : ℕ) → place ≤ q → length (first_rows place t ++ (m ++ from_row q t)) ≤ length t + row_words
        short m e q l =
            omega (arith, length-append (first_rows place t) (m ++ from_row q t), length-append m (from_row q t), front_length t whole place place_low, length-drop (row_words * q) t, place_low)

    -- a row removed leaves whole rows
    pub remove_length : is_done (step_place t s) ≡ true → removing s ≡ true → length (table_after t s) ≡ row_words * (row_count t - 1)
    remove_length passed e =
        omega (
          arith,
          ap length (after_remove_lem e),
          length-append (first_rows place t) (from_row (suc place) t),
          front_length t whole place place_low,
          length-drop (row_words * suc place) t,
          row_there passed (remove_adds_none e),
          whole,
        )
