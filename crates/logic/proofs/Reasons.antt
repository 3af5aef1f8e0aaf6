-- The rows that decide a quantifier, in a list and by their numbers. Assumes nothing.
use Prim.Native.Nat.{ℕ, zero, suc, ◌+◌, ◌<◌, ◌≤◌}
use mathlib.Core.Path.{◌≡◌, refl, sym, ap, ◌∙◌}
use mathlib.Core.Logic.{⊎_elim}
use mathlib.Core.Bool.{Bool, true, false, not, ◌&&◌, true≢false}
use mathlib.Core.List.Memᴰ
use mathlib.Core.List.{List, [], ◌∷◌}
use native.Mathlib.Nat.{eq-or-lt_of_le}
use native.Mathlib.Omega.{arith}
use Rattle.base.specs.Lists.{◌∈◌, put, select}
use Rattle.base.proofs.Bools.{either}
use Rattle.tables.specs.Words.{row_at, rows_from}
use Rattle.tables.specs.declared.Row.{Row}
use Rattle.tables.specs.declared.Quantifier.{Quantifier}
use Rattle.tables.specs.declared.Quantifier.TheVariants.{Every, Exists}
use Rattle.logic.specs.Verdict.{settled, fold}
use Rattle.logic.specs.Marks.{decides, first_deciding, witnesses}
use Rattle.logic.proofs.Walks.{both_settled}

pub settled_undecided : (q : Quantifier) → decides q (settled q) ≡ false
settled_undecided Every = refl
settled_undecided Exists = refl

pub undecided_settled : (q : Quantifier) (a : Bool) → decides q a ≡ false → a ≡ settled q
undecided_settled Every true e = refl
undecided_settled Every false e = absurd (true≢false e)
undecided_settled Exists a e = e

pub unsettled_decides : (q : Quantifier) (a : Bool) → (a ≡ settled q → ⊥) → decides q a ≡ true
unsettled_decides Every true h = absurd (h refl)
unsettled_decides Every false h = refl
unsettled_decides Exists true h = refl
unsettled_decides Exists false h = absurd (h refl)

pub decided_unsettled : (q : Quantifier) (a : Bool) → decides q a ≡ true → a ≡ not (settled q)
decided_unsettled Every true e = absurd (true≢false (sym e))
decided_unsettled Every false e = refl
decided_unsettled Exists a e = e

module _ (q : Quantifier) (f : Row → Bool) where
  -- where a quantifier is decided, the first row that decides is one of its rows
  pub first_found : (xs : List Row) → decides q (fold q f xs) ≡ true
      → (w : Row) × (w ∈ xs) × (w ∈ first_deciding q f xs) × (decides q (f w) ≡ true)
  first_found [] e = absurd (true≢false (sym e ∙ settled_undecided q))
  first_found (x ∷ xs) e = either (decides q (f x))
      (λ k. (x, Memᴰ.head refl, rw k (Memᴰ.head refl), k))
      (λ k. let skip = both_settled q (f x) (fold q f xs) (undecided_settled q (f x) k) in
      let w = first_found xs (sym (ap (decides q) skip) ∙ e) in
      (w.0, Memᴰ.tail w.1, rw k w.2, w.3))

  -- where no row decides, every row counts
  pub witnesses_all : (rs : List Row) → fold q f rs ≡ settled q → witnesses q f rs ≡ rs
  witnesses_all rs e = rw (e, settled_undecided q)

  module _ (p : Row → Bool) (t : List ℕ) where
    -- a row that is ranged over and decides
    abbrev pub deciding : ℕ → Bool
    deciding j = p (row_at t j) && decides q (f (row_at t j))

    passed : (x : Row) (rest : List Row) → (p x && decides q (f x)) ≡ false
        → (fold q f (put (p x) x rest) ≡ fold q f rest) × (first_deciding q f (put (p x) x rest) ≡ first_deciding q f rest)
    passed x rest = go (p x)
      where
        go : (b : Bool) → (b && decides q (f x)) ≡ false → (fold q f (put b x rest) ≡ fold q f rest) × (first_deciding q f (put b x rest) ≡ first_deciding q f rest)
        go true e = (both_settled q (f x) (fold q f rest) (undecided_settled q (f x) e), rw e)
        go false e = (refl, refl)

    pub none_decides : (i k : ℕ) → ((j : ℕ) → i ≤ j → j < i + k → deciding j ≡ false) → fold q f (select p (rows_from t i k)) ≡ settled q
    unfolding rows_from
    none_decides i zero h = refl
    none_decides i (suc k) h =
        (passed (row_at t i) (select p (rows_from t (suc i) k)) (h i (omega arith) (omega arith))).0
        ∙ none_decides (suc i) k (λ j a b. h j (omega arith) (omega arith))

    first_is : (i k r : ℕ) → i ≤ r → r < i + k → ((j : ℕ) → i ≤ j → j < r → deciding j ≡ false) → deciding r ≡ true
        → first_deciding q f (select p (rows_from t i k)) ≡ row_at t r ∷ []
    unfolding rows_from
    first_is i zero r a b h e = absurd (omega arith)
    first_is i (suc k) r a b h e = ⊎_elim
        (λ s. found i r s e)
        (λ l. (passed (row_at t i) (select p (rows_from t (suc i) k)) (h i (omega arith) l)).1
        ∙ first_is (suc i) k r l (omega arith) (λ j c d. h j (omega arith) d) e)
        (eq-or-lt_of_le a)
      where
        go : (x : Row) (rest : List Row) (b : Bool) → (b && decides q (f x)) ≡ true → first_deciding q f (put b x rest) ≡ x ∷ []
        go x rest true e = rw e
        go x rest false e = absurd (true≢false (sym e))

        found : (i r : ℕ) → i ≡ r → deciding r ≡ true → first_deciding q f (put (p (row_at t i)) (row_at t i) (select p (rows_from t (suc i) k))) ≡ row_at t r ∷ []
        found i r s e = rw s (go (row_at t r) _ (p (row_at t r)) e)

    -- where one does, the first counts
    pub witness_first : (i k r : ℕ) → i ≤ r → r < i + k → ((j : ℕ) → i ≤ j → j < r → deciding j ≡ false) → deciding r ≡ true
        → decides q (fold q f (select p (rows_from t i k))) ≡ true → witnesses q f (select p (rows_from t i k)) ≡ row_at t r ∷ []
    witness_first i k r a b h e d = rw d (first_is i k r a b h e)
