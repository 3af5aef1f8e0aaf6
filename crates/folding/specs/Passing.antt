-- Private contracts of the pass over a table that folds it. Assumes nothing.
use Rattle.std.specs.Prelude.{ℕ, zero, suc, ◌<◌, ◌≤◌, ◌≡◌, Bool, true, false, List, [], ◌∷◌, ◌++◌, length, map, get_or, eqb, Option, MatchOption}
use Rattle.base.specs.Lists.{when}
use Rattle.base.specs.Search.{first}
use Rattle.tables.specs.Words.{row_at, row_count}
use Rattle.tables.specs.Rules.{one}
use Rattle.tables.specs.Links.{twin_hash}
use Rattle.tables.specs.Tables.{row_limit, root, is_parent, is_twin, ordered_table, other_device}
use Rattle.tables.specs.declared.Row.{Row}
use Rattle.folding.specs.Folding.{with_up}
use Rattle.folding.specs.declared.passing.Move.{Move}

-- a table that the tests let pass
pub record Foldable (t : List ℕ) : Type 0 where
  pub ordered : ordered_table t ≡ true
  pub one_device : (i : ℕ) → i < row_count t → other_device t i ≡ false

-- ---- `into` has for each row passed the number of the row that it goes into, `ups` the up that it then has
-- `up` is that of row i: 0 for a root, else the at of the row that its parent goes into
pub record UpIs (t into : List ℕ) (i up : ℕ) : Type 0 where
  pub at_root : root (row_at t i) ≡ true → up ≡ 0
  pub below : (p : ℕ) → p < i → is_parent (row_at t i) (row_at t p) ≡ true → up ≡ (row_at t (get_or into p 0)).at

-- row j with its new up
abbrev pub moved_at : List ℕ → List ℕ → ℕ → Row
moved_at t ups j = with_up (get_or ups j 0) (row_at t j)

-- what the pass has written of each row
abbrev pub intos : List Move → List ℕ
intos moves = map (λ (m : Move). m.into) moves

abbrev pub ups : List Move → List ℕ
ups moves = map (λ (m : Move). m.up) moves

-- i rows are passed: each goes into the first of them that is then its equal sibling, or into itself
pub record Passing (t into ups : List ℕ) (i : ℕ) : Type 0 where
  pub into_long : length into ≡ row_limit
  pub ups_long : length ups ≡ row_limit
  pub ups_are : (j : ℕ) → j < i → UpIs t into j (get_or ups j 0)
  pub into_are : (j : ℕ) → j < i → get_or into j 0 ≡ first (λ k. is_twin (moved_at t ups j) (moved_at t ups k)) j

-- no row goes into a later one
pub record Backward (into : List ℕ) (i : ℕ) : Type 0 where
  pub long : length into ≡ row_limit
  pub not_later : (j : ℕ) → j < i → get_or into j 0 ≤ j

-- a row read for the pass: row i with its new up
pub record IsMoved (t into : List ℕ) (i : ℕ) (r : Row) : Type 0 where
  pub row : r ≡ with_up r.up (row_at t i)
  pub up_is : UpIs t into i r.up

-- ---- the rows passed, by their hashes
abbrev pub hash_at : List ℕ → List ℕ → ℕ → ℕ
hash_at t ups j = twin_hash (moved_at t ups j)

-- k is a number below i at which p holds, or none where it holds at none
abbrev pub Found : (ℕ → Bool) → ℕ → Option ℕ → Type 0
Found p i k = MatchOption k ((j : ℕ) → j < i → p j ≡ false) (λ j. (j < i) × (p j ≡ true))

-- ---- the rows left
-- a row that goes into itself is left, with its new up
abbrev pub left_at : List ℕ → List ℕ → List ℕ → ℕ → List Row
left_at t into ups i = when (eqb (get_or into i 0) i) (moved_at t ups i ∷ [])

-- those of the first n
unfoldable pub left_of : List ℕ → List ℕ → List ℕ → ℕ → List Row
left_of t into ups zero = []
left_of t into ups (suc n) = left_of t into ups n ++ left_at t into ups n

-- 1 for a row that is left, else 0
abbrev pub is_left : List ℕ → ℕ → ℕ
is_left into i = one (eqb (get_or into i 0) i)
