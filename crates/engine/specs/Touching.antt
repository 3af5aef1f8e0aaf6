-- What the private functions require and promise that tell whether a rule has a quantifier that reaches a row. A reader of the public
-- contracts need not believe it. Assumes nothing.
use Rattle.std.specs.Prelude.{ℕ, zero, suc, ◌+◌, ◌<◌, ◌≤◌, ◌≡◌, true, false, cond, Option, Some, None, List, length, get_or, set, ltb}
use Rattle.base.specs.Lists.{any}
use Rattle.tables.specs.Words.{row_at, row_count, rows}
use Rattle.tables.specs.Rules.{nesting_limit}
use Rattle.tables.specs.Tables.{is_parent}
use Rattle.tables.specs.declared.Over.{Over}
use Rattle.tables.specs.declared.Over.TheVariants.{Roots, Under}
use Rattle.logic.specs.Formulas.{formula_at}
use Rattle.logic.specs.Verdict.{named}
use Rattle.logic.specs.Parts.{Chains, reached_in}
use Rattle.engine.specs.declared.bindings.Bindings.{Bindings}

-- ---- the way
-- row j is on the way from row i up to its root
pub data OnWay (t : List ℕ) : ℕ → ℕ → Type 0 where
  own : {i : ℕ} → OnWay t i i
  up : {i p j : ℕ} → p < row_count t → is_parent (row_at t i) (row_at t p) ≡ true → OnWay t p j → OnWay t i j

-- a row noted by its depth
abbrev pub noted_on_way : List (Option ℕ) → ℕ → ℕ → List (Option ℕ)
noted_on_way rows i deep = cond (ltb deep nesting_limit) (set rows deep (Some i)) rows

-- the rows on the way from a row are noted
pub record WayUp (t : List ℕ) (row : ℕ) (rows : List (Option ℕ)) : Type 0 where
  pub inside : row < row_count t
  pub sized : length rows ≡ nesting_limit
  pub within : (d i : ℕ) → get_or rows d None ≡ Some i → i < row_count t
  pub on_way : (i : ℕ) → OnWay t row i → (row_at t i).deep < nesting_limit → get_or rows (row_at t i).deep None ≡ Some i

-- ---- a quantifier, given the places of the variables
-- the depth of the rows under the row at a place, if there is one
abbrev pub depth_under : List ℕ → ℕ → Option ℕ
depth_under t zero = None
depth_under t (suc j) = Some ((row_at t j).deep + 1)

-- the depth of the rows that it reaches
abbrev pub depth_of : List ℕ → List ℕ → Over → Option ℕ
depth_of t places Roots = Some 0
depth_of t places (Under v) = depth_under t (get_or places v 0)

-- if it reaches a row on the way, that row is found
pub record Lands (t : List ℕ) (row : ℕ) (places : List ℕ) (over : Over) (name : ℕ) (found : Option ℕ) : Type 0 where
  pub within : (i : ℕ) → found ≡ Some i → i < row_count t
  pub lands : (i : ℕ) → OnWay t row i → depth_of t places over ≡ Some (row_at t i).deep → (row_at t i).deep < nesting_limit
      → named name (row_at t i) ≡ true → found ≡ Some i

-- ---- an entry
-- a variable whose quantifier reaches a row on the way has that row's place, and the row isn't deeper than the variable's number
abbrev pub Known : List ℕ → ℕ → Chains → Bindings → Type 0
Known t row K b =
    (v i : ℕ) → v < b.depth → OnWay t row i → i < row_count t → any (λ x. true) (K v (row_at t i)) ≡ true
    → (get_or b.row v 0 ≡ suc i) × ((row_at t i).deep ≤ v)

-- no quantifier of it reaches the row
abbrev pub Misses : List ℕ → List ℕ → ℕ → Bindings → ℕ → Type 0
Misses rule t row b e = (K : Chains) → Known t row K b → reached_in (formula_at rule e) (rows t) b.depth K (row_at t row) ≡ false
