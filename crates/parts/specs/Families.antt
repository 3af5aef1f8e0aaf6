-- What the private functions of the device's side promise of the rows' parents and children. A reader of the public contract need not
-- believe it. Assumes nothing.
use Rattle.std.specs.Prelude.{ℕ, ◌<◌, ◌≤◌, ◌≡◌, true, false, List, length, get_or}
use Rattle.base.specs.Search.{first}
use Rattle.tables.specs.Words.{row_at, row_count}
use Rattle.tables.specs.Tables.{row_limit, is_parent, accepted_table}
use Rattle.parts.specs.declared.families.Family.{Family}

-- an accepted table of one device
pub record OneDevice (t : List ℕ) : Type 0 where
  pub accepted : accepted_table t ≡ true
  pub same : (i : ℕ) → i < row_count t → (row_at t i).device ≡ (row_at t 0).device

-- the number of a row's parent, or the row's own where it has none
unfoldable pub parent_of : List ℕ → ℕ → ℕ
parent_of t i = first (λ j. is_parent (row_at t i) (row_at t j)) i

abbrev pub family_at : List Family → ℕ → Family
family_at fs i = get_or fs i (record { parent = 0; end = 0 })

-- a work array says of each of the first n rows who its parent is, and where its children among them end: behind the row itself, and
-- behind the last of them
pub record FamiliesWithin (t : List ℕ) (fs : List Family) (n : ℕ) : Type 0 where
  pub sized : length fs ≡ row_limit
  pub parent : (i : ℕ) → i < n → (family_at fs i).parent ≡ parent_of t i
  pub behind : (i : ℕ) → i < n → i < (family_at fs i).end
  pub within : (i : ℕ) → i < n → (family_at fs i).end ≤ n
  pub none_later : (i j : ℕ) → i < n → (family_at fs i).end ≤ j → j < n → is_parent (row_at t j) (row_at t i) ≡ false

-- of all rows
abbrev pub Families : List ℕ → List Family → Type 0
Families t fs = FamiliesWithin t fs (row_count t)
