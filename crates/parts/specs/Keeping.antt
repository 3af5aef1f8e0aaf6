-- What the private functions of the device's side require and promise of the rows that its part keeps. A reader of the public contract
-- need not believe it. Assumes nothing.
use Rattle.std.specs.Prelude.{ℕ, ◌<◌, ◌≡◌, Bool, true, false, not, cond, ◌&&◌, List, length, get_or, eqb}
use Rattle.base.specs.Lists.{all}
use Rattle.tables.specs.Words.{row_at, row_count, rows}
use Rattle.tables.specs.Tables.{row_limit}
use Rattle.tables.specs.declared.Row.{Row}
use Rattle.logic.specs.Formulas.{Formula}
use Rattle.logic.specs.Parts.{ancestors}
use Rattle.parts.specs.Families.{family_at}
use Rattle.parts.specs.declared.families.Family.{Family}
use Rattle.parts.specs.Omitting.{omitted}

-- ---- one row
-- its parent is another row, which does not stay
abbrev pub left_out : List Family → List Bool → ℕ → Bool
left_out fs kept i = not (eqb (family_at fs i).parent i) && not (get_or kept (family_at fs i).parent false)

-- the mode's test: reached (mode 2), not spare (mode 3)
abbrev pub passes : ℕ → List Formula → List Row → Row → Bool
passes m Fs D r = not (omitted m Fs D r)

-- mode 1 keeps every row, the others those that pass and whose ancestors all do
unfoldable pub stays : ℕ → List Formula → List Row → Row → Bool
stays m Fs D r = cond (eqb m 1) true (passes m Fs D r && all (passes m Fs D) (ancestors D r))

-- a work array says of the first n rows whether they stay
pub record Keeps (Fs : List Formula) (t : List ℕ) (m : ℕ) (kept : List Bool) (n : ℕ) : Type 0 where
  pub sized : length kept ≡ row_limit
  pub kept_is : (i : ℕ) → i < n → get_or kept i false ≡ stays m Fs (rows t) (row_at t i)

pub record ReadyRow (Fs : List Formula) (t : List ℕ) (kept : List Bool) (m i : ℕ) : Type 0 where
  pub kept_before : Keeps Fs t m kept i
  pub row_inside : i < row_count t
