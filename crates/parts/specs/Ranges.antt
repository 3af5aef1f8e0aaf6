-- The rows that a quantifier ranges over: roots, or those whose parent is a bound row; cited by private contracts alone. Assumes nothing.
use Rattle.std.specs.Prelude.{ℕ, zero, suc, ◌<◌, Bool, ◌&&◌, List, get_or, Option, Some, None}
use Rattle.tables.specs.Words.{row_at}
use Rattle.tables.specs.Rules.{nesting_limit}
use Rattle.tables.specs.Tables.{root, is_parent}
use Rattle.tables.specs.declared.Row.{Row}
use Rattle.tables.specs.declared.nodes.Over.{Over}
use Rattle.tables.specs.declared.nodes.Over.TheVariants.{Roots, Under}
use Rattle.logic.specs.Verdict.{named}

-- the row at a place: 0 for nothing, else 1 + the row's number
abbrev pub row_at_place : ℕ → Option ℕ
row_at_place zero = None
row_at_place (suc i) = Some i

abbrev pub row_of : List ℕ → ℕ → Option ℕ
row_of places v = row_at_place (get_or places v 0)

-- a parent's variable is one of those that a rule may have
abbrev pub OverBound : Over → Type 0
OverBound Roots = Unit {0}
OverBound (Under v) = v < nesting_limit

-- the parent: none for roots, and where its variable has nothing
abbrev pub parent_under : List ℕ → Over → Option ℕ
parent_under places Roots = None
parent_under places (Under v) = row_of places v

-- a row is a root, where there is no parent, or hangs under it. None means roots here: whoever asks for a variable's rows asks first
-- whether it has one
abbrev pub hangs_at : List ℕ → Option ℕ → Row → Bool
hangs_at t None r = root r
hangs_at t (Some p) r = is_parent r (row_at t p)

-- the quantifier ranges over a row
abbrev pub ranged : List ℕ → Option ℕ → ℕ → Row → Bool
ranged t parent name r = hangs_at t parent r && named name r
