-- 01, Verdict: the bindings as the code holds them. Assumes nothing.
use Rattle.std.specs.Prelude.{ℕ, zero, suc, ◌+◌, cond, ◌&&◌, Option, Some, None, List, get_or, set, replicate, ltb, leb}
use Rattle.tables.specs.Words.{row_at}
use Rattle.tables.specs.Rules.{nesting_limit}
use Rattle.tables.specs.Tables.{row_limit}
use Rattle.logic.specs.Verdict as meaning
use Rattle.engine.specs.declared.bindings.Bindings.{Bindings}

-- none bound
abbrev pub fresh : Bindings
fresh = record { row = replicate nesting_limit 0; depth = 0 }

-- the next variable bound to a place; a full set stays, and so does one given a place that no table has
abbrev pub bind_at : Bindings → ℕ → Bindings
bind_at b p = cond (ltb b.depth nesting_limit && leb p row_limit) (record { row = set b.row b.depth p; depth = b.depth + 1 }) b

-- the row at a place
abbrev pub row_of_place : ℕ → Option ℕ
row_of_place zero = None
row_of_place (suc i) = Some i

-- what a place stands for: 0 for nothing, else 1 + the row's number
abbrev pub place_of : List ℕ → ℕ → meaning.Place
place_of t zero = meaning.nothing
place_of t (suc i) = meaning.bound (row_at t i)

-- the bindings that a set of places stands for
unfoldable pub bindings_of : List ℕ → List ℕ → meaning.Bindings
bindings_of t places v = place_of t (get_or places v 0)
