-- What the private functions require and promise of the runs of rows in which a row's children stand. A reader of the public contracts
-- need not believe it. Assumes nothing.
use Rattle.std.specs.Prelude.{ℕ, ◌+◌, ◌<◌, ◌≤◌, ◌≡◌, Bool, true, cond, ◌&&◌, ◌||◌, List, length, get_or, replicate, eqb, ltb}
use Rattle.tables.specs.Words.{row_at, row_count}
use Rattle.tables.specs.Tables.{row_limit, is_parent}
use Rattle.tables.specs.declared.Row.{Row}
use Rattle.engine.specs.declared.children.Children.{Children}

-- row b stands before the parent of row r
abbrev pub before_parent : Row → Row → Bool
before_parent r b = ltb b.device r.device || (eqb b.device r.device && ltb b.at r.up)

-- no child is noted
abbrev pub no_children : Children
no_children = record { start = 0; end = 0 }

-- in each row that a table may have
abbrev pub NoneNoted : List Children → Type 0
NoneNoted cs = cs ≡ replicate row_limit no_children

-- the children noted at row p
abbrev pub run_at : List Children → ℕ → Children
run_at cs p = get_or cs p no_children

-- one more child, row i, behind the others: their run starts where it did, or there if nothing was noted
abbrev pub with_child : Children → ℕ → Children
with_child c i = record { start = cond (eqb c.end 0) i c.start; end = i + 1 }

-- of the children of each row among the first n rows none stands before the row's start, and none from its end on
pub record RunsWithin (pool : List ℕ) (children : List Children) (n : ℕ) : Type 0 where
  pub sized : length children ≡ row_limit
  pub few : row_count pool ≤ row_limit
  pub ordered : (p : ℕ) → (run_at children p).start ≤ (run_at children p).end
  pub within : (p : ℕ) → (run_at children p).end ≤ n
  pub covers : (p j : ℕ) → p < row_count pool → j < n → is_parent (row_at pool j) (row_at pool p) ≡ true
      → ((run_at children p).start ≤ j) × (j < (run_at children p).end)

-- of all rows
abbrev pub Runs : List ℕ → List Children → Type 0
Runs pool children = RunsWithin pool children (row_count pool)
