-- What the private functions of the device's side require and promise of the chains by which quantifiers reach rows. A reader of the
-- public contract need not believe it. Assumes nothing.
use Rattle.std.specs.Prelude.{ℕ, zero, suc, ◌+◌, ◌<◌, ◌≤◌, ◌≡◌, List, [], ◌∷◌, length, get_or, set, replicate, Option, Some, None}
use Rattle.tables.specs.Words.{row_at, row_count, rows, entry_at, entry_count}
use Rattle.tables.specs.Rules.{nesting_limit}
use Rattle.tables.specs.declared.Row.{Row}
use Rattle.logic.specs.Formulas.{over_of}
use Rattle.logic.specs.Verdict as meaning
use Rattle.logic.specs.Parts.{Chains, no_chains, chains_with, reach}
use Rattle.engine.specs.Places.{bind_at}
use Rattle.engine.specs.Ready.{Placed, meant}
use Rattle.engine.specs.declared.bindings.Bindings.{Bindings}
use Rattle.parts.specs.declared.chains.Binders.{Binders}

-- ---- quantifiers around an entry
abbrev pub no_binders : Binders
no_binders = record { entry = replicate nesting_limit 0; depth = 0 }

abbrev pub with_binder : Binders → ℕ → Binders
with_binder by e = record { entry = set by.entry by.depth e; depth = by.depth + 1 }

-- the chains of the variables below d, which the quantifiers at these entries bind
unfoldable pub chains_below : List ℕ → List ℕ → List ℕ → ℕ → Chains
chains_below rule t by zero = no_chains
chains_below rule t by (suc d) =
    chains_with d (reach (rows t) (over_of (entry_at rule (get_or by d 0)).b) (entry_at rule (get_or by d 0)).c d (chains_below rule t by d)) (chains_below rule t by d)

-- how the quantifier at entry e, which binds variable d, reaches a row
abbrev pub reach_at : List ℕ → List ℕ → List ℕ → ℕ → ℕ → Row → List meaning.Bindings
reach_at rule t by d e r = reach (rows t) (over_of (entry_at rule e).b) (entry_at rule e).c d (chains_below rule t by d) r

-- an entry is a quantifier's, and names in b a variable below d
pub record Binds (rule : List ℕ) (d e : ℕ) : Type 0 where
  pub inside : e < entry_count rule
  pub high : 5 ≤ (entry_at rule e).kind
  pub low : (entry_at rule e).kind ≤ 6
  pub over : (entry_at rule e).b ≤ d

-- each of them does
abbrev pub Around : List ℕ → List ℕ → ℕ → Type 0
Around rule by d = (v : ℕ) → v < d → Binds rule v (get_or by v 0)

-- ---- a chain
abbrev pub bound_from : Bindings → ℕ → ℕ → Bindings
bound_from b d i = bind_at (record { row = b.row; depth = d }) (i + 1)

-- the bindings that it stands for: none or one
abbrev pub chain_of : List ℕ → Option Bindings → List meaning.Bindings
chain_of t None = []
chain_of t (Some b) = meant t b ∷ []

pub record ReadyClimb (rule t by : List ℕ) (d e i : ℕ) : Type 0 where
  pub sized : length by ≡ nesting_limit
  pub limit : d < nesting_limit
  pub around : Around rule by d
  pub binds : Binds rule d e
  pub row_inside : i < row_count t

-- a chain's bindings are those of the table's rows
abbrev pub Deep : List ℕ → ℕ → Option Bindings → Type 0
Deep t d c = (b : Bindings) → c ≡ Some b → Placed t b × (b.depth ≡ suc d)

pub record Climbed (rule t by : List ℕ) (d e i : ℕ) (c : Option Bindings) : Type 0 where
  pub reaches : chain_of t c ≡ reach_at rule t by d e (row_at t i)
  pub deep : Deep t d c
