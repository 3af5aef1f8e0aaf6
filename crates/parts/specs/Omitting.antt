-- What the private functions of the device's side require and promise of rows that are left out by themselves. A reader of the public
-- contract need not believe it. Assumes nothing.
use Rattle.std.specs.Prelude.{ℕ, ◌<◌, ◌≡◌, Bool, false, not, cond, List, length, eqb, Option, Some, None}
use Rattle.tables.specs.Words.{row_at, row_count, rows, entry_count}
use Rattle.tables.specs.Rules.{nesting_limit, around}
use Rattle.tables.specs.declared.Row.{Row}
use Rattle.logic.specs.Formulas.{Formula, formula_at}
use Rattle.tables.specs.declared.Quantifier.{Quantifier}
use Rattle.logic.specs.Verdict.{Bindings, settled}
use Rattle.logic.specs.Reading.{reading, reads}
use Rattle.logic.specs.Parts.{Chains, reached_in, spare_in, reached_by_any, spare_for_each}
use Rattle.engine.specs.Ready.{Ready}
use Rattle.engine.specs.declared.bindings.Bindings as engine
use Rattle.parts.specs.Reaching.{chains_below, Around}
use Rattle.parts.specs.declared.chains.Binders.{Binders}

-- the row is not reached (mode 2), or is spare (mode 3)
abbrev pub omitted_in : ℕ → Formula → List Row → ℕ → Chains → Row → Bool
omitted_in m φ D d K r = cond (eqb m 2) (not (reached_in φ D d K r)) (spare_in φ D d K r)

-- a quantifier with the body φ lets a row be left out that it reaches with the bindings b
abbrev pub lets_out : ℕ → Quantifier → Formula → List Row → ℕ → Bindings → Bool
lets_out m q φ D d b = cond (eqb m 2) false (reads (settled q) (reading φ D d b))

-- where a quantifier reaches the row, its body can be read with the bindings along the chain
abbrev pub ReadyBody : List ℕ → List ℕ → Option engine.Bindings → ℕ → Type 0
ReadyBody rule t c body = (b : engine.Bindings) → c ≡ Some b → Ready rule t b body

-- how many variables the chain binds, if there is one
abbrev pub depth_of : Option engine.Bindings → ℕ
depth_of None = 0
depth_of (Some b) = b.depth

-- an entry under the quantifiers `by`
abbrev pub omitted_at : ℕ → List ℕ → List ℕ → Binders → ℕ → ℕ → Bool
omitted_at m rule t by e i = omitted_in m (formula_at rule e) (rows t) by.depth (chains_below rule t by.entry by.depth) (row_at t i)

pub record ReadyOmit (rule t : List ℕ) (by : Binders) (e i : ℕ) : Type 0 where
  pub sized : length by.entry ≡ nesting_limit
  pub binders : Around rule by.entry by.depth
  pub inside : e < entry_count rule
  pub depth_is : by.depth ≡ around rule e
  pub row_inside : i < row_count t

-- ---- for a set: no rule reaches the row (mode 2), or it is spare for each (mode 3)
abbrev pub omitted : ℕ → List Formula → List Row → Row → Bool
omitted m Fs D r = cond (eqb m 2) (not (reached_by_any Fs D r)) (spare_for_each Fs D r)
