-- What the engine's private functions require and promise. A reader of the public contracts need not believe it. Assumes nothing.
use Rattle.std.specs.Prelude.{ℕ, suc, ◌+◌, ◌<◌, ◌≤◌, ◌≡◌, Bool, true, ◌&&◌, List, length, get_or, eqb}
use Rattle.base.specs.Lists.{select}
use Rattle.tables.specs.Words.{row_count, rows, rows_from, entry_count}
use Rattle.tables.specs.Rules.{nesting_limit, around, accepted_rule}
use Rattle.tables.specs.Tables.{root, is_parent, accepted_table}
use Rattle.tables.specs.declared.Row.{Row}
use Rattle.tables.specs.declared.Comparison.{Comparison}
use Rattle.tables.specs.declared.Over.{Over}
use Rattle.tables.specs.declared.Over.TheVariants.{Under}
use Rattle.tables.specs.declared.Operand.{Operand}
use Rattle.tables.specs.declared.Operand.TheVariants.{Variable}
use Rattle.logic.specs.Formulas.{Formula, quantified, formula_at}
use Rattle.logic.specs.Verdict as meaning
use Rattle.engine.specs.Places.{bindings_of}
use Rattle.engine.specs.declared.bindings.Bindings.{Bindings}
use Rattle.engine.specs.declared.ranges.Quantified.{Quantified}

-- ---- the bindings
-- each variable has nothing or a row of the pool
pub record Placed (pool : List ℕ) (b : Bindings) : Type 0 where
  pub sized : length b.row ≡ nesting_limit
  pub shallow : b.depth ≤ nesting_limit
  pub kept : (v : ℕ) → get_or b.row v 0 ≤ row_count pool

-- the bindings that b stands for
abbrev pub meant : List ℕ → Bindings → meaning.Bindings
meant pool b = bindings_of pool b.row

-- a comparison holds
abbrev pub compared_by : List ℕ → Bindings → Comparison → ℕ → Operand → Bool
compared_by pool b c v o = meaning.compare c (meaning.value_at (meant pool b v)) (meaning.value_of (meant pool b) o)

-- the variable that it names is one that a rule may have
abbrev pub NamedOther : Operand → Type 0
NamedOther o = (v : ℕ) → o ≡ Variable v → v < nesting_limit

abbrev pub NamedParent : Over → Type 0
NamedParent o = (v : ℕ) → o ≡ Under v → v < nesting_limit

-- a quantifier, as the code has read its entry, ranges over a row
abbrev pub ranges_by : List ℕ → Bindings → Quantified → Row → Bool
ranges_by pool b q r = meaning.ranges q.over q.name (meant pool b) r

-- a row is a root, or hangs under another, and passes a name test: tested in this order
abbrev pub is_named_root : ℕ → Row → Bool
is_named_root name r = root r && meaning.named name r

abbrev pub is_named_child : Row → ℕ → Row → Bool
is_named_child parent name r = meaning.named name r && eqb parent.at r.up && is_parent r parent

-- it ranges over no row but some of the k from row i on
pub record Covers (pool : List ℕ) (b : Bindings) (q : Quantified) (i k : ℕ) : Type 0 where
  pub place : i + k ≤ row_count pool
  pub whole : select (ranges_by pool b q) (rows_from pool i k) ≡ select (ranges_by pool b q) (rows pool)

-- ---- an entry
-- what evaluating an entry rests on
pub record Ready (rule pool : List ℕ) (b : Bindings) (e : ℕ) : Type 0 where
  pub rule_accepted : accepted_rule rule ≡ true
  pub pool_accepted : accepted_table pool ≡ true
  pub inside : e < entry_count rule
  pub depth_is : b.depth ≡ around rule e
  pub placed : Placed pool b

-- its verdict
abbrev pub verdict_at : List ℕ → List ℕ → Bindings → ℕ → Bool
verdict_at rule pool b e = meaning.holds (formula_at rule e) (rows pool) b.depth (meant pool b)

-- ---- a quantifier whose entry has been read, over k rows from row i on
-- what walking its rows rests on
pub record ReadyRun (rule pool : List ℕ) (b : Bindings) (q : Quantified) (i k : ℕ) : Type 0 where
  pub rule_accepted : accepted_rule rule ≡ true
  pub pool_accepted : accepted_table pool ≡ true
  pub placed : Placed pool b
  pub inside : q.body < entry_count rule
  pub body_depth : around rule q.body ≡ b.depth + 1
  pub room : b.depth < nesting_limit
  pub parent : NamedParent q.over
  pub place : i + k ≤ row_count pool

-- its formula
abbrev pub formula_by : List ℕ → Quantified → Formula
formula_by rule q = quantified q.by q.over q.name (formula_at rule q.body)

-- the rows that it ranges over
abbrev pub ranged_by : List ℕ → Bindings → Quantified → ℕ → ℕ → List Row
ranged_by pool b q i k = select (ranges_by pool b q) (rows_from pool i k)

-- its body's verdict at a row
abbrev pub body_by : List ℕ → List ℕ → Bindings → Quantified → Row → Bool
body_by rule pool b q r = meaning.holds (formula_at rule q.body) (rows pool) (suc b.depth) (meaning.bind b.depth (meaning.bound r) (meant pool b))

-- its verdict over those rows
abbrev pub verdict_by : List ℕ → List ℕ → Bindings → Quantified → ℕ → ℕ → Bool
verdict_by rule pool b q i k = meaning.fold q.by (body_by rule pool b q) (ranged_by pool b q i k)
