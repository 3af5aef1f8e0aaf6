-- What the private functions of the device's side require and promise of a reading. A reader of the public contract need not believe it.
-- Assumes nothing.
use Rattle.std.specs.Prelude.{ℕ, ◌+◌, ◌<◌, ◌≤◌, Bool, cond, List, Option, Some, None, IfSome}
use Rattle.base.specs.Lists.{select, all, any}
use Rattle.tables.specs.Words.{row_count, rows, rows_from}
use Rattle.tables.specs.Rules.{nesting_limit}
use Rattle.tables.specs.declared.Row.{Row}
use Rattle.tables.specs.declared.nodes.Comparison.{Comparison}
use Rattle.tables.specs.declared.nodes.Operand.{Operand}
use Rattle.tables.specs.declared.nodes.Operand.TheVariants.{Variable, Constant}
use Rattle.logic.specs.Formulas.{formula_at}
use Rattle.logic.specs.Verdict.{Place, bound}
use Rattle.logic.specs.Reading as meaning
use Rattle.logic.specs.Elsewhere.{body_reading}
use Rattle.engine.specs.Places.{bind_at}
use Rattle.engine.specs.Ready.{Placed, Ready, meant}
use Rattle.parts.specs.Ranges.{ranged}
use Rattle.engine.specs.declared.bindings.Bindings.{Bindings}

-- ---- a comparison
abbrev pub known : meaning.Value → Option ℕ
known (meaning.known n) = Some n
known meaning.unknown = None

-- a variable's value, and what it is compared with
abbrev pub value_at : List ℕ → Bindings → ℕ → Option ℕ
value_at t b v = known (meaning.value_read (meant t b v))

abbrev pub operand_at : List ℕ → Bindings → Operand → Option ℕ
operand_at t b w = known (meaning.operand_read (meant t b) w)

-- an operand that is a variable is one of those that a rule may have
abbrev pub Bound : Operand → Type 0
Bound (Variable v) = v < nesting_limit
Bound (Constant k) = Unit {0}

abbrev pub compared_at : List ℕ → Bindings → Comparison → ℕ → Operand → meaning.Reading
compared_at t b c v w = meaning.compare_reading c (meaning.value_read (meant t b v)) (meaning.operand_read (meant t b) w)

-- ---- an entry
-- it reads the value w
abbrev pub reads_at : List ℕ → List ℕ → Bindings → ℕ → Bool → Bool
reads_at rule t b e w = meaning.reads w (meaning.reading (formula_at rule e) (rows t) b.depth (meant t b))

-- ---- a quantifier's body, over n rows from row i on
-- its reading with its own variable at a place
abbrev pub body_at : List ℕ → List ℕ → Bindings → ℕ → Place → meaning.Reading
body_at rule t b body = body_reading (formula_at rule body) (rows t) b.depth (meant t b)

-- those that a quantifier ranges over, under that parent
abbrev pub ranged_rows : List ℕ → Option ℕ → ℕ → ℕ → ℕ → List Row
ranged_rows t parent name i n = select (ranged t parent name) (rows_from t i n)

-- the body reads the value w at all of them, or at one
abbrev pub sweeps_at : List ℕ → List ℕ → Bindings → Option ℕ → ℕ → ℕ → Bool → Bool → ℕ → ℕ → Bool
sweeps_at rule t b parent name body w whole i n =
    cond whole (all (λ r. meaning.reads w (body_at rule t b body (bound r))) (ranged_rows t parent name i n))
    (any (λ r. meaning.reads w (body_at rule t b body (bound r))) (ranged_rows t parent name i n))

-- the body can be read with its own variable at any place
pub record ReadySweep (rule t : List ℕ) (b : Bindings) (parent : Option ℕ) (body i n : ℕ) : Type 0 where
  pub room : b.depth < nesting_limit
  pub placed : Placed t b
  pub ready : (p : ℕ) → p ≤ row_count t → Ready rule t (bind_at b p) body
  pub parent_inside : IfSome parent (λ p. p < row_count t)
  pub rows_inside : i + n ≤ row_count t
