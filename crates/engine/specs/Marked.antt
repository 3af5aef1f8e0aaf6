-- What the private functions that mark rows promise. A reader of the public contracts need not believe it. Assumes nothing.
use Rattle.std.specs.Prelude.{ℕ, zero, suc, ◌<◌, ◌≤◌, ◌≡◌, Bool, true, false, not, Option, Some, cond, ◌&&◌, List, [], ◌∷◌, get_or, set}
use Rattle.base.specs.Lists.{any, select, concat_map}
use Rattle.tables.specs.Words.{row_at, rows, entry_count}
use Rattle.tables.specs.Tables.{root, same_row}
use Rattle.tables.specs.Rules.{around}
use Rattle.tables.specs.declared.Row.{Row}
use Rattle.logic.specs.Formulas.{formula_at}
use Rattle.tables.specs.declared.Connective.{Connective}
use Rattle.tables.specs.declared.Connective.TheVariants.{And, Or, Implies}
use Rattle.tables.specs.declared.Operand.{Operand}
use Rattle.tables.specs.declared.Operand.TheVariants.{Variable, Constant}
use Rattle.logic.specs.Verdict as meaning
use Rattle.logic.specs.Marks.{reason, decides}
use Rattle.engine.specs.Ready.{meant, ranges_by, ranged_by, body_by}
use Rattle.engine.specs.declared.bindings.Bindings.{Bindings}
use Rattle.engine.specs.declared.ranges.Quantified.{Quantified}

-- the bytes m with 1 at each row of T that is among R
unfoldable pub mark_rows : List Row → List Row → List ℕ → List ℕ
mark_rows [] R m = m
mark_rows (t ∷ T) R [] = []
mark_rows (t ∷ T) R (x ∷ m) = cond (any (same_row t) R) 1 x ∷ mark_rows T R m

-- the pool's bytes m with 1 at each of its rows that is among R
abbrev pub mark_in : List ℕ → List Row → List ℕ → List ℕ
mark_in pool R m = mark_rows (rows pool) R m

-- a root that passes a name test
abbrev pub root_named : ℕ → Row → Bool
root_named n r = root r && meaning.named n r

-- the name that is marked whole in the bytes m, if any: some roots pass its test, and marking them changes nothing
abbrev pub MarkedWhole : List ℕ → Option ℕ → List ℕ → Type 0
MarkedWhole pool w m = (n : ℕ) → w ≡ Some n → (any (root_named n) (rows pool) ≡ true) × (mark_in pool (select (root_named n) (rows pool)) m ≡ m)

-- the bytes m with 1 at a place of the bindings
abbrev pub mark_at : ℕ → List ℕ → List ℕ
mark_at zero m = m
mark_at (suc i) m = set m i 1

-- the bytes m with 1 at the places of what a comparison compares
abbrev pub mark_operand : Bindings → Operand → List ℕ → List ℕ
mark_operand b (Variable v) m = mark_at (get_or b.row v 0) m
mark_operand b (Constant x) m = m

abbrev pub mark_compared : Bindings → ℕ → Operand → List ℕ → List ℕ
mark_compared b v o m = mark_operand b o (mark_at (get_or b.row v 0) m)

-- the reason of an entry
abbrev pub reason_at : List ℕ → List ℕ → Bindings → ℕ → List Row
reason_at rule pool b e = reason (formula_at rule e) (rows pool) b.depth (meant pool b)

-- the left side's verdict that goes with a connective's verdict v: where it is in its reason, or would settle it
abbrev pub side_for : Connective → Bool → Bool
side_for And v = v
side_for Or v = v
side_for Implies v = not v

-- the verdict of a connective that no side decides by itself
abbrev pub undecided : Connective → Bool
undecided And = true
undecided Or = false
undecided Implies = false

-- a row and the reason of a quantifier's body, with any bindings
abbrev pub with_reason : List ℕ → List ℕ → Bindings → Quantified → meaning.Bindings → Row → List Row
with_reason rule pool b q β r = r ∷ reason (formula_at rule q.body) (rows pool) (suc b.depth) (meaning.bind b.depth (meaning.bound r) β)

abbrev pub with_body : List ℕ → List ℕ → Bindings → Quantified → Row → List Row
with_body rule pool b q r = with_reason rule pool b q (meant pool b) r

-- those of each row ranged over, among k rows from row i on
abbrev pub reason_by : List ℕ → List ℕ → Bindings → Quantified → ℕ → ℕ → List Row
reason_by rule pool b q i k = concat_map (with_body rule pool b q) (ranged_by pool b q i k)

-- row j is ranged over and decides
abbrev pub decides_by : List ℕ → List ℕ → Bindings → Quantified → ℕ → Bool
decides_by rule pool b q j = ranges_by pool b q (row_at pool j) && decides q.by (body_by rule pool b q (row_at pool j))

-- entry f with verdict w stands under entry e with verdict v: they are alike but for nots
pub record Under (rule : List ℕ) (e : ℕ) (v : Bool) (f : ℕ) (w : Bool) : Type 0 where
  pub inside : f < entry_count rule
  pub later : e ≤ f
  pub same_depth : around rule f ≡ around rule e
  pub verdict_is : (T : List Row) (d : ℕ) (β : meaning.Bindings) → v ≡ meaning.holds (formula_at rule e) T d β → w ≡ meaning.holds (formula_at rule f) T d β
  pub reason_is : (T : List Row) (d : ℕ) (β : meaning.Bindings) → reason (formula_at rule f) T d β ≡ reason (formula_at rule e) T d β
