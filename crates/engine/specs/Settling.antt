-- What the private functions promise that settle a quantifier before its rows are walked. A reader of the public contracts need not
-- believe it. Assumes nothing.
use Rattle.std.specs.Prelude.{ℕ, suc, ◌≡◌, Bool, true, List, ◌∷◌, ◌++◌, get_or}
use Rattle.base.specs.Lists.{concat_map}
use Rattle.tables.specs.Words.{row_at, row_count, rows}
use Rattle.tables.specs.declared.Row.{Row}
use Rattle.tables.specs.declared.Comparison.{Comparison}
use Rattle.tables.specs.declared.Operand.{Operand}
use Rattle.tables.specs.declared.Over.{Over}
use Rattle.tables.specs.declared.Over.TheVariants.{Roots, Under}
use Rattle.logic.specs.Formulas.{formula_at}
use Rattle.logic.specs.Verdict as meaning
use Rattle.logic.specs.Marks.{row_of, rows_of, reason}
use Rattle.engine.specs.Places.{bind_at}
use Rattle.engine.specs.Ready.{meant, ranged_by, verdict_at, verdict_by}
use Rattle.engine.specs.Marked.{reason_at, with_reason, with_body, reason_by}
use Rattle.engine.specs.declared.bindings.Bindings.{Bindings}
use Rattle.engine.specs.declared.ranges.Quantified.{Quantified}

-- a variable whose place is a row's has that row, the others any or none
abbrev pub Fits : List ℕ → Bindings → meaning.Bindings → Type 0
Fits pool b β = (v i : ℕ) → get_or b.row v 0 ≡ suc i → β v ≡ meaning.bound (row_at pool i)

-- yes means that the comparison has that verdict and one reason for all bindings that fit
pub record CertainCompared (pool : List ℕ) (b : Bindings) (c : Comparison) (v : ℕ) (o : Operand) (want answer : Bool) : Type 0 where
  pub sure : answer ≡ true → (β : meaning.Bindings) → Fits pool b β → meaning.compare c (meaning.value_at (β v)) (meaning.value_of β o) ≡ want
  pub alike : answer ≡ true → (β : meaning.Bindings) → Fits pool b β → row_of (β v) ++ rows_of β o ≡ row_of (meant pool b v) ++ rows_of (meant pool b) o

-- yes means that the entry has that verdict and, where it is asked, one reason
pub record Certain (rule pool : List ℕ) (b : Bindings) (e : ℕ) (want same answer : Bool) : Type 0 where
  pub sure : answer ≡ true → (β : meaning.Bindings) → Fits pool b β → meaning.holds (formula_at rule e) (rows pool) b.depth β ≡ want
  pub alike : answer ≡ true → same ≡ true → (β : meaning.Bindings) → Fits pool b β → reason (formula_at rule e) (rows pool) b.depth β ≡ reason_at rule pool b e

-- the rows that a quantifier ranges over hang under a known row
abbrev pub KnownParent : Bindings → Over → Type 0
KnownParent b Roots = ⊥
KnownParent b (Under v) = get_or b.row v 0 ≡ 0 → ⊥

-- they are roots, or hang under a known row
abbrev pub KnownRows : Bindings → Over → Type 0
KnownRows b o = (v : ℕ) → o ≡ Under v → get_or b.row v 0 ≡ 0 → ⊥

-- yes means, where one reason is asked, that no row decides and that the rows ranged over are known
pub record Steady (b : Bindings) (q : Quantified) (want same answer : Bool) : Type 0 where
  pub settled : answer ≡ true → same ≡ true → want ≡ meaning.settled q.by
  pub known : answer ≡ true → same ≡ true → KnownRows b q.over

-- the verdict of its body at a row, with other bindings
abbrev pub body_with : List ℕ → List ℕ → Bindings → Quantified → meaning.Bindings → Row → Bool
body_with rule pool b q β r = meaning.holds (formula_at rule q.body) (rows pool) (suc b.depth) (meaning.bind b.depth (meaning.bound r) β)

-- yes means that the quantifier has that verdict over k rows from row i on and, where it is asked and none of them decides, one reason
pub record CertainRun (rule pool : List ℕ) (b : Bindings) (q : Quantified) (want same : Bool) (i k : ℕ) (answer : Bool) : Type 0 where
  pub sure : answer ≡ true → (β : meaning.Bindings) → Fits pool b β → meaning.fold q.by (body_with rule pool b q β) (ranged_by pool b q i k) ≡ want
  pub alike : answer ≡ true → same ≡ true → want ≡ meaning.settled q.by → (β : meaning.Bindings) → Fits pool b β
      → concat_map (with_reason rule pool b q β) (ranged_by pool b q i k) ≡ reason_by rule pool b q i k

-- yes means that no row decides the quantifier, as its body has that verdict with the row unknown; and, where it is asked, that the body's
-- reason at each row is that of an unknown row
pub record Settles (rule pool : List ℕ) (b : Bindings) (q : Quantified) (same answer : Bool) : Type 0 where
  pub sure : answer ≡ true → meaning.settled q.by ≡ verdict_by rule pool b q 0 (row_count pool)
  pub body : answer ≡ true → meaning.settled q.by ≡ verdict_at rule pool (bind_at b 0) q.body
  pub alike : answer ≡ true → same ≡ true → (r : Row) → with_body rule pool b q r ≡ r ∷ reason_at rule pool (bind_at b 0) q.body
