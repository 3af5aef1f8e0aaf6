-- 01, Marks. Assumes nothing.
use Rattle.std.specs.Prelude.{ℕ, suc, Bool, not, cond, List, [], ◌∷◌, ◌++◌, map, length, leb}
use Rattle.base.specs.Lists.{select, any, concat_map}
use Rattle.tables.specs.Answers.{and_then, unless, output}
use Rattle.tables.specs.Words.{rows, row_count}
use Rattle.tables.specs.Rules.{one, check_rule}
use Rattle.tables.specs.Tables.{same_row, check_table}
use Rattle.tables.specs.declared.Row.{Row}
use Rattle.tables.specs.Answers.{Answer}
use Rattle.tables.specs.Answers.{Done}
use Rattle.logic.specs.Formulas.{Formula, negation, joined, quantified, compared, formula}
use Rattle.tables.specs.declared.Quantifier.{Quantifier}
use Rattle.tables.specs.declared.Quantifier.TheVariants.{Every, Exists}
use Rattle.tables.specs.declared.Connective.{Connective}
use Rattle.tables.specs.declared.Connective.TheVariants.{And, Or, Implies}
use Rattle.tables.specs.declared.Operand.{Operand}
use Rattle.tables.specs.declared.Operand.TheVariants.{Variable, Constant}
use Rattle.logic.specs.Verdict.{Place, nothing, bound, Bindings, none_bound, bind, ranges, fold, holds, verdict}
use Rattle.tables.specs.declared.Fault.TheVariants.{ShortOutput}

-- ---- the reason of an entry with its verdict, as the rows that it marks
-- comparison: the row or rows of its variables
abbrev pub row_of : Place → List Row
row_of nothing = []
row_of (bound r) = r ∷ []

abbrev pub rows_of : Bindings → Operand → List Row
rows_of b (Variable v) = row_of (b v)
rows_of b (Constant k) = []

-- the left side alone decides: and false, or true, implies true by a false left side
abbrev pub left_decides : Connective → Bool → Bool
left_decides And a = not a
left_decides Or a = a
left_decides Implies a = not a

abbrev pub right_decides : Connective → Bool → Bool
right_decides And b = not b
right_decides Or b = b
right_decides Implies b = b

-- the first side that decides, else both sides
abbrev pub because : Connective → Bool → Bool → List Row → List Row → List Row
because c a b x y = cond (left_decides c a) x (cond (right_decides c b) y (x ++ y))

-- the body's value at a row decides the quantifier: false for kind 5, true for kind 6
abbrev pub decides : Quantifier → Bool → Bool
decides Every a = not a
decides Exists a = a

-- the first row that decides
abbrev pub first_deciding : Quantifier → (Row → Bool) → List Row → List Row
first_deciding q f [] = []
first_deciding q f (r ∷ rs) = cond (decides q (f r)) (r ∷ []) (first_deciding q f rs)

-- kind 5 false or kind 6 true: the first row that decides; else every row ranged over
abbrev pub witnesses : Quantifier → (Row → Bool) → List Row → List Row
witnesses q f rs = cond (decides q (fold q f rs)) (first_deciding q f rs) rs

unfoldable pub reason : Formula → List Row → ℕ → Bindings → List Row
reason (negation φ) T d b = reason φ T d b
reason (joined c φ ψ) T d b = because c (holds φ T d b) (holds ψ T d b) (reason φ T d b) (reason ψ T d b)
reason (quantified q o n φ) T d b =
    concat_map (λ r. r ∷ reason φ T (suc d) (bind d (bound r) b))
    (witnesses q (λ r. holds φ T (suc d) (bind d (bound r) b)) (select (ranges o n b) T))
reason (compared c v w) T d b = row_of (b v) ++ rows_of b w

-- a row is marked if it is in the reason of the whole rule
unfoldable pub marked : Formula → List Row → Row → Bool
marked F T r = any (same_row r) (reason F T 0 none_bound)

-- one byte per row, 1 marked, 0 not
abbrev pub mark_bytes : Formula → List Row → List ℕ
mark_bytes F T = map (λ r. one (marked F T r)) T

-- ---- the call: the verdict, or the refusal; the output is one byte per row and what stood past them, or as it was
unfoldable pub marks_answer : List ℕ → List ℕ → ℕ → Answer
marks_answer rule pool room =
    and_then (check_rule rule) (and_then (check_table pool)
    (unless (leb (row_count pool) room) ShortOutput
    (Done (one (verdict (formula rule) (rows pool))))))

unfoldable pub marks_out : List ℕ → List ℕ → List ℕ → List ℕ
marks_out rule pool out = output (marks_answer rule pool (length out)) (mark_bytes (formula rule) (rows pool)) out
