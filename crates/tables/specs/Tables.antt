-- 01, the refusals of a table: 8 to 12, with 26 between 11 and 12, wherever they are named. Assumes nothing.
use Rattle.std.specs.Prelude.{ℕ, ◌+◌, ◌-◌, Bool, cond, not, ◌&&◌, ◌||◌, List, [], ◌∷◌, ◌++◌, ltb, leb, eqb}
use Rattle.base.specs.Search.{some}
use Rattle.tables.specs.Answers.{Answer, unless, in_order, is_done}
use Rattle.tables.specs.Words.{whole, not_identifier, row_words, row_at, row_count}
use Rattle.tables.specs.declared.Row.{Row}
use Rattle.tables.specs.declared.refusals.Fault.{Fault}
use Rattle.tables.specs.declared.refusals.Fault.TheVariants.{TableLength, Range, Order, Parent, Sibling, Depth}

-- a root has no parent
abbrev pub root : Row → Bool
root r = eqb r.up 0

-- row p is the parent of row r
abbrev pub is_parent : Row → Row → Bool
is_parent r p = eqb p.device r.device && eqb p.at r.up

-- row r is one deeper than row p
abbrev pub is_deeper : Row → Row → Bool
is_deeper r p = eqb r.deep (p.deep + 1)

-- (device, at) identifies a row
abbrev pub same_row : Row → Row → Bool
same_row r s = eqb r.device s.device && eqb r.at s.at

-- rows rise by device, then by at: row r stands above row b
abbrev pub is_above : Row → Row → Bool
is_above r b = ltb b.device r.device || (eqb b.device r.device && ltb b.at r.at)

-- r and b are siblings with equal name and value; all roots of the table count as siblings
abbrev pub is_twin : Row → Row → Bool
is_twin r b = eqb b.up r.up && (root r || eqb b.device r.device) && eqb b.name r.name && eqb b.value r.value

-- ---- the faults of row i
-- 9: device, at or name out of range
abbrev pub out_of_range : Row → Bool
out_of_range r = not_identifier r.device || not_identifier r.at || not_identifier r.name

-- 10: not above the row before
abbrev pub not_above : List ℕ → ℕ → Bool
not_above t i = ltb 0 i && not (is_above (row_at t i) (row_at t (i - 1)))

-- 11: up isn't 0 and no earlier row of the device has it
abbrev pub no_parent : List ℕ → ℕ → Bool
no_parent t i = not (root (row_at t i)) && not (some (λ j. is_parent (row_at t i) (row_at t j)) i)

-- 26: deep isn't 0 at a root, or isn't one more than the parent's elsewhere
abbrev pub wrong_depth : List ℕ → ℕ → Bool
wrong_depth t i =
    not (cond (root (row_at t i)) (eqb (row_at t i).deep 0)
    (some (λ j. is_parent (row_at t i) (row_at t j) && is_deeper (row_at t i) (row_at t j)) i))

-- 12: an earlier sibling with equal name and value
abbrev pub has_twin : List ℕ → ℕ → Bool
has_twin t i = some (λ j. is_twin (row_at t i) (row_at t j)) i

-- row i has that fault
unfoldable pub row_fault : List ℕ → Fault → ℕ → Bool
row_fault t Range i = out_of_range (row_at t i)
row_fault t Order i = not_above t i
row_fault t Parent i = no_parent t i
row_fault t Depth i = wrong_depth t i
row_fault t k i = has_twin t i

-- a table has 0 to 1,024 rows
abbrev pub row_limit : ℕ
row_limit = 1024

-- 8: not 0 to 1,024 whole rows
abbrev pub table_length : List ℕ → Bool
table_length t = whole row_words t && leb (row_count t) row_limit

-- the checks of rows, in the order in which they are made: that of siblings is the last
abbrev pub order_checks : List Fault
order_checks = Range ∷ Order ∷ Parent ∷ Depth ∷ []

abbrev pub table_checks : List Fault
table_checks = order_checks ++ Sibling ∷ []

-- the answer of the table checks: the number of rows, or the first refusal
unfoldable pub check_table : List ℕ → Answer
check_table t = unless (table_length t) TableLength (in_order (row_fault t) (row_count t) table_checks)

-- a table is accepted if its own checks find no fault
abbrev pub accepted_table : List ℕ → Bool
accepted_table t = is_done (check_table t)

-- what all checks but that of siblings answer
unfoldable pub check_order : List ℕ → Answer
check_order t = unless (table_length t) TableLength (in_order (row_fault t) (row_count t) order_checks)

-- the table has no fault but, maybe, equal siblings
abbrev pub ordered_table : List ℕ → Bool
ordered_table t = is_done (check_order t)

-- ---- of one device's table, 14: a row whose device isn't the first row's
abbrev pub other_device : List ℕ → ℕ → Bool
other_device t i = not (eqb (row_at t i).device (row_at t 0).device)
