-- 02, wish 12: blocks entered twice. Equal siblings of one device's table are folded, one folding after another. Assumes nothing.
use Rattle.std.specs.Prelude.{ℕ, zero, suc, ◌*◌, ◌≤◌, ◌≡◌, true, cond, not, ◌&&◌, List, [], ◌∷◌, map, length, take, leb}
use Rattle.base.specs.Lists.{◌∈◌, select, concat_map}
use Rattle.tables.specs.Answers.{is_done, value, and_then, unless, unless_any, output}
use Rattle.tables.specs.Words.{row_words, row_count, rows, words_of}
use Rattle.tables.specs.Tables.{is_parent, same_row, is_above, is_twin, accepted_table, check_order, other_device}
use Rattle.tables.specs.declared.Row.{Row}
use Rattle.tables.specs.Answers.{Answer}
use Rattle.tables.specs.Answers.{Done}
use Rattle.tables.specs.declared.Fault.TheVariants.{OtherDevice, ShortOutput}

-- ---- one folding
-- equal siblings, of which one stands before the other
pub record Twins : Type 0 where
  pub earlier : Row
  pub later : Row

-- those of a table; first those whose later row is the first that has any
unfoldable pub twins_in : List Row → List Twins
twins_in T =
    concat_map (λ later. map (λ earlier. record { earlier = earlier; later = later }) (select (λ r. is_above later r && is_twin later r) T)) T

-- a row with another up
abbrev pub with_up : ℕ → Row → Row
with_up up r = record { device = r.device; at = r.at; up = up; deep = r.deep; name = r.name; value = r.value }

-- the later row's children hang under the earlier one
abbrev pub hung : Twins → Row → Row
hung w r = cond (is_parent r w.later) (with_up w.earlier.at r) r

-- the later row goes
unfoldable pub fold_twins : Twins → List Row → List Row
fold_twins w T = map (hung w) (select (λ r. not (same_row r w.later)) T)

-- ---- this repeats until no equal siblings are left
-- the first ones are folded, if there are any
abbrev pub fold_first : List Twins → List Row → List Row
fold_first [] T = T
fold_first (w ∷ ws) T = fold_twins w T

unfoldable pub fold_times : ℕ → List Row → List Row
fold_times zero T = T
fold_times (suc n) T = fold_times n (fold_first (twins_in T) T)

-- each folding takes a row away, so that as many as there are rows are enough: `none_left`, below
unfoldable pub folded : List Row → List Row
folded T = fold_times (length T) T

-- foldings of any equal siblings, in any order
pub data Foldings (T : List Row) : List Row → Type 0 where
  no_folding : Foldings T T
  one_more : {U : List Row} {w : Twins} → Foldings T U → w ∈ twins_in U → Foldings T (fold_twins w U)

-- ---- the call
-- 8 to 11 and 26, so all row tests but 12; 14, 17: the number of rows left, or the refusal
unfoldable pub fold_answer : List ℕ → ℕ → Answer
fold_answer table room =
    let left = folded (rows table) in
    and_then (check_order table)
    (unless_any (other_device table) OtherDevice (row_count table)
    (unless (leb (length (words_of left)) room) ShortOutput
    (Done (length left))))

-- the words of the rows left and what stood past them, or as it was
unfoldable pub fold_out : List ℕ → List ℕ → List ℕ
fold_out table out = output (fold_answer table (length out)) (words_of (folded (rows table))) out

-- ---- the claims, of any accepted call
-- the rows that it says that it has written
abbrev pub folded_table : List ℕ → List ℕ → List ℕ
folded_table table out = take (row_words * value (fold_answer table (length out))) (fold_out table out)

pub record Folds (table out : List ℕ) : Type 0 where
  -- the number of rows left is returned
  pub count : value (fold_answer table (length out)) ≡ row_count (folded_table table out)
  -- no equal siblings are left: a folded table never meets 12 by itself, nor any other refusal
  pub none_left : twins_in (rows (folded_table table out)) ≡ []
  pub accepted : accepted_table (folded_table table out) ≡ true
  -- whichever equal siblings are folded first, it ends there
  pub any_order : (U : List Row) → Foldings (rows table) U → twins_in U ≡ [] → U ≡ rows (folded_table table out)
  -- each row left keeps all its words but up
  pub words_kept : (r : Row) → r ∈ rows (folded_table table out) → (s : Row) × (s ∈ rows table) × (r ≡ with_up r.up s)
  -- a table without equal siblings comes through as it was
  pub as_it_was : accepted_table table ≡ true → folded_table table out ≡ table
  -- doing it twice is doing it once
  pub twice : (again : List ℕ) → length (folded_table table out) ≤ length again
      → (fold_answer (folded_table table out) (length again) ≡ fold_answer table (length out))
      × (folded_table (folded_table table out) again ≡ folded_table table out)

abbrev pub FoldsOf : Type 0
FoldsOf = (table out : List ℕ) → is_done (fold_answer table (length out)) ≡ true → Folds table out
