-- 01, Parts and joining: joining puts a table after another whose last device is smaller. Assumes nothing.
use Rattle.std.specs.Prelude.{ℕ, ◌-◌, ◌≡◌, Bool, true, ◌||◌, List, ◌++◌, length, take, ltb, leb, eqb}
use Rattle.tables.specs.Answers.{is_done, and_then, unless, unless_any, output}
use Rattle.tables.specs.Words.{row_at, row_count}
use Rattle.tables.specs.Tables.{row_fault, table_length, check_table, accepted_table}
use Rattle.tables.specs.Answers.{Answer}
use Rattle.tables.specs.Answers.{Done}
use Rattle.tables.specs.declared.refusals.Fault.TheVariants.{TableLength, Sibling, Join, ShortOutput}

-- the second table's first device is above the first one's last; an empty side always fits
abbrev pub follows : List ℕ → List ℕ → Bool
follows s t =
    eqb (row_count s) 0 || (eqb (row_count t) 0 || ltb (row_at s (row_count s - 1)).device (row_at t 0).device)

-- joining s and t in a buffer of that many words: 8 to 12 with 26 of the first, of the second, 16, 8 and 12 of the result, 17;
-- its value is the number of words of the joined table
unfoldable pub join_tables : List ℕ → List ℕ → ℕ → Answer
join_tables s t room =
    and_then (check_table s) (and_then (check_table t)
    (unless (follows s t) Join
    (unless (table_length (s ++ t)) TableLength
    (unless_any (row_fault (s ++ t) Sibling) Sibling (row_count (s ++ t))
    (unless (leb (length (s ++ t)) room) ShortOutput
    (Done (length (s ++ t))))))))

-- joining in place: the first table is the first `used` words of the pool. A request with more words in use than the
-- pool has is 8, place 0.
unfoldable pub join_answer : List ℕ → ℕ → List ℕ → Answer
join_answer pool used t = unless (leb used (length pool)) TableLength (join_tables (take used pool) t (length pool))

-- the pool after it: the joined table and what stood past it, or as it was
unfoldable pub join_pool : List ℕ → ℕ → List ℕ → List ℕ
join_pool pool used t = output (join_answer pool used t) (take used pool ++ t) pool

-- the claim: an accepted joining leaves an accepted table. 9, 10, 11 and 26 can't come up in it, so they are not tested
abbrev pub JoinedAccepted : Type 0
JoinedAccepted = (s t : List ℕ) (room : ℕ) → is_done (join_tables s t room) ≡ true → accepted_table (s ++ t) ≡ true
