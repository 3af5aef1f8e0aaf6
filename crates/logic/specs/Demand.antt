-- 01, What demand 3 compares; 02, wish 1, for a set of rules. A set is accepted if its checks (20, 1 to 7) find no fault, a table if its
-- own (8 to 12 with 26) find none: `accepted_set` and `accepted_table`. Assumes nothing.
use Rattle.std.specs.Prelude.{ℕ, ◌*◌, ◌≤◌, ◌<◌, ◌≡◌, ◌⊎◌, Bool, true, cond, length, get_or, take}
use mathlib.Core.List.{List, [], ◌∷◌, ◌++◌, map, Sublistᴰ, Nodup}
use Rattle.base.specs.Lists.{◌∈◌, put, concat_map}
use Rattle.tables.specs.Answers.{is_done, value}
use Rattle.tables.specs.Words.{whole, row_words, row_at, row_count, rows}
use Rattle.tables.specs.Tables.{same_row, is_parent, accepted_table}
use Rattle.tables.specs.Joining.{join_tables, join_answer, join_pool}
use Rattle.tables.specs.declared.Row.{Row}
use Rattle.tables.specs.Answers.{Answer}
use Rattle.tables.specs.Answers.{Refused}
use Rattle.sets.specs.Sets.{rules_of, accepted_set}
use Rattle.logic.specs.Formulas.{Formula, formulas_of}
use Rattle.logic.specs.Verdict.{verdict_answer, set_verdicts_answer, set_verdicts_out}
use Rattle.logic.specs.Marks.{marks_out}
use Rattle.logic.specs.Parts.{spare_for_each, part_of, words_of, set_part_answer, set_part_out}
use Rattle.tables.specs.declared.Fault.TheVariants.{ShortOutput}

-- a device is all its rows, even if it has none; with it stand the cut that it sends, and the number of words in the buffer in which
-- that cut is joined
pub record Device : Type 0 where
  pub number : ℕ
  pub table : List ℕ
  pub cut : List ℕ
  pub room : ℕ

-- a row hangs under its parent and under every row that its parent hangs under
pub data Under (D : List Row) : Row → Row → Type 0 where
  under_parent : {r p : Row} → p ∈ D → is_parent r p ≡ true → Under D r p
  under_above : {r p s : Row} → p ∈ D → is_parent r p ≡ true → Under D p s → Under D r s

-- C is a cut of the rows D, of which those that pass the test are spare
pub record Cut (is_spare : Row → Bool) (D C : List Row) : Type 0 where
  -- a cut keeps the rows' words and order
  pub keeps : Sublistᴰ C D
  -- every row left out is spare or hangs under a row left out
  pub left_out : (r : Row) → r ∈ D → ¬ (r ∈ C) → (is_spare r ≡ true) ⊎ ((s : Row) × (s ∈ D) × (¬ (s ∈ C)) × Under D r s)
  -- no row sent hangs under one left out
  pub sent : (r s : Row) → r ∈ C → s ∈ D → ¬ (s ∈ C) → ¬ (Under D r s)

-- the words sent are those of a cut of the table for the set; spare is read on all rows of the device
pub record IsCut (Fs : List Formula) (table cut : List ℕ) : Type 0 where
  pub whole_rows : whole row_words cut ≡ true
  pub is_cut : Cut (spare_for_each Fs (rows table)) (rows table) (rows cut)

-- the device's table is whole rows, all of that device, and it sends a cut of them
pub record Sends (Fs : List Formula) (d : Device) : Type 0 where
  pub whole_rows : whole row_words d.table ≡ true
  pub own_rows : (r : Row) → r ∈ rows d.table → r.device ≡ d.number
  pub sends : IsCut Fs d.table d.cut

-- the dump is all rows of the devices, in the list's order
abbrev pub dump : List Device → List ℕ
dump ds = concat_map (λ d. d.table) ds

-- ---- the joinings
-- the answer of joining the device's cut to the table that the last joining left
abbrev pub join : List ℕ → Device → Answer
join t d = join_tables t d.cut d.room

-- one refused leaves the table as it was
abbrev pub after : List ℕ → Device → List ℕ
after t d = cond (is_done (join t d)) (t ++ d.cut) t

-- the answers, one after another
unfoldable pub answers : List ℕ → List Device → List Answer
answers t [] = []
answers t (d ∷ ds) = join t d ∷ answers (after t d) ds

-- the table that the last one leaves
unfoldable pub parts : List ℕ → List Device → List ℕ
parts t [] = t
parts t (d ∷ ds) = parts (after t d) ds

-- the devices joined
unfoldable pub taken : List ℕ → List Device → List Device
taken t [] = []
taken t (d ∷ ds) = put (is_done (join t d)) d (taken (after t d) ds)

-- the first joining gets an empty table
abbrev pub joined_parts : List Device → List ℕ
joined_parts ds = parts [] ds

abbrev pub joined_dump : List Device → List ℕ
joined_dump ds = dump (taken [] ds)

-- ---- what is given: an accepted set, devices of which none stands twice, with any cuts for it and buffers, and an accepted dump
pub record Given (rules counts : List ℕ) (ds : List Device) : Type 0 where
  pub set_accepted : accepted_set rules counts ≡ true
  pub none_twice : Nodup (map (λ (d : Device). d.number) ds)
  pub devices : (d : Device) → d ∈ ds → Sends (formulas_of rules counts) d
  pub dump_accepted : accepted_table (dump ds) ≡ true

-- ---- what is claimed
-- accepted, or refused with 17
abbrev pub OnlyShort : Answer → Type 0
OnlyShort a = (is_done a ≡ true) ⊎ (a ≡ Refused ShortOutput 0)

-- joining in place, in a buffer that begins with the table, answers so, and the buffer then begins with the table left
abbrev pub InPlace : List ℕ → List ℕ → Device → Type 0
InPlace t rest d =
    length (t ++ rest) ≡ d.room
    → (join_answer (t ++ rest) (length t) d.cut ≡ join t d) × (take (length (after t d)) (join_pool (t ++ rest) (length t) d.cut) ≡ after t d)

-- the set's verdict call answers the same on two tables, and writes the same bytes, in whatever buffer
abbrev pub SameVerdicts : List ℕ → List ℕ → List ℕ → List ℕ → Type 0
SameVerdicts rules counts s t =
    (out : List ℕ)
    → (set_verdicts_answer rules counts s (length out) ≡ set_verdicts_answer rules counts t (length out))
    × (set_verdicts_out rules counts s out ≡ set_verdicts_out rules counts t out)

-- the call for marks writes 1 for row i
abbrev pub Marked : List ℕ → List ℕ → List ℕ → ℕ → Type 0
Marked rule table out i = get_or (marks_out rule table out) i 0 ≡ 1

-- every row marked on table s is marked on table t, in whatever buffers that are long enough
abbrev pub MarksKept : List ℕ → List ℕ → List ℕ → Type 0
MarksKept rule s t =
    (out out' : List ℕ) → row_count s ≤ length out → row_count t ≤ length out'
    → (i : ℕ) → i < row_count s → Marked rule s out i
    → (j : ℕ) × (j < row_count t) × (same_row (row_at s i) (row_at t j) ≡ true) × Marked rule t out' j

-- the rows that a part call says that it has written
abbrev pub part_rows : List ℕ → List ℕ → List ℕ → ℕ → List ℕ → List ℕ
part_rows rules counts table mode out =
    take (row_words * value (set_part_answer rules counts table mode (length out))) (set_part_out rules counts table mode out)

-- a part is a cut; the call for it is refused with 17 alone, and else writes that part
pub record PartIsCut (rules counts table : List ℕ) (mode : ℕ) (out : List ℕ) : Type 0 where
  pub is_cut : IsCut (formulas_of rules counts) table (words_of (part_of (formulas_of rules counts) mode (rows table)))
  pub only_short : OnlyShort (set_part_answer rules counts table mode (length out))
  pub writes : is_done (set_part_answer rules counts table mode (length out)) ≡ true
      → part_rows rules counts table mode out ≡ words_of (part_of (formulas_of rules counts) mode (rows table))

-- demand 3 is a single claim about the list with all its cuts; for one rule it is that of the set of one (`OfOne`, `OneFormula` in
-- specs/Sets)
pub record Claim (rules counts : List ℕ) (ds : List Device) : Type 0 where
  -- no joining of the parts is refused except with 17
  pub only_short : (a : Answer) → a ∈ answers [] ds → OnlyShort a
  pub in_place : (d : Device) → d ∈ ds → (t rest : List ℕ) → InPlace t rest d
  pub parts_accepted : accepted_table (joined_parts ds) ≡ true
  pub dump_accepted : accepted_table (joined_dump ds) ≡ true
  -- each rule of the set has the same verdict on the joined parts as on the dump of the devices joined, and so have the set's bytes
  pub same_verdict : (rule : List ℕ) → rule ∈ rules_of rules counts → verdict_answer rule (joined_parts ds) ≡ verdict_answer rule (joined_dump ds)
  pub same_verdicts : SameVerdicts rules counts (joined_parts ds) (joined_dump ds)
  -- for each rule, every row marked on the joined parts is marked on that dump
  pub marks_kept : (rule : List ℕ) → rule ∈ rules_of rules counts → MarksKept rule (joined_parts ds) (joined_dump ds)
  -- all rows, the branch part and the full part are such cuts
  pub parts_are_cuts : (d : Device) → d ∈ ds → (mode : ℕ) → 1 ≤ mode → mode ≤ 3 → (out : List ℕ) → PartIsCut rules counts d.table mode out
  -- the only cut of a device without rows is empty
  pub empty_cut : (d : Device) → d ∈ ds → d.table ≡ [] → d.cut ≡ []
