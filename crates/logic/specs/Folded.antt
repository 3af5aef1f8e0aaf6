-- 02, wish 12: dump and parts are both taken after the folding, and their verdicts are compared there. Assumes nothing.
use Rattle.std.specs.Prelude.{ℕ, ◌≡◌, true, length}
use mathlib.Core.List.{List, map, Nodup}
use Rattle.base.specs.Lists.{◌∈◌}
use Rattle.tables.specs.Answers.{is_done}
use Rattle.tables.specs.Words.{rows}
use Rattle.tables.specs.Tables.{accepted_table}
use Rattle.tables.specs.declared.Row.{Row}
use Rattle.sets.specs.Sets.{accepted_set}
use Rattle.folding.specs.Folding.{fold_answer, folded_table}
use Rattle.logic.specs.Formulas.{formulas_of}
use Rattle.logic.specs.Demand.{Device, IsCut, dump, Claim}

-- a device with the rows that its firmware lists, and the buffer into which they are folded, as it came; the cut that it sends is one of
-- the folded table
pub record Listing : Type 0 where
  pub number : ℕ
  pub listed : List ℕ
  pub buffer : List ℕ
  pub cut : List ℕ
  pub room : ℕ

-- the rows that folding says that it has written
abbrev pub folded_rows : Listing → List ℕ
folded_rows l = folded_table l.listed l.buffer

-- after the folding it is a device with these rows
abbrev pub after_folding : Listing → Device
after_folding l = record { number = l.number; table = folded_rows l; cut = l.cut; room = l.room }

-- the rows listed are the device's own, and folding them is accepted
pub record Listed (l : Listing) : Type 0 where
  pub own_rows : (r : Row) → r ∈ rows l.listed → r.device ≡ l.number
  pub accepted : is_done (fold_answer l.listed (length l.buffer)) ≡ true

-- what is given: an accepted set, devices of which none stands twice, their rows listed and folded, any cuts of the folded tables, any
-- buffers, and an accepted dump: roots of different devices are tested as before
pub record GivenListed (rules counts : List ℕ) (ls : List Listing) : Type 0 where
  pub set_accepted : accepted_set rules counts ≡ true
  pub none_twice : Nodup (map (λ (l : Listing). l.number) ls)
  pub listed : (l : Listing) → l ∈ ls → Listed l
  pub cuts : (l : Listing) → l ∈ ls → IsCut (formulas_of rules counts) (folded_rows l) l.cut
  pub dump_accepted : accepted_table (dump (map after_folding ls)) ≡ true

-- demand 3, of the devices after the folding
abbrev pub AfterFolding : Type 0
AfterFolding = (rules counts : List ℕ) (ls : List Listing) → GivenListed rules counts ls → Claim rules counts (map after_folding ls)
