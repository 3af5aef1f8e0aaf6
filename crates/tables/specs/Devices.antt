-- 01, Around the engine: one device's rows as a part of the pool's own table. Assumes nothing.
use Rattle.std.specs.Prelude.{ℕ, ◌+◌, ◌-◌, ◌*◌, ◌≡◌, Bool, cond, ◌&&◌, List, take, drop, ltb, leb}
use Rattle.std.specs.Borrow.{Bor}
use Rattle.base.specs.Search.{first}
use Rattle.tables.specs.Words.{row_words, row_at, row_count}
use Rattle.tables.specs.Tables.{accepted_table}

-- the first row whose device is at least d
abbrev pub from_device : List ℕ → ℕ → ℕ
from_device t d = first (λ i. leb d (row_at t i).device) (row_count t)

-- the table has no fault and the device is there
unfoldable pub has_device : List ℕ → ℕ → Bool
has_device t d = accepted_table t && ltb (from_device t d) (from_device t (d + 1))

-- the words of its rows: from the start up to the end, 0 and 0 otherwise
unfoldable pub device_start : List ℕ → ℕ → ℕ
device_start t d = cond (has_device t d) (row_words * from_device t d) 0

unfoldable pub device_end : List ℕ → ℕ → ℕ
device_end t d = cond (has_device t d) (row_words * from_device t (d + 1)) 0

-- r is the part of s from word a up to word e: not copied, it lies in s
pub record IsPart (s r : Bor (List ℕ)) (a e : ℕ) : Type 0 where
  pub block : r.ref_ptr.0 ≡ s.ref_ptr.0
  pub offset : r.ref_ptr.1 ≡ s.ref_ptr.1 + 4 * a
  pub words : r.now ≡ take (e - a) (drop a s.now)
