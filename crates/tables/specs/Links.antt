-- Rows with one hash are linked, each to the last one before it; cited by private contracts and by those of `Chains`. Assumes nothing.
use Rattle.std.specs.Prelude.{ℕ, zero, suc, ◌+◌, ◌*◌, ◌/◌, ◌%◌, ◌<◌, ◌≤◌, ◌≡◌, Bool, cond, not, ◌&&◌, ◌||◌, List, length, get_or, eqb, Option, Some, None, Result}
use Rattle.base.specs.Search.{some, found}
use Rattle.tables.specs.Words.{row_at}
use Rattle.tables.specs.Tables.{row_limit, root, is_parent, is_deeper, no_parent, wrong_depth}
use Rattle.tables.specs.Refusals.{refusal_at}
use Rattle.tables.specs.declared.Row.{Row}
use Rattle.tables.specs.declared.refusals.Fault.{Fault}
use Rattle.tables.specs.declared.refusals.Fault.TheVariants.{Parent, Depth}
use Rattle.tables.specs.declared.refusals.Refusal.{Refusal}
use Rattle.tables.specs.declared.links.Chains.{Chains}

-- ---- links
-- one more than the last number below n at which p holds, 0 where there is none
unfoldable pub last_of : (ℕ → Bool) → ℕ → ℕ
last_of p zero = zero
last_of p (suc n) = cond (p n) (suc n) (last_of p n)

-- a hash is below this
abbrev pub hashes : ℕ
hashes = 1024

-- below `hashes`
unfoldable pub hash_of : ℕ → ℕ → ℕ → ℕ → ℕ
hash_of d a n v = (d * 947282241 + a * 1870821409 + n * 669926575 + v * 700227275) % 4294967296 / 4194304

-- next has for each of the first i rows one more than the last row before it with its hash
pub record Linked (hash : ℕ → ℕ) (next : List ℕ) (i : ℕ) : Type 0 where
  pub long : length next ≡ row_limit
  pub fits : i ≤ row_limit
  pub links : (j : ℕ) → j < i → get_or next j 0 ≡ last_of (λ m. eqb (hash m) (hash j)) j

-- head has for each hash one more than the last of the first i rows with it
pub record Heads (hash : ℕ → ℕ) (head : List ℕ) (i : ℕ) : Type 0 where
  pub long : length head ≡ hashes
  pub lasts : (h : ℕ) → h < hashes → get_or head h 0 ≡ last_of (λ m. eqb (hash m) h) i

-- the rows linked are linked by their hashes
pub record Chained (hash : ℕ → ℕ) (c : Chains) : Type 0 where
  pub heads : Heads hash c.head c.rows
  pub linked : Linked hash c.next c.rows

-- ---- parents: the hash of a row's place, and of its parent's
unfoldable pub place_hash : ℕ → ℕ → ℕ
place_hash d a = hash_of d a 0 0

abbrev pub places_at : List ℕ → ℕ → ℕ
places_at t i = place_hash (row_at t i).device (row_at t i).at

-- row p is the parent of row r; where asked, r is one deeper, too
unfoldable pub fits_parent : Bool → Row → Row → Bool
fits_parent deeper r p = is_parent r p && (not deeper || is_deeper r p)

-- the fault of row i among 11 and 26: 11 before 26
unfoldable pub parent_fault : List ℕ → ℕ → Option Fault
parent_fault t i = cond (wrong_depth t i) (Some (cond (no_parent t i) Parent Depth)) None

-- the first row with fault 11; where there is none, the first with fault 26
abbrev pub check_parents : List ℕ → ℕ → Result (Unit {0}) Refusal
check_parents t n =
    cond (some (no_parent t) n) (refusal_at Parent (found (no_parent t) n)) (refusal_at Depth (found (wrong_depth t) n))

-- ---- siblings: a hash that equal ones share; for roots the device does not count
unfoldable pub twin_hash : Row → ℕ
twin_hash r = hash_of (cond (root r) 0 r.device) r.up r.name r.value

abbrev pub twins_at : List ℕ → ℕ → ℕ
twins_at t i = twin_hash (row_at t i)

-- a row with the name and value of r
unfoldable pub is_like : Row → Row → Bool
is_like r b = eqb b.name r.name && eqb b.value r.value
