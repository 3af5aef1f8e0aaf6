-- A table's rows as a list: its length, its members, and the rows of two tables one after the other. Assumes nothing.
use Prim.Native.Nat.{ℕ, zero, suc, ◌+◌, ◌*◌, ◌≤◌, ◌<◌}
use mathlib.Core.Path.{◌≡◌, refl, sym, ap, ap₂, ◌∙◌}
use mathlib.Core.Logic.{⊎_elim}
use mathlib.Core.List.Memᴰ
use mathlib.Core.List.{List, ◌∷◌, ◌++◌}
use native.Mathlib.Nat.{eq-or-lt_of_le}
use native.Mathlib.Omega.{arith}
use lib.ListN.{length, length-append}
use Rattle.base.specs.Lists.{◌∈◌}
use Rattle.tables.specs.Words.{row_words, row_at, row_count, rows_from, rows}
use Rattle.tables.specs.declared.Row.{Row}
use Rattle.tables.proofs.Words.{row_left, row_right}

length_from : (t : List ℕ) (i n : ℕ) → length (rows_from t i n) ≡ n
unfolding rows_from
length_from t i zero = refl
length_from t i (suc n) = ap suc (length_from t (suc i) n)

pub length_rows : (t : List ℕ) → length (rows t) ≡ row_count t
length_rows t = length_from t 0 (row_count t)

-- ---- the members are the rows at each number
pub from_in : (t : List ℕ) (i n j : ℕ) → i ≤ j → j < i + n → row_at t j ∈ rows_from t i n
unfolding rows_from
from_in t i zero j h l = absurd (omega arith)
from_in t i (suc n) j h l = ⊎_elim
    (λ e. Memᴰ.head (ap (row_at t) (sym e)))
    (λ m. Memᴰ.tail (from_in t (suc i) n j m (omega arith)))
    (eq-or-lt_of_le h)

pub row_in : (t : List ℕ) (j : ℕ) → j < row_count t → row_at t j ∈ rows t
row_in t j h = from_in t 0 (row_count t) j (omega arith) (omega arith)

pub from_out : (t : List ℕ) (i n : ℕ) {r : Row} → r ∈ rows_from t i n → (j : ℕ) × (i ≤ j) × (j < i + n) × (r ≡ row_at t j)
unfolding rows_from
from_out t i zero m = elim m [ ]
from_out t i (suc n) (Memᴰ.head e) = (i, omega arith, omega arith, e)
from_out t i (suc n) (Memᴰ.tail m) = let w = from_out t (suc i) n m in (w.0, omega (arith, w.1), omega (arith, w.2), w.3)

pub row_out : (t : List ℕ) {r : Row} → r ∈ rows t → (j : ℕ) × (j < row_count t) × (r ≡ row_at t j)
row_out t m = let w = from_out t 0 (row_count t) m in (w.0, omega (arith, w.2), w.3)

-- ---- two tables, the first of whole rows
from_split : (t : List ℕ) (i m n : ℕ) → rows_from t i (m + n) ≡ rows_from t i m ++ rows_from t (i + m) n
unfolding rows_from
from_split t i zero n =
    let e : i ≡ i + 0 = omega arith in
    let f : 0 + n ≡ n = omega arith in
    ap₂ (rows_from t) e f
from_split t i (suc m) n =
    let e : suc m + n ≡ suc (m + n) = omega arith in
    let f : suc i + m ≡ i + suc m = omega arith in
    ap (rows_from t i) e ∙ ap (◌∷◌ (row_at t i)) (from_split t (suc i) m n ∙ ap (λ (k : ℕ). rows_from t (suc i) m ++ rows_from t k n) f)

from_left : (s t : List ℕ) (i n : ℕ) → row_words * (i + n) ≤ length s → rows_from (s ++ t) i n ≡ rows_from s i n
unfolding rows_from
from_left s t i zero h = refl
from_left s t i (suc n) h = ap₂ ◌∷◌ (row_left s t i (omega arith)) (from_left s t (suc i) n (omega arith))

from_right : (s t : List ℕ) (k i n : ℕ) → length s ≡ row_words * k → rows_from (s ++ t) (k + i) n ≡ rows_from t i n
unfolding rows_from
from_right s t k i zero h = refl
from_right s t k i (suc n) h =
    let e : suc (k + i) ≡ k + suc i = omega arith in
    ap₂ ◌∷◌ (row_right s t k i h) (ap (λ (m : ℕ). rows_from (s ++ t) m n) e ∙ from_right s t k (suc i) n h)

pub count_append : (s t : List ℕ) → length s ≡ row_words * row_count s → row_count (s ++ t) ≡ row_count s + row_count t
count_append s t h = omega (arith, length-append s t)

pub rows_append : (s t : List ℕ) → length s ≡ row_words * row_count s → rows (s ++ t) ≡ rows s ++ rows t
rows_append s t h =
    let k = row_count s in
    let z : 0 + k ≡ k + 0 = omega arith in
    ap (rows_from (s ++ t) 0) (count_append s t h)
    ∙ from_split (s ++ t) 0 k (row_count t)
    ∙ ap₂ ◌++◌ (from_left s t 0 k (omega arith)) (ap (λ (m : ℕ). rows_from (s ++ t) m (row_count t)) z ∙ from_right s t k 0 (row_count t) h)
