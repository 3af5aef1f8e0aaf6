-- The falling number of the engine's cycles of calls: it combines entries left and rows left. Assumes nothing.
use Prim.Native.Nat.{ℕ, suc, ◌+◌, ◌*◌, ◌-◌, ◌<◌, ◌≤◌}
use mathlib.Core.Path.{◌≡◌}
use mathlib.Core.List.{List}
use native.Mathlib.Nat.{mul-lt-mul_of_pos_right, mul-le-mul_right, suc-mul}
use native.Mathlib.Omega.{arith}
use Rattle.tables.specs.Words.{row_count, entry_count}

-- of an entry
abbrev pub entry_measure : List ℕ → List ℕ → ℕ → ℕ
entry_measure rule pool e = (entry_count rule - e) * (row_count pool + 2)

-- of a quantifier's entry with k rows left
abbrev pub rows_measure : List ℕ → List ℕ → ℕ → ℕ → ℕ
rows_measure rule pool e k = (entry_count rule - (e + 1)) * (row_count pool + 2) + k + 1

-- of a quantifier with body a and k rows left
abbrev pub run_measure : List ℕ → List ℕ → ℕ → ℕ → ℕ
run_measure rule pool a k = (entry_count rule - a) * (row_count pool + 2) + k + 1

pub below : {m n t : ℕ} → n ≡ t → m < n → m < t
below e h = omega arith

pub below_later : {k m n t : ℕ} → n ≡ t → m ≤ n → k < m → k < t
below_later e h l = omega arith

-- with n entries, e with the later entry a, and r rows
module _ (n r e a : ℕ) where
  pub falls_child : e < a → a < n → (n - a) * (r + 2) < (n - e) * (r + 2)
  falls_child h k = mul-lt-mul_of_pos_right (omega arith) (omega arith)

  pub falls_later : e ≤ a → (n - a) * (r + 2) ≤ (n - e) * (r + 2)
  falls_later h = mul-le-mul_right (r + 2) (omega arith)

  pub falls_rows : (k : ℕ) → e < n → k ≤ r → (n - (e + 1)) * (r + 2) + k + 1 < (n - e) * (r + 2)
  falls_rows k h l =
      let q : n - e ≡ suc (n - (e + 1)) = omega arith in
      rw q (omega (arith, suc-mul (n - (e + 1)) (r + 2)))

  pub falls_body : (k : ℕ) → e < a → a < n → (n - a) * (r + 2) < (n - (e + 1)) * (r + 2) + k + 1
  falls_body k h l =
      let m : n - a ≤ n - (e + 1) = omega arith in
      omega (arith, mul-le-mul_right (r + 2) m)

  pub falls_part : (j k : ℕ) → j < k → (n - (e + 1)) * (r + 2) + j + 1 < (n - (e + 1)) * (r + 2) + k + 1
  falls_part j k h = omega arith

  pub falls_run : (k : ℕ) → e < a → a < n → k ≤ r → (n - a) * (r + 2) + k + 1 < (n - e) * (r + 2)
  falls_run k h l m =
      let d : n - a ≤ n - (e + 1) = omega arith in
      let f : e < n = omega arith in
      omega (arith, mul-le-mul_right (r + 2) d, falls_rows k f m)
