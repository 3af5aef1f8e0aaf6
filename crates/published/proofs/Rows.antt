-- What the published meaning needs of an accepted table: no row hangs under itself or a later one, and siblings differ. Assumes nothing.
use Prim.Native.Nat.{ℕ, zero, suc, ◌+◌, ◌≤◌}
use native.Mathlib.Omega.{arith}
use mathlib.Core.Path.{◌≡◌, sym, ap, ap₂, subst, ◌∙◌}
use mathlib.Core.Bool.{Bool, true, false, true≢false}
use mathlib.Core.List.Memᴰ
use mathlib.Core.List.{List, [], ◌∷◌}
use Rattle.base.specs.Lists.{◌∈◌, select}
use Rattle.base.proofs.Bools.{either}
use Rattle.base.proofs.Lists.{select_none}
use Rattle.tables.specs.Words.{row_at, row_count, rows_from, rows}
use Rattle.tables.specs.Tables.{is_parent, is_twin, accepted_table}
use Rattle.tables.specs.declared.Row.{Row}
use Rattle.tables.proofs.Accepted.{behind, no_twin}
use Rattle.tables.proofs.RowLists.{from_out}

-- a row hangs under none of those from it on
pub data Hung : List Row → Type 0 where
  none_hung : Hung []
  more_hung : {x : Row} {xs : List Row} → ((y : Row) → y ∈ (x ∷ xs) → is_parent x y ≡ false) → Hung xs → Hung (x ∷ xs)

-- nor has it a twin behind it
pub data Fit : List Row → Type 0 where
  none : Fit []
  more : {x : Row} {xs : List Row} → ((y : Row) → y ∈ (x ∷ xs) → is_parent x y ≡ false) → ((y : Row) → y ∈ xs → is_twin y x ≡ false) → Fit xs
      → Fit (x ∷ xs)

pub fit_hung : {T : List Row} → Fit T → Hung T
fit_hung none = none_hung
fit_hung (more a b f) = more_hung a (fit_hung f)

module _ (t : List ℕ) (ok : accepted_table t ≡ true) where
  fit_from : (i n : ℕ) → i + n ≤ row_count t → Fit (rows_from t i n)
  unfolding rows_from
  fit_from i zero h = none
  fit_from i (suc n) h = more under twins (fit_from (suc i) n (omega arith))
    where
      under : (y : Row) → y ∈ rows_from t i (suc n) → is_parent (row_at t i) y ≡ false
      under y m =
          let w = from_out t i (suc n) m in
          either (is_parent (row_at t i) y)
          (λ e. absurd (omega (arith, w.1, behind t ok w.0 i (omega (arith, w.2)) (omega arith) (subst (λ (z : Row). is_parent (row_at t i) z ≡ true) w.3 e))))
          (λ e. e)

      twins : (y : Row) → y ∈ rows_from t (suc i) n → is_twin y (row_at t i) ≡ false
      twins y m =
          let w = from_out t (suc i) n m in
          ap (λ (z : Row). is_twin z (row_at t i)) w.3 ∙ no_twin t ok i w.0 (omega (arith, w.1)) (omega (arith, w.2))

  pub fit : Fit (rows t)
  fit = fit_from 0 (row_count t) (omega arith)

-- ---- at most one row passes a test that only twins pass
module _ (P : Row → Bool) (same : (r s : Row) → P r ≡ true → P s ≡ true → is_twin r s ≡ true) where
  pub only : (T : List Row) → Fit T → (r : Row) → r ∈ T → P r ≡ true → select P T ≡ r ∷ []
  only [] f r m h = absurd (Memᴰ.not-nil m)
  only (x ∷ xs) (more a b f) r m h = go m (λ k. only xs f r k h)
    where
      apart : (y : Row) → y ∈ xs → P y ≡ true → P x ≡ false
      apart y k e = either (P x) (λ j. absurd (true≢false (sym (same y x e j) ∙ b y k))) (λ j. j)

      rest : P x ≡ true → (y : Row) → y ∈ xs → P y ≡ false
      rest e y k = either (P y) (λ j. absurd (true≢false (sym e ∙ apart y k j))) (λ j. j)

      go : r ∈ (x ∷ xs) → (r ∈ xs → select P xs ≡ r ∷ []) → select P (x ∷ xs) ≡ r ∷ []
      go (Memᴰ.head k) ih =
          let e : P x ≡ true = subst (λ (z : Row). P z ≡ true) k h in
          rw e (ap₂ ◌∷◌ (sym k) (select_none P xs (rest e)))
      go (Memᴰ.tail k) ih = rw (apart r k h) (ih k)
