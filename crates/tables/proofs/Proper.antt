-- An accepted table as a list of rows: an ordered one whose siblings differ. Any selection of it that is closed under parents is accepted too.
-- Assumes nothing.
use Prim.Native.Nat.{ℕ, ◌<◌}
use mathlib.Core.Path.{◌≡◌, sym, ap, subst}
use mathlib.Core.Bool.{Bool, true, false}
use mathlib.Core.List.{List}
use native.Mathlib.Omega.{arith}
use Rattle.base.specs.Lists.{◌∈◌, select}
use Rattle.base.proofs.Lists.{select_out}
use Rattle.base.proofs.Search.{some_none}
use Rattle.tables.specs.Answers.{is_done}
use Rattle.tables.specs.Words.{row_at, row_count, rows}
use Rattle.tables.specs.Tables.{root, is_parent, is_twin, has_twin, row_fault, table_length, table_checks, accepted_table}
use Rattle.tables.specs.declared.Row.{Row}
use Rattle.tables.proofs.Ordered.{placed}
use Rattle.tables.proofs.Accepted.{accept, ordered, no_twin}
use Rattle.tables.proofs.RowLists.{row_in, row_out}
use Rattle.tables.proofs.OrderedRows as laws
use Rattle.tables.proofs.OrderedRows.{Ordered, ordered_select, before, rows_above, rows_ordered, above_at, rows_faultless}
pub use Rattle.tables.proofs.OrderedRows.{Above, above_key, Key, Rising, none_rise, more_rise, rising_key, rising_across}
use Rattle.tables.specs.declared.refusals.Fault.{Fault}
use Rattle.tables.proofs.Answers.{first_or_last}
use mathlib.Core.Logic.{⊎_elim}
use Rattle.tables.specs.Tables.{order_checks}

-- ---- what the checks of rows say
pub record Proper (T : List Row) : Type 0 where
  pub order : Ordered T
  pub siblings : (r s : Row) → r ∈ T → s ∈ T → Above s r → is_twin r s ≡ false

module _ {T : List Row} (ok : Proper T) where
  pub root_alone : (r p : Row) → p ∈ T → is_parent r p ≡ true → root r ≡ true → ⊥
  root_alone = laws.root_alone ok.order.parented

  pub up_low : (r : Row) → r ∈ T → r.up < r.at
  up_low = laws.up_low ok.order.parented

  -- a selection that has the parent of each of its rows
  pub proper_select : (keep : Row → Bool) → ((r p : Row) → r ∈ T → p ∈ T → keep r ≡ true → is_parent r p ≡ true → keep p ≡ true) → Proper (select keep T)
  proper_select keep closed = record {
    order = ordered_select ok.order keep closed;
    siblings = λ r s i j. ok.siblings r s (select_out keep T i).0 (select_out keep T j).0;
  }

-- ---- an accepted table is proper
module _ (t : List ℕ) (ok : accepted_table t ≡ true) where
  pub rows_proper : Proper (rows t)
  rows_proper = record { order = rows_ordered t (ordered t ok); siblings = λ r s m n. apart r s (row_out t m) (row_out t n) }
    where
      apart : (r s : Row) → (j : ℕ) × (j < row_count t) × (r ≡ row_at t j) → (j : ℕ) × (j < row_count t) × (s ≡ row_at t j) → Above s r → is_twin r s ≡ false
      apart r s i j a = subst (λ (z : Row). is_twin z s ≡ false) (sym i.2) (subst (λ (z : Row). is_twin (row_at t i.0) z ≡ false) (sym j.2) (no_twin t ok j.0 i.0 (before t (rows_above t (placed t (ordered t ok))) j.0 i.0 j.1 above) i.1))
        where
          above : Above (row_at t j.0) (row_at t i.0)
          above = subst (λ (z : Row). Above z (row_at t i.0)) j.2 (subst (λ (z : Row). Above s z) i.2 a)

-- ---- proper rows of a table short enough are accepted
module _ (t : List ℕ) (short : table_length t ≡ true) (ok : Proper (rows t)) where
  apart_at : (i : ℕ) → i < row_count t → has_twin t i ≡ false
  apart_at i h =
      some_none (λ j. is_twin (row_at t i) (row_at t j)) i
      (λ j l. ok.siblings (row_at t i) (row_at t j) (row_in t i h) (row_in t j (omega arith)) (above_at t short ok.order j i l h))

  faultless : (k : Fault) → k ∈ table_checks → (i : ℕ) → i < row_count t → row_fault t k i ≡ false
  unfolding row_fault
  faultless k m i h = ⊎_elim
      (λ f. rows_faultless t short ok.order k f i h)
      (λ e. rw e (apart_at i h))
      (first_or_last order_checks m)

  pub proper_accepted : accepted_table t ≡ true
  proper_accepted = ap is_done (accept t short faultless)
