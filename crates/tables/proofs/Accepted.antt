-- What an accepted table tells: no fault at any row, so what an ordered table tells, and no twins. Assumes nothing.
use Prim.Native.Nat.{ℕ, ◌+◌, ◌*◌, ◌≤◌, ◌<◌}
use mathlib.Core.Path.{◌≡◌, refl, ◌∙◌}
use mathlib.Core.Bool.{true, false}
use mathlib.Core.List.{List}
use lib.ListN.{length}
use Rattle.base.specs.Lists.{◌∈◌}
use Rattle.base.proofs.Search.{none_at}
use Rattle.tables.specs.Answers.{in_order}
use Rattle.tables.specs.Words.{row_words, row_at, row_count}
use Rattle.tables.specs.Tables.{root, is_parent, is_twin, has_twin, row_fault, row_limit, table_length, table_checks, order_checks, check_table, accepted_table, ordered_table}
use Rattle.tables.specs.declared.refusals.Fault.{Fault}
use Rattle.tables.specs.Devices.{from_device}
use Rattle.tables.specs.Answers.{Done}
use Rattle.tables.proofs.Answers.{unless_ok, unless_next, unless_passed, listed, no_fault, in_order_passed, in_first}
use Rattle.tables.proofs.Ordered as laws
use Rattle.tables.proofs.Ordered.{order, Placed}
pub use Rattle.tables.proofs.Ordered.{parent_device, parent_at}
use Rattle.tables.specs.declared.refusals.Fault.TheVariants.{TableLength, Sibling}

module _ (t : List ℕ) where
  -- a table without faults is accepted
  pub accept : table_length t ≡ true → ((k : Fault) → k ∈ table_checks → (i : ℕ) → i < row_count t → row_fault t k i ≡ false) → check_table t ≡ Done (row_count t)
  unfolding check_table
  accept l h = unless_passed (table_length t) TableLength (in_order (row_fault t) (row_count t) table_checks) l ∙ in_order_passed (row_fault t) (row_count t) table_checks h

  module _ (ok : accepted_table t ≡ true) where
    pub length_ok : table_length t ≡ true
    unfolding check_table
    length_ok = unless_ok (table_length t) TableLength (in_order (row_fault t) (row_count t) table_checks) ok

    -- no row has a fault of any number
    pub faultless : (k : Fault) → k ∈ table_checks → (i : ℕ) → i < row_count t → row_fault t k i ≡ false
    unfolding check_table
    faultless = no_fault (row_fault t) (row_count t) table_checks (unless_next (table_length t) TableLength (in_order (row_fault t) (row_count t) table_checks) ok)

    pub answered : check_table t ≡ Done (row_count t)
    answered = accept length_ok faultless

    -- ---- siblings differ
    pub no_12 : (i : ℕ) → i < row_count t → has_twin t i ≡ false
    unfolding row_fault
    no_12 = faultless Sibling (listed table_checks Sibling refl)

    pub no_twin : (j i : ℕ) → j < i → i < row_count t → is_twin (row_at t i) (row_at t j) ≡ false
    no_twin j i l h = none_at (λ k. is_twin (row_at t i) (row_at t k)) i j (no_12 i h) l

    -- ---- what any ordered table tells
    pub ordered : ordered_table t ≡ true
    ordered = order t length_ok (λ k m. faultless k (in_first Sibling order_checks m))

    placed : Placed t
    placed = laws.placed t ordered

    pub whole_rows : length t ≡ row_words * row_count t
    whole_rows = laws.whole_rows t ordered

    pub few_rows : row_count t ≤ row_limit
    few_rows = laws.few_rows t ordered

    pub rises : (i j : ℕ) → i ≤ j → j < row_count t → (row_at t i).device ≤ (row_at t j).device
    rises = laws.rises t placed

    pub strictly : (i j : ℕ) → i < j → j < row_count t → (row_at t i).device ≡ (row_at t j).device → (row_at t i).at < (row_at t j).at
    strictly = laws.strictly t placed

    pub same_place : (i j : ℕ) → i < row_count t → j < row_count t → (row_at t i).device ≡ (row_at t j).device → (row_at t i).at ≡ (row_at t j).at → i ≡ j
    same_place = laws.same_place t placed

    pub has_parent : (i : ℕ) → i < row_count t → root (row_at t i) ≡ false → (p : ℕ) × (p < i) × (is_parent (row_at t i) (row_at t p) ≡ true)
    has_parent = laws.has_parent t placed

    pub behind : (p i : ℕ) → p < row_count t → i < row_count t → is_parent (row_at t i) (row_at t p) ≡ true → p < i
    behind = laws.behind t placed

    pub depth_le : (i : ℕ) → i < row_count t → (row_at t i).deep ≤ i
    depth_le = laws.depth_le t ordered

    module _ (d i : ℕ) (h : i < row_count t) where
      pub in_part : from_device t d ≤ i → i < from_device t (d + 1) → (row_at t i).device ≡ d
      in_part = laws.in_part t placed d i h

      pub of_device_lem : (row_at t i).device ≡ d → (from_device t d ≤ i) × (i < from_device t (d + 1))
      of_device_lem = laws.of_device_lem t placed d i h
