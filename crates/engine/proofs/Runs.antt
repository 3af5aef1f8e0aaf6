-- A run of rows outside which a quantifier ranges over none. Assumes nothing.
use Prim.Native.Nat.{ℕ, suc, ◌+◌, ◌-◌, ◌<◌, ◌≤◌}
use mathlib.Core.Path.{◌≡◌, ap, ◌∙◌}
use mathlib.Core.Bool.{Bool, true, false, ◌&&◌}
use mathlib.Core.List.{List}
use native.Mathlib.Omega.{arith}
use lib.ListN.{get_or}
use Rattle.base.specs.Lists.{select}
use Rattle.base.proofs.Bools.{either}
use Rattle.tables.specs.Words.{row_at, row_count, rows_from}
use Rattle.tables.specs.Tables.{is_parent}
use Rattle.tables.specs.declared.Row.{Row}
use Rattle.tables.specs.declared.Over.{Over}
use Rattle.tables.specs.declared.Over.TheVariants.{Under}
use Rattle.logic.specs.Verdict.{hangs, named, ranges}
use Rattle.logic.proofs.Walks.{select_span}
use Rattle.engine.specs.Places.{place_of, bindings_of}
use Rattle.engine.specs.Ready.{ranges_by, Covers}
use Rattle.engine.specs.Runs.{run_at, Runs}
use Rattle.engine.specs.declared.bindings.Bindings.{Bindings}
use Rattle.engine.specs.declared.children.Children.{Children}
use Rattle.engine.specs.declared.ranges.Quantified.{Quantified}

pub run_all : (pool : List ℕ) (b : Bindings) (n : ℕ) → n ≡ row_count pool → (q : Quantified) → Covers pool b q 0 n
run_all pool b n h q = record { place = omega arith; whole = ap (λ (k : ℕ). select (ranges_by pool b q) (rows_from pool 0 k)) h }

module _ (pool : List ℕ) (b : Bindings) (v p : ℕ) (p_is : get_or b.row v 0 ≡ p) (q : Quantified) (over_is : q.over ≡ Under v) where
  not_ranged : (r : Row) → hangs (place_of pool p) r ≡ false → ranges_by pool b q r ≡ false
  unfolding bindings_of
  not_ranged r h =
      ap (λ (o : Over). ranges o q.name (bindings_of pool b.row) r) over_is
      ∙ ap (λ (m : ℕ). hangs (place_of pool m) r && named q.name r) p_is ∙ ap (λ (z : Bool). z && named q.name r) h

  -- under nothing it ranges over none
  pub run_nothing : p ≡ 0 → Covers pool b q 0 0
  run_nothing h = record {
    place = omega arith;
    whole = select_span (ranges_by pool b q) pool (row_count pool) 0 0 (omega arith) (λ j l. absurd (omega arith))
        (λ j l m. not_ranged (row_at pool j) (ap (λ (m : ℕ). hangs (place_of pool m) (row_at pool j)) h));
  }

  -- under row j it ranges over none outside the run of that row's children
  module _ {children : List Children} (has_runs : Runs pool children) (j : ℕ) (bound : p ≡ suc j) (within : j < row_count pool) where
    not_child : (i : ℕ) → (is_parent (row_at pool i) (row_at pool j) ≡ true → ⊥) → ranges_by pool b q (row_at pool i) ≡ false
    not_child i h = not_ranged (row_at pool i)
        (ap (λ (m : ℕ). hangs (place_of pool m) (row_at pool i)) bound
        ∙ either (is_parent (row_at pool i) (row_at pool j)) (λ s. absurd (h s)) (λ s. s))

    pub run_children : (i k : ℕ) → i ≡ (run_at children j).start → k ≡ (run_at children j).end - (run_at children j).start → Covers pool b q i k
    run_children i k i_is k_is = record {
      place = inside;
      whole = select_span (ranges_by pool b q) pool (row_count pool) i k inside
          (λ x l. not_child x (λ c. omega (arith, i_is, (has_runs.covers j x within (omega (arith, inside)) c).0)))
          (λ x l m. not_child x (λ c. omega (arith, i_is, k_is, has_runs.ordered j, (has_runs.covers j x within m c).1)));
    }
      where
        inside : i + k ≤ row_count pool
        inside = omega (arith, i_is, k_is, has_runs.ordered j, has_runs.within j)
