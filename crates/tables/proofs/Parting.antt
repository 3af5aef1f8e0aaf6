-- The rows of a device as a run of words. Assumes nothing.
use Prim.Native.Nat.{ℕ, ◌+◌, ◌*◌, ◌≤◌, ◌<◌}
use mathlib.Core.Path.{◌≡◌, ap, ◌∙◌}
use mathlib.Core.Bool.{true, false, and-false}
use mathlib.Core.List.{List}
use native.Mathlib.Omega.{arith}
use lib.Dec.{leb}
use borrow.Author.Tests.{lt-ltb, le-ltb}
use Rattle.base.proofs.Search.{first_le}
use Rattle.tables.specs.Words.{row_words, row_at, row_count}
use Rattle.tables.specs.Tables.{accepted_table}
use Rattle.tables.specs.Devices.{from_device, has_device, device_start, device_end}
use Rattle.tables.specs.Spans.{IsSpan}

module _ (t : List ℕ) (d e a b : ℕ) (e_is : e ≡ d) (ea : a ≡ from_device t e) (eb : b ≡ from_device t (e + 1)) where
  a_is : a ≡ from_device t d
  a_is = ea ∙ ap (from_device t) e_is

  b_is : b ≡ from_device t (d + 1)
  b_is = eb ∙ ap (λ (x : ℕ). from_device t (x + 1)) e_is

  pub a_le : a ≤ row_count t
  a_le = rw a_is (first_le (λ i. leb d (row_at t i).device) (row_count t))

  pub b_le : b ≤ row_count t
  b_le = rw b_is (first_le (λ i. leb (d + 1) (row_at t i).device) (row_count t))

  pub some_rows : accepted_table t ≡ true → a < b → IsSpan t d (row_words * a) (row_words * b)
  unfolding has_device device_start device_end
  some_rows f h =
      let w : b ≤ row_count t = b_le in
      record {
        start_is = simp (f, ← a_is, ← b_is, lt-ltb a b h);
        end_is = simp (f, ← a_is, ← b_is, lt-ltb a b h);
        ordered = omega arith;
        within = omega arith;
      }

  pub no_rows : b ≤ a → IsSpan t d 0 0
  unfolding has_device device_start device_end
  no_rows h = record {
    start_is = simp (← a_is, ← b_is, le-ltb a b h, and-false);
    end_is = simp (← a_is, ← b_is, le-ltb a b h, and-false);
    ordered = omega arith;
    within = omega arith;
  }

pub no_table : (t : List ℕ) (d : ℕ) → accepted_table t ≡ false → IsSpan t d 0 0
unfolding has_device device_start device_end
no_table t d f = record { start_is = simp f; end_is = simp f; ordered = omega arith; within = omega arith }
