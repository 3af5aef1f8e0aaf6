-- The loops that read a file: their invariants, and how a turn keeps them. Assumes nothing.
use Prim.Native.Nat.{ℕ, ◌+◌, ◌≤◌, ◌<◌}
use mathlib.Core.Path.{◌≡◌, refl, sym, ◌∙◌}
use mathlib.Core.List.{List}
use native.Mathlib.Numerals.{add-one}
use native.Mathlib.Omega.{arith}
use lib.ListN.{length, get_or, drop, drop_of_length-le}
use lib.Seq.{drop-cons}
use Rattle.tables.specs.declared.reading.Scan.{Scan}
use Rattle.tables.specs.Files.{Format, step_of, scan_all, at_start}
use Rattle.tables.specs.Scans.{Sound}
use Rattle.tables.proofs.Steps.{step_counted, step_sound}

-- i bytes have been read, and the answer is that of the rest
pub record Scanning (f : Format) (bs : List ℕ) (s : Scan) (i : ℕ) : Type 0 where
  pub within : i ≤ length bs
  pub sound : Sound f s
  pub line_le : s.line ≤ i + 2
  pub count_le : s.count ≤ i
  pub rest : scan_all f at_start bs ≡ scan_all f s (drop i bs)

module _ (f : Format) (bs : List ℕ) where
  pub scan_begin : (s : Scan) → s ≡ at_start → 0 < f.columns → Scanning f bs s 0
  scan_begin s e h = rw e (record { within = omega arith; sound = record { column_lt = h; value_le = omega arith; none_yet = λ l. refl }; line_le = omega arith; count_le = omega arith; rest = refl })

  pub scan_more : (s r : Scan) (i : ℕ) → Scanning f bs s i → i < length bs → r ≡ step_of f s (get_or bs i 0) → Scanning f bs r (i + 1)
  unfolding scan_all
  scan_more s r i t h e =
      rw e (record {
        within = omega arith;
        sound = step_sound f s (get_or bs i 0) t.sound;
        line_le = omega (arith, t.line_le, (step_counted f s (get_or bs i 0)).line_le);
        count_le = omega (arith, t.count_le, (step_counted f s (get_or bs i 0)).le);
        rest = t.rest ∙ rw (add-one, drop-cons bs i 0 h);
      })

  pub scan_end : (s : Scan) (i : ℕ) → Scanning f bs s i → length bs ≤ i → s ≡ scan_all f at_start bs
  unfolding scan_all
  scan_end s i t h = sym (t.rest ∙ rw (drop_of_length-le bs h))
