-- The answers of writing a file, each from the tests that lead to it. Assumes nothing.
use Prim.Native.Nat.{ℕ, ◌+◌, ◌≤◌, ◌<◌}
use mathlib.Core.Path.{◌≡◌, sym, ap, ◌∙◌}
use mathlib.Core.Bool.{true, false}
use mathlib.Core.List.{List, ◌++◌}
use native.Mathlib.Omega.{arith}
use lib.ListN.{length, drop, length-append}
use lib.Seq.{sets, sets-eq}
use lib.Dec.{leb}
use borrow.Author.Tests.{le-leb, lt-leb}
use Rattle.base.proofs.Copies.{sets_append}
use Rattle.tables.specs.Answers.{Answer}
use Rattle.tables.specs.Answers.{Done, Refused}
use Rattle.tables.specs.Files.{Format, lines_text, write_text, write_answer, write_out}
use Rattle.tables.specs.declared.refusals.Fault.TheVariants.{ShortOutput}
use Rattle.std.specs.Prelude.{Err}
use Rattle.tables.specs.declared.refusals.Refusal.{Refusal}

abbrev pub Wrote : List ℕ → Format → Answer → List ℕ → List ℕ → Answer → List ℕ → Type 0
Wrote names f checked ws out r out' = (r ≡ write_answer names f checked ws (length out)) × (out' ≡ write_out names f checked ws out)

module _ (names : List ℕ) (f : Format) (checked : Answer) (ws out : List ℕ) where
  pub refuse : (r : Refusal) → checked ≡ Err r → Wrote names f checked ws out (Err r) out
  unfolding write_answer write_out
  refuse r e = (rw e, rw e)

  write_size : length (write_text names f ws) ≡ length names + length (lines_text f ws)
  unfolding write_text
  write_size = length-append names (lines_text f ws)

  pub short : (m : ℕ) → checked ≡ Done m → length out < length names + length (lines_text f ws) → Wrote names f checked ws out (Refused ShortOutput 0) out
  unfolding write_answer write_out
  short m e h =
      let fits : leb (length (write_text names f ws)) (length out) ≡ false = lt-leb (length (write_text names f ws)) (length out) (omega (arith, write_size)) in
      (rw (e, fits), rw (e, fits))

  whole : length names + length (lines_text f ws) ≤ length out
      → sets (sets out 0 names) (length names) (lines_text f ws) ≡ write_text names f ws ++ drop (length (write_text names f ws)) out
  unfolding write_text
  whole h =
      let z : length names ≡ 0 + length names = omega arith in
      let y : 0 + length (names ++ lines_text f ws) ≡ length (names ++ lines_text f ws) = omega arith in
      ap (λ (m : ℕ). sets (sets out 0 names) m (lines_text f ws)) z ∙ sym (sets_append out 0 names (lines_text f ws))
      ∙ sets-eq (names ++ lines_text f ws) out 0 (omega (arith, length-append names (lines_text f ws)))
      ∙ ap (λ (m : ℕ). (names ++ lines_text f ws) ++ drop m out) y

  pub accept : (m n : ℕ) (out' out'' : List ℕ) → checked ≡ Done m → n ≡ length names + length (lines_text f ws) → length names + length (lines_text f ws) ≤ length out
      → out' ≡ sets out 0 names → out'' ≡ sets out' (length names) (lines_text f ws) → Wrote names f checked ws out (Done n) out''
  unfolding write_answer write_out
  accept m n out' out'' c e h p q =
      let fits : leb (length (write_text names f ws)) (length out) ≡ true = le-leb (length (write_text names f ws)) (length out) (omega (arith, write_size)) in
      (rw (c, fits, write_size, e), q ∙ ap (λ (l : List ℕ). sets l (length names) (lines_text f ws)) p ∙ whole h ∙ rw (c, fits))
