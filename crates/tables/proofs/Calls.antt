-- Which answer each file or table gets from reading and writing, and what an answer of reading tells. Assumes nothing.
use Prim.Native.Nat.{ℕ, ◌≤◌, ◌<◌}
use mathlib.Core.Path.{◌≡◌, refl, sym, ◌∙◌}
use mathlib.Core.Bool.{true}
use mathlib.Core.List.{List}
use native.Mathlib.Omega.{arith}
use lib.ListN.{length, drop}
use lib.Seq.{take_at}
use lib.Dec.{leb}
use borrow.Author.Tests.{le-leb, leb-true, leb-false}
use Rattle.base.proofs.Bools.{either}
use Rattle.tables.specs.Answers.{Answer}
use Rattle.tables.specs.Answers.{Done, Refused}
use Rattle.tables.specs.Answers.{number, is_done, and_then, fitting, output}
use Rattle.tables.specs.Files.{Format, starts_with, at_line, at_end, check_file, read_words, read_answer, read_out, write_text, write_answer, write_out}
use Rattle.tables.specs.Trips.{up_to, file_in, table_in}
use Rattle.tables.proofs.Answers.{unless_passed, and_then_passed}
use Rattle.tables.specs.declared.refusals.Fault.TheVariants.{ShortOutput}
use Rattle.tables.specs.declared.refusals.Fault.{Fault}
use Rattle.tables.proofs.FaultNumbers.{same_number}
use mathlib.Core.Path.{ap}
use Rattle.std.specs.Prelude.{Err}

-- ---- an accepted check, and room: the call is accepted
fitted : (checked : Answer) (result : List ℕ) (room : ℕ) → is_done checked ≡ true → length result ≤ room → and_then checked (fitting result room) ≡ Done (length result)
fitted checked result room ok h = and_then_passed checked (fitting result room) ok ∙ unless_passed (leb (length result) room) ShortOutput (Done (length result)) (le-leb _ _ h)

-- what it leaves in the output, up to the answer
pub left : (answer : Answer) (result out : List ℕ) → answer ≡ Done (length result) → up_to answer (output answer result out) ≡ result
left answer result out e = rw e (take_at result (drop (length result) out) (length result) refl)

module _ (names : List ℕ) (f : Format) (checked : Answer) (ws : List ℕ) (ok : is_done checked ≡ true) where
  pub write_accepted : (room : ℕ) → length (write_text names f ws) ≤ room → write_answer names f checked ws room ≡ Done (length (write_text names f ws))
  unfolding write_answer
  write_accepted room h = fitted checked (write_text names f ws) room ok h

  pub write_file : (bytes : List ℕ) → length (write_text names f ws) ≤ length bytes → file_in names f checked ws bytes ≡ write_text names f ws
  unfolding write_out
  write_file bytes h = left (write_answer names f checked ws (length bytes)) (write_text names f ws) bytes (write_accepted (length bytes) h)

module _ (names : List ℕ) (f : Format) (file : List ℕ) where
  pub read_accepted : (room : ℕ) → is_done (check_file names f file) ≡ true → length (read_words names f file) ≤ room → read_answer names f file room ≡ Done (length (read_words names f file))
  unfolding read_answer
  read_accepted room ok h = fitted (check_file names f file) (read_words names f file) room ok h

  pub read_table : (words : List ℕ) → is_done (check_file names f file) ≡ true → length (read_words names f file) ≤ length words → table_in names f file words ≡ read_words names f file
  unfolding read_out
  read_table words ok h = left (read_answer names f file (length words)) (read_words names f file) words (read_accepted (length words) ok h)

-- ---- what an answer tells
-- accepted: the check passed, and the answer is the length of what was written, which fits
pub record Fits (checked : Answer) (result : List ℕ) (room n : ℕ) : Type 0 where
  pub passed : is_done checked ≡ true
  pub count : n ≡ length result
  pub within : n ≤ room

fits : (checked : Answer) (result : List ℕ) (room n : ℕ) → and_then checked (fitting result room) ≡ Done n → Fits checked result room n
fits (Err r) result room n e = let z : ◌≡◌ {A = ℕ} 0 1 = cc in absurd (omega arith)
fits (Done m) result room n e = either (leb (length result) room)
    (λ q. let c : length result ≡ n = same (rw q at e) in record { passed = refl; count = sym c; within = omega (arith, leb-true (length result) room q) })
    (λ q. absurd (other (rw q at e)))
  where
    same : ◌≡◌ {A = Answer} (Done (length result)) (Done n) → length result ≡ n
    same w = cc

    other : ◌≡◌ {A = Answer} (Refused ShortOutput 0) (Done n) → ⊥
    other w = let z : ◌≡◌ {A = ℕ} 0 1 = cc in omega arith

-- refused, but not for a short output: so is the check
refused : (checked : Answer) (result : List ℕ) (room : ℕ) (m : Fault) (p : ℕ) → and_then checked (fitting result room) ≡ Refused m p → (m ≡ ShortOutput → ⊥) → checked ≡ Refused m p
refused (Err r) result room m p e h = e
refused (Done n) result room m p e h = either (leb (length result) room)
    (λ q. absurd (done (rw q at e)))
    (λ q. absurd (h (short (rw q at e))))
  where
    done : ◌≡◌ {A = Answer} (Done (length result)) (Refused m p) → ⊥
    done w = let z : ◌≡◌ {A = ℕ} 0 1 = cc in omega arith

    short : ◌≡◌ {A = Answer} (Refused ShortOutput 0) (Refused m p) → m ≡ ShortOutput
    short w = sym (same_number _ _ (ap number w))

-- refused for a short output, which the check never gives: it passed, and there is no room
pub record Short (checked : Answer) (result : List ℕ) (room : ℕ) : Type 0 where
  pub passed : is_done checked ≡ true
  pub over : room < length result

short : (checked : Answer) (result : List ℕ) (room p : ℕ) → (number checked ≡ 17 → ⊥) → and_then checked (fitting result room) ≡ Refused ShortOutput p → Short checked result room
short (Err r) result room p h e = absurd (h (ap number e))
short (Done n) result room p h e = either (leb (length result) room)
    (λ q. absurd (done (rw q at e)))
    (λ q. record { passed = refl; over = leb-false (length result) room q })
  where
    done : ◌≡◌ {A = Answer} (Done (length result)) (Refused ShortOutput p) → ⊥
    done w = let z : ◌≡◌ {A = ℕ} 0 1 = cc in omega arith

module _ (names : List ℕ) (f : Format) (file : List ℕ) where
  -- a file is refused for its first line or another line alone
  never_short : number (check_file names f file) ≡ 17 → ⊥
  unfolding check_file
  never_short e = either (starts_with names file)
      (λ p. either (at_line (at_end names f file))
      (λ q. let z : ◌≡◌ {A = ℕ} 0 17 = (rw (p, q) at e) in omega arith)
      (λ q. let z : ◌≡◌ {A = ℕ} 19 17 = (rw (p, q) at e) in omega arith))
      (λ p. let z : ◌≡◌ {A = ℕ} 18 17 = (rw p at e) in omega arith)

  pub read_done : (room n : ℕ) → read_answer names f file room ≡ Done n → Fits (check_file names f file) (read_words names f file) room n
  unfolding read_answer
  read_done room n e = fits (check_file names f file) (read_words names f file) room n e

  pub read_refused : (room : ℕ) (m : Fault) (p : ℕ) → read_answer names f file room ≡ Refused m p → (m ≡ ShortOutput → ⊥) → check_file names f file ≡ Refused m p
  unfolding read_answer
  read_refused room m p e h = refused (check_file names f file) (read_words names f file) room m p e h

  pub read_short : (room p : ℕ) → read_answer names f file room ≡ Refused ShortOutput p → Short (check_file names f file) (read_words names f file) room
  unfolding read_answer
  read_short room p e = short (check_file names f file) (read_words names f file) room p never_short e
