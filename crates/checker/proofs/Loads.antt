-- Loading a file into a buffer: each answer from those of reading and of checking. Assumes nothing.
use Prim.Native.Nat.{ℕ, ◌≤◌, ◌<◌}
use mathlib.Core.Path.{◌≡◌, sym, ap, ◌∙◌}
use mathlib.Core.Bool.{Bool, true, false, cond}
use mathlib.Core.List.{List, ◌++◌}
use native.Mathlib.Omega.{arith}
use lib.ListN.{length, take, drop, length-append}
use lib.Seq.{take_at}
use lib.Dec.{eqb}
use borrow.Author.Tests.{eqb-true, eqb-false}
use Rattle.std.specs.Prelude.{Err}
use Rattle.base.proofs.Bools.{either}
use Rattle.tables.specs.Answers.{Answer}
use Rattle.tables.specs.Answers.{Done, Refused}
use Rattle.tables.specs.Answers.{is_done, and_then}
use Rattle.tables.specs.Refusals.{number_of}
use Rattle.tables.specs.Files.{Format, read_words, check_file, read_answer, read_out}
use Rattle.tables.specs.declared.Fault.{Fault}
use Rattle.tables.specs.declared.Fault.TheVariants.{ShortOutput}
use Rattle.tables.specs.declared.Refusal.{Refusal}
use Rattle.tables.proofs.Answers.{and_then_passed}
use Rattle.tables.proofs.FaultNumbers.{same_number}
use Rattle.tables.proofs.Calls.{read_done, read_refused, read_short}
use Rattle.checker.specs.Files.{table_file}
use Rattle.checker.specs.Loading.{Loaded, lines_answer}

-- a refusal is no number of words
not_done : (r : Refusal) (n : ℕ) → ◌≡◌ {A = Answer} (Err r) (Done n) → ⊥
not_done r n e = let z : ◌≡◌ {A = ℕ} 0 1 = cc in omega arith

pub refusal : (checked : Answer) (words out : List ℕ) (r : Refusal) → checked ≡ Err r → Loaded checked words (Err r) out
refusal checked words out r e = record {
  answer = rw e;
  within = λ n z. absurd (not_done r n z);
  held = λ n z. absurd (not_done r n z);
}

-- ---- too many lines have a fault of their own
lines_done : (k : Fault) (a : Answer) (n : ℕ) → lines_answer k a ≡ Done n → a ≡ Done n
lines_done k (Done m) n e = e
lines_done k (Err r) n e = go (eqb (number_of r.fault) (number_of ShortOutput)) e
  where
    go : (b : Bool) → ◌≡◌ {A = Answer} (cond b (Refused k 0) (Err r)) (Done n) → ◌≡◌ {A = Answer} (Err r) (Done n)
    go true z = absurd (not_done _ n z)
    go false z = z

module _ (names : List ℕ) (f : Format) (check : List ℕ → Answer) (file out out' : List ℕ) (a : Answer) (ea : a ≡ read_answer names f file (length out)) (eo : out' ≡ read_out names f file out)
    (k : Fault) (s : Answer) (es : s ≡ lines_answer k a) where
  -- the file's refusal, 18 or 19, or more words than the buffer has
  pub load_refused : ((ws : List ℕ) → length out < length ws → check ws ≡ Refused k 0) → (r : Refusal) → s ≡ Err r
      → Loaded (table_file names f check file) (read_words names f file) (Err r) out'
  load_refused over r e = refusal _ _ _ r (go a (sym ea) (sym es ∙ e))
    where
      go : (x : Answer) → read_answer names f file (length out) ≡ x → lines_answer k x ≡ Err r → table_file names f check file ≡ Err r
      go (Done n) q z = absurd (not_done r n (sym z))
      go (Err x) q z = either (eqb (number_of x.fault) (number_of ShortOutput))
          (λ t. let short = same_number x.fault ShortOutput (eqb-true _ _ t) in
          let w = read_short names f file (length out) x.place (q ∙ ap (λ (m : Fault). Refused m x.place) short) in
          and_then_passed (check_file names f file) _ w.passed ∙ over (read_words names f file) w.over ∙ (rw t at z))
          (λ t. let w = read_refused names f file (length out) x.fault x.place q (λ m. eqb-false _ _ t (ap number_of m)) in
          ap (λ (c : Answer). and_then c (check (read_words names f file))) w ∙ (rw t at z))

  module _ (n : ℕ) (done : s ≡ Done n) where
    e : a ≡ Done n
    e = lines_done k a n (sym es ∙ done)

    begins : out' ≡ read_words names f file ++ drop (length (read_words names f file)) out
    unfolding read_out
    begins = eo ∙ rw (sym ea ∙ e)

    count : n ≡ length (read_words names f file)
    count = (read_done names f file (length out) n (sym ea ∙ e)).count

    passed : is_done (check_file names f file) ≡ true
    passed = (read_done names f file (length out) n (sym ea ∙ e)).passed

    pub load_within : n ≤ length out'
    load_within = rw begins (omega (arith, count, length-append (read_words names f file) (drop (length (read_words names f file)) out)))

    words : take n out' ≡ read_words names f file
    words = rw begins (take_at (read_words names f file) (drop (length (read_words names f file)) out) n (sym count))

    checks : (r : Answer) → r ≡ check (take n out') → table_file names f check file ≡ r
    checks r er = and_then_passed (check_file names f file) _ passed ∙ sym (er ∙ ap check words)

    -- the table has a fault
    pub load_fault : (x : Answer) (r : Refusal) → x ≡ check (take n out') → x ≡ Err r → Loaded (table_file names f check file) (read_words names f file) (Err r) out'
    load_fault x r ex w = refusal _ _ _ r (checks x ex ∙ w)

    -- it has none
    pub load_accepted : (x : Answer) (m : ℕ) → x ≡ check (take n out') → x ≡ Done m → Loaded (table_file names f check file) (read_words names f file) (Done n) out'
    load_accepted x m ex w = record {
      answer = rw (checks x ex ∙ w, count);
      within = λ m z. let q : n ≡ m = same m z in omega (arith, load_within);
      held = λ m z. ap (λ (i : ℕ). take i out') (sym (same m z)) ∙ words;
    }
      where
        same : (m : ℕ) → ◌≡◌ {A = Answer} (Done n) (Done m) → n ≡ m
        same m z = cc
