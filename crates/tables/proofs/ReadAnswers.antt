-- The answers of reading a file, each from the tests that lead to it. Assumes nothing.
use Prim.Native.Nat.{ℕ, ◌+◌, ◌≤◌, ◌<◌}
use mathlib.Core.Path.{◌≡◌, refl, sym, ap, ◌∙◌}
use mathlib.Core.Bool.{true, false}
use mathlib.Core.List.{List, [], ◌∷◌}
use native.Mathlib.Omega.{arith}
use lib.ListN.{length, take, drop}
use lib.Dec.{eqb}
use lib.Pointwise.{pointwise}
use borrow.Author.Tests.{le-leb, lt-leb, eq-eqb, ne_eqb, eqb-true, eqb-false}
use Rattle.base.proofs.Bools.{either}
use Rattle.tables.specs.Answers.{Answer}
use Rattle.tables.specs.Answers.{Done, Refused}
use Rattle.tables.specs.declared.reading.Scan.{Scan}
use Rattle.tables.specs.Files.{Format, scan_all, words_from, at_start, starts_with, at_line, check_file, read_answer, read_words, read_out}
use Rattle.tables.specs.Scans.{first_pending, stored_from, stored_in, Fillable}
use Rattle.tables.proofs.Steps.{count_words}
use Rattle.tables.proofs.Stores.{fillable_words}
use Rattle.tables.specs.declared.refusals.Fault.TheVariants.{ShortOutput, FirstLine, Line}
use Rattle.tables.specs.declared.refusals.Fault.{Fault}

-- the library's test of a prefix
prefix_is : (names file : List ℕ) → pointwise eqb (take (length names) file) names ≡ starts_with names file
unfolding starts_with
prefix_is [] file = refl
prefix_is (x ∷ names) [] = refl
prefix_is (x ∷ names) (y ∷ file) = either (eqb x y)
    (λ e. rw (e, eq-eqb y x (sym (eqb-true x y e)), prefix_is names file))
    (λ e. rw (e, ne_eqb y x (λ q. eqb-false x y e (sym q))))

-- the file is the names and those lines
abbrev pub Stripped : List ℕ → List ℕ → List ℕ → Type 0
Stripped names file rest =
    (pointwise eqb (take (length names) file) names ≡ true) × (rest ≡ drop (length names) file) × (length rest + length names ≡ length file)

abbrev pub Answered : List ℕ → List ℕ → Format → List ℕ → Answer → List ℕ → Type 0
Answered names file f out r out' = (r ≡ read_answer names f file (length out)) × (out' ≡ read_out names f file out)

module _ (names file out : List ℕ) (f : Format) where
  refused : (n : Fault) (p : ℕ) → read_answer names f file (length out) ≡ Refused n p → Answered names file f out (Refused n p) out
  unfolding read_out
  refused n p e = (sym e, rw e)

  pub refuse_first_line : pointwise eqb (take (length names) file) names ≡ false → Answered names file f out (Refused FirstLine 1) out
  unfolding read_answer check_file
  refuse_first_line h = refused FirstLine 1 (rw (sym (prefix_is names file) ∙ h))

  -- the lines, and the state past them
  module _ (rest : List ℕ) (found : Stripped names file rest) (s : Scan) (e : s ≡ scan_all f at_start rest) where
    started : starts_with names file ≡ true
    started = sym (prefix_is names file) ∙ found.0

    lines_are : drop (length names) file ≡ rest
    lines_are = sym found.1

    scanned : scan_all f at_start (drop (length names) file) ≡ s
    scanned = rw lines_are (sym e)

    counted : length (read_words names f file) ≡ s.count
    unfolding read_words
    counted = omega (arith, ap (λ (z : Scan). z.count) scanned, count_words f at_start (drop (length names) file))

    pub refuse_line : at_line s ≡ false → Answered names file f out (Refused Line s.line) out
    unfolding read_answer check_file
    refuse_line q = refused Line s.line (rw (started, scanned, q))

    pub refuse_short : at_line s ≡ true → length out < s.count → Answered names file f out (Refused ShortOutput 0) out
    unfolding read_answer check_file
    refuse_short q l = refused ShortOutput 0 (rw (started, scanned, q, counted, lt-leb _ _ l))

    pub fillable : at_line s ≡ true → 0 < f.columns → s.count ≤ length out → Fillable rest out
    fillable q pos l = record {
      read_as = f;
      some_columns = pos;
      good_lines = rw e at q;
      room = omega (arith, ap (λ (z : Scan). z.count) e, count_words f at_start rest);
    }

    pub accept : (out' : List ℕ) → at_line s ≡ true → 0 < f.columns → s.count ≤ length out → out' ≡ stored_in rest out
        → Answered names file f out (Done s.count) out'
    unfolding read_answer read_out read_words check_file fillable
    accept out' q pos l w =
        let a : read_answer names f file (length out) ≡ Done s.count = rw (started, scanned, q, counted, le-leb _ _ l) in
        let same : stored_from first_pending rest ≡ words_from f at_start rest = fillable_words rest out (fillable q pos l) in
        (sym a, w ∙ rw (same, a, lines_are))
