-- The program's text has at most 64 bytes. Assumes nothing.
use Prim.Native.Nat.{ℕ, zero, suc, ◌+◌, ◌*◌, ◌^◌, ◌≤◌, ◌<◌}
use mathlib.Core.Path.{◌≡◌, refl, ap, ◌∙◌}
use mathlib.Core.Bool.{Bool, true, false, cond, and-false}
use mathlib.Core.List.{List, [], ◌∷◌}
use native.Mathlib.Nat.{mul-add}
use native.Mathlib.Numerals.{add-one}
use native.Mathlib.Omega.{arith}
use lib.ListN.{length, drop, length-append}
use lib.Dec.{leb}
use borrow.Author.Tests.{le-leb}
use Rattle.base.specs.Search.{sum_below}
use Rattle.tables.specs.Answers.{is_done, and_then, unless, value, output}
use Rattle.tables.specs.Words.{row_count, rows, row_at}
use Rattle.tables.specs.Rules.{check_rule, accepted_rule}
use Rattle.tables.specs.Tables.{row_limit, check_table, accepted_table}
use Rattle.tables.specs.Files.{Format, count_names, count_format, refusal_names, refusal_format, is_last, next_column, told_next}
use Rattle.tables.specs.Files.{word_text, text_from, lines_text, write_text, check_file}
use Rattle.tables.specs.Answers.{Answer}
use Rattle.tables.specs.Answers.{Done}
use Rattle.tables.specs.Refusals.{number_of}
use Rattle.std.specs.Prelude.{Err}
use Rattle.tables.proofs.Answers.{and_then_first, and_then_next, unless_next}
use Rattle.tables.proofs.Accepted.{few_rows}
use Rattle.tables.proofs.Digits.{digits_few}
use Rattle.tables.proofs.Measures.{text_length}
use Rattle.tables.proofs.Writes.{plain_text}
use Rattle.logic.specs.Formulas.{formula}
use Rattle.logic.specs.Verdict.{verdict}
use Rattle.checker.specs.Files.{rule_of, pool_of, rule_file, pool_file}
use Rattle.checker.specs.Loading.{largest_refusal}
use Rattle.checker.specs.Report.{file_limit, sized, report_answer, begins, part_count, count_at, parts_count, counts, counts_text}
use Rattle.checker.specs.Report.{refusal_text, text_of, report_text, report_length, report_out}
use Rattle.checker.proofs.Sizes.{Small, small_then, small_rule_file, small_pool_file, small_sized}
use Rattle.checker.proofs.OwnRows.{count_few}
use Rattle.checker.proofs.Marks.{marked_few, one_few}
use Rattle.tables.specs.declared.Fault.TheVariants.{RuleLength, TableLength, ShortOutput}

-- a number of at most n + 1 digits, the byte after it, and the rest
number_few : (f : Format) (c w : ℕ) (ws : List ℕ) (n : ℕ) → w < 10 ^ suc n
    → length (text_from f c false (w ∷ ws)) ≤ suc n + 1 + length (text_from f (next_column f.columns c) (told_next f c w false) ws)
number_few f c w ws n h =
    omega (
      arith,
      text_length f c false w ws,
      ap length (ap (λ (b : Bool). word_text b w) (and-false (is_last f.columns c)) ∙ plain_text false w refl),
      digits_few 10 n w h,
    )

refusal_few : (k p : ℕ) → k ≤ largest_refusal → p ≤ file_limit + row_limit → length (refusal_text k p) ≤ 64
unfolding write_text text_from
refusal_few k p h l =
    omega (
      arith,
      length-append refusal_names (lines_text refusal_format (k ∷ p ∷ [])),
      number_few refusal_format 0 k (p ∷ []) 1 (omega arith),
      number_few refusal_format 1 p [] 4 (omega arith),
    )

counts_few : (a b c d e : ℕ) → a ≤ 1 → b ≤ row_limit → c ≤ row_limit * row_limit → d ≤ row_limit * row_limit → e ≤ row_limit
    → length (counts_text (a ∷ b ∷ c ∷ d ∷ e ∷ [])) ≤ 64
unfolding write_text text_from
counts_few a b c d e ha hb hc hd he =
    omega (
      arith,
      length-append count_names (lines_text count_format (a ∷ b ∷ c ∷ d ∷ e ∷ [])),
      number_few count_format 0 a (b ∷ c ∷ d ∷ e ∷ []) 0 (omega arith),
      number_few count_format 1 b (c ∷ d ∷ e ∷ []) 3 (omega arith),
      number_few count_format 2 c (d ∷ e ∷ []) 6 (omega arith),
      number_few count_format 3 d (e ∷ []) 6 (omega arith),
      number_few count_format 4 e [] 3 (omega arith),
    )

sum_most : (f : ℕ → ℕ) (most n : ℕ) → ((i : ℕ) → f i ≤ most) → sum_below f n ≤ most * n
unfolding sum_below
sum_most f most zero h = omega arith
sum_most f most (suc n) h =
    let d : most * (n + 1) ≡ most * n + most * 1 = mul-add most n 1 in
    let e : most * (n + 1) ≡ most * suc n = ap (λ (m : ℕ). most * m) (add-one n) in
    omega (arith, sum_most f most n h, h n)

module _ (rule pool : List ℕ) (rule_ok : accepted_rule rule ≡ true) (ok : accepted_table pool ≡ true) where
  pub parts_few : (mode : ℕ) → 1 ≤ mode → mode ≤ 3 → parts_count (formula rule) mode pool ≤ row_limit * row_limit
  unfolding parts_count
  parts_few mode low high = omega (arith, sum_most (count_at (formula rule) mode pool) row_limit (row_count pool) each, few_rows pool ok)
    where
      each : (i : ℕ) → count_at (formula rule) mode pool i ≤ row_limit
      each i = go (begins pool i)
        where
          go : (b : Bool) → cond b (part_count (formula rule) mode pool (row_at pool i).device) 0 ≤ row_limit
          go true = count_few rule pool rule_ok ok (row_at pool i).device mode low high
          go false = omega arith

  pub text_few : length (counts_text (counts rule pool)) ≤ 64
  unfolding counts
  text_few = counts_few _ _ _ _ _ (one_few (verdict (formula rule) (rows pool))) (few_rows pool ok) (parts_few 2 (omega arith) (omega arith)) (parts_few 3 (omega arith) (omega arith)) (marked_few rule pool rule_ok ok)

-- the text fits a buffer of 64 bytes
pub report_few : (rf pf : List ℕ) → length (report_text rf pf) ≤ 64
unfolding report_text report_answer
report_few rf pf =
    go (and_then (sized RuleLength rf (rule_file rf)) (sized TableLength pf (pool_file pf)))
    (small_then (file_limit + row_limit) (sized RuleLength rf (rule_file rf)) _
    (small_sized RuleLength rf (rule_file rf) (omega arith) (small_rule_file rf)) (small_sized TableLength pf (pool_file pf) (omega arith) (small_pool_file pf)))
    (λ e. text_few (rule_of rf) (pool_of pf)
    (and_then_next (check_file _ _ rf) (check_rule (rule_of rf)) (unless_next (leb (length rf) file_limit) RuleLength (rule_file rf) (and_then_first (sized RuleLength rf (rule_file rf)) _ e)))
    (and_then_next (check_file _ _ pf) (check_table (pool_of pf)) (unless_next (leb (length pf) file_limit) TableLength (pool_file pf) (and_then_next (sized RuleLength rf (rule_file rf)) _ e))))
  where
    go : (a : Answer) → Small (file_limit + row_limit) a → (is_done a ≡ true → length (counts_text (counts (rule_of rf) (pool_of pf))) ≤ 64)
        → length (text_of a (counts (rule_of rf) (pool_of pf))) ≤ 64
    go (Done n) s h = h refl
    go (Err r) s h = refusal_few (number_of r.fault) r.place s.number_le s.place_le

-- and is printed whole in one
pub report_printed : (rf pf : List ℕ) (room : ℕ) → 64 ≤ room → report_length rf pf room ≡ length (report_text rf pf)
report_printed rf pf room h = rw (le-leb (length (report_text rf pf)) room (omega (arith, report_few rf pf)))

-- what is printed lies within the buffer
pub report_within : (rf pf out out' : List ℕ) (r : ℕ) → r ≡ report_length rf pf (length out) → out' ≡ report_out rf pf out → r ≤ length out'
report_within rf pf out out' r e w = rw (e, w) (go (report_text rf pf) (leb (length (report_text rf pf)) (length out)))
  where
    go : (text : List ℕ) (b : Bool) → value (unless b ShortOutput (Done (length text))) ≤ length (output (unless b ShortOutput (Done (length text))) text out)
    go text true = omega (arith, length-append text (drop (length text) out))
    go text false = omega arith
