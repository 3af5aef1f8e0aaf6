-- The numbers and places of the refusals are small. Assumes nothing.
use Prim.Native.Nat.{ℕ, ◌+◌, ◌≤◌}
use mathlib.Core.Path.{◌≡◌, refl}
use mathlib.Core.Bool.{Bool, true, false, cond}
use mathlib.Core.List.{List, [], ◌∷◌}
use native.Mathlib.Omega.{arith}
use lib.ListN.{length, length-drop}
use lib.Dec.{leb}
use borrow.Author.Tests.{leb-true}
use Rattle.base.specs.Lists.{all}
use Rattle.base.specs.Search.{first, some}
use Rattle.base.proofs.Bools.{and_left, and_right}
use Rattle.base.proofs.Search.{first_le}
use Rattle.tables.specs.Answers.{number, place, and_then, unless, in_order}
use Rattle.tables.specs.Words.{entry_count, row_count, rows}
use Rattle.tables.specs.Rules.{one, to_constant, rule_length, entry_fault, rule_checks, check_entries, check_rule}
use Rattle.tables.specs.Tables.{row_limit, table_length, row_fault, table_checks, check_table}
use Rattle.tables.specs.Files.{Format, rule_names, rule_format, pool_names, pool_format, step_of, scan_all, at_start, starts_with, at_line}
use Rattle.tables.specs.Files.{at_end, lines, read_words, check_file}
use Rattle.tables.specs.Answers.{Answer}
use Rattle.tables.specs.Answers.{Done, Refused}
use Rattle.tables.specs.declared.reading.Scan.{Scan}
use Rattle.tables.proofs.Whole.{rule_few, table_few}
use Rattle.tables.proofs.Steps.{step_counted}
use Rattle.logic.specs.Formulas.{formula}
use Rattle.logic.specs.Verdict.{verdict}
use Rattle.checker.specs.Files.{rule_of, pool_of, table_file, rule_file, pool_file, files_answer, returned}
use Rattle.checker.specs.Loading.{largest_refusal}
use Rattle.checker.specs.Report.{file_limit, sized}
use Rattle.tables.specs.declared.Fault.TheVariants.{RuleLength, TableLength, FirstLine, Line}
use Rattle.tables.specs.declared.Fault.{Fault}
use Rattle.tables.specs.Refusals.{number_of}
use Rattle.std.specs.Prelude.{Err}

pub record Small (p : ℕ) (a : Answer) : Type 0 where
  pub number_le : number a ≤ largest_refusal
  pub place_le : place a ≤ p

small_wider : (p q : ℕ) (a : Answer) → p ≤ q → Small p a → Small q a
small_wider p q a h s = record { number_le = s.number_le; place_le = omega (arith, s.place_le) }

pub small_then : (p : ℕ) (a b : Answer) → Small p a → Small p b → Small p (and_then a b)
small_then p (Done n) b s t = t
small_then p (Err r) b s t = s

small_unless : (p : ℕ) (ok : Bool) (k : Fault) (next : Answer) → number_of k ≤ largest_refusal → (ok ≡ true → Small p next) → Small p (unless ok k next)
small_unless p true k next h s = s refl
small_unless p false k next h s = record { number_le = h; place_le = omega arith }

-- checks in order at n places
small_order : (fault : Fault → ℕ → Bool) (n : ℕ) (ks : List Fault) → all (λ k. leb (number_of k) largest_refusal) ks ≡ true → Small n (in_order fault n ks)
small_order fault n [] e = record { number_le = omega arith; place_le = omega arith }
small_order fault n (k ∷ ks) e = go (some (fault k) n) (small_order fault n ks (and_right (leb (number_of k) largest_refusal) (all (λ k. leb (number_of k) largest_refusal) ks) e))
  where
    go : (b : Bool) → Small n (in_order fault n ks) → Small n (cond b (Refused k (first (fault k) n)) (in_order fault n ks))
    go true s = record { number_le = leb-true (number_of k) largest_refusal (and_left (leb (number_of k) largest_refusal) (all (λ k. leb (number_of k) largest_refusal) ks) e); place_le = first_le (fault k) n }
    go false s = s

small_rule : (r : List ℕ) → Small row_limit (check_rule r)
unfolding check_entries
small_rule r = small_unless row_limit (rule_length r) RuleLength _ (omega arith)
    (λ e. small_wider (entry_count r) row_limit _
    (omega (arith, rule_few r e))
    (small_order (entry_fault to_constant r) (entry_count r) rule_checks refl))

small_table : (t : List ℕ) → Small row_limit (check_table t)
unfolding check_table
small_table t = small_unless row_limit (table_length t) TableLength _ (omega arith)
    (λ e. small_wider (row_count t) row_limit _ (table_few t e)
    (small_order (row_fault t) (row_count t) table_checks refl))

-- a line more takes a byte
line_le : (f : Format) (s : Scan) (bs : List ℕ) → (scan_all f s bs).line ≤ s.line + length bs
unfolding scan_all
line_le f s [] = omega arith
line_le f s (b ∷ bs) = omega (arith, line_le f (step_of f s b) bs, (step_counted f s b).line_le)

small_lines : (names : List ℕ) (f : Format) (file : List ℕ) → Small (length file + row_limit) (check_file names f file)
unfolding check_file
small_lines names f file = go (starts_with names file) (at_line (at_end names f file))
  where
    go : (a b : Bool)
        → Small (length file + row_limit) (cond a (cond b (Done (length (read_words names f file))) (Refused Line (at_end names f file).line)) (Refused FirstLine 1))
    go true true = record { number_le = omega arith; place_le = omega arith }
    go true false = record {
      number_le = omega arith;
      place_le = omega (arith, line_le f at_start (lines names file), length-drop (length names) file);
    }
    go false b = record { number_le = omega arith; place_le = omega arith }

small_file : (names : List ℕ) (f : Format) (check : List ℕ → Answer) (file : List ℕ) → ((ws : List ℕ) → Small row_limit (check ws))
    → Small (length file + row_limit) (table_file names f check file)
small_file names f check file h = small_then _ (check_file names f file) _ (small_lines names f file)
    (small_wider row_limit (length file + row_limit) _ (omega arith) (h (read_words names f file)))

pub small_rule_file : (file : List ℕ) → Small (length file + row_limit) (rule_file file)
small_rule_file file = small_file rule_names rule_format check_rule file small_rule

pub small_pool_file : (file : List ℕ) → Small (length file + row_limit) (pool_file file)
small_pool_file file = small_file pool_names pool_format check_table file small_table

-- ---- the program's refusals: a place has at most five digits
pub small_sized : (k : Fault) (file : List ℕ) (next : Answer) → number_of k ≤ largest_refusal → Small (length file + row_limit) next → Small (file_limit + row_limit) (sized k file next)
small_sized k file next h s = small_unless (file_limit + row_limit) (leb (length file) file_limit) k next h
    (λ e. small_wider (length file + row_limit) (file_limit + row_limit) next (omega (arith, leb-true (length file) file_limit e)) s)

-- ---- what the C entry returns
returned_then : (p : ℕ) (a b : Answer) → Small p a → returned b ≤ 100 + largest_refusal → returned (and_then a b) ≤ 100 + largest_refusal
returned_then p (Done n) b s h = h
returned_then p (Err r) b s h = omega (arith, s.number_le)

pub returned_le : (rf pf : List ℕ) → returned (files_answer rf pf) ≤ 100 + largest_refusal
unfolding files_answer
returned_le rf pf =
    returned_then _ (rule_file rf) _ (small_rule_file rf) (returned_then _ (pool_file pf) _ (small_pool_file pf) (at_most_one (verdict (formula (rule_of rf)) (rows (pool_of pf)))))
  where
    at_most_one : (b : Bool) → one b ≤ 100 + largest_refusal
    at_most_one true = omega arith
    at_most_one false = omega arith
