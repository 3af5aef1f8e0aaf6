-- The marked rows, and the counts that the program prints. Assumes nothing.
use Prim.Native.Nat.{ℕ, suc, ◌≤◌}
use mathlib.Core.Path.{◌≡◌, refl, sym, ap, ◌∙◌}
use mathlib.Core.Bool.{Bool, true, false}
use mathlib.Core.List.{List, [], ◌∷◌, map}
use native.Mathlib.Omega.{arith}
use lib.ListN.{length, take, drop, length-append}
use lib.Seq.{take_at}
use lib.Dec.{eqb}
use Rattle.std.specs.List.{count_by, filter}
use Rattle.std.proofs.lemmas.List.Sums.{length-filter}
use Rattle.base.specs.Lists.{select}
use Rattle.base.proofs.Bools.{either}
use Rattle.base.proofs.Lists.{length_select}
use Rattle.tables.specs.Answers.{value}
use Rattle.tables.specs.Words.{row_count, rows}
use Rattle.tables.specs.Rules.{one, accepted_rule}
use Rattle.tables.specs.Tables.{row_limit, accepted_table}
use Rattle.tables.specs.declared.Row.{Row}
use Rattle.tables.specs.Answers.{Answer}
use Rattle.tables.proofs.Accepted.{few_rows}
use Rattle.tables.proofs.RowLists.{length_rows}
use Rattle.logic.specs.Formulas.{formula}
use Rattle.logic.specs.Verdict.{verdict}
use Rattle.logic.specs.Marks.{marked, mark_bytes, marks_answer, marks_out}
use Rattle.logic.proofs.Calls.{marks_is, marks_out_lem, byte_count}
use Rattle.std.specs.Result.{result_unwrap_or}
use Rattle.checker.proofs.Values.{value_is}
use Rattle.checker.specs.Report.{parts_count, marked_count, counts}

abbrev pub is_one : ℕ → Bool
is_one b = eqb b 1

-- ---- the marks of an accepted rule on an accepted pool
ones_are : (p : Row → Bool) (T : List Row) → length (filter is_one (map (λ r. one (p r)) T)) ≡ length (select p T)
ones_are p [] = refl
ones_are p (r ∷ T) = either (p r) (λ e. rw e (ap suc (ones_are p T))) (λ e. rw e (ones_are p T))

ones_is : (p : Row → Bool) (T : List Row) → count_by is_one (map (λ r. one (p r)) T) ≡ length (select p T)
ones_is p T = sym (length-filter is_one (map (λ r. one (p r)) T)) ∙ ones_are p T

pub one_few : (b : Bool) → one b ≤ 1
one_few true = omega arith
one_few false = omega arith

module _ (rule pool : List ℕ) (rule_ok : accepted_rule rule ≡ true) (ok : accepted_table pool ≡ true) where
  pub marked_few : marked_count (formula rule) (rows pool) ≤ row_limit
  unfolding marked_count
  marked_few = omega (arith, length_select (marked (formula rule) (rows pool)) (rows pool), length_rows pool, few_rows pool ok)

  module _ (out out' : List ℕ) (long : length out ≡ row_limit) (a : Answer) (ea : a ≡ marks_answer rule pool (length out))
      (eo : out' ≡ marks_out rule pool out) where
    room : row_count pool ≤ length out
    room = omega (arith, few_rows pool ok)

    pub verdict_value : (v : ℕ) → v ≡ result_unwrap_or a 0 → (v ≡ one (verdict (formula rule) (rows pool))) × (v ≤ 1)
    verdict_value v e =
        let w : v ≡ one (verdict (formula rule) (rows pool)) = e ∙ value_is a ∙ ap value (ea ∙ marks_is rule pool rule_ok ok (length out) room) in
        (w, omega (arith, one_few (verdict (formula rule) (rows pool))))

    pub bytes_room : row_count pool ≤ length out'
    bytes_room = rw (eo ∙ marks_out_lem rule pool rule_ok ok out room) (omega (arith, byte_count rule pool rule_ok ok, length-append (mark_bytes (formula rule) (rows pool)) (drop (row_count pool) out)))

    bytes : take (row_count pool) out' ≡ mark_bytes (formula rule) (rows pool)
    bytes = ap (take (row_count pool)) (eo ∙ marks_out_lem rule pool rule_ok ok out room)
        ∙ take_at (mark_bytes (formula rule) (rows pool)) (drop (row_count pool) out) (row_count pool) (byte_count rule pool rule_ok ok)

    marks_are : count_by is_one (mark_bytes (formula rule) (rows pool)) ≡ marked_count (formula rule) (rows pool)
    unfolding marked_count
    marks_are = ones_is (marked (formula rule) (rows pool)) (rows pool)

    pub marked_count_lem : (n k : ℕ) → k ≡ row_count pool → n ≡ count_by is_one (take k out') → (n ≡ marked_count (formula rule) (rows pool)) × (n ≤ row_limit)
    marked_count_lem n k l e =
        let w : n ≡ marked_count (formula rule) (rows pool) = e ∙ ap (λ (j : ℕ). count_by is_one (take j out')) l ∙ ap (count_by is_one) bytes ∙ marks_are in
        (w, omega (arith, marked_few))

-- ---- the counts, one by one
pub counts_are : (rule pool : List ℕ) (v n b f m : ℕ) → v ≡ one (verdict (formula rule) (rows pool)) → n ≡ row_count pool → b ≡ parts_count (formula rule) 2 pool → f ≡ parts_count (formula rule) 3 pool
    → m ≡ marked_count (formula rule) (rows pool) → v ∷ n ∷ b ∷ f ∷ m ∷ [] ≡ counts rule pool
unfolding counts
counts_are rule pool v n b f m ev en eb ef em = cc
