-- `checker::counting::Judged::counts` meets its contract. Assumes nothing.
use Prim.Native.Nat.{ℕ}
use native.Mathlib.Omega.{arith}
use lib.ListN.{replicate, length-replicate}
use Rattle.tables.specs.Tables.{row_limit}
use Rattle.checker.proofs.Marks.{verdict_value, marked_count_lem, counts_are}
use Rattle.checker.proofs.counting.Judged.counts.Goals as goal

pub overflow_cast-result : goal.overflow_cast-result
overflow_cast-result c = omega (arith, verdict_value _ _ c.args.self.now.rule_accepted c.args.self.now.pool_accepted (replicate row_limit 0) _ (length-replicate {A = ℕ} row_limit 0) _ c.marks.ensures.value c.marks.ensures.out_after _ c.unwrap_or-verdict.ensures)

pub returns : goal.returns
returns c = counts_are _ _ _ _ _ _ _
    (verdict_value _ _ c.args.self.now.rule_accepted c.args.self.now.pool_accepted (replicate row_limit 0) _ (length-replicate {A = ℕ} row_limit 0) _ c.marks.ensures.value c.marks.ensures.out_after _ c.unwrap_or-verdict.ensures).0
    c.row_count-rows.ensures.0 c.parts_count.ensures.0 c.parts_count-2.ensures.0
    (marked_count_lem _ _ c.args.self.now.rule_accepted c.args.self.now.pool_accepted (replicate row_limit 0) _ (length-replicate {A = ℕ} row_limit 0) _ c.marks.ensures.value c.marks.ensures.out_after _ _ c.row_count-rows.ensures.0 c.ones.ensures).0
