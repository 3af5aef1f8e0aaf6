-- `checker::counting::Judged::parts_count` meets its contract. Assumes nothing.
use Rattle.base.proofs.Sums.{Summed}
use Rattle.logic.specs.Formulas.{formula}
use Rattle.tables.specs.Words.{row_count}
use Rattle.tables.specs.Tables.{row_limit}
use Rattle.checker.specs.Report.{count_at}
use Rattle.checker.proofs.counting.Judged.parts_count.Given as goal

abbrev pub invariant-loop-row : goal.invariant-loop-row
invariant-loop-row l = Summed (count_at (formula l.self.rule.now) l.mode l.self.pool.now) row_limit (row_count l.self.pool.now) l.row l.sum
