-- `checker::counting::Judged::row_count` meets its contract. Assumes nothing.
use native.Mathlib.Omega.{arith}
use Rattle.tables.proofs.Accepted.{few_rows}
use Rattle.checker.proofs.counting.Judged.row_count.Goals as goal

pub returns : goal.returns
returns c = grind (arith, few_rows _ c.args.self.now.pool_accepted)
