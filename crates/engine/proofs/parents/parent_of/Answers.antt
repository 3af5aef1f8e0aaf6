-- `engine::parents::parent_of` meets its contract. Assumes nothing.
use Rattle.std.proofs.Common.{rules, tests}
use Rattle.engine.proofs.Seeking.{not_first, parent_first}
use Rattle.engine.proofs.parents.parent_of.Goals as goal

pub overflow_sub-row : goal.overflow_sub-row
overflow_sub-row c = not_first c.args.pool.now c.requires.pool_value.0 c.args.row c.requires.pool_value.1 c.requires.row_value

pub returns : goal.returns
returns c = parent_first c.args.pool.now c.requires.pool_value.0 c.args.row c.requires.pool_value.1 c.requires.row_value
    _ c.partition_point.ensures.range.1 (λ l. let k = c.partition_point.ensures.before l in search (rules, tests)) (λ l. let k = c.partition_point.ensures.at l in search (rules, tests))
