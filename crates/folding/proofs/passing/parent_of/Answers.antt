-- `folding::passing::parent_of` meets its contract. Assumes nothing.
use Rattle.std.proofs.Common.{rules, tests}
use Rattle.folding.proofs.ParentSearch.{not_first, parent_first}
use Rattle.folding.proofs.passing.parent_of.Goals as goal

pub overflow_sub-row : goal.overflow_sub-row
overflow_sub-row c = not_first c.args.table.now c.requires.foldable c.args.row c.requires.row_bound.0 c.requires.row_bound.1

pub returns : goal.returns
returns c = parent_first c.args.table.now c.requires.foldable c.args.row c.requires.row_bound.0 c.requires.row_bound.1
    _ c.partition_point.ensures.range.1 (λ l. let k = c.partition_point.ensures.before l in search (rules, tests)) (λ l. let k = c.partition_point.ensures.at l in search (rules, tests))
