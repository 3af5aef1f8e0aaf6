-- `parts::families::parent_of` meets its contract. Assumes nothing.
use mathlib.Core.Path.{sym, ap, ◌∙◌}
use Rattle.std.proofs.Common.{rules, tests}
use Rattle.tables.specs.declared.Row.{Row}
use Rattle.parts.proofs.Seeking.{seek_none, seek_found, seek_other}
use Rattle.parts.proofs.families.parent_of.Goals as goal
use Rattle.parts.proofs.families.parent_of.Goals.{else-found-row-via-then-found-row+else-row_at-up, else-found-row-via-else-found-row}

pub returns-then-row_at-up : goal.returns-then-row_at-up
returns-then-row_at-up c = seek_found c.args.table.now c.requires.one_device c.args.row c.requires.row_bound
    c.partition_point-found.result (λ l. let k = c.partition_point-found.ensures.before l in search (rules, tests)) (λ l. let k = c.partition_point-found.ensures.at l in search (rules, tests))
    c.if-found-row.true (sym (ap (λ (r : Row). r.at) c.row_at.ensures) ∙ c.if-row_at-up.true ∙ ap (λ (r : Row). r.up) c.row_at-up.ensures)

pub returns : goal.returns
returns c = elim c.else-found-row.branch [
  | else-found-row-via-then-found-row+else-row_at-up w ↦ seek_other c.args.table.now c.requires.one_device c.args.row c.requires.row_bound
      c.partition_point-found.result (λ l. let k = c.partition_point-found.ensures.before l in search (rules, tests)) (λ l. let k = c.partition_point-found.ensures.at l in search (rules, tests))
      w.if-found-row.true (λ e. w.if-row_at-up.false (ap (λ (r : Row). r.at) w.row_at.ensures ∙ e ∙ sym (ap (λ (r : Row). r.up) c.row_at-up.ensures)))
  | else-found-row-via-else-found-row w ↦ seek_none c.args.table.now c.requires.one_device c.args.row c.requires.row_bound
      c.partition_point-found.result (λ l. let k = c.partition_point-found.ensures.before l in search (rules, tests)) (λ l. let k = c.partition_point-found.ensures.at l in search (rules, tests))
      c.partition_point-found.ensures.range.1 w.if-found-row.false
]
