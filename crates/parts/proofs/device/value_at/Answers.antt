-- `parts::device::value_at` meets its contract. Assumes nothing.
use mathlib.Core.Path.{sym, ap, ◌∙◌}
use Rattle.std.specs.Prelude.{Some}
use Rattle.tables.specs.declared.Row.{Row}
use Rattle.logic.specs.Verdict.{Place}
use Rattle.logic.specs.Reading.{value_read}
use Rattle.parts.specs.Device.{known}
use Rattle.parts.proofs.Spans.{at_nothing, at_row}
use Rattle.parts.proofs.device.value_at.Goals as goal

pub returns-in_err-row : goal.returns-in_err-row
returns-in_err-row c =
    c.from_residual.ensures
    ∙ sym (ap (λ (p : Place). known (value_read p)) (at_nothing c.args.table.now c.args.b.row c.args.variable (sym c.row_of.ensures ∙ c.in_err-row.was)))

pub returns : goal.returns
returns c =
    ap (λ (r : Row). Some r.value) c.row_at.ensures
    ∙ sym (ap (λ (p : Place). known (value_read p)) (at_row c.args.table.now c.args.b.row c.args.variable (sym c.row_of.ensures ∙ c.in_ok-row.was)))
