-- `tables::devices::device_span` meets its contract. Assumes nothing.
use Rattle.std.proofs.Common.{rules, true, false}
use native.Mathlib.Omega.{arith}
use Rattle.tables.proofs.Answers.{done_if}
use Rattle.tables.proofs.Parting.{a_le, b_le, some_rows, no_rows, no_table}
use Rattle.tables.proofs.devices.device_span.Goals as goal

pub overflow_mul-result : goal.overflow_mul-result
overflow_mul-result c = omega (arith, a_le c.args.table.now c.args.device _ _ _ c.from-d.ensures c.from_device-a.ensures c.from_device-b.ensures)

pub overflow_mul-result-then-a-b : goal.overflow_mul-result-then-a-b
overflow_mul-result-then-a-b c = omega (arith, b_le c.args.table.now c.args.device _ _ _ c.from-d.ensures c.from_device-a.ensures c.from_device-b.ensures)

pub returns-then-a-b : goal.returns-then-a-b
returns-then-a-b c = some_rows c.args.table.now c.args.device _ _ _ c.from-d.ensures c.from_device-a.ensures c.from_device-b.ensures (done_if _ _ true c.check_table.ensures (search (rules, c.is_ok.ensures, c.if-is_ok.true))) c.if-a-b.true

pub returns-then-is_ok : goal.returns-then-is_ok
returns-then-is_ok c = no_rows c.args.table.now c.args.device _ _ _ c.from-d.ensures c.from_device-a.ensures c.from_device-b.ensures c.if-a-b.false

pub returns : goal.returns
returns c = no_table c.args.table.now c.args.device (done_if _ _ false c.check_table.ensures (search (rules, c.is_ok.ensures, c.if-is_ok.false)))
