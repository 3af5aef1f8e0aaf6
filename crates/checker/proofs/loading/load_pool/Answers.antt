-- `checker::loading::load_pool` meets its contract, by the laws of proofs/Loads.antt. Assumes nothing.
use Rattle.std.proofs.Common.{rules, Err}
use mathlib.Core.Path.{◌≡◌, sym}
use native.Mathlib.Omega.{arith}
use lib.Seq.{length-take-le}
use Rattle.tables.specs.Tables.{check_table}
use Rattle.tables.specs.declared.Fault.TheVariants.{TableLength}
use Rattle.checker.proofs.Bounds.{table_over}
use Rattle.checker.proofs.Loads.{load_refused, load_within, load_fault, load_accepted}
use Rattle.checker.proofs.loading.load_pool.Goals as goal

pub returns-in_err-n : goal.returns-in_err-n
returns-in_err-n c =
    let e : c.from_residual.result ≡ Err c.in_err-n.field-0.0 = search rules in
    rw e (load_refused _ _ check_table _ _ _ _ c.read_pool.ensures.answer c.read_pool.ensures.words TableLength _ c.lines_answer.ensures (λ ws h. table_over ws (omega (arith, c.requires))) _ c.in_err-n.was)

pub slice_bounds-check_table-end : goal.slice_bounds-check_table-end
slice_bounds-check_table-end c = load_within _ _ check_table _ _ _ _ c.read_pool.ensures.answer c.read_pool.ensures.words TableLength _ c.lines_answer.ensures _ c.in_ok-n.was

pub slice_bounds-check_table-end-2 : goal.slice_bounds-check_table-end-2
slice_bounds-check_table-end-2 c = sym (length-take-le _ _ (load_within _ _ check_table _ _ _ _ c.read_pool.ensures.answer c.read_pool.ensures.words TableLength _ c.lines_answer.ensures _ c.in_ok-n.was))

pub returns-in_err-check_table : goal.returns-in_err-check_table
returns-in_err-check_table c =
    let e : c.from_residual-in_err-check_table.result ≡ Err c.in_err-check_table.field-0.0 = search rules in
    rw e (load_fault _ _ check_table _ _ _ _ c.read_pool.ensures.answer c.read_pool.ensures.words TableLength _ c.lines_answer.ensures _ c.in_ok-n.was _ _ c.check_table.ensures c.in_err-check_table.was)

pub returns : goal.returns
returns c = load_accepted _ _ check_table _ _ _ _ c.read_pool.ensures.answer c.read_pool.ensures.words TableLength _ c.lines_answer.ensures _ c.in_ok-n.was _ _ c.check_table.ensures c.in_ok-check_table.was
