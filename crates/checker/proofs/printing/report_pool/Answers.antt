-- `checker::printing::report_pool` meets its contract, by the laws of proofs/Texts.antt. Assumes nothing.
use Rattle.checker.proofs.Texts.{pool_place}
use Rattle.checker.proofs.printing.report_pool.Goals as goal

pub put_refusal-requires : goal.put_refusal-requires
put_refusal-requires c = pool_place _ c.load_sized_pool.ensures _ c.in-Err.is
