-- `checker::printing::report` meets its contract, by the laws of proofs/Texts.antt. Assumes nothing.
use Rattle.checker.proofs.Texts.{prints_same, rule_place, rule_next, rule_refused}
use Rattle.checker.proofs.printing.report.Goals as goal

pub put_refusal-requires : goal.put_refusal-requires
put_refusal-requires c = rule_place _ c.load_sized_rule.ensures _ c.in-Err.is

pub returns-in-Ok-clause-count : goal.returns-in-Ok-clause-count
returns-in-Ok-clause-count c = (prints_same c.args.out.now _ _ (rule_next c.args.rule.now c.load_sized_rule.ensures c.args.pool.now _ c.in-Ok.is) (c.report_pool.ensures.count, c.report_pool.ensures.bytes)).0

pub returns-in-Ok-clause-bytes : goal.returns-in-Ok-clause-bytes
returns-in-Ok-clause-bytes c = (prints_same c.args.out.now _ _ (rule_next c.args.rule.now c.load_sized_rule.ensures c.args.pool.now _ c.in-Ok.is) (c.report_pool.ensures.count, c.report_pool.ensures.bytes)).1

pub returns-in-Err-clause-count : goal.returns-in-Err-clause-count
returns-in-Err-clause-count c = (prints_same c.args.out.now _ _ (rule_refused c.args.rule.now c.load_sized_rule.ensures c.args.pool.now _ c.in-Err.is) (c.put_refusal.ensures.count, c.put_refusal.ensures.bytes)).0

pub returns-in-Err-clause-bytes : goal.returns-in-Err-clause-bytes
returns-in-Err-clause-bytes c = (prints_same c.args.out.now _ _ (rule_refused c.args.rule.now c.load_sized_rule.ensures c.args.pool.now _ c.in-Err.is) (c.put_refusal.ensures.count, c.put_refusal.ensures.bytes)).1
