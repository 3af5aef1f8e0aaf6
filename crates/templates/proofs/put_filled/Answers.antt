use Rattle.std.proofs.Common.{rules, arith}
use Rattle.templates.proofs.Filling.{put_begin, put_more, put_end}
use Rattle.templates.proofs.put_filled.Goals as goal

pub loop-i-init : goal.loop-i-init
loop-i-init c = put_begin _ _ _

pub loop-i-preserved : goal.loop-i-preserved
loop-i-preserved c = put_more _ _ _ c.loop-i.invariant (omega arith) (search rules)

pub returns : goal.returns
returns c = put_end _ _ _ c.loop-i.invariant (omega arith)
