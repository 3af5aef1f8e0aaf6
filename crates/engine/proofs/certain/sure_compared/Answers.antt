-- `engine::certain::sure_compared` meets its contract. Assumes nothing.
use mathlib.Core.Path.{◌≡◌, sym, ap, ◌∙◌}
use mathlib.Core.Bool.{not}
use lib.ListN.{get_or}
use Rattle.engine.specs.Ready.{compared_by}
use Rattle.engine.proofs.Bound.{row_there}
use Rattle.engine.proofs.Settled.{compared_known}
use Rattle.engine.proofs.certain.sure_compared.Goals.{in-Variable+else-is_none-2, in_default}
use Rattle.engine.proofs.certain.sure_compared.Goals as goal

pub returns : goal.returns
returns c =
    let known = row_there _ c.row_of.ensures (c.is_none.ensures ∙ ap not c.if-is_none.false) in
    elim c.match-operand.branch [
      | in-Variable+else-is_none-2 w ↦ compared_known c.args.pool.now c.args.b c.args.by c.args.variable c.args.operand c.args.want known
          (λ x e z. let y : w.in-Variable.other ≡ x = cc in
          row_there _ w.row_of-in-Variable.ensures (w.is_none-in-Variable.ensures ∙ ap not w.if-is_none-2.false) (ap (λ n. get_or c.args.b.row n 0) y ∙ z)) _
          (c.compared.ensures ∙ ap (compared_by c.args.pool.now c.args.b c.args.by c.args.variable) (w.operand-is ∙ sym w.in-Variable.is))
      | in_default w ↦ compared_known c.args.pool.now c.args.b c.args.by c.args.variable c.args.operand c.args.want known (λ x e. absurd (w.in_default.not-Variable x e)) _
          (c.compared.ensures ∙ ap (compared_by c.args.pool.now c.args.b c.args.by c.args.variable) w.operand-is)
    ]
