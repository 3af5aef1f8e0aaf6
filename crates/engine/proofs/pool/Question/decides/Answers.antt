-- `engine::pool::Question::decides` meets its contract. Assumes nothing.
use mathlib.Core.Path.{ap, ◌∙◌}
use mathlib.Core.Bool.{not, beq}
use Rattle.engine.proofs.Explained.{decides_row}
use Rattle.engine.proofs.pool.Question.decides.Goals as goal

pub returns : goal.returns
returns c =
    ap (λ z. not (beq c.holds.result z)) c.settled.ensures
    ∙ decides_row c.args.self.now.rule.now c.args.self.now.pool.words.now c.args.b c.args.q.now c.args.row 1 c.requires c.requires.place
    _ c.ranges-2.ensures c.if-not-ranges.false _ c.bind.ensures _ c.holds.ensures
