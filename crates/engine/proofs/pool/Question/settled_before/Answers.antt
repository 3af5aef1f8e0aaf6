-- `engine::pool::Question::settled_before` meets its contract. Assumes nothing.
use Rattle.engine.proofs.Settled.{settles_all}
use Rattle.engine.proofs.pool.Question.settled_before.Goals as goal

pub returns : goal.returns
returns c =
    settles_all c.args.self.now.rule.now c.args.self.now.pool.words.now c.args.b c.args.q.now 0 0 c.requires _ c.args.same c.settled.ensures _ c.bind.ensures _ c.sure.ensures
