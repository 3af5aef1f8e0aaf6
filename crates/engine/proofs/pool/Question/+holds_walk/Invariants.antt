-- `engine::pool::Question::holds` and `engine::pool::Question::walk`, which call each other, meet their contracts. Assumes nothing.
use Rattle.engine.proofs.Falls.{entry_measure, run_measure}
use Rattle.engine.proofs.pool.Question.+holds_walk.Given as goal

abbrev pub decreases-holds : goal.decreases-holds
decreases-holds l = entry_measure l.self.now.rule.now l.self.now.pool.words.now l.entry

abbrev pub decreases-walk : goal.decreases-walk
decreases-walk l = run_measure l.self.now.rule.now l.self.now.pool.words.now l.q.now.body l.run.rows
