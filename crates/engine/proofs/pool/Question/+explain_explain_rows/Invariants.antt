-- `engine::pool::Question::explain` and `engine::pool::Question::explain_rows`, which call each other, meet their contracts. Assumes nothing.
use Rattle.engine.proofs.Falls.{entry_measure, run_measure}
use Rattle.engine.proofs.pool.Question.+explain_explain_rows.Given as goal

abbrev pub decreases-explain : goal.decreases-explain
decreases-explain l = entry_measure l.self.now.rule.now l.self.now.pool.words.now l.entry

abbrev pub decreases-explain_rows : goal.decreases-explain_rows
decreases-explain_rows l = run_measure l.self.now.rule.now l.self.now.pool.words.now l.q.now.body l.run.rows
