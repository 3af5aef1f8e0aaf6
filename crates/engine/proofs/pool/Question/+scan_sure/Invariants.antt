-- `engine::pool::Question::sure` and `engine::pool::Question::scan`, which call each other, meet their contracts. Assumes nothing.
use Rattle.engine.proofs.Falls.{entry_measure, run_measure}
use Rattle.engine.proofs.pool.Question.+scan_sure.Given as goal

abbrev pub decreases-sure : goal.decreases-sure
decreases-sure l = entry_measure l.self.now.rule.now l.self.now.pool.words.now l.entry

abbrev pub decreases-scan : goal.decreases-scan
decreases-scan l = run_measure l.self.now.rule.now l.self.now.pool.words.now l.q.now.body l.run.rows
