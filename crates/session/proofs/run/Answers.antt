-- `session::run` meets its contract: what it prints is the text's whole. Assumes nothing.
use Rattle.std.proofs.Common.{ℕ, ◌∙◌, arith}
use lib.ListN.{length-replicate}
use Rattle.checker.proofs.Lengths.{report_printed}
use Rattle.session.proofs.run.Goals as goal

pub returns : goal.returns
returns g c = record { rule = _; pool = _; count = c.report-k.ensures.count ∙ report_printed _ _ _ (omega (arith, length-replicate {A = ℕ} 64 0)) }
