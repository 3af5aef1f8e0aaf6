-- `checker::printing::put_counts` meets its contract, by the laws of proofs/Texts.antt. Assumes nothing.
use mathlib.Core.Path.{ap, ◌∙◌}
use Rattle.checker.specs.Report.{counts_text}
use Rattle.checker.proofs.Texts.{prints_same, wrote}
use Rattle.checker.proofs.printing.put_counts.Goals as goal

pub returns-clause-count : goal.returns-clause-count
returns-clause-count c = (prints_same c.args.out.now _ _ (ap counts_text (c.into-words.ensures ∙ c.counts.ensures)) (wrote _ _ _ _ _ _ _ c.write_counts.ensures.answer c.write_counts.ensures.bytes c.unwrap_or.ensures)).0

pub returns-clause-bytes : goal.returns-clause-bytes
returns-clause-bytes c = (prints_same c.args.out.now _ _ (ap counts_text (c.into-words.ensures ∙ c.counts.ensures)) (wrote _ _ _ _ _ _ _ c.write_counts.ensures.answer c.write_counts.ensures.bytes c.unwrap_or.ensures)).1
