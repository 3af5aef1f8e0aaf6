-- `checker::printing::put_refusal` meets its contract, by the laws of proofs/Texts.antt. Assumes nothing.
use Prim.Native.Nat.{ℕ}
use mathlib.Core.Path.{ap}
use Rattle.checker.specs.Report.{refusal_text}
use Rattle.checker.proofs.Texts.{prints_same, wrote}
use Rattle.checker.proofs.printing.put_refusal.Goals as goal

pub returns-clause-count : goal.returns-clause-count
returns-clause-count c = (prints_same c.args.out.now _ _ (ap (λ (k : ℕ). refusal_text k c.args.refusal.place) c.number.ensures) (wrote _ _ _ _ _ _ _ c.write_refusal.ensures.answer c.write_refusal.ensures.bytes c.unwrap_or.ensures)).0

pub returns-clause-bytes : goal.returns-clause-bytes
returns-clause-bytes c = (prints_same c.args.out.now _ _ (ap (λ (k : ℕ). refusal_text k c.args.refusal.place) c.number.ensures) (wrote _ _ _ _ _ _ _ c.write_refusal.ensures.answer c.write_refusal.ensures.bytes c.unwrap_or.ensures)).1
