-- `tables::writing::word_width` meets its contract, by the laws of proofs/Writes.antt. Assumes nothing.
use mathlib.Core.Path.{ap}
use lib.ListN.{length}
use native.Mathlib.Omega.{arith}
use Rattle.tables.proofs.Writes.{below_text, plain_text}
use Rattle.tables.proofs.writing.word_width.Goals as goal

pub returns-in-Some : goal.returns-in-Some
returns-in-Some c = let e = ap length (below_text c.args.signed c.args.w _ c.in-Some.ensures) in (omega (arith, c.width.ensures.0), omega (arith, c.width.ensures.1))

pub returns-in-None : goal.returns-in-None
returns-in-None c = let e = ap length (plain_text c.args.signed c.args.w c.in-None.ensures) in (omega (arith, c.width-in-None.ensures.0), omega (arith, c.width-in-None.ensures.1))
