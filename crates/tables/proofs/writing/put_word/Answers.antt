-- `tables::writing::put_word` meets its contract, by the laws of proofs/Writes.antt. Assumes nothing.
use mathlib.Core.Path.{ap, ◌∙◌}
use native.Mathlib.Numerals.{add-one}
use native.Mathlib.Omega.{arith}
use lib.ListN.{length, length-set}
use Rattle.tables.proofs.Writes.{below_text, plain_text}
use Rattle.tables.proofs.writing.put_word.Goals as goal

pub bounds-out-at : goal.bounds-out-at
bounds-out-at c = omega (arith, c.requires, ap length (below_text c.args.signed c.args.w _ c.in-Some.ensures))

pub put_number-requires : goal.put_number-requires
put_number-requires c = rw length-set (omega (arith, c.requires, ap length (below_text c.args.signed c.args.w _ c.in-Some.ensures)))

pub put_number-requires-in-None : goal.put_number-requires-in-None
put_number-requires-in-None c = rw (plain_text c.args.signed c.args.w c.in-None.ensures) at c.requires

pub returns-in-Some-clause-place : goal.returns-in-Some-clause-place
returns-in-Some-clause-place c = omega (arith, c.put_number.ensures.place, ap length (below_text c.args.signed c.args.w _ c.in-Some.ensures))

pub returns-in-Some-clause-bytes : goal.returns-in-Some-clause-bytes
returns-in-Some-clause-bytes c = rw (below_text c.args.signed c.args.w _ c.in-Some.ensures) (c.put_number.ensures.bytes ∙ rw add-one)

pub returns-in-None-clause-place : goal.returns-in-None-clause-place
returns-in-None-clause-place c = rw (plain_text c.args.signed c.args.w c.in-None.ensures) c.put_number-in-None.ensures.place

pub returns-in-None-clause-bytes : goal.returns-in-None-clause-bytes
returns-in-None-clause-bytes c = rw (plain_text c.args.signed c.args.w c.in-None.ensures) c.put_number-in-None.ensures.bytes
