-- `tables::writing::put_number` meets its contract, by the laws of proofs/Numbers.antt. Assumes nothing.
use Prim.Native.Nat.{◌-◌}
use Rattle.tables.proofs.Numbers.{Placing}
use Rattle.tables.proofs.writing.put_number.Given as goal

abbrev pub invariant-loop-i : goal.invariant-loop-i
invariant-loop-i l = Placing l.initial.out l.at l.w l.out (l.i - 1) l.v l.p
