use Rattle.templates.proofs.Filling.{Put}
use Rattle.templates.proofs.put_filled.Given as goal

abbrev pub invariant-loop-i : goal.invariant-loop-i
invariant-loop-i l = Put l.template l.parameters l.initial.out l.out l.i
