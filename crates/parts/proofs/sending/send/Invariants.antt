-- `parts::sending::send` meets its contract. Assumes nothing.
use Rattle.parts.proofs.Sent.{Sends}
use Rattle.parts.proofs.sending.send.Given as goal

abbrev pub invariant-loop-row : goal.invariant-loop-row
invariant-loop-row l = Sends l.table l.kept l.initial.out l.out l.at l.row
