-- `engine::children::find_children` meets its contract. Assumes nothing.
use mathlib.Core.Path.{◌≡◌}
use lib.ListN.{length}
use Rattle.engine.specs.Runs.{RunsWithin}
use Rattle.engine.proofs.children.find_children.Given as goal

abbrev pub invariant-loop-i : goal.invariant-loop-i
invariant-loop-i l = RunsWithin l.pool l.children l.i × (length l.latest ≡ 16)
