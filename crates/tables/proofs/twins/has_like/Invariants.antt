-- `tables::twins::has_like` meets its contract. Assumes nothing.
use Prim.Native.Nat.{◌≤◌}
use mathlib.Core.Path.{◌≡◌}
use Rattle.base.specs.Search.{some}
use Rattle.tables.specs.Words.{row_at}
use Rattle.tables.specs.Links.{is_like}
use Rattle.tables.proofs.twins.has_like.Given as goal

abbrev pub invariant-loop-i : goal.invariant-loop-i
invariant-loop-i l = (l.i ≤ l.n) × (l.found ≡ some (λ j. is_like l.r (row_at l.t j)) l.i)
