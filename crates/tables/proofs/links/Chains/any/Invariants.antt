-- `tables::links::Chains::any` meets its contract. Assumes nothing.
use Prim.Native.Nat.{ℕ, ◌≤◌}
use mathlib.Core.Path.{◌≡◌}
use mathlib.Core.Bool.{Bool, true}
use Rattle.tables.specs.Links.{Chained}
use Rattle.tables.proofs.Linked.{Seeks}
use Rattle.tables.proofs.links.Chains.any.Given as goal

abbrev pub invariant-loop : goal.invariant-loop
invariant-loop g l = (l.at ≤ l.self.rows) × ((hash : ℕ → ℕ) (p : ℕ → Bool) → Chained hash l.self
    → ((j : ℕ) → p j ≡ true → hash j ≡ l.h) → ((j : ℕ) (b : Bool) → goal.F-post g l.test j b → b ≡ p j) → Seeks hash p l.h l.self.rows l.at)
