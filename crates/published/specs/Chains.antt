-- Which paths a table's tree has: those along rows that hang under one another. Assumes nothing.
use Rattle.std.specs.Prelude.{ℕ, ◌≡◌, ◌↔◌, Bool, true, List, [], ◌∷◌}
use Rattle.base.specs.Lists.{◌∈◌}
use Rattle.tables.specs.Words.{rows}
use Rattle.tables.specs.Tables.{root, is_parent, accepted_table}
use Rattle.tables.specs.declared.Row.{Row}
use Rattle.published.specs.Published.{Path, v}
use Rattle.published.specs.Stated.{tree}

-- from a row that passes the test, down the path by names and values, to one with this name and value
unfoldable pub Chain : List Row → (Row → Bool) → Path → ℕ → ℕ → Type 0
Chain T t [] p k = (r : Row) × (r ∈ T) × (t r ≡ true) × (r.name ≡ p) × (r.value ≡ k)
Chain T t (x ∷ path) p k =
    (r : Row) × (r ∈ T) × (t r ≡ true) × (r.name ≡ x.name) × (r.value ≡ x.value) × Chain T (λ s. is_parent s r) path p k

-- the claim, proved in proofs/Chains: an accepted table's tree loses and adds nothing
abbrev pub TreePaths : Type 0
TreePaths = (t : List ℕ) → accepted_table t ≡ true → (path : Path) (p k : ℕ)
    → (k ∈ v (tree (rows t)) path p) ↔ Chain (rows t) root path p k
