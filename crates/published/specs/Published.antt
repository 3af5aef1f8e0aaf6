-- Configuration Logic as source document 004 publishes it: section 4.2.1 and Table 1, in its words and order; and 02, wish 2, the
-- quantifiers over any name, which 004 does not have. Names and values are numbers; no row, device or place in a table stands in
-- this file. Assumes nothing.
use Rattle.std.specs.Prelude.{ℕ, ◌≡◌, ◌↔◌, Bool, true, not, ◌&&◌, ◌||◌, List, [], ◌∷◌, ◌++◌, eqb}
use Rattle.base.specs.Lists.{◌∈◌, when, all, any}
use Rattle.tables.specs.Values.{is_less, is_at_most}

-- "a tree where each node is a pair composed of a name and a value": no node at all, or a node's name, its value, what stands
-- below it and what stands beside it
pub data Tree : Type 0 where
  no_node : Tree
  node : ℕ → ℕ → Tree → Tree → Tree

-- "A path is a sequence of name-value pairs": p₁ = x₁, p₂ = x₂, .., pₙ = xₙ
pub record Pair : Type 0 where
  pub name : ℕ
  pub value : ℕ

infix 60 ◌is◌
abbrev pub ◌is◌ : ℕ → ℕ → Pair
p is x = record { name = p; value = x }

abbrev pub Path : Type 0
Path = List Pair

-- "v(T; p̄ = x̄, p) returns the set of all values for parameter p at the end of path p̄ = x̄ in tree T". The list counts as a set:
-- `AsSet`, below.
unfoldable pub v : Tree → Path → ℕ → List ℕ
v no_node path p = []
v (node n k below beside) [] p = when (eqb n p) (k ∷ []) ++ v beside [] p
v (node n k below beside) (x ∷ path) p =
    when (eqb n x.name && eqb k x.value) (v below path p) ++ v beside (x ∷ path) p

-- The pairs of all nodes at the end of the path, whatever their names: `PairsOf`, below, ties them to v.
unfoldable pub pairs : Tree → Path → List Pair
pairs no_node path = []
pairs (node n k below beside) [] = (n is k) ∷ pairs beside []
pairs (node n k below beside) (x ∷ path) =
    when (eqb n x.name && eqb k x.value) (pairs below path) ++ pairs beside (x ∷ path)

-- Formulas: ¬φ, φ ∨ ψ, φ ∧ ψ, φ → ψ, ⟨p̄ = x̄; p = x⟩ φ(x), [p̄ = x̄; p = x] φ(x), k₁ = k₂. φ(x) is a function of the value that x
-- stands for. "The semantics of CL can easily be extended to allow arbitrary predicates": here k₁ < k₂ and k₁ ≤ k₂. Beside them the
-- quantifiers over any name, where φ is a function of the name and the value.
pub data CL : Type 0 where
  NOT : CL → CL
  OR AND IMPLIES : CL → CL → CL
  SOME EACH : Path → ℕ → (ℕ → CL) → CL
  EQUAL LESS ATMOST : ℕ → ℕ → CL
  SOMEPAIR EACHPAIR : Path → (Pair → CL) → CL

-- Table 1
infix 40 ◌⊨◌
unfoldable pub ◌⊨◌ : Tree → CL → Bool
-- T ⊨ ¬φ  ≡  T ⊭ φ
T ⊨ NOT φ = not (T ⊨ φ)
-- T ⊨ φ ∨ ψ  ≡  T ⊨ φ or T ⊨ ψ
T ⊨ OR φ ψ = (T ⊨ φ) || (T ⊨ ψ)
-- T ⊨ φ ∧ ψ  ≡  T ⊨ φ and T ⊨ ψ
T ⊨ AND φ ψ = (T ⊨ φ) && (T ⊨ ψ)
-- T ⊨ φ → ψ  ≡  T ⊭ φ or T ⊨ ψ
T ⊨ IMPLIES φ ψ = not (T ⊨ φ) || (T ⊨ ψ)
-- T ⊨ ⟨p̄ = x̄; p = x⟩ φ(x)  ≡  T ⊨ φ(k) for some k ∈ v(T; p̄ = x̄; p)
T ⊨ SOME path p φ = any (λ k. T ⊨ φ k) (v T path p)
-- T ⊨ [p̄ = x̄; p = x] φ(x)  ≡  T ⊨ φ(k) for each k ∈ v(T; p̄ = x̄; p)
T ⊨ EACH path p φ = all (λ k. T ⊨ φ k) (v T path p)
-- T ⊨ k₁ = k₂  ≡  k₁ and k₂ have the same value
T ⊨ EQUAL k₁ k₂ = eqb k₁ k₂
T ⊨ LESS k₁ k₂ = is_less k₁ k₂
T ⊨ ATMOST k₁ k₂ = is_at_most k₁ k₂
-- any name: T ⊨ φ(p = k) for some, for each pair p = k at the end of the path
T ⊨ SOMEPAIR path φ = any (λ x. T ⊨ φ x) (pairs T path)
T ⊨ EACHPAIR path φ = all (λ x. T ⊨ φ x) (pairs T path)

-- The two quantifier lines in Table 1's words, proved in proofs/Table: how often and in what order v lists a value does not matter.
pub record AsSet (T : Tree) (path : Path) (p : ℕ) (φ : ℕ → CL) : Type 0 where
  pub for_some : ((T ⊨ SOME path p φ) ≡ true) ↔ ((k : ℕ) × (k ∈ v T path p) × ((T ⊨ φ k) ≡ true))
  pub for_each : ((T ⊨ EACH path p φ) ≡ true) ↔ ((k : ℕ) → k ∈ v T path p → (T ⊨ φ k) ≡ true)

-- The pairs at the end of a path are the names with the values that v has for them, proved in proofs/Table.
abbrev pub PairsOf : Tree → Path → Type 0
PairsOf T path = (p k : ℕ) → ((p is k) ∈ pairs T path) ↔ (k ∈ v T path p)

-- So the quantifiers over any name are Table 1's over some, over each name, proved in proofs/Table.
pub record OverNames (T : Tree) (path : Path) (φ : Pair → CL) : Type 0 where
  pub for_some : ((T ⊨ SOMEPAIR path φ) ≡ true) ↔ ((p : ℕ) × ((T ⊨ SOME path p (λ k. φ (p is k))) ≡ true))
  pub for_each : ((T ⊨ EACHPAIR path φ) ≡ true) ↔ ((p : ℕ) → (T ⊨ EACH path p (λ k. φ (p is k))) ≡ true)
