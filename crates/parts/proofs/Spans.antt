-- What a variable is bound to, by its row. Assumes nothing.
use Prim.Native.Nat.{ℕ, zero, suc}
use mathlib.Core.Path.{◌≡◌, refl, ap}
use mathlib.Core.List.{List}
use lib.ListN.{get_or}
use Rattle.std.specs.Prelude.{Some, None}
use Rattle.tables.specs.Words.{row_at}
use Rattle.logic.specs.Verdict.{nothing, bound}
use Rattle.engine.specs.Places.{place_of, bindings_of}
use Rattle.parts.specs.Ranges.{row_at_place, row_of}

place_nothing : (t : List ℕ) (p : ℕ) → row_at_place p ≡ None → place_of t p ≡ nothing
place_nothing t zero e = refl
place_nothing t (suc i) e = absurd (cc)

place_row : (t : List ℕ) (p : ℕ) {k : ℕ} → row_at_place p ≡ Some k → place_of t p ≡ bound (row_at t k)
place_row t zero e = absurd (cc)
place_row t (suc i) {k} e = let s : i ≡ k = cc in ap (λ (j : ℕ). bound (row_at t j)) s

module _ (t places : List ℕ) (v : ℕ) where
  pub at_nothing : row_of places v ≡ None → bindings_of t places v ≡ nothing
  unfolding bindings_of
  at_nothing e = place_nothing t (get_or places v 0) e

  pub at_row : {k : ℕ} → row_of places v ≡ Some k → bindings_of t places v ≡ bound (row_at t k)
  unfolding bindings_of
  at_row e = place_row t (get_or places v 0) e

pub place_is : (p k : ℕ) → row_at_place p ≡ Some k → p ≡ suc k
place_is zero k e = absurd (cc)
place_is (suc i) k e = let s : i ≡ k = cc in ap suc s
