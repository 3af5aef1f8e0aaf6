-- What a rule whose quantifiers miss a row tells of it. Assumes nothing.
use Prim.Native.Nat.{ℕ}
use native.Mathlib.Omega.{arith}
use mathlib.Core.Path.{◌≡◌, ap, subst}
use mathlib.Core.Bool.{false}
use mathlib.Core.List.{List}
use Rattle.tables.specs.Words.{row_at, rows}
use Rattle.logic.specs.Formulas.{formula}
use Rattle.logic.specs.Parts.{no_chains, reached_in, reached}
use Rattle.engine.specs.Places.{fresh}
use Rattle.engine.specs.Touching.{Misses}
use Rattle.engine.specs.declared.bindings.Bindings.{Bindings}

pub not_reached : (rule t : List ℕ) (row : ℕ) {b : Bindings} → b ≡ fresh → Misses rule t row b 0 → reached (formula rule) (rows t) (row_at t row) ≡ false
unfolding reached
not_reached rule t row {b} b_is misses =
    subst (λ (d : ℕ). reached_in (formula rule) (rows t) d no_chains (row_at t row) ≡ false) (ap (λ (z : Bindings). z.depth) b_is)
    (misses no_chains (λ v j low on inside q. absurd (omega (arith, low, ap (λ (z : Bindings). z.depth) b_is))))
