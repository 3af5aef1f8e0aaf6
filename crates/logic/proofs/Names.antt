-- A quantifier's name test by its laws: proofs above see no more of it. Assumes nothing.
use Prim.Native.Nat.{ℕ}
use mathlib.Core.Path.{◌≡◌, refl, sym, ap, ◌∙◌}
use mathlib.Core.Bool.{true, false, ◌||◌}
use lib.Dec.{eqb}
use Rattle.tables.specs.Rules.{any_name}
use Rattle.tables.specs.declared.Row.{Row}
use Rattle.logic.specs.Verdict.{named}

-- what the code computes
pub name_test : (n : ℕ) (r : Row) → (eqb n any_name || eqb r.name n) ≡ named n r
unfolding named
name_test n r = refl

pub any_name_lem : (n : ℕ) (r : Row) → eqb n any_name ≡ true → named n r ≡ true
any_name_lem n r e = sym (name_test n r) ∙ ap (λ b. b || eqb r.name n) e

pub own_name : (n : ℕ) (r : Row) → eqb n any_name ≡ false → named n r ≡ eqb r.name n
own_name n r e = sym (name_test n r) ∙ ap (λ b. b || eqb r.name n) e

-- it looks at the row's name alone
pub same_name : (n : ℕ) (r s : Row) → r.name ≡ s.name → named n r ≡ named n s
same_name n r s e = sym (name_test n r) ∙ ap (λ k. eqb n any_name || eqb k n) e ∙ name_test n s
