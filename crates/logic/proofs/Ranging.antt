-- What a quantifier looks at in a row: its device, its parent and its name. Assumes nothing.
use Prim.Native.Nat.{ℕ}
use mathlib.Core.Path.{◌≡◌, refl, ap, ap₂}
use mathlib.Core.Bool.{◌&&◌}
use lib.Dec.{eqb}
use Rattle.tables.specs.Tables.{is_parent}
use Rattle.tables.specs.declared.Row.{Row}
use Rattle.tables.specs.declared.Over.{Over}
use Rattle.tables.specs.declared.Over.TheVariants.{Roots, Under}
use Rattle.logic.specs.Verdict.{Place, nothing, bound, Bindings, hangs, ranges}
use Rattle.logic.proofs.Names.{same_name}

pub parent_same : (r s p q : Row) → s.device ≡ r.device → s.up ≡ r.up → q.device ≡ p.device → q.at ≡ p.at → is_parent s q ≡ is_parent r p
parent_same r s p q d u e a = ap₂ ◌&&◌ (ap₂ eqb e d) (ap₂ eqb a u)

module _ (r s : Row) (device : s.device ≡ r.device) (up : s.up ≡ r.up) where
  hangs_same : (p : Place) → hangs p s ≡ hangs p r
  hangs_same nothing = refl
  hangs_same (bound p) = parent_same r s p p device up refl refl

  pub ranges_same : (o : Over) (n : ℕ) (b : Bindings) → s.name ≡ r.name → ranges o n b s ≡ ranges o n b r
  ranges_same Roots n b name = ap₂ ◌&&◌ (ap (λ (u : ℕ). eqb u 0) up) (same_name n s r name)
  ranges_same (Under v) n b name = ap₂ ◌&&◌ (hangs_same (b v)) (same_name n s r name)
