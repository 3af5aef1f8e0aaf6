-- One law for each way through a comparison. Assumes nothing.
use Prim.Native.Nat.{ℕ}
use mathlib.Core.Path.{◌≡◌}
use mathlib.Core.Bool.{not}
use lib.Dec.{eqb}
use borrow.Author.Tests.{eq-eqb, ne_eqb}
use Rattle.tables.specs.Values.{is_less}
use Rattle.logic.specs.Verdict.{compare}
use Rattle.tables.specs.Nodes.{comparison_kind}

-- ---- comparisons
pub compare_equal : (k x y : ℕ) → k ≡ 7 → eqb x y ≡ compare (comparison_kind k) x y
compare_equal k x y h = simp (eq-eqb k 7 h)

pub compare_less : (k x y : ℕ) → (k ≡ 7 → ⊥) → k ≡ 8 → is_less x y ≡ compare (comparison_kind k) x y
compare_less k x y h g = simp (ne_eqb k 7 h, eq-eqb k 8 g)

pub compare_at_most : (k x y : ℕ) → (k ≡ 7 → ⊥) → (k ≡ 8 → ⊥) → not (is_less y x) ≡ compare (comparison_kind k) x y
compare_at_most k x y h g = simp (ne_eqb k 7 h, ne_eqb k 8 g)
