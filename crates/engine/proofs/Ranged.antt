-- The rows that a quantifier ranges over, found by the place of their parent. Assumes nothing.
use Prim.Native.Nat.{ℕ, suc, ◌+◌}
use mathlib.Core.Path.{◌≡◌, refl, sym, ap, ap₂, subst, fun_ext, ◌∙◌}
use mathlib.Core.Bool.{Bool, true, false, ◌&&◌}
use mathlib.Core.List.{List}
use lib.ListN.{get_or}
use lib.Dec.{eqb}
use Rattle.std.specs.Prelude.{Option, None}
use Rattle.base.specs.Search.{found}
use Rattle.base.proofs.Ranges.{nowhere}
use Rattle.tables.specs.Words.{row_at}
use Rattle.tables.specs.Tables.{root, is_parent}
use Rattle.tables.specs.declared.Row.{Row}
use Rattle.tables.specs.declared.Over.{Over}
use Rattle.tables.specs.declared.Over.TheVariants.{Roots, Under}
use Rattle.logic.specs.Verdict.{named, hangs, ranges}
use Rattle.engine.specs.Places.{place_of, bindings_of}
use Rattle.engine.specs.Ready.{meant, ranges_by, is_named_child}
use Rattle.engine.specs.declared.bindings.Bindings.{Bindings}
use Rattle.engine.specs.declared.ranges.Quantified.{Quantified}

-- a quantifier that has been read ranges over row i: n is its name test there
module _ (pool : List ℕ) (b : Bindings) (q : Quantified) (i : ℕ) (r : Row) (r_is : r ≡ row_at pool i) (h n : Bool) (n_is : n ≡ named q.name r) where
  pub over_root : q.over ≡ Roots → h ≡ root r → (h && n) ≡ ranges_by pool b q (row_at pool i)
  over_root o e = ap₂ ◌&&◌ e n_is ∙ ap₂ (λ (z : Over) (y : Row). ranges z q.name (meant pool b) y) (sym o) r_is

  module _ (v : ℕ) (o : q.over ≡ Under v) where
    under : h ≡ hangs (meant pool b v) r → (h && n) ≡ ranges_by pool b q (row_at pool i)
    under e = ap₂ ◌&&◌ e n_is ∙ ap₂ (λ (z : Over) (y : Row). ranges z q.name (meant pool b) y) (sym o) r_is

    pub under_nothing : get_or b.row v 0 ≡ 0 → h ≡ false → (h && n) ≡ ranges_by pool b q (row_at pool i)
    unfolding bindings_of
    under_nothing z e = under (e ∙ sym (ap (λ (p : ℕ). hangs (place_of pool p) r) z))

    pub under_row : (j : ℕ) → get_or b.row v 0 ≡ suc j → (p : Row) → p ≡ row_at pool j → h ≡ is_parent r p → (h && n) ≡ ranges_by pool b q (row_at pool i)
    unfolding bindings_of
    under_row j z p p_is e = under (e ∙ ap (is_parent r) p_is ∙ sym (ap (λ (p : ℕ). hangs (place_of pool p) r) z))

-- the first such row of k from row i on
module _ (pool : List ℕ) (b : Bindings) (q : Quantified) (i k : ℕ) (found_row : Option ℕ) where
  module _ (v : ℕ) (o : q.over ≡ Under v) where
    under_it : found_row ≡ found (λ (j : ℕ). hangs (meant pool b v) (row_at pool (i + j)) && named q.name (row_at pool (i + j))) k
        → found_row ≡ found (λ (j : ℕ). ranges_by pool b q (row_at pool (i + j))) k
    under_it e = subst (λ (z : Over). found_row ≡ found (λ (j : ℕ). ranges z q.name (meant pool b) (row_at pool (i + j))) k) (sym o) e

    pub found_nothing : get_or b.row v 0 ≡ 0 → found_row ≡ None → found_row ≡ found (λ (j : ℕ). ranges_by pool b q (row_at pool (i + j))) k
    unfolding bindings_of
    found_nothing z e = under_it (e ∙ sym (nowhere _ k (λ j h. ap (λ (p : ℕ). hangs (place_of pool p) (row_at pool (i + j)) && named q.name (row_at pool (i + j))) z)))

    -- in whichever order the three are tested
    child_is : (p r : Row) → is_named_child p q.name r ≡ (is_parent r p && named q.name r)
    child_is p r = any_order (eqb p.device r.device) (eqb p.at r.up) (named q.name r)
      where
        any_order : (d a n : Bool) → (n && a && (d && a)) ≡ ((d && a) && n)
        any_order true true true = refl
        any_order true true false = refl
        any_order true false true = refl
        any_order true false false = refl
        any_order false true true = refl
        any_order false true false = refl
        any_order false false true = refl
        any_order false false false = refl

    pub found_child : (m : ℕ) → get_or b.row v 0 ≡ suc m → (p : Row) → p ≡ row_at pool m
        → found_row ≡ found (λ (j : ℕ). is_named_child p q.name (row_at pool (i + j))) k
        → found_row ≡ found (λ (j : ℕ). ranges_by pool b q (row_at pool (i + j))) k
    unfolding bindings_of
    found_child m z p p_is e =
        let same : (λ (j : ℕ). is_named_child p q.name (row_at pool (i + j))) ≡ (λ (j : ℕ). is_parent (row_at pool (i + j)) p && named q.name (row_at pool (i + j))) = fun_ext (λ j. child_is p (row_at pool (i + j))) in
        under_it (subst (λ (w : ℕ). found_row ≡ found (λ (j : ℕ). hangs (place_of pool w) (row_at pool (i + j)) && named q.name (row_at pool (i + j))) k) (sym z)
        (subst (λ (y : Row). found_row ≡ found (λ (j : ℕ). is_parent (row_at pool (i + j)) y && named q.name (row_at pool (i + j))) k) p_is
        (e ∙ ap (λ (f : ℕ → Bool). found f k) same)))
