-- A tree has the paths along its table's rows: of an accepted table, and of any whose rows hang under earlier ones. Assumes nothing.
use Prim.Native.Nat.{ℕ}
use mathlib.Core.Path.{sym, ap, ap₂}
use mathlib.Core.Logic.{◌↔◌}
use mathlib.Core.Bool.{Bool, ◌&&◌}
use mathlib.Core.List.Memᴰ
use mathlib.Core.List.{List, [], ◌∷◌}
use lib.Dec.{eqb}
use borrow.Author.Tests.{eqb-true, eq-eqb}
use Rattle.base.specs.Lists.{◌∈◌, select}
use Rattle.base.proofs.Bools.{and_left, and_right, and_both}
use Rattle.base.proofs.Lists.{select_in, select_out, concat_map_in, concat_map_out}
use Rattle.tables.specs.Words.{rows}
use Rattle.tables.specs.Tables.{root}
use Rattle.tables.specs.declared.Row.{Row}
use Rattle.published.specs.Published.{Pair, Path, ◌is◌, pairs, v}
use Rattle.published.specs.Stated.{tree_of, tree}
use Rattle.published.specs.Chains.{Chain, TreePaths}
use Rattle.published.proofs.Rows.{Hung, fit_hung, fit}
use Rattle.published.proofs.Table.{pairs_of}
use Rattle.published.proofs.Descent.{child, pair_of, at_pair, at_top, descend}

module _ (T : List Row) (f : Hung T) where
  to_rows : (t : Row → Bool) (path : Path) (p k : ℕ) → (p is k) ∈ pairs (tree_of t T) path → Chain T t path p k
  unfolding Chain
  to_rows t [] p k m =
      let w = Memᴰ.of_map pair_of (select t T) (rw (at_top t T) at m) in
      let i = select_out t T w.1 in
      (w.0, i.0, i.1, ap (λ (x : Pair). x.name) w.2, ap (λ (x : Pair). x.value) w.2)
  to_rows t (x ∷ path) p k m =
      let w = concat_map_out (λ (r : Row). pairs (tree_of (child r) T) path) (select (at_pair t x) T) (rw (descend t x path T f) at m) in
      let r = w.0 in
      let i = select_out (at_pair t x) T w.1 in
      let j = and_right (t r) (eqb r.name x.name && eqb r.value x.value) i.1 in (
        r,
        i.0,
        and_left (t r) _ i.1,
        eqb-true _ _ (and_left (eqb r.name x.name) (eqb r.value x.value) j),
        eqb-true _ _ (and_right (eqb r.name x.name) (eqb r.value x.value) j),
        to_rows (child r) path p k w.2,
      )

  from_rows : (t : Row → Bool) (path : Path) (p k : ℕ) → Chain T t path p k → (p is k) ∈ pairs (tree_of t T) path
  unfolding Chain
  from_rows t [] p k c =
      rw (at_top t T) (Memᴰ.cast (ap₂ ◌is◌ (sym c.3) (sym c.4)) (Memᴰ.map pair_of (select_in t c.1 c.2)))
  from_rows t (x ∷ path) p k c =
      rw (descend t x path T f)
      (concat_map_in (λ (r : Row). pairs (tree_of (child r) T) path)
      (select_in (at_pair t x) c.1 (and_both (t c.0) _ c.2 (and_both _ _ (eq-eqb c.0.name x.name c.3) (eq-eqb c.0.value x.value c.4))))
      (from_rows (child c.0) path p k c.5))

-- wherever rows hang under earlier ones
pub hung_paths : (T : List Row) → Hung T → (path : Path) (p k : ℕ) → (k ∈ v (tree T) path p) ↔ Chain T root path p k
unfolding tree
hung_paths T f path p k =
    let w = pairs_of (tree T) path p k in
    (λ m. to_rows T f root path p k (w.1 m), λ c. w.0 (from_rows T f root path p k c))

pub tree_paths : TreePaths
tree_paths t ok = hung_paths (rows t) (fit_hung (fit t ok))
