-- The two quantifier lines of Table 1 with "k ∈ v": a list that v gives counts as a set. Those over any name are Table 1's, name by
-- name. Assumes nothing.
use Prim.Native.Nat.{ℕ}
use mathlib.Core.Path.{◌≡◌, refl, sym, ap, ap₂, ◌∙◌}
use mathlib.Core.Bool.{Bool, true, false, ◌&&◌}
use mathlib.Core.List.Memᴰ
use mathlib.Core.List.{List, [], ◌∷◌, ◌++◌, map, map-append}
use lib.Dec.{eqb}
use borrow.Author.Tests.{eqb-true, eq-eqb}
use Rattle.base.specs.Lists.{◌∈◌, put, select, when, all}
use Rattle.base.proofs.Bools.{and_both}
use Rattle.base.proofs.Lists.{select_in, select_out, select_append, all_at, any_at, any_hit}
use Rattle.published.specs.Published.{Tree, no_node, node, Pair, Path, ◌is◌, pairs, v, CL, ◌⊨◌, AsSet, PairsOf, OverNames}

all_hold : {A : Type 0} (f : A → Bool) (xs : List A) → ((x : A) → x ∈ xs → f x ≡ true) → all f xs ≡ true
all_hold f [] h = refl
all_hold f (x ∷ xs) h = and_both (f x) _ (h x (Memᴰ.head refl)) (all_hold f xs (λ y m. h y (Memᴰ.tail m)))

pub as_set : (T : Tree) (path : Path) (p : ℕ) (φ : ℕ → CL) → AsSet T path p φ
unfolding ◌⊨◌
as_set T path p φ = record {
  for_some = (λ e. any_at (λ k. T ⊨ φ k) (v T path p) e, λ w. any_hit (λ k. T ⊨ φ k) w.1 w.2);
  for_each = (λ e k m. all_at (λ z. T ⊨ φ z) e m, λ h. all_hold (λ k. T ⊨ φ k) (v T path p) h);
}

-- ---- the pairs and v
abbrev has_name : ℕ → Pair → Bool
has_name p x = eqb x.name p

abbrev values_of : ℕ → List Pair → List ℕ
values_of p xs = map (λ (x : Pair). x.value) (select (has_name p) xs)

-- v has the values of the pairs with that name
pub v_is : (T : Tree) (path : Path) (p : ℕ) → v T path p ≡ values_of p (pairs T path)
unfolding v pairs
v_is no_node path p = refl
v_is (node n k below beside) [] p = go (eqb n p) (v_is beside [] p)
  where
    go : (b : Bool) → v beside [] p ≡ values_of p (pairs beside [])
        → when b (k ∷ []) ++ v beside [] p ≡ map (λ (x : Pair). x.value) (put b (n is k) (select (has_name p) (pairs beside [])))
    go true ih = ap (◌∷◌ k) ih
    go false ih = ih
v_is (node n k below beside) (x ∷ path) p = go (eqb n x.name && eqb k x.value) (v_is below path p) (v_is beside (x ∷ path) p)
  where
    go : (b : Bool) → v below path p ≡ values_of p (pairs below path) → v beside (x ∷ path) p ≡ values_of p (pairs beside (x ∷ path))
        → when b (v below path p) ++ v beside (x ∷ path) p ≡ values_of p (when b (pairs below path) ++ pairs beside (x ∷ path))
    go true ih e =
        ap₂ ◌++◌ ih e ∙ sym (map-append (λ (y : Pair). y.value) (select (has_name p) (pairs below path)) _)
        ∙ ap (map (λ (y : Pair). y.value)) (sym (select_append (has_name p) (pairs below path) _))
    go false ih e = e

pub pairs_of : (T : Tree) (path : Path) → PairsOf T path
pairs_of T path p k = (
  λ m. rw (v_is T path p) (Memᴰ.map (λ (x : Pair). x.value) (select_in (has_name p) m (eq-eqb p p refl))),
  λ m.
      let w = Memᴰ.of_map (λ (x : Pair). x.value) (select (has_name p) (pairs T path)) (rw (v_is T path p) at m) in
      let i = select_out (has_name p) (pairs T path) w.1 in
      Memᴰ.cast (ap₂ ◌is◌ (sym (eqb-true w.0.name p i.1)) (sym w.2)) i.0,
)

-- ---- any name
module _ (T : Tree) (path : Path) (φ : Pair → CL) where
  of_name : (p : ℕ) → AsSet T path p (λ k. φ (p is k))
  of_name p = as_set T path p (λ k. φ (p is k))

  pub over_names : OverNames T path φ
  unfolding ◌⊨◌
  over_names = record {
    for_some = (
      λ e. let w = any_at (λ x. T ⊨ φ x) (pairs T path) e in
          let x = w.0 in
          (x.name, (of_name x.name).for_some.1 (x.value, (pairs_of T path x.name x.value).0 w.1, w.2)),
      λ w. let k = (of_name w.0).for_some.0 w.1 in any_hit (λ x. T ⊨ φ x) ((pairs_of T path w.0 k.0).1 k.1) k.2,
    );
    for_each = (
      λ e p. (of_name p).for_each.1 (λ k m. all_at (λ x. T ⊨ φ x) e ((pairs_of T path p k).1 m)),
      λ h. all_hold (λ x. T ⊨ φ x) (pairs T path)
          (λ x m. (of_name x.name).for_each.0 (h x.name) x.value ((pairs_of T path x.name x.value).0 m)),
    );
  }
