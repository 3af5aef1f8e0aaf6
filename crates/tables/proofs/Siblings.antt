-- Equal siblings: they have one hash, and the search for one finds fault 12. Assumes nothing.
use Prim.Native.Nat.{ℕ, ◌<◌}
use mathlib.Core.Path.{◌≡◌, refl, ap, ◌∙◌}
use mathlib.Core.Bool.{Bool, true, false, cond, ◌&&◌, ◌||◌}
use mathlib.Core.List.{List}
use native.Mathlib.Omega.{arith}
use lib.Dec.{eqb}
use borrow.Author.Tests.{eqb-true, eq-eqb, ne_eqb}
use Rattle.base.specs.Search.{some}
use Rattle.base.proofs.Bools.{and_left, and_right}
use Rattle.tables.specs.Words.{row_at}
use Rattle.tables.specs.Tables.{root, is_twin, has_twin}
use Rattle.tables.specs.declared.Row.{Row}
use Rattle.tables.specs.Links.{hashes, hash_of, twin_hash}

pub twin_below : (r : Row) → twin_hash r < hashes
unfolding twin_hash hash_of
twin_below r = omega arith

pub same_hash : (r b : Row) → is_twin r b ≡ true → twin_hash b ≡ twin_hash r
unfolding twin_hash
same_hash r b e =
    let a : Bool = eqb b.up r.up in
    let o : Bool = root r || eqb b.device r.device in
    let n : Bool = eqb b.name r.name in
    let v : Bool = eqb b.value r.value in
    let s : (a && o) && n ≡ true = and_left ((a && o) && n) v e in
    let q : a && o ≡ true = and_left (a && o) n s in
    same b.device r.device b.up r.up b.name r.name b.value r.value
    (eqb-true _ _ (and_left a o q)) (eqb-true _ _ (and_right (a && o) n s)) (eqb-true _ _ (and_right ((a && o) && n) v e)) (and_right a o q)
  where
    same : (d d' u u' n n' v v' : ℕ) → u ≡ u' → n ≡ n' → v ≡ v' → (eqb u' 0 || eqb d d') ≡ true
        → hash_of (cond (eqb u 0) 0 d) u n v ≡ hash_of (cond (eqb u' 0) 0 d') u' n' v'
    same d d' u u' n n' v v' f g k o = rw (f, g, k) (ap (λ (x : ℕ). hash_of x u' n' v') (go (eqb u' 0) o))
      where
        go : (z : Bool) → (z || eqb d d') ≡ true → cond z 0 d ≡ cond z 0 d'
        go true o = refl
        go false o = eqb-true d d' o

module _ (r : Row) (d : ℕ) where
  pub root_device : r.up ≡ 0 → d ≡ 0 → d ≡ cond (root r) 0 r.device
  root_device z e = simp (eq-eqb r.up 0 z) e

  pub child_device : (r.up ≡ 0 → ⊥) → d ≡ r.device → d ≡ cond (root r) 0 r.device
  child_device z e = simp (ne_eqb r.up 0 z) e

  pub twin_is : d ≡ cond (root r) 0 r.device → hash_of d r.up r.name r.value ≡ twin_hash r
  unfolding twin_hash
  twin_is e = ap (λ (x : ℕ). hash_of x r.up r.name r.value) e

-- what the search makes of row i, read as r
pub twin_found : (t : List ℕ) (i : ℕ) (r : Row) → r ≡ row_at t i → (b : Bool) → b ≡ some (λ j. is_twin r (row_at t j)) i
    → b ≡ has_twin t i
twin_found t i r r_is b b_is = b_is ∙ ap (λ (x : Row). some (λ j. is_twin x (row_at t j)) i) r_is
