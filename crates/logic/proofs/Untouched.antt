-- A row that no quantifier of a formula reaches: the verdict is the same on two tables that differ in that row alone. Assumes nothing.
use Prim.Native.Nat.{ℕ, suc}
use mathlib.Core.Path.{◌≡◌, refl, sym, ap, ap₂, subst, ◌∙◌}
use mathlib.Core.Bool.{Bool, true, false, not, ◌&&◌, true≢false}
use mathlib.Core.List.Memᴰ
use mathlib.Core.List.{List, [], ◌∷◌, map}
use lib.Dec.{eqb}
use Rattle.base.specs.Lists.{◌∈◌, any, select}
use Rattle.base.proofs.Bools.{either, and_left, and_right, or_left, or_right}
use Rattle.base.proofs.Lists.{any_at, concat_map_in, select_in, select_out}
use Rattle.tables.specs.Tables.{is_parent}
use Rattle.tables.specs.declared.Row.{Row}
use Rattle.logic.specs.Formulas.{Formula, negation, joined, quantified, compared}
use Rattle.tables.specs.declared.Quantifier.{Quantifier}
use Rattle.tables.specs.declared.Over.{Over}
use Rattle.tables.specs.declared.Over.TheVariants.{Roots, Under}
use Rattle.logic.specs.Verdict.{Place, nothing, bound, Bindings, none_bound, bind, named, hangs, ranges, connect, both, fold, holds, verdict}
use Rattle.logic.specs.Parts.{Chains, no_chains, chains_with, reach, reached_in, reached}

fold_same : (q : Quantifier) (f g : Row → Bool) (xs : List Row) → ((r : Row) → r ∈ xs → f r ≡ g r) → fold q f xs ≡ fold q g xs
fold_same q f g [] h = refl
fold_same q f g (x ∷ xs) h = ap₂ (both q) (h x (Memᴰ.head refl)) (fold_same q f g xs (λ r m. h r (Memᴰ.tail m)))

bound_one : {p q : Row} → bound p ≡ bound q → p ≡ q
bound_one {p} {q} e = ap row_of e
  where
    row_of : Place → Row
    row_of nothing = p
    row_of (bound r) = r

-- ---- tables alike but for a row: what ranges not over it ranges over the same rows
pub record Alike (r : Row) (T T' : List Row) : Type 0 where
  pub same_rows : (o : Over) (n : ℕ) (b : Bindings) → ranges o n b r ≡ false → select (ranges o n b) T ≡ select (ranges o n b) T'

-- D is the one of them that has the row
module _ (r : Row) (D T T' : List Row) (alike : Alike r T T') (inside : (s : Row) → s ∈ T → s ∈ T' → s ∈ D) where
  -- each variable has a row that its quantifier reaches
  abbrev Held : Chains → Bindings → Type 0
  Held K b = (v : ℕ) (p : Row) → b v ≡ bound p → (p ∈ D) × (any (λ x. true) (K v p) ≡ true)

  -- a quantifier reaches the rows that it ranges over
  ranges_reach : (o : Over) (n d : ℕ) (K : Chains) (b : Bindings) → Held K b → (s : Row) → ranges o n b s ≡ true → any (λ x. true) (reach D o n d K s) ≡ true
  ranges_reach Roots n d K b held s e = rw e
  ranges_reach (Under v) n d K b held s e = go (b v) refl e
    where
      go : (p : Place) → b v ≡ p → (hangs p s && named n s) ≡ true → any (λ x. true) (reach D (Under v) n d K s) ≡ true
      go nothing q h = absurd (true≢false (sym h))
      go (bound p) q h =
          let k = held v p q in
          let some_chain = any_at (λ x. true) (K v p) k.1 in
          let parent = select_in (is_parent s) k.0 (and_left (is_parent s p) _ h) in
          rw (and_right (is_parent s p) _ h) (in_map (bind d (bound s)) (concat_map_in (K v) parent some_chain.1))
        where
          in_map : (f : Bindings → Bindings) {x : Bindings} {xs : List Bindings} → x ∈ xs → any (λ y. true) (map f xs) ≡ true
          in_map f (Memᴰ.head m) = refl
          in_map f (Memᴰ.tail m) = refl

  holds_same : (φ : Formula) (d : ℕ) (K : Chains) (b : Bindings) → Held K b → reached_in φ D d K r ≡ false → holds φ T d b ≡ holds φ T' d b
  unfolding holds reached_in
  holds_same (negation φ) d K b held e = ap not (holds_same φ d K b held e)
  holds_same (joined c φ ψ) d K b held e = ap₂ (connect c) (holds_same φ d K b held (or_left (reached_in φ D d K r) _ e))
      (holds_same ψ d K b held (or_right (reached_in φ D d K r) _ e))
  holds_same (compared c v w) d K b held e = refl
  holds_same (quantified q o n φ) d K b held e =
      fold_same q (λ s. holds φ T (suc d) (bind d (bound s) b)) (λ s. holds φ T' (suc d) (bind d (bound s) b)) (select (ranges o n b) T)
      (λ s m. holds_same φ (suc d) (chains_with d (reach D o n d K) K) (bind d (bound s) b) (held_body s m) (or_right (any (λ x. true) (reach D o n d K r)) _ e))
      ∙ ap (fold q (λ s. holds φ T' (suc d) (bind d (bound s) b))) rows_same
    where
      ranges_not : ranges o n b r ≡ false
      ranges_not = either (ranges o n b r) (λ h. absurd (true≢false (sym (ranges_reach o n d K b held r h) ∙ or_left (any (λ x. true) (reach D o n d K r)) _ e))) (λ h. h)

      rows_same : select (ranges o n b) T ≡ select (ranges o n b) T'
      rows_same = alike.same_rows o n b ranges_not

      held_body : (s : Row) → s ∈ select (ranges o n b) T → Held (chains_with d (reach D o n d K) K) (bind d (bound s) b)
      held_body s m v p h =
          let here = select_out (ranges o n b) T m in
          let there = select_out (ranges o n b) T' (subst (λ (xs : List Row). s ∈ xs) rows_same m) in
          either (eqb v d)
          (λ x. let p_is : s ≡ p = bound_one (rw x at h) in (
            subst (λ (z : Row). z ∈ D) p_is (inside s here.0 there.0),
            rw x (subst (λ (z : Row). any (λ y. true) (reach D o n d K z) ≡ true) p_is (ranges_reach o n d K b held s here.1)),
          ))
          (λ x. let k = held v p (rw x at h) in (k.0, rw x k.1))

  pub verdict_same : (F : Formula) → reached F D r ≡ false → verdict F T ≡ verdict F T'
  unfolding verdict reached
  verdict_same F e = holds_same F 0 no_chains none_bound (λ v p h. absurd (never h)) e
    where
      never : {p : Row} → nothing ≡ bound p → ⊥
      never h = true≢false (ap is_nothing h)
        where
          is_nothing : Place → Bool
          is_nothing nothing = true
          is_nothing (bound p) = false
