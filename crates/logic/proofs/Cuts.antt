-- All rows, the branch part and the full part of a device are cuts. Assumes nothing.
use Prim.Native.Nat.{ℕ, suc}
use mathlib.Core.Path.{◌≡◌, refl, sym, ◌∙◌}
use mathlib.Core.Logic.{◌⊎◌, inl, inr}
use mathlib.Core.Bool.{Bool, true, false, not, cond, ◌&&◌, true≢false}
use mathlib.Core.List.Sublistᴰ
use mathlib.Core.List.{List, [], ◌∷◌}
use lib.Dec.{eqb}
use borrow.Author.Tests.{not-false}
use Rattle.base.specs.Lists.{◌∈◌, select, all, any}
use Rattle.base.proofs.Bools.{and_left, and_right, and_both, or_left, or_right}
use Rattle.base.proofs.Lists.{select_in, select_out, all_at, all_false, sub_select}
use Rattle.tables.specs.declared.Row.{Row}
use Rattle.tables.proofs.Proper.{Proper}
use Rattle.logic.specs.Formulas.{Formula, negation, joined, quantified, compared}
use Rattle.logic.specs.Verdict.{Bindings}
use Rattle.logic.specs.Parts.{Chains, no_chains, chains_with, reach, reached_in, spare_in, reached, spare, reached_by_any, spare_for_each, ancestors, part_by, branch_part, full_part, part_of}
use Rattle.logic.specs.Demand.{Under, Cut}
use Rattle.logic.proofs.Ancestors.{ancestor_under, ancestor_in, under_ancestor, under_trans}

-- ---- a row that no quantifier reaches is spare
all_empty : (p : Bindings → Bool) (xs : List Bindings) → any (λ b. true) xs ≡ false → all p xs ≡ true
all_empty p [] e = refl
all_empty p (x ∷ xs) e = absurd (true≢false e)

unreached_in : (φ : Formula) (D : List Row) (d : ℕ) (K : Chains) (r : Row) → reached_in φ D d K r ≡ false → spare_in φ D d K r ≡ true
unfolding reached_in spare_in
unreached_in (negation φ) D d K r e = unreached_in φ D d K r e
unreached_in (joined c φ ψ) D d K r e =
    and_both _ _ (unreached_in φ D d K r (or_left _ (reached_in ψ D d K r) e)) (unreached_in ψ D d K r (or_right (reached_in φ D d K r) _ e))
unreached_in (quantified q o n φ) D d K r e =
    let K' = chains_with d (reach D o n d K) K in
    and_both _ (spare_in φ D (suc d) K' r) (all_empty _ (reach D o n d K r) (or_left _ (reached_in φ D (suc d) K' r) e))
    (unreached_in φ D (suc d) K' r (or_right (any (λ b. true) (reach D o n d K r)) _ e))
unreached_in (compared c v w) D d K r e = refl

pub unreached : (F : Formula) (D : List Row) (r : Row) → reached F D r ≡ false → spare F D r ≡ true
unfolding reached spare
unreached F D r e = unreached_in F D 0 no_chains r e

-- ---- a part by a test is a cut, if what fails the test is spare
module _ (D : List Row) (ok : Proper D) (is_spare t : Row → Bool) (failing : (r : Row) → t r ≡ false → is_spare r ≡ true) where
  abbrev stays : Row → Bool
  stays r = t r && all t (ancestors D r)

  pub part_is_cut : Cut is_spare D (part_by t D)
  unfolding part_by
  part_is_cut = record {
    keeps = sub_select stays D;
    left_out = λ r i n. lost r (t r) refl (all t (ancestors D r)) refl (λ e. n (select_in stays i e));
    sent = λ r s i j n u. kept r s (select_out stays D i).1 u (λ e. n (select_in stays j e));
  }
    where
      out : (s : Row) → t s ≡ false → ¬ (s ∈ select stays D)
      out s e m = true≢false (sym (and_left (t s) (all t (ancestors D s)) (select_out stays D m).1) ∙ e)

      lost : (r : Row) → (b : Bool) → t r ≡ b → (c : Bool) → all t (ancestors D r) ≡ c → ¬ ((t r && all t (ancestors D r)) ≡ true)
          → (is_spare r ≡ true) ⊎ ((s : Row) × (s ∈ D) × (¬ (s ∈ select stays D)) × Under D r s)
      lost r false e c k n = inl (failing r e)
      lost r true e true k n = absurd (n (and_both (t r) (all t (ancestors D r)) e k))
      lost r true e false k n = let w = all_false t (ancestors D r) k in inr (w.0, ancestor_in D ok.order.parented r w.0 w.1, out w.0 w.2, ancestor_under D ok.order.parented r w.0 w.1)

      kept : (r s : Row) → (t r && all t (ancestors D r)) ≡ true → Under D r s → ¬ ((t s && all t (ancestors D s)) ≡ true) → ⊥
      kept r s e u n = go (all t (ancestors D s)) refl
        where
          above : (x : Row) → Under D r x → t x ≡ true
          above x v = all_at t (and_right (t r) (all t (ancestors D r)) e) (under_ancestor D ok.order.parented r x v)

          go : (c : Bool) → all t (ancestors D s) ≡ c → ⊥
          go true k = n (and_both (t s) (all t (ancestors D s)) (above s u) k)
          go false k = let w = all_false t (ancestors D s) k in true≢false (sym (above w.0 (under_trans u (ancestor_under D ok.order.parented s w.0 w.1))) ∙ w.2)

pub all_is_cut : (is_spare : Row → Bool) (D : List Row) → Cut is_spare D D
all_is_cut is_spare D = record { keeps = Sublistᴰ.refl D; left_out = λ r i n. absurd (n i); sent = λ r s i j n u. n j }

-- what is spare by one test is spare by a weaker one
pub cut_weaker : {p q : Row → Bool} {D C : List Row} → ((r : Row) → p r ≡ true → q r ≡ true) → Cut p D C → Cut q D C
cut_weaker {p} {q} {D} {C} h c = record { keeps = c.keeps; left_out = λ r i n. go r (c.left_out r i n); sent = c.sent }
  where
    go : (r : Row) → (p r ≡ true) ⊎ ((s : Row) × (s ∈ D) × (¬ (s ∈ C)) × Under D r s) → (q r ≡ true) ⊎ ((s : Row) × (s ∈ D) × (¬ (s ∈ C)) × Under D r s)
    go r (inl e) = inl (h r e)
    go r (inr u) = inr u

-- ---- for a set of rules
pub spare_for : (Fs : List Formula) (D : List Row) (r : Row) → spare_for_each Fs D r ≡ true → (F : Formula) → F ∈ Fs → spare F D r ≡ true
unfolding spare_for_each
spare_for Fs D r e F m = all_at (λ G. spare G D r) e m

pub cut_for : {Fs : List Formula} {D C : List Row} → Cut (spare_for_each Fs D) D C → (F : Formula) → F ∈ Fs → Cut (spare F D) D C
cut_for {Fs} {D} c F m = cut_weaker (λ r e. spare_for Fs D r e F m) c

unreached_set : (Fs : List Formula) (D : List Row) (r : Row) → reached_by_any Fs D r ≡ false → spare_for_each Fs D r ≡ true
unfolding reached_by_any spare_for_each
unreached_set [] D r e = refl
unreached_set (F ∷ Fs) D r e =
    and_both _ _ (unreached F D r (or_left _ (any (λ G. reached G D r) Fs) e)) (unreached_set Fs D r (or_right (reached F D r) _ e))

-- ---- the three kinds of part
pub mode_is_cut : (Fs : List Formula) (D : List Row) → Proper D → (mode : ℕ) → Cut (spare_for_each Fs D) D (part_of Fs mode D)
unfolding part_of branch_part full_part
mode_is_cut Fs D ok mode = first (eqb mode 1) (eqb mode 2)
  where
    first : (b c : Bool) → Cut (spare_for_each Fs D) D (cond b D (cond c (part_by (reached_by_any Fs D) D) (part_by (λ r. not (spare_for_each Fs D r)) D)))
    first true c = all_is_cut (spare_for_each Fs D) D
    first false true = part_is_cut D ok (spare_for_each Fs D) (reached_by_any Fs D) (unreached_set Fs D)
    first false false = part_is_cut D ok (spare_for_each Fs D) (λ r. not (spare_for_each Fs D r)) (λ r e. not-false (spare_for_each Fs D r) e)
