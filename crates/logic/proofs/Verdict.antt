-- Leaving spare rows out of a table changes no verdict. The table is T; `keep` says which rows stay. Assumes nothing.
use Prim.Native.Nat.{ℕ, suc, ◌≤◌}
use native.Mathlib.Omega.{arith}
use mathlib.Core.Path.{◌≡◌, refl, ap, ap₂, subst, ◌∙◌}
use mathlib.Core.Logic.{◌⊎◌, inl, inr}
use mathlib.Core.Bool.{Bool, true, false, not, cond, ◌&&◌, false≢true}
use mathlib.Core.List.Memᴰ
use mathlib.Core.List.{List}
use lib.Dec.{eqb}
use borrow.Author.Tests.{eqb-true, eq-eqb}
use Rattle.base.specs.Lists.{◌∈◌, select, all}
use Rattle.base.proofs.Bools.{and_left, and_right}
use Rattle.base.proofs.Lists.{select_in, all_at, concat_map_in, when_in}
use Rattle.tables.specs.Tables.{root, is_parent}
use Rattle.tables.specs.declared.Row.{Row}
use Rattle.tables.proofs.Accepted.{parent_device}
use Rattle.logic.specs.Formulas.{Formula, negation, joined, quantified, compared}
use Rattle.tables.specs.declared.Quantifier.{Quantifier}
use Rattle.tables.specs.declared.Connective.{Connective}
use Rattle.tables.specs.declared.Over.{Over}
use Rattle.tables.specs.declared.Over.TheVariants.{Roots, Under}
use Rattle.logic.specs.Verdict.{Place, nothing, bound, Bindings, bind, none_bound, connect, settled, named, hangs, ranges, holds}
use Rattle.logic.specs.Reading.{reads, reading}
use Rattle.logic.specs.Parts.{Chains, chains_with, reach, spare_in}
use Rattle.logic.proofs.Folds.{fold_thin}
use Rattle.logic.proofs.Sound.{Fits, elsewhere, own, Within, bind_within, of_device, owned, sound, reads_agrees}

-- ---- a variable that was not bound gets a row
fits_any : {δ : ℕ} {s s' : Place} (p : Place) → s' ≡ nothing → Fits δ s s' → Fits δ s p
fits_any {δ} {s} p e f = go (subst (Fits δ s) e f)
  where
    go : {t : Place} → Fits δ t nothing → Fits δ t p
    go elsewhere = elsewhere

pub widen : {δ : ℕ} {σ ρ : Bindings} (d : ℕ) (p : Place) → ρ d ≡ nothing → Within δ σ ρ → Within δ σ (bind d p ρ)
widen {δ} {σ} {ρ} d p e g v = go (eqb v d) refl
  where
    go : (b : Bool) → eqb v d ≡ b → Fits δ (σ v) (cond b p (ρ v))
    go true h = fits_any p (ap ρ (eqb-true v d h) ∙ e) (g v)
    go false h = g v

abbrev pub deeper : Over → ℕ → ℕ → (List Row → Chains) → List Row → Chains
deeper o n d K D = chains_with d (reach D o n d (K D)) (K D)

-- what a spare row's test says of a quantifier
module _ (q : Quantifier) (o : Over) (n : ℕ) (φ : Formula) (D : List Row) (d : ℕ) (K : Chains) (r : Row) (h : spare_in (quantified q o n φ) D d K r ≡ true) where
  spare_here : all (λ b. reads (settled q) (reading φ D (suc d) b)) (reach D o n d K r) ≡ true
  unfolding spare_in
  spare_here = and_left _ (spare_in φ D (suc d) (chains_with d (reach D o n d K) K) r) h

  spare_body : spare_in φ D (suc d) (chains_with d (reach D o n d K) K) r ≡ true
  unfolding spare_in
  spare_body = and_right (all (λ b. reads (settled q) (reading φ D (suc d) b)) (reach D o n d K r)) _ h

module _ (T : List Row) (keep : Row → Bool) where
  -- p's row is kept, and the variable v's quantifier reaches it by a chain that ρ goes along
  pub record Held (K : List Row → Chains) (ρ : Bindings) (v : ℕ) (p : Row) : Type 0 where
    pub in_table : p ∈ T
    pub kept : keep p ≡ true
    pub chain : (δ : ℕ) → p.device ≡ δ → (σ : Bindings) × (σ ∈ K (owned δ T) v p) × Within δ σ ρ

  abbrev pub Good : (List Row → Chains) → Bindings → ℕ → Place → Type 0
  Good K ρ v nothing = Unit {0}
  Good K ρ v (bound p) = Held K ρ v p

  pub record Fine (d : ℕ) (K : List Row → Chains) (ρ : Bindings) : Type 0 where
    pub good : (v : ℕ) → Good K ρ v (ρ v)
    pub fresh : (v : ℕ) → d ≤ v → ρ v ≡ nothing

  -- a root, or its parent is kept
  abbrev pub Attached : Row → Type 0
  Attached r = (root r ≡ true) ⊎ ((p : Row) × (p ∈ T) × (keep p ≡ true) × (is_parent r p ≡ true))

  pub record Met (o : Over) (n d : ℕ) (K : List Row → Chains) (ρ : Bindings) (r : Row) : Type 0 where
    pub attached : Attached r
    pub chain : (δ : ℕ) → r.device ≡ δ → (σ : Bindings) × (σ ∈ reach (owned δ T) o n d (K (owned δ T)) r) × Within δ σ (bind d (bound r) ρ)

  met_under : (n d v : ℕ) (K : List Row → Chains) (ρ : Bindings) (r : Row) (s : Place) → Good K ρ v s → (hangs s r && named n r) ≡ true → Met (Under v) n d K ρ r
  met_under n d v K ρ r nothing h e = absurd (false≢true e)
  met_under n d v K ρ r (bound p) h e =
      let c : is_parent r p ≡ true = and_left (is_parent r p) (named n r) e in
      let same : p.device ≡ r.device = parent_device r p c in
      record {
        attached = inr (p, h.in_table, h.kept, c);
        chain = λ δ k.
            let w = h.chain δ (same ∙ k) in (
              bind d (bound r) w.0,
              when_in (named n r) (and_right (is_parent r p) (named n r) e)
                  (Memᴰ.map (bind d (bound r)) (concat_map_in (K (owned δ T) v) (select_in (λ x. is_parent r x) (select_in (of_device δ) h.in_table (eq-eqb p.device δ (same ∙ k))) c) w.1)),
              bind_within d (own k) w.2,
            );
      }

  met : (o : Over) (n d : ℕ) (K : List Row → Chains) (ρ : Bindings) → Fine d K ρ → (r : Row) → ranges o n ρ r ≡ true → Met o n d K ρ r
  met Roots n d K ρ h r e = record {
    attached = inl (and_left (root r) (named n r) e);
    chain = λ δ k. (bind d (bound r) none_bound, when_in (root r && named n r) e (Memᴰ.head refl), bind_within d (own k) (λ v. elsewhere));
  }
  met (Under v) n d K ρ h r e = met_under n d v K ρ r (ρ v) (h.good v) e

  -- the bindings stay fine when a kept row of the range is bound
  good_at : (o : Over) (n d : ℕ) (K : List Row → Chains) (ρ : Bindings) (r : Row) → r ∈ T → keep r ≡ true → Met o n d K ρ r → ρ d ≡ nothing
      → (v : ℕ) (b : Bool) (s : Place) → eqb v d ≡ b → Good K ρ v s → Good (deeper o n d K) (bind d (bound r) ρ) v (cond b (bound r) s)
  good_at o n d K ρ r m k w e v true s h g = record {
    in_table = m;
    kept = k;
    chain = λ δ j. let c = w.chain δ j in (c.0, rw h c.1, c.2);
  }
  good_at o n d K ρ r m k w e v false nothing h g = tt
  good_at o n d K ρ r m k w e v false (bound p) h g = record {
    in_table = g.in_table;
    kept = g.kept;
    chain = λ δ j. let c = g.chain δ j in (c.0, rw h c.1, widen d (bound r) e c.2);
  }

  pub fine_bind : (o : Over) (n d : ℕ) (K : List Row → Chains) (ρ : Bindings) → Fine d K ρ → (r : Row) → r ∈ T → keep r ≡ true → ranges o n ρ r ≡ true
      → Fine (suc d) (deeper o n d K) (bind d (bound r) ρ)
  fine_bind o n d K ρ h r m k e = record {
    good = λ v. good_at o n d K ρ r m k (met o n d K ρ h r e) (h.fresh d (omega arith)) v (eqb v d) (ρ v) refl (h.good v);
    fresh = λ v l. later v l (eqb v d) refl;
  }
    where
      later : (v : ℕ) → suc d ≤ v → (b : Bool) → eqb v d ≡ b → cond b (bound r) (ρ v) ≡ nothing
      later v l true j = let j' = eqb-true v d j in absurd (omega arith)
      later v l false j = h.fresh v (omega arith)

  -- each row left out whose parent stays is spare
  abbrev pub Spared : Formula → ℕ → (List Row → Chains) → Type 0
  Spared φ d K = (r : Row) → r ∈ T → keep r ≡ false → Attached r → spare_in φ (owned r.device T) d (K (owned r.device T)) r ≡ true

  module _ (c : Connective) (φ ψ : Formula) (d : ℕ) (K : List Row → Chains) (s : Spared (joined c φ ψ) d K) where
    pub spared_left : Spared φ d K
    unfolding spare_in
    spared_left r m k a = let D = owned r.device T in and_left (spare_in φ D d (K D) r) (spare_in ψ D d (K D) r) (s r m k a)

    pub spared_right : Spared ψ d K
    unfolding spare_in
    spared_right r m k a = let D = owned r.device T in and_right (spare_in φ D d (K D) r) (spare_in ψ D d (K D) r) (s r m k a)

  pub spared_body : (q : Quantifier) (o : Over) (n : ℕ) (φ : Formula) (d : ℕ) (K : List Row → Chains) → Spared (quantified q o n φ) d K
      → Spared φ (suc d) (deeper o n d K)
  spared_body q o n φ d K s r m k a = let D = owned r.device T in spare_body q o n φ D d (K D) r (s r m k a)

  pub thin : (q : Quantifier) (o : Over) (n : ℕ) (φ : Formula) (d : ℕ) (K : List Row → Chains) (ρ : Bindings) → Fine d K ρ → Spared (quantified q o n φ) d K
      → (g : Row → Bool) → ((r : Row) → Fine (suc d) (deeper o n d K) (bind d (bound r) ρ) → holds φ T (suc d) (bind d (bound r) ρ) ≡ g r)
      → (r : Row) → r ∈ T → ranges o n ρ r ≡ true
      → ((keep r ≡ true → holds φ T (suc d) (bind d (bound r) ρ) ≡ g r) × (keep r ≡ false → holds φ T (suc d) (bind d (bound r) ρ) ≡ settled q))
  thin q o n φ d K ρ h s g ih r m e = (
    λ k. ih r (fine_bind o n d K ρ h r m k e),
    λ k.
        let w = met o n d K ρ h r e in
        let c = w.chain r.device refl in
        reads_agrees (settled q)
        (all_at (λ b. reads (settled q) (reading φ (owned r.device T) (suc d) b)) (spare_here q o n φ (owned r.device T) d (K (owned r.device T)) r (s r m k w.attached)) c.1)
        (sound r.device T φ (suc d) c.2),
  )

  pub same_verdict : (φ : Formula) (d : ℕ) (K : List Row → Chains) (ρ : Bindings) → Fine d K ρ → Spared φ d K → holds φ T d ρ ≡ holds φ (select keep T) d ρ
  unfolding holds spare_in
  same_verdict (negation φ) d K ρ h s = ap not (same_verdict φ d K ρ h s)
  same_verdict (joined c φ ψ) d K ρ h s =
      ap₂ (connect c)
      (same_verdict φ d K ρ h (spared_left c φ ψ d K s))
      (same_verdict ψ d K ρ h (spared_right c φ ψ d K s))
  same_verdict (quantified q o n φ) d K ρ h s =
      fold_thin q (λ r. holds φ T (suc d) (bind d (bound r) ρ)) (λ r. holds φ (select keep T) (suc d) (bind d (bound r) ρ)) (ranges o n ρ) keep T
      (thin q o n φ d K ρ h s (λ r. holds φ (select keep T) (suc d) (bind d (bound r) ρ))
      (λ r f. same_verdict φ (suc d) (deeper o n d K) (bind d (bound r) ρ) f (spared_body q o n φ d K s)))
  same_verdict (compared c v w) d K ρ h s = refl
