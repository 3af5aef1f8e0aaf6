-- What is marked on the table with spare rows left out is marked on the whole table. Assumes nothing.
use Prim.Native.Nat.{ℕ, suc}
use mathlib.Core.Path.{◌≡◌}
use mathlib.Core.Logic.{◌⊎◌, inl, inr}
use mathlib.Core.Bool.{Bool, true, false, cond}
use mathlib.Core.List.Memᴰ
use mathlib.Core.List.{List, ◌∷◌, ◌++◌}
use Rattle.base.specs.Lists.{◌∈◌, select}
use Rattle.base.proofs.Lists.{select_out, concat_map_within}
use Rattle.tables.specs.declared.Row.{Row}
use Rattle.logic.specs.Formulas.{Formula, negation, joined, quantified, compared}
use Rattle.tables.specs.declared.Connective.{Connective}
use Rattle.logic.specs.Verdict.{bound, Bindings, bind, ranges, holds}
use Rattle.logic.specs.Marks.{because, witnesses, reason}
use Rattle.logic.specs.Parts.{Chains, spare_in}
use Rattle.logic.proofs.Folds.{witnesses_thin, witnesses_in}
use Rattle.logic.proofs.Verdict.{Fine, Spared, spared_left, spared_right, spared_body, deeper, fine_bind, thin, same_verdict}

cond_in : {x : Row} {a a' c c' : List Row} (b : Bool) → (x ∈ a → x ∈ a') → (x ∈ c → x ∈ c') → x ∈ cond b a c → x ∈ cond b a' c'
cond_in true h k m = h m
cond_in false h k m = k m

append_in : {x : Row} (a a' c c' : List Row) → (x ∈ a → x ∈ a') → (x ∈ c → x ∈ c') → x ∈ (a ++ c) → x ∈ (a' ++ c')
append_in {x} a a' c c' h k m = go (Memᴰ.append_cases a m)
  where
    go : (x ∈ a) ⊎ (x ∈ c) → x ∈ (a' ++ c')
    go (inl l) = Memᴰ.append_left c' (h l)
    go (inr l) = Memᴰ.append_right a' (k l)

cons_in : {x y : Row} {a a' : List Row} → (x ∈ a → x ∈ a') → x ∈ (y ∷ a) → x ∈ (y ∷ a')
cons_in h (Memᴰ.head e) = Memᴰ.head e
cons_in h (Memᴰ.tail m) = Memᴰ.tail (h m)

-- by laws that hold whichever side's rows a connective takes; so below, with a quantifier's bodies or without
because_in : {x : Row} (c : Connective) (a b : Bool) (l l' r r' : List Row) → (x ∈ l → x ∈ l') → (x ∈ r → x ∈ r')
    → x ∈ because c a b l r → x ∈ because c a b l' r'
because_in c a b l l' r r' h k = search (cond_in, append_in, h, k)

module _ (T : List Row) (keep : Row → Bool) where
  pub marks_kept : (φ : Formula) (d : ℕ) (K : List Row → Chains) (ρ : Bindings) → Fine T keep d K ρ → Spared T keep φ d K
      → (x : Row) → x ∈ reason φ (select keep T) d ρ → x ∈ reason φ T d ρ
  unfolding reason spare_in
  marks_kept (negation φ) d K ρ h s x m = marks_kept φ d K ρ h s x m
  marks_kept (joined c φ ψ) d K ρ h s x m =
      let sl = spared_left T keep c φ ψ d K s in
      let sr = spared_right T keep c φ ψ d K s in
      rw (same_verdict T keep φ d K ρ h sl, same_verdict T keep ψ d K ρ h sr)
      (because_in c (holds φ (select keep T) d ρ) (holds ψ (select keep T) d ρ) _ _ _ _
      (marks_kept φ d K ρ h sl x) (marks_kept ψ d K ρ h sr x) m)
  marks_kept (quantified q o n φ) d K ρ h s x m = concat_map_within
      (λ r. r ∷ reason φ (select keep T) (suc d) (bind d (bound r) ρ)) (λ r. r ∷ reason φ T (suc d) (bind d (bound r) ρ)) (λ r i. (
        witnesses_thin q f g (ranges o n ρ) keep T (thin T keep q o n φ d K ρ h s g same) i,
        λ y. search (cons_in, marks_kept φ (suc d) (deeper o n d K) (bind d (bound r) ρ) (fine r i) body y),
      )) m
    where
      f : Row → Bool
      f r = holds φ T (suc d) (bind d (bound r) ρ)

      g : Row → Bool
      g r = holds φ (select keep T) (suc d) (bind d (bound r) ρ)

      body : Spared T keep φ (suc d) (deeper o n d K)
      body = spared_body T keep q o n φ d K s

      same : (r : Row) → Fine T keep (suc d) (deeper o n d K) (bind d (bound r) ρ) → f r ≡ g r
      same r k = same_verdict T keep φ (suc d) (deeper o n d K) (bind d (bound r) ρ) k body

      fine : (r : Row) → r ∈ witnesses q g (select (ranges o n ρ) (select keep T)) → Fine T keep (suc d) (deeper o n d K) (bind d (bound r) ρ)
      fine r i =
          let ranged = select_out (ranges o n ρ) (select keep T) (witnesses_in q g (select (ranges o n ρ) (select keep T)) i) in
          let kept = select_out keep T ranged.0 in
          fine_bind T keep o n d K ρ h r kept.0 kept.1 ranged.1
  marks_kept (compared c v w) d K ρ h s x m = m
