-- The rows of a formula's reason are enough: other rows may have other values, or be left out. Assumes nothing.
use Prim.Native.Nat.{ℕ, suc}
use mathlib.Core.Path.{◌≡◌, refl, sym, ap, ap₂, ◌∙◌}
use mathlib.Core.Bool.{Bool, true, false, not, true≢false}
use mathlib.Core.List.Memᴰ
use mathlib.Core.List.{List, ◌∷◌, ◌++◌}
use Rattle.base.specs.Lists.{◌∈◌, select, concat_map}
use Rattle.base.proofs.Bools.{either}
use Rattle.base.proofs.Lists.{concat_map_in, select_in, select_out}
use Rattle.tables.specs.declared.Row.{Row}
use Rattle.logic.specs.Formulas.{Formula, negation, joined, quantified, compared}
use Rattle.tables.specs.declared.Quantifier.{Quantifier}
use Rattle.tables.specs.declared.Connective.{Connective}
use Rattle.tables.specs.declared.Connective.TheVariants.{And, Or, Implies}
use Rattle.tables.specs.declared.Over.{Over}
use Rattle.logic.specs.Verdict.{bound, Bindings, bind, connect, settled, fold, ranges, holds}
use Rattle.logic.specs.Marks.{left_decides, right_decides, because, decides, witnesses, reason}
use Rattle.logic.specs.Unmarked.{ButValue}
use Rattle.logic.proofs.Folds.{fold_settled, fold_at, fold_hit}
use Rattle.logic.proofs.Reasons.{undecided_settled, decided_unsettled, first_found}
use Rattle.logic.proofs.Ranging.{ranges_same}

-- ---- a connective: what its reason leaves out does not matter
left_enough : (c : Connective) (a b b' : Bool) → left_decides c a ≡ true → connect c a b ≡ connect c a b'
left_enough And true b b' e = absurd (true≢false (sym e))
left_enough And false b b' e = refl
left_enough Or true b b' e = refl
left_enough Or false b b' e = absurd (true≢false (sym e))
left_enough Implies true b b' e = absurd (true≢false (sym e))
left_enough Implies false b b' e = refl

right_is : (c : Connective) (a b : Bool) → right_decides c b ≡ true → connect c a b ≡ b
right_is And true b e = refl
right_is And false true e = e
right_is And false false e = refl
right_is Or true b e = sym e
right_is Or false b e = refl
right_is Implies true b e = refl
right_is Implies false b e = sym e

-- ---- U has rows of T, maybe with other values, and no others
pub record FromRows (T U : List Row) : Type 0 where
  pub identified : (r s : Row) → r ∈ U → s ∈ U → r.device ≡ s.device → r.at ≡ s.at → r ≡ s
  pub came_from : (s : Row) → s ∈ U → (r : Row) × (r ∈ T) × ButValue r s

module _ {T U : List Row} (from : FromRows T U) where
  -- those of the list are in U with the value that they have in T
  abbrev pub Stay : List Row → Type 0
  Stay xs = (r : Row) → r ∈ T → r ∈ xs → r ∈ U

  because_enough : (c : Connective) (a a' b b' : Bool) (l r : List Row) → (Stay l → a' ≡ a) → (Stay r → b' ≡ b)
      → Stay (because c a b l r) → connect c a' b' ≡ connect c a b
  because_enough c a a' b b' l r left right stay = either (left_decides c a)
      (λ e. ap (λ x. connect c x b') (left (rw e at stay)) ∙ left_enough c a b' b e)
      (λ e. either (right_decides c b)
      (λ k. let same : b' ≡ b = right (rw (e, k) at stay) in
      ap (connect c a') same ∙ right_is c a' b k ∙ sym (right_is c a b k))
      (λ k. let all : Stay (l ++ r) = rw (e, k) at stay in
      ap₂ (connect c) (left (λ x m i. all x m (Memᴰ.append_left r i))) (right (λ x m i. all x m (Memᴰ.append_right l i)))))

  -- f on T, with the rows of its reason, and g on U
  module _ (q : Quantifier) (o : Over) (n : ℕ) (b : Bindings) (f g : Row → Bool) (body : Row → List Row)
      (same : (r : Row) → Stay (body r) → g r ≡ f r)
      (stay : Stay (concat_map (λ r. r ∷ body r) (witnesses q f (select (ranges o n b) T)))) where
    abbrev over : List Row → List Row
    over X = select (ranges o n b) X

    -- a witness is there, and its body is the same
    witness_stays : (r : Row) → r ∈ over T → r ∈ witnesses q f (over T) → (r ∈ U) × (g r ≡ f r)
    witness_stays r ranged m = (
      stay r (select_out (ranges o n b) T ranged).0 (concat_map_in (λ x. x ∷ body x) m (Memᴰ.head refl)),
      same r (λ x i k. stay x i (concat_map_in (λ y. y ∷ body y) m (Memᴰ.tail k))),
    )

    decided_enough : decides q (fold q f (over T)) ≡ true → fold q g (over U) ≡ fold q f (over T)
    decided_enough e =
        let w = first_found q f (over T) e in
        let there = witness_stays w.0 w.1 (rw e w.2) in
        let ranged = select_in (ranges o n b) there.0 (select_out (ranges o n b) T w.1).1 in
        fold_hit q g ranged (there.1 ∙ decided_unsettled q (f w.0) w.3)
        ∙ sym (decided_unsettled q (fold q f (over T)) e)

    settled_enough : decides q (fold q f (over T)) ≡ false → fold q g (over U) ≡ fold q f (over T)
    settled_enough e =
        let is : fold q f (over T) ≡ settled q = undecided_settled q (fold q f (over T)) e in
        fold_settled q g (over U) (λ s m. settled_at is s (select_out (ranges o n b) U m)) ∙ sym is
      where
        -- a row ranged over in U comes from one ranged over in T, which is a witness, so it is that row
        settled_at : fold q f (over T) ≡ settled q → (s : Row) → (s ∈ U) × (ranges o n b s ≡ true) → g s ≡ settled q
        settled_at is s k =
            let w = from.came_from s k.0 in
            let looks : ranges o n b s ≡ ranges o n b w.0 = ranges_same w.0 s w.2.device_kept w.2.up_kept o n b w.2.name_kept in
            let ranged : w.0 ∈ over T = select_in (ranges o n b) w.1 (sym looks ∙ k.1) in
            let there = witness_stays w.0 ranged (rw e ranged) in
            let it : s ≡ w.0 = from.identified s w.0 k.0 there.0 w.2.device_kept w.2.at_kept in
            ap g it ∙ there.1 ∙ fold_at q f ranged is

    quantified_enough : fold q g (over U) ≡ fold q f (over T)
    quantified_enough = either (decides q (fold q f (over T))) decided_enough settled_enough

  pub reason_enough : (φ : Formula) (d : ℕ) (b : Bindings) → Stay (reason φ T d b) → holds φ U d b ≡ holds φ T d b
  unfolding holds reason
  reason_enough (negation φ) d b stay = ap not (reason_enough φ d b stay)
  reason_enough (joined c φ ψ) d b stay =
      because_enough c (holds φ T d b) (holds φ U d b) (holds ψ T d b) (holds ψ U d b) (reason φ T d b) (reason ψ T d b)
      (reason_enough φ d b) (reason_enough ψ d b) stay
  reason_enough (quantified q o n φ) d b stay =
      quantified_enough q o n b (λ r. holds φ T (suc d) (bind d (bound r) b)) (λ r. holds φ U (suc d) (bind d (bound r) b))
      (λ r. reason φ T (suc d) (bind d (bound r) b)) (λ r. reason_enough φ (suc d) (bind d (bound r) b)) stay
  reason_enough (compared c v w) d b stay = refl
