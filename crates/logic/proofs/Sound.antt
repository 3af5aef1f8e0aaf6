-- The reading is sound: what it holds for certain on one device's rows is so on every table in which these are the device's rows, whatever rows the elsewhere variables stand for. Assumes nothing.
use Prim.Native.Nat.{ℕ, suc}
use mathlib.Core.Path.{◌≡◌, refl, sym, subst, ◌∙◌}
use mathlib.Core.Bool.{Bool, true, false, not, cond, ◌&&◌, ◌||◌, false≢true}
use mathlib.Core.List.Memᴰ
use mathlib.Core.List.{List, [], ◌∷◌}
use lib.Dec.{eqb}
use borrow.Author.Tests.{eqb-true, eq-eqb}
use Rattle.base.specs.Lists.{◌∈◌, select}
use Rattle.base.proofs.Bools.{and_left}
use Rattle.base.proofs.Lists.{select_in, select_out, select_within, any_at}
use Rattle.tables.specs.Tables.{root, is_parent}
use Rattle.tables.specs.declared.Row.{Row}
use Rattle.tables.proofs.Accepted.{parent_device}
use Rattle.logic.specs.Formulas.{Formula, negation, joined, quantified, compared}
use Rattle.tables.specs.declared.Quantifier.{Quantifier}
use Rattle.tables.specs.declared.Quantifier.TheVariants.{Every, Exists}
use Rattle.tables.specs.declared.Connective.{Connective}
use Rattle.tables.specs.declared.Connective.TheVariants.{And, Or, Implies}
use Rattle.tables.specs.declared.Comparison.{Comparison}
use Rattle.tables.specs.declared.Over.TheVariants.{Roots, Under}
use Rattle.tables.specs.declared.Operand.{Operand}
use Rattle.tables.specs.declared.Operand.TheVariants.{Variable, Constant}
use Rattle.logic.specs.Verdict.{Place, nothing, bound, Bindings, bind, value_at, value_of, compare, connect, named, hangs, settled, both, fold, holds}
use Rattle.logic.specs.Reading.{Reading, certain, undecided, reads, not_reading, and_reading, connect_reading, known, value_read, operand_read, compare_reading, both_reading, under_bound, first_test, second_test, under_elsewhere, over_roots, under_place, reading}
use Rattle.logic.proofs.Folds.{fold_all, fold_hit}

-- what is certain is so
pub data Agrees : Reading → Bool → Type 0 where
  free : {a : Bool} → Agrees undecided a
  sure : {a : Bool} → Agrees (certain a) a

-- a variable is elsewhere, or at the very row, which is then the device's
pub data Fits (δ : ℕ) : Place → Place → Type 0 where
  elsewhere : {p : Place} → Fits δ nothing p
  own : {r : Row} → r.device ≡ δ → Fits δ (bound r) (bound r)

abbrev pub Within : ℕ → Bindings → Bindings → Type 0
Within δ σ ρ = (v : ℕ) → Fits δ (σ v) (ρ v)

fits_cond : {δ : ℕ} {p p' s s' : Place} (b : Bool) → Fits δ p p' → Fits δ s s' → Fits δ (cond b p s) (cond b p' s')
fits_cond true f g = f
fits_cond false f g = g

pub bind_within : {δ : ℕ} {σ ρ : Bindings} {p p' : Place} (d : ℕ) → Fits δ p p' → Within δ σ ρ → Within δ (bind d p σ) (bind d p' ρ)
bind_within d f g v = fits_cond (eqb v d) f (g v)

-- ---- connectives
agrees_not : {x : Reading} {a : Bool} → Agrees x a → Agrees (not_reading x) (not a)
agrees_not free = free
agrees_not sure = sure

agrees_and : {x y : Reading} {a b : Bool} → Agrees x a → Agrees y b → Agrees (and_reading x y) (a && b)
agrees_and (sure {a = false}) k = sure
agrees_and (sure {a = true}) k = k
agrees_and (free {a = true}) (sure {a = false}) = sure
agrees_and (free {a = false}) (sure {a = false}) = sure
agrees_and (free {a = a}) (sure {a = true}) = free
agrees_and (free {a = a}) (free {a = b}) = free

or_by_and : (a b : Bool) → not (not a && not b) ≡ (a || b)
or_by_and true b = refl
or_by_and false true = refl
or_by_and false false = refl

implies_by_and : (a b : Bool) → not (a && not b) ≡ (not a || b)
implies_by_and true true = refl
implies_by_and true false = refl
implies_by_and false b = refl

agrees_connect : (c : Connective) {x y : Reading} {a b : Bool} → Agrees x a → Agrees y b → Agrees (connect_reading c x y) (connect c a b)
agrees_connect And h k = agrees_and h k
agrees_connect Or {x} {y} {a} {b} h k =
    subst (Agrees (connect_reading Or x y)) (or_by_and a b) (agrees_not (agrees_and (agrees_not h) (agrees_not k)))
agrees_connect Implies {x} {y} {a} {b} h k = subst (Agrees (connect_reading Implies x y)) (implies_by_and a b) (agrees_not (agrees_and h (agrees_not k)))

agrees_both : (q : Quantifier) {x y : Reading} {a b : Bool} → Agrees x a → Agrees y b → Agrees (both_reading q x y) (both q a b)
agrees_both Every h k = agrees_connect And h k
agrees_both Exists h k = agrees_connect Or h k

-- ---- quantifiers
pub reads_agrees : {x : Reading} {a : Bool} (k : Bool) → reads k x ≡ true → Agrees x a → a ≡ k
reads_agrees true e free = absurd (false≢true e)
reads_agrees false e free = absurd (false≢true e)
reads_agrees true e sure = e
reads_agrees false e (sure {a = true}) = absurd (false≢true e)
reads_agrees false e (sure {a = false}) = refl

sure_of : {a b : Bool} → a ≡ b → Agrees (certain b) a
sure_of {a} {b} e = subst (λ (c : Bool). Agrees (certain c) a) e sure

module _ (q : Quantifier) (body : Place → Reading) (f : Row → Bool) where
  elsewhere_agrees : (xs : List Row) → ((r : Row) → Agrees (body nothing) (f r)) → Agrees (under_elsewhere q body) (fold q f xs)
  elsewhere_agrees xs h = go (second_test q body) refl
    where
      go : (b : Bool) → second_test q body ≡ b → Agrees (cond b (certain (settled q)) undecided) (fold q f xs)
      go true e = sure_of (fold_all q f xs (λ r. reads_agrees (settled q) e (h r)))
      go false e = free

  roots_agree : (mine xs : List Row) → ((r : Row) → r ∈ mine → r ∈ xs) → ((r : Row) → r ∈ mine → Agrees (body (bound r)) (f r)) → ((r : Row) → Agrees (body nothing) (f r))
      → Agrees (over_roots q body mine) (fold q f xs)
  roots_agree mine xs sub h k = go (first_test q body mine) refl
    where
      hit : (r : Row) × (r ∈ mine) × (reads (not (settled q)) (body (bound r)) ≡ true) → fold q f xs ≡ not (settled q)
      hit w = fold_hit q f (sub w.0 w.1) (reads_agrees (not (settled q)) w.2 (h w.0 w.1))

      go : (b : Bool) → first_test q body mine ≡ b → Agrees (cond b (certain (not (settled q))) (under_elsewhere q body)) (fold q f xs)
      go true e = sure_of (hit (any_at (λ r. reads (not (settled q)) (body (bound r))) mine e))
      go false e = elsewhere_agrees xs k

  children_agree : (xs : List Row) → ((r : Row) → r ∈ xs → Agrees (body (bound r)) (f r)) → Agrees (under_bound q body xs) (fold q f xs)
  children_agree [] h = sure
  children_agree (x ∷ xs) h = agrees_both q (h x (Memᴰ.head refl)) (children_agree xs (λ r m. h r (Memᴰ.tail m)))

-- ---- comparisons
operand_fits : {δ : ℕ} {σ ρ : Bindings} → Within δ σ ρ → (c : Comparison) (m : ℕ) (w : Operand)
    → Agrees (compare_reading c (known m) (operand_read σ w)) (compare c m (value_of ρ w))
operand_fits {δ} g c m (Variable v) = go (g v)
  where
    go : {p p' : Place} → Fits δ p p' → Agrees (compare_reading c (known m) (value_read p)) (compare c m (value_at p'))
    go elsewhere = free
    go (own e) = sure
operand_fits g c m (Constant k) = sure

compared_fits : {δ : ℕ} {σ ρ : Bindings} {p p' : Place} → Within δ σ ρ → (c : Comparison) (w : Operand) → Fits δ p p'
    → Agrees (compare_reading c (value_read p) (operand_read σ w)) (compare c (value_at p') (value_of ρ w))
compared_fits g c w elsewhere = free
compared_fits g c w (own {r = r} e) = operand_fits g c r.value w

-- ---- the rows of one device in a table
abbrev pub of_device : ℕ → Row → Bool
of_device δ r = eqb r.device δ

abbrev pub owned : ℕ → List Row → List Row
owned δ T = select (of_device δ) T

child_owned : (δ n : ℕ) (p r : Row) → p.device ≡ δ → (is_parent r p && named n r) ≡ true → of_device δ r ≡ true
child_owned δ n p r e h = eq-eqb r.device δ (sym (parent_device r p (and_left (is_parent r p) (named n r) h)) ∙ e)

-- a quantifier under a variable
under_agrees : (δ n : ℕ) (T : List Row) (q : Quantifier) (body : Place → Reading) (f : Row → Bool) {s s' : Place}
    → ((r : Row) → Agrees (body nothing) (f r)) → ((r : Row) → r.device ≡ δ → Agrees (body (bound r)) (f r)) → Fits δ s s'
    → Agrees (under_place q s body (select (λ r. hangs s r && named n r) (owned δ T))) (fold q f (select (λ r. hangs s' r && named n r) T))
under_agrees δ n T q body f {s' = s'} h k elsewhere = elsewhere_agrees q body f (select (λ r. hangs s' r && named n r) T) h
under_agrees δ n T q body f h k (own {r = p} e) =
    subst (λ (xs : List Row). Agrees (under_bound q body (select (λ r. is_parent r p && named n r) (owned δ T))) (fold q f xs))
    (select_within (λ r. is_parent r p && named n r) (of_device δ) (λ r. child_owned δ n p r e) T)
    (children_agree q body f (select (λ r. is_parent r p && named n r) (owned δ T)) (λ r m. k r (eqb-true r.device δ (select_out (of_device δ) T (select_out (λ r. is_parent r p && named n r) (owned δ T) m).0).1)))

pub sound : (δ : ℕ) (T : List Row) (φ : Formula) (d : ℕ) {σ ρ : Bindings} → Within δ σ ρ → Agrees (reading φ (owned δ T) d σ) (holds φ T d ρ)
unfolding holds reading
sound δ T (negation φ) d g = agrees_not (sound δ T φ d g)
sound δ T (joined c φ ψ) d g = agrees_connect c (sound δ T φ d g) (sound δ T ψ d g)
sound δ T (quantified q Roots n φ) d {σ} {ρ} g =
    roots_agree q (λ p. reading φ (owned δ T) (suc d) (bind d p σ)) (λ r. holds φ T (suc d) (bind d (bound r) ρ))
    (select (λ r. root r && named n r) (owned δ T)) (select (λ r. root r && named n r) T)
    (λ r m. select_in (λ r. root r && named n r) (select_out (of_device δ) T (select_out (λ r. root r && named n r) (owned δ T) m).0).0 (select_out (λ r. root r && named n r) (owned δ T) m).1)
    (λ r m. sound δ T φ (suc d) (bind_within d (own (eqb-true r.device δ (select_out (of_device δ) T (select_out (λ r. root r && named n r) (owned δ T) m).0).1)) g))
    (λ r. sound δ T φ (suc d) (bind_within d elsewhere g))
sound δ T (quantified q (Under v) n φ) d {σ} {ρ} g =
    under_agrees δ n T q (λ p. reading φ (owned δ T) (suc d) (bind d p σ)) (λ r. holds φ T (suc d) (bind d (bound r) ρ))
    (λ r. sound δ T φ (suc d) (bind_within d elsewhere g)) (λ r e. sound δ T φ (suc d) (bind_within d (own e) g)) (g v)
sound δ T (compared c v w) d g = compared_fits g c w (g v)
