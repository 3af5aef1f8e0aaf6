-- Making an elsewhere variable known changes no certain reading, so a reading over roots can't come out both ways. Assumes nothing.
use Prim.Native.Nat.{ℕ, suc}
use mathlib.Core.Path.{◌≡◌, refl, sym, ap, ◌∙◌}
use mathlib.Core.Bool.{Bool, true, false, not, cond, ◌&&◌, and-false, true≢false, false≢true}
use mathlib.Core.List.{List, [], ◌∷◌}
use native.Mathlib.Omega.{arith}
use lib.Dec.{eqb}
use Rattle.base.specs.Lists.{select}
use Rattle.base.proofs.Bools.{either}
use Rattle.base.proofs.Lists.{any_at, any_hit}
use Rattle.tables.specs.Tables.{root, is_parent}
use Rattle.tables.specs.declared.Row.{Row}
use Rattle.logic.specs.Formulas.{Formula, negation, joined, quantified, compared}
use Rattle.tables.specs.declared.Quantifier.{Quantifier}
use Rattle.tables.specs.declared.Quantifier.TheVariants.{Every, Exists}
use Rattle.tables.specs.declared.Connective.{Connective}
use Rattle.tables.specs.declared.Connective.TheVariants.{And, Or, Implies}
use Rattle.tables.specs.declared.Comparison.{Comparison}
use Rattle.tables.specs.declared.Over.TheVariants.{Roots, Under}
use Rattle.tables.specs.declared.Operand.{Operand}
use Rattle.tables.specs.declared.Operand.TheVariants.{Variable, Constant}
use Rattle.logic.specs.Verdict.{Place, nothing, bound, Bindings, bind, named, hangs, settled}
use Rattle.logic.specs.Reading.{Reading, certain, undecided, reads, not_reading, and_reading, connect_reading, known, value_read, operand_read, compare_reading, both_reading, under_bound, first_test, second_test, under_elsewhere, over_roots, under_place, reading}
use Rattle.logic.specs.Elsewhere.{body_reading, OneWay, ReadsOneWay}

-- what was certain stays
data Below : Reading → Reading → Type 0 where
  free : {y : Reading} → Below undecided y
  stay : {a : Bool} → Below (certain a) (certain a)

-- what was known stays
data Known : Place → Place → Type 0 where
  elsewhere : {p : Place} → Known nothing p
  same : {r : Row} → Known (bound r) (bound r)

known_refl : (p : Place) → Known p p
known_refl nothing = elsewhere
known_refl (bound r) = same

abbrev Extends : Bindings → Bindings → Type 0
Extends σ τ = (v : ℕ) → Known (σ v) (τ v)

bind_extends : {σ τ : Bindings} {p p' : Place} (d : ℕ) → Known p p' → Extends σ τ → Extends (bind d p σ) (bind d p' τ)
bind_extends {σ} {τ} {p} {p'} d k g v = go (eqb v d) (g v)
  where
    go : {s s' : Place} (b : Bool) → Known s s' → Known (cond b p s) (cond b p' s')
    go true h = k
    go false h = h

-- ---- connectives
below_not : {x y : Reading} → Below x y → Below (not_reading x) (not_reading y)
below_not free = free
below_not stay = stay

below_and : {x x' y y' : Reading} → Below x x' → Below y y' → Below (and_reading x y) (and_reading x' y')
below_and (stay {a = false}) k = stay
below_and (stay {a = true}) k = k
below_and (free {y = undecided}) (stay {a = false}) = stay
below_and (free {y = certain false}) (stay {a = false}) = stay
below_and (free {y = certain true}) (stay {a = false}) = stay
below_and (free {y = x'}) (stay {a = true}) = free
below_and (free {y = x'}) (free {y = y'}) = free

below_connect : (c : Connective) {x x' y y' : Reading} → Below x x' → Below y y' → Below (connect_reading c x y) (connect_reading c x' y')
below_connect And h k = below_and h k
below_connect Or h k = below_not (below_and (below_not h) (below_not k))
below_connect Implies h k = below_not (below_and h (below_not k))

below_both : (q : Quantifier) {x x' y y' : Reading} → Below x x' → Below y y' → Below (both_reading q x y) (both_reading q x' y')
below_both Every h k = below_connect And h k
below_both Exists h k = below_connect Or h k

-- ---- readings of one value
certain_stays : {x y : Reading} {a : Bool} → Below x y → x ≡ certain a → y ≡ certain a
certain_stays free e = let z : ◌≡◌ {A = ℕ} 0 1 = cc in absurd (omega arith)
certain_stays stay e = e

below_reads : {x y : Reading} (b : Bool) → Below x y → reads b x ≡ true → reads b y ≡ true
below_reads true free e = absurd (false≢true e)
below_reads false free e = absurd (false≢true e)
below_reads b stay e = e

reads_is : (b : Bool) (x : Reading) → reads b x ≡ true → x ≡ certain b
reads_is true undecided e = absurd (false≢true e)
reads_is false undecided e = absurd (false≢true e)
reads_is true (certain a) e = ap certain e
reads_is false (certain true) e = absurd (false≢true e)
reads_is false (certain false) e = refl

not_both_values : (b : Bool) (x : Reading) → reads b x ≡ true → reads (not b) x ≡ true → ⊥
not_both_values true x e k = let z : certain true ≡ certain false = sym (reads_is true x e) ∙ reads_is false x k in true≢false (cc)
not_both_values false x e k = let z : certain true ≡ certain false = sym (reads_is true x k) ∙ reads_is false x e in true≢false (cc)

both_settled : (q : Quantifier) → both_reading q (certain (settled q)) (certain (settled q)) ≡ certain (settled q)
both_settled Every = refl
both_settled Exists = refl

all_settled : (q : Quantifier) (f : Place → Reading) (xs : List Row) → ((r : Row) → reads (settled q) (f (bound r)) ≡ true) → under_bound q f xs ≡ certain (settled q)
all_settled q f [] h = refl
all_settled q f (x ∷ xs) h = rw (reads_is (settled q) (f (bound x)) (h x), all_settled q f xs h) (both_settled q)

-- ---- quantifiers
module _ (q : Quantifier) (f g : Place → Reading) (mono : (p p' : Place) → Known p p' → Below (f p) (g p')) where
  -- what settles it elsewhere does so for each row, so none decides
  never_decides : (own : List Row) → second_test q f ≡ true → first_test q g own ≡ false
  never_decides own e = either (first_test q g own)
      (λ k. let w = any_at (λ r. reads (not (settled q)) (g (bound r))) own k in
      absurd (not_both_values (settled q) (g (bound w.0)) (below_reads (settled q) (mono nothing (bound w.0) elsewhere) e) w.2))
      (λ k. k)

  elsewhere_below : {y : Reading} → (second_test q f ≡ true → y ≡ certain (settled q)) → Below (under_elsewhere q f) y
  elsewhere_below {y} h = go (second_test q f) refl
    where
      go : (b : Bool) → second_test q f ≡ b → Below (cond b (certain (settled q)) undecided) y
      go true e = rw (h e) stay
      go false e = free

  roots_below : (own : List Row) → Below (over_roots q f own) (over_roots q g own)
  roots_below own = go (first_test q f own) refl
    where
      go : (b : Bool) → first_test q f own ≡ b → Below (cond b (certain (not (settled q))) (under_elsewhere q f)) (over_roots q g own)
      go true e = let w = any_at (λ r. reads (not (settled q)) (f (bound r))) own e in
          rw (any_hit (λ r. reads (not (settled q)) (g (bound r))) w.1 (below_reads (not (settled q)) (mono (bound w.0) (bound w.0) same) w.2)) stay
      go false e = elsewhere_below (λ k. rw (never_decides own k, below_reads (settled q) (mono nothing nothing elsewhere) k))

  bound_below : (xs : List Row) → Below (under_bound q f xs) (under_bound q g xs)
  bound_below [] = stay
  bound_below (x ∷ xs) = below_both q (mono (bound x) (bound x) same) (bound_below xs)

  under_below : {s s' : Place} (n : ℕ) (D : List Row) → Known s s'
      → Below (under_place q s f (select (λ r. hangs s r && named n r) D)) (under_place q s' g (select (λ r. hangs s' r && named n r) D))
  under_below n D (elsewhere {p = nothing}) = elsewhere_below (λ e. rw (below_reads (settled q) (mono nothing nothing elsewhere) e))
  under_below n D (elsewhere {p = bound p}) =
      elsewhere_below (λ e. all_settled q g (select (λ r. is_parent r p && named n r) D) (λ r. below_reads (settled q) (mono nothing (bound r) elsewhere) e))
  under_below n D (same {r = p}) = bound_below (select (λ r. is_parent r p && named n r) D)

-- ---- comparisons
operand_below : {σ τ : Bindings} → Extends σ τ → (c : Comparison) (m : ℕ) (w : Operand) → Below (compare_reading c (known m) (operand_read σ w)) (compare_reading c (known m) (operand_read τ w))
operand_below g c m (Variable v) = go (g v)
  where
    go : {p p' : Place} → Known p p' → Below (compare_reading c (known m) (value_read p)) (compare_reading c (known m) (value_read p'))
    go elsewhere = free
    go same = stay
operand_below g c m (Constant k) = stay

compared_below : {σ τ : Bindings} {p p' : Place} → Extends σ τ → (c : Comparison) (w : Operand) → Known p p'
    → Below (compare_reading c (value_read p) (operand_read σ w)) (compare_reading c (value_read p') (operand_read τ w))
compared_below g c w elsewhere = free
compared_below g c w (same {r = r}) = operand_below g c r.value w

monotone : (φ : Formula) (D : List Row) (d : ℕ) {σ τ : Bindings} → Extends σ τ → Below (reading φ D d σ) (reading φ D d τ)
unfolding reading
monotone (negation φ) D d g = below_not (monotone φ D d g)
monotone (joined c φ ψ) D d g = below_connect c (monotone φ D d g) (monotone ψ D d g)
monotone (quantified q Roots n φ) D d {σ} {τ} g =
    roots_below q (λ p. reading φ D (suc d) (bind d p σ)) (λ p. reading φ D (suc d) (bind d p τ)) (λ p p' k. monotone φ D (suc d) (bind_extends d k g))
    (select (λ r. root r && named n r) D)
monotone (quantified q (Under v) n φ) D d {σ} {τ} g =
    under_below q (λ p. reading φ D (suc d) (bind d p σ)) (λ p. reading φ D (suc d) (bind d p τ)) (λ p p' k. monotone φ D (suc d) (bind_extends d k g)) n D (g v)
monotone (compared c v w) D d g = compared_below g c w (g v)

-- ---- a body, with its own variable elsewhere and at a row
module _ (φ : Formula) (D : List Row) (d : ℕ) (b : Bindings) where
  abbrev body : Place → Reading
  body = body_reading φ D d b

  body_below : (p p' : Place) → Known p p' → Below (body p) (body p')
  body_below p p' k = monotone φ D (suc d) (bind_extends d k (λ v. known_refl (b v)))

  never_both : (q : Quantifier) (own : List Row) → (first_test q body own && second_test q body) ≡ false
  never_both q own = either (second_test q body)
      (λ e. rw (never_decides q body body body_below own e))
      (λ e. rw e (and-false (first_test q body own)))

  reads_one_way : OneWay φ D d b
  reads_one_way = record {
    same_for_each = λ r a e. certain_stays (body_below nothing (bound r) elsewhere) e;
    not_both = never_both;
  }

pub one_way : ReadsOneWay
one_way φ D d b = reads_one_way φ D d b

-- ---- a quantifier with its first test x and its second test y: it reads the value that settles it by the second alone, and the other by the
-- first
over_tests : Quantifier → Bool → Bool → Reading
over_tests k x y = cond x (certain (not (settled k))) (cond y (certain (settled k)) undecided)

settled_by_second : (k : Quantifier) (x y : Bool) → (x && y) ≡ false → reads (settled k) (over_tests k x y) ≡ y
unfolding over_tests
settled_by_second k true true h = absurd (true≢false h)
settled_by_second Every true false h = refl
settled_by_second Exists true false h = refl
settled_by_second Every false true h = refl
settled_by_second Exists false true h = refl
settled_by_second Every false false h = refl
settled_by_second Exists false false h = refl

decided_by_first : (k : Quantifier) (x y : Bool) → reads (not (settled k)) (over_tests k x y) ≡ x
unfolding over_tests
decided_by_first Every true y = refl
decided_by_first Exists true y = refl
decided_by_first Every false true = refl
decided_by_first Exists false true = refl
decided_by_first Every false false = refl
decided_by_first Exists false false = refl

pub roots_settled : (q : Quantifier) (φ : Formula) (D : List Row) (d : ℕ) (b : Bindings) (own : List Row)
    → reads (settled q) (over_roots q (body_reading φ D d b) own) ≡ second_test q (body_reading φ D d b)
unfolding over_tests
roots_settled q φ D d b own =
    settled_by_second q (first_test q (body_reading φ D d b) own) (second_test q (body_reading φ D d b)) ((one_way φ D d b).not_both q own)

module _ (q : Quantifier) (f : Place → Reading) where
  pub roots_decided : (own : List Row) → reads (not (settled q)) (over_roots q f own) ≡ first_test q f own
  unfolding over_tests
  roots_decided own = decided_by_first q (first_test q f own) (second_test q f)

  pub elsewhere_settled : reads (settled q) (under_elsewhere q f) ≡ second_test q f
  unfolding over_tests
  elsewhere_settled = settled_by_second q false (second_test q f) refl

  pub elsewhere_decided : reads (not (settled q)) (under_elsewhere q f) ≡ false
  unfolding over_tests
  elsewhere_decided = decided_by_first q false (second_test q f)
