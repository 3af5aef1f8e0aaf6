-- What it takes for a reading to be a wanted value: of both sides of a connective, or of a quantifier's rows, either all or any. Assumes
-- nothing.
use mathlib.Core.Path.{◌≡◌, refl, sym, ap, ap₂, ◌∙◌}
use mathlib.Core.Bool.{Bool, true, false, not, cond, ◌&&◌, ◌||◌, beq, not-not, true≢false, false≢true}
use mathlib.Core.List.{List, [], ◌∷◌, ◌++◌}
use denote.Enum.Bare.{sameb}
use Rattle.base.specs.Lists.{all, any}
use Rattle.tables.specs.contracts.nodes.Connective as connectives
use Rattle.tables.specs.contracts.nodes.Quantifier as quantifiers
use Rattle.tables.specs.declared.Row.{Row}
use Rattle.tables.specs.declared.nodes.Connective.{Connective}
use Rattle.tables.specs.declared.nodes.Connective.TheVariants.{And, Or, Implies}
use Rattle.tables.specs.declared.nodes.Quantifier.{Quantifier}
use Rattle.tables.specs.declared.nodes.Quantifier.TheVariants.{Every, Exists}
use Rattle.logic.specs.Verdict.{Place, bound, settled}
use Rattle.logic.specs.Reading.{Reading, certain, undecided, reads, not_reading, and_reading, connect_reading, both_reading, under_bound, first_test}

-- ---- two answers together: all of them, or any
abbrev pub together : Bool → Bool → Bool → Bool
together whole x y = cond whole (x && y) (x || y)

-- the code goes on to the second where the first alone does not tell
pub goes_on : (whole x y : Bool) → beq x whole ≡ true → y ≡ together whole x y
goes_on true true y h = refl
goes_on true false y h = absurd (false≢true h)
goes_on false true y h = absurd (false≢true h)
goes_on false false y h = refl

pub stops : (whole x y : Bool) → beq x whole ≡ false → x ≡ together whole x y
stops true true y h = absurd (true≢false h)
stops true false y h = refl
stops false true y h = refl
stops false false y h = absurd (true≢false h)

-- ---- not and and; or and implies follow from them
pub reads_not : (w : Bool) (x : Reading) → reads w (not_reading x) ≡ reads (not w) x
reads_not true (certain a) = refl
reads_not true undecided = refl
reads_not false (certain true) = refl
reads_not false (certain false) = refl
reads_not false undecided = refl

reads_and : (w : Bool) (x y : Reading) → reads w (and_reading x y) ≡ together w (reads w x) (reads w y)
reads_and true (certain true) y = refl
reads_and true (certain false) y = refl
reads_and true undecided (certain true) = refl
reads_and true undecided (certain false) = refl
reads_and true undecided undecided = refl
reads_and false (certain true) y = refl
reads_and false (certain false) y = refl
reads_and false undecided (certain true) = refl
reads_and false undecided (certain false) = refl
reads_and false undecided undecided = refl

reads_or : (w : Bool) (x y : Reading) → reads w (not_reading (and_reading (not_reading x) (not_reading y))) ≡ together (not w) (reads w x) (reads w y)
reads_or w x y =
    reads_not w (and_reading (not_reading x) (not_reading y))
    ∙ reads_and (not w) (not_reading x) (not_reading y)
    ∙ ap₂ (together (not w)) (reads_not (not w) x ∙ ap (λ (v : Bool). reads v x) (not-not w)) (reads_not (not w) y ∙ ap (λ (v : Bool). reads v y) (not-not w))

reads_implies : (w : Bool) (x y : Reading) → reads w (not_reading (and_reading x (not_reading y))) ≡ together (not w) (reads (not w) x) (reads w y)
reads_implies w x y =
    reads_not w (and_reading x (not_reading y))
    ∙ reads_and (not w) x (not_reading y)
    ∙ ap (together (not w) (reads (not w) x)) (reads_not (not w) y ∙ ap (λ (v : Bool). reads v y) (not-not w))

-- equal to true, or to false
with_true : (w : Bool) → beq w true ≡ w
with_true true = refl
with_true false = refl

with_false : (w : Bool) → beq w false ≡ not w
with_false true = refl
with_false false = refl

-- the code's tests
abbrev pub is_and : Connective → Bool
is_and c = sameb connectives.the_type c And

abbrev pub is_implies : Connective → Bool
is_implies c = sameb connectives.the_type c Implies

pub settles : (q : Quantifier) → sameb quantifiers.the_type q Every ≡ settled q
settles Every = refl
settles Exists = refl

-- only implies turns what is wanted of its left side
pub reads_connect : (c : Connective) (w : Bool) (x y : Reading)
    → reads w (connect_reading c x y) ≡ together (beq w (is_and c)) (reads (beq w (not (is_implies c))) x) (reads w y)
reads_connect And w x y = reads_and w x y ∙ ap₂ (λ (a v : Bool). together a (reads v x) (reads w y)) (sym (with_true w)) (sym (with_true w))
reads_connect Or w x y = reads_or w x y ∙ ap₂ (λ (a v : Bool). together a (reads v x) (reads w y)) (sym (with_false w)) (sym (with_true w))
reads_connect Implies w x y = reads_implies w x y ∙ ap₂ (λ (a v : Bool). together a (reads v x) (reads w y)) (sym (with_false w)) (sym (with_false w))

-- ---- a quantifier's rows: all of them have to read the value that settles it, and any of them the other
abbrev pub rows_read : Bool → (Row → Bool) → List Row → Bool
rows_read whole f xs = cond whole (all f xs) (any f xs)

reads_both : (q : Quantifier) (w : Bool) (x y : Reading) → reads w (both_reading q x y) ≡ together (beq w (settled q)) (reads w x) (reads w y)
reads_both Every w x y = reads_and w x y ∙ ap (λ (a : Bool). together a (reads w x) (reads w y)) (sym (with_true w))
reads_both Exists w x y = reads_or w x y ∙ ap (λ (a : Bool). together a (reads w x) (reads w y)) (sym (with_false w))

reads_none : (q : Quantifier) (w : Bool) → reads w (certain (settled q)) ≡ beq w (settled q)
reads_none Every true = refl
reads_none Every false = refl
reads_none Exists true = refl
reads_none Exists false = refl

pub read_none : (whole : Bool) (f : Row → Bool) → rows_read whole f [] ≡ whole
read_none true f = refl
read_none false f = refl

read_more : (whole : Bool) (f : Row → Bool) (x : Row) (xs : List Row) → rows_read whole f (x ∷ xs) ≡ together whole (f x) (rows_read whole f xs)
read_more true f x xs = refl
read_more false f x xs = refl

pub under_read : (q : Quantifier) (body : Place → Reading) (w : Bool) (xs : List Row)
    → reads w (under_bound q body xs) ≡ rows_read (beq w (settled q)) (λ r. reads w (body (bound r))) xs
under_read q body w [] = reads_none q w ∙ sym (read_none (beq w (settled q)) (λ r. reads w (body (bound r))))
under_read q body w (x ∷ xs) =
    reads_both q w (body (bound x)) (under_bound q body xs)
    ∙ ap (together (beq w (settled q)) (reads w (body (bound x)))) (under_read q body w xs)
    ∙ sym (read_more (beq w (settled q)) (λ r. reads w (body (bound r))) x xs)

-- the own roots decide by the first test
pub first_test_read : (q : Quantifier) (body : Place → Reading) (own : List Row)
    → first_test q body own ≡ rows_read (beq (not (settled q)) (settled q)) (λ r. reads (not (settled q)) (body (bound r))) own
first_test_read Every body own = refl
first_test_read Exists body own = refl

module _ (whole : Bool) (f : Row → Bool) where
  pub read_append : (xs ys : List Row) → rows_read whole f (xs ++ ys) ≡ together whole (rows_read whole f xs) (rows_read whole f ys)
  read_append [] ys = go whole (rows_read whole f ys) ∙ sym (ap (λ (z : Bool). together whole z (rows_read whole f ys)) (read_none whole f))
    where
      go : (a y : Bool) → y ≡ together a a y
      go true y = refl
      go false y = refl
  read_append (x ∷ xs) ys =
      read_more whole f x (xs ++ ys) ∙ ap (together whole (f x)) (read_append xs ys)
      ∙ go whole (f x) (rows_read whole f xs) (rows_read whole f ys)
      ∙ ap (λ (z : Bool). together whole z (rows_read whole f ys)) (sym (read_more whole f x xs))
    where
      go : (a x y z : Bool) → together a x (together a y z) ≡ together a (together a x y) z
      go true true y z = refl
      go true false y z = refl
      go false true y z = refl
      go false false y z = refl

  pub read_one : (r : Row) → rows_read whole f (r ∷ []) ≡ f r
  read_one r = read_more whole f r [] ∙ ap (together whole (f r)) (read_none whole f) ∙ go whole (f r)
    where
      go : (a x : Bool) → together a x a ≡ x
      go true true = refl
      go true false = refl
      go false true = refl
      go false false = refl
