-- The pairs at the end of a path, on the tree of a table: those of rows, and by check 12 a path of names and values leads below one
-- row. Assumes nothing.
use mathlib.Core.Path.{◌≡◌, refl, sym, ap, ap₂, ◌∙◌}
use mathlib.Core.Bool.{Bool, true, false, ◌&&◌}
use mathlib.Core.List.Memᴰ
use mathlib.Core.List.{List, [], ◌∷◌, ◌++◌, map, append-nil}
use lib.Dec.{eqb}
use borrow.Author.Tests.{eqb-true, eq-eqb}
use Rattle.base.specs.Lists.{◌∈◌, put, select, concat_map}
use Rattle.base.proofs.Bools.{and_left, and_right, and_both}
use Rattle.base.proofs.Lists.{select_out}
use Rattle.tables.specs.Tables.{is_parent, is_twin}
use Rattle.tables.specs.declared.Row.{Row}
use Rattle.published.specs.Published.{node, Pair, Path, ◌is◌, pairs}
use Rattle.published.specs.Stated.{tree_of}
use Rattle.published.proofs.Rows.{Hung, more_hung, Fit, fit_hung, only}

-- the rows that hang under r
abbrev pub child : Row → Row → Bool
child r s = is_parent s r

-- a row's name and value
abbrev pub pair_of : Row → Pair
pair_of r = r.name is r.value

-- ---- the pairs on the tree of a table
tree_in : (t : Row → Bool) (r : Row) (rs : List Row) → t r ≡ true → tree_of t (r ∷ rs) ≡ node r.name r.value (tree_of (child r) rs) (tree_of t rs)
unfolding tree_of
tree_in t r rs e = rw (e, tree_of)

tree_out : (t : Row → Bool) (r : Row) (rs : List Row) → t r ≡ false → tree_of t (r ∷ rs) ≡ tree_of t rs
unfolding tree_of
tree_out t r rs e = rw (e, tree_of)

-- at the end of no path: the pairs of the rows that pass the test
pub at_top : (t : Row → Bool) (rs : List Row) → pairs (tree_of t rs) [] ≡ map pair_of (select t rs)
unfolding pairs tree_of
at_top t [] = refl
at_top t (r ∷ rs) = go (t r) refl (at_top t rs)
  where
    go : (b : Bool) → t r ≡ b → pairs (tree_of t rs) [] ≡ map pair_of (select t rs)
        → pairs (tree_of t (r ∷ rs)) [] ≡ map pair_of (put (t r) r (select t rs))
    go true e ih = rw (tree_in t r rs e, e) (ap (◌∷◌ (pair_of r)) ih)
    go false e ih = rw (tree_out t r rs e, e) ih

abbrev pub at_pair : (Row → Bool) → Pair → Row → Bool
at_pair t x r = t r && (eqb r.name x.name && eqb r.value x.value)

concat_ext : {A B : Type 0} (f g : A → List B) (xs : List A) → ((x : A) → x ∈ xs → f x ≡ g x) → concat_map f xs ≡ concat_map g xs
concat_ext f g [] h = refl
concat_ext f g (x ∷ xs) h = ap₂ ◌++◌ (h x (Memᴰ.head refl)) (concat_ext f g xs (λ y m. h y (Memᴰ.tail m)))

-- one step of a path: below the rows that pass the test and match the pair
pub descend : (t : Row → Bool) (x : Pair) (path : Path) (T : List Row) → Hung T
    → pairs (tree_of t T) (x ∷ path) ≡ concat_map (λ r. pairs (tree_of (child r) T) path) (select (at_pair t x) T)
unfolding pairs tree_of
descend t x path [] f = refl
descend t x path (y ∷ ys) (more_hung a f) =
    go (t y) (eqb y.name x.name && eqb y.value x.value) refl refl
    (descend t x path ys f ∙ concat_ext _ _ (select (at_pair t x) ys) later)
  where
    own : pairs (tree_of (child y) ys) path ≡ pairs (tree_of (child y) (y ∷ ys)) path
    own = rw (tree_out (child y) y ys (a y (Memᴰ.head refl)))

    later : (r : Row) → r ∈ select (at_pair t x) ys → pairs (tree_of (child r) ys) path ≡ pairs (tree_of (child r) (y ∷ ys)) path
    later r m = rw (tree_out (child r) y ys (a r (Memᴰ.tail (select_out (at_pair t x) ys m).0)))

    go : (b c : Bool) → t y ≡ b → (eqb y.name x.name && eqb y.value x.value) ≡ c
        → pairs (tree_of t ys) (x ∷ path) ≡ concat_map (λ r. pairs (tree_of (child r) (y ∷ ys)) path) (select (at_pair t x) ys)
        → pairs (tree_of t (y ∷ ys)) (x ∷ path) ≡ concat_map (λ r. pairs (tree_of (child r) (y ∷ ys)) path) (put (b && c) y (select (at_pair t x) ys))
    go true true e k ih = rw (tree_in t y ys e, k) (ap₂ ◌++◌ own ih)
    go true false e k ih = rw (tree_in t y ys e, k) ih
    go false c e k ih = rw (tree_out t y ys e) ih

-- a test that tells siblings: the roots, or the rows that hang under one row
abbrev pub Siblings : (Row → Bool) → Type 0
Siblings t = (r s : Row) → t r ≡ true → t s ≡ true → r.name ≡ s.name → r.value ≡ s.value → is_twin r s ≡ true

-- the key fact
pub step : (T : List Row) → Fit T → (t : Row → Bool) → Siblings t → (r : Row) → r ∈ T → t r ≡ true
    → (path : Path) → pairs (tree_of t T) (pair_of r ∷ path) ≡ pairs (tree_of (child r) T) path
step T f t s r m e path =
    descend t (pair_of r) path T (fit_hung f)
    ∙ ap (concat_map (λ z. pairs (tree_of (child z) T) path)) (only (at_pair t (pair_of r)) twins T f r m here)
    ∙ append-nil _
  where
    twins : (x y : Row) → at_pair t (pair_of r) x ≡ true → at_pair t (pair_of r) y ≡ true → is_twin x y ≡ true
    twins x y a b = s x y (and_left (t x) _ a) (and_left (t y) _ b) (nm x a ∙ sym (nm y b)) (vl x a ∙ sym (vl y b))
      where
        nm : (z : Row) → at_pair t (pair_of r) z ≡ true → z.name ≡ r.name
        nm z c = eqb-true _ _ (and_left (eqb z.name r.name) (eqb z.value r.value) (and_right (t z) _ c))

        vl : (z : Row) → at_pair t (pair_of r) z ≡ true → z.value ≡ r.value
        vl z c = eqb-true _ _ (and_right (eqb z.name r.name) (eqb z.value r.value) (and_right (t z) _ c))

    here : at_pair t (pair_of r) r ≡ true
    here = and_both (t r) _ e (and_both _ _ (eq-eqb r.name r.name refl) (eq-eqb r.value r.value refl))
