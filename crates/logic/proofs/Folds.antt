-- Quantifiers over lists: what decides them, and that rows which settle nothing may be left out. Assumes nothing.
use mathlib.Core.Path.{◌≡◌, refl, ap, subst, ◌∙◌}
use mathlib.Core.Bool.{Bool, true, false, not, cond, true≢false, false≢true}
use mathlib.Core.List.Memᴰ
use mathlib.Core.List.{List, [], ◌∷◌}
use Rattle.base.specs.Lists.{◌∈◌, put, select}
use Rattle.base.proofs.Lists.{select_in, select_out}
use Rattle.tables.specs.declared.Row.{Row}
use Rattle.tables.specs.declared.Quantifier.{Quantifier}
use Rattle.tables.specs.declared.Quantifier.TheVariants.{Every, Exists}
use Rattle.logic.specs.Verdict.{settled, both, fold}
use Rattle.logic.specs.Marks.{decides, first_deciding, witnesses}
use Rattle.logic.proofs.Walks.{both_settled, settled_left, settled_right}
use Rattle.logic.proofs.Reasons.{settled_undecided}

both_first : (q : Quantifier) (a b : Bool) → a ≡ not (settled q) → both q a b ≡ not (settled q)
both_first Every true b e = absurd (true≢false e)
both_first Every false b e = refl
both_first Exists true b e = refl
both_first Exists false b e = absurd (false≢true e)

both_second : (q : Quantifier) (a b : Bool) → b ≡ not (settled q) → both q a b ≡ not (settled q)
both_second Every true b e = e
both_second Every false b e = refl
both_second Exists true b e = refl
both_second Exists false b e = e

pub fold_settled : (q : Quantifier) (f : Row → Bool) (xs : List Row) → ((r : Row) → r ∈ xs → f r ≡ settled q) → fold q f xs ≡ settled q
fold_settled q f [] h = refl
fold_settled q f (x ∷ xs) h =
    both_settled q (f x) (fold q f xs) (h x (Memᴰ.head refl)) ∙ fold_settled q f xs (λ r m. h r (Memᴰ.tail m))

pub fold_all : (q : Quantifier) (f : Row → Bool) (xs : List Row) → ((r : Row) → f r ≡ settled q) → fold q f xs ≡ settled q
fold_all q f xs h = fold_settled q f xs (λ r m. h r)

pub fold_at : (q : Quantifier) (f : Row → Bool) {r : Row} {xs : List Row} → r ∈ xs → fold q f xs ≡ settled q → f r ≡ settled q
fold_at q f (Memᴰ.head {x = y} {xs = ys} e) h = ap f e ∙ settled_left q (f y) (fold q f ys) h
fold_at q f (Memᴰ.tail {x = y} {xs = ys} m) h = fold_at q f m (settled_right q (f y) (fold q f ys) h)

pub fold_hit : (q : Quantifier) (f : Row → Bool) {r : Row} {xs : List Row} → r ∈ xs → f r ≡ not (settled q) → fold q f xs ≡ not (settled q)
fold_hit q f (Memᴰ.head {x = y} {xs = ys} e) h = both_first q (f y) (fold q f ys) (subst (λ (z : Row). f z ≡ not (settled q)) e h)
fold_hit q f (Memᴰ.tail {x = y} {xs = ys} m) h = both_second q (f y) (fold q f ys) (fold_hit q f m h)

-- ---- a list with some rows left out
-- `f` on the whole list and `g` on the rest agree at what is kept; at what is left out `f` has the settled value
module _ (q : Quantifier) (f g : Row → Bool) (P keep : Row → Bool) where
  abbrev pub Thin : List Row → Type 0
  Thin xs = (x : Row) → x ∈ xs → P x ≡ true → ((keep x ≡ true → f x ≡ g x) × (keep x ≡ false → f x ≡ settled q))

  pub fold_thin : (xs : List Row) → Thin xs → fold q f (select P xs) ≡ fold q g (select P (select keep xs))
  fold_thin [] h = refl
  fold_thin (x ∷ xs) h = go (P x) (keep x) refl refl (fold_thin xs (λ y m. h y (Memᴰ.tail m)))
    where
      go : (b c : Bool) → P x ≡ b → keep x ≡ c → fold q f (select P xs) ≡ fold q g (select P (select keep xs))
          → fold q f (put b x (select P xs)) ≡ fold q g (select P (put c x (select keep xs)))
      go true true e k ih = rw (e, (h x (Memᴰ.head refl) e).0 k) (ap (both q (g x)) ih)
      go true false e k ih = both_settled q (f x) (fold q f (select P xs)) ((h x (Memᴰ.head refl) e).1 k) ∙ ih
      go false true e k ih = rw e ih
      go false false e k ih = ih

  not_deciding : (a : Bool) → a ≡ settled q → decides q a ≡ false
  not_deciding a e = rw e (settled_undecided q)

  first_thin : (xs : List Row) → Thin xs → first_deciding q f (select P xs) ≡ first_deciding q g (select P (select keep xs))
  first_thin [] h = refl
  first_thin (x ∷ xs) h = go (P x) (keep x) refl refl (first_thin xs (λ y m. h y (Memᴰ.tail m)))
    where
      go : (b c : Bool) → P x ≡ b → keep x ≡ c → first_deciding q f (select P xs) ≡ first_deciding q g (select P (select keep xs))
          → first_deciding q f (put b x (select P xs)) ≡ first_deciding q g (select P (put c x (select keep xs)))
      go true true e k ih = rw (e, (h x (Memᴰ.head refl) e).0 k) (ap (cond (decides q (g x)) (x ∷ [])) ih)
      go true false e k ih = rw (not_deciding (f x) ((h x (Memᴰ.head refl) e).1 k)) ih
      go false true e k ih = rw e ih
      go false false e k ih = ih

  -- who is a witness in the rest is one in the whole
  pub witnesses_thin : (xs : List Row) → Thin xs → {x : Row} → x ∈ witnesses q g (select P (select keep xs)) → x ∈ witnesses q f (select P xs)
  witnesses_thin xs h {x} m = go (decides q (fold q g (select P (select keep xs)))) (decides q (fold q f (select P xs))) (ap (decides q) (fold_thin xs h)) m
    where
      go : (b c : Bool) → c ≡ b → x ∈ cond b (first_deciding q g (select P (select keep xs))) (select P (select keep xs)) → x ∈ cond c (first_deciding q f (select P xs)) (select P xs)
      go true true e k = rw (first_thin xs h) k
      go false false e k = let w = select_out P (select keep xs) k in select_in P (select_out keep xs w.0).0 w.1
      go true false e k = absurd (false≢true e)
      go false true e k = absurd (true≢false e)

first_in : (q : Quantifier) (f : Row → Bool) (xs : List Row) {x : Row} → x ∈ first_deciding q f xs → x ∈ xs
first_in q f [] m = m
first_in q f (y ∷ ys) {x} m = go (decides q (f y)) m (λ h. first_in q f ys h)
  where
    go : (b : Bool) → x ∈ cond b (y ∷ []) (first_deciding q f ys) → (x ∈ first_deciding q f ys → x ∈ ys) → x ∈ (y ∷ ys)
    go true h ih = Memᴰ.head (Memᴰ.eq_of_singleton h)
    go false h ih = Memᴰ.tail (ih h)

pub witnesses_in : (q : Quantifier) (f : Row → Bool) (xs : List Row) {x : Row} → x ∈ witnesses q f xs → x ∈ xs
witnesses_in q f xs {x} m = go (decides q (fold q f xs)) m
  where
    go : (b : Bool) → x ∈ cond b (first_deciding q f xs) xs → x ∈ xs
    go true h = first_in q f xs h
    go false h = h
