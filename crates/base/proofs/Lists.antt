-- Members of selections and of joined lists, tests over a list, and sublists. Assumes nothing.
use Prim.Native.Nat.{suc, ◌≤◌}
use native.Mathlib.Omega.{arith}
use mathlib.Core.Path.{◌≡◌, refl, sym, ap, ap₂, subst, ◌∙◌}
use mathlib.Core.Logic.{◌⊎◌, inl, inr}
use mathlib.Core.Bool.{Bool, true, false, ◌&&◌, true≢false, false≢true}
use mathlib.Core.List.Memᴰ
use mathlib.Core.List.Sublistᴰ
use mathlib.Core.List.{List, [], ◌∷◌, ◌++◌, map, append_assoc, Sublistᴰ}
use lib.ListN.{length}
use Rattle.base.specs.Lists.{◌∈◌, put, select, when, concat_map, all, any}
use Rattle.base.proofs.Bools.{and_left, and_right, or_cases, or_first, or_second}

module _ {A : Type 0} where
  -- ---- selections
  put_in : {x : A} {xs : List A} (y : A) (b : Bool) → x ∈ xs → x ∈ put b y xs
  put_in y true m = Memᴰ.tail m
  put_in y false m = m

  pub select_in : (p : A → Bool) {x : A} {xs : List A} → x ∈ xs → p x ≡ true → x ∈ select p xs
  select_in p {x} (Memᴰ.head {x = y} {xs = ys} e) h =
      subst (λ (b : Bool). x ∈ put b y (select p ys)) (sym (subst (λ (z : A). p z ≡ true) e h)) (Memᴰ.head e)
  select_in p (Memᴰ.tail {x = y} {xs = ys} m) h = put_in y (p y) (select_in p m h)

  pub select_out : (p : A → Bool) (xs : List A) {x : A} → x ∈ select p xs → (x ∈ xs) × (p x ≡ true)
  select_out p [] m = absurd (Memᴰ.not-nil m)
  select_out p (y ∷ ys) {x} m = go (λ m'. select_out p ys m') (p y) refl m
    where
      go : (x ∈ select p ys → (x ∈ ys) × (p x ≡ true)) → (b : Bool) → p y ≡ b → x ∈ put b y (select p ys) → (x ∈ (y ∷ ys)) × (p x ≡ true)
      go ih true e m' = elim (Memᴰ.cases_cons m') [
        | inl k ↦ (Memᴰ.head k, subst (λ (z : A). p z ≡ true) (sym k) e)
        | inr k ↦ (Memᴰ.tail (ih k).0, (ih k).1)
      ]
      go ih false e m' = (Memᴰ.tail (ih m').0, (ih m').1)

  -- a second selection that takes all that the first does
  pub select_within : (p w : A → Bool) → ((x : A) → p x ≡ true → w x ≡ true) → (xs : List A) → select p (select w xs) ≡ select p xs
  select_within p w h [] = refl
  select_within p w h (x ∷ xs) = go (w x) (p x) refl refl (select_within p w h xs)
    where
      go : (b c : Bool) → w x ≡ b → p x ≡ c → select p (select w xs) ≡ select p xs → select p (put b x (select w xs)) ≡ put c x (select p xs)
      go true c e k ih = rw k (ap (put c x) ih)
      go false true e k ih = absurd (true≢false (sym (h x k) ∙ e))
      go false false e k ih = ih

  -- a selection from a selection: what passes both tests
  pub select_both : (p w : A → Bool) (xs : List A) → select p (select w xs) ≡ select (λ x. w x && p x) xs
  select_both p w [] = refl
  select_both p w (x ∷ xs) = go (w x) (select_both p w xs)
    where
      go : (b : Bool) → select p (select w xs) ≡ select (λ y. w y && p y) xs
          → select p (put b x (select w xs)) ≡ put (b && p x) x (select (λ y. w y && p y) xs)
      go true ih = ap (put (p x) x) ih
      go false ih = ih

  pub select_append : (p : A → Bool) (xs ys : List A) → select p (xs ++ ys) ≡ select p xs ++ select p ys
  select_append p [] ys = refl
  select_append p (x ∷ xs) ys = go (p x) (select_append p xs ys)
    where
      go : (b : Bool) → select p (xs ++ ys) ≡ select p xs ++ select p ys → put b x (select p (xs ++ ys)) ≡ put b x (select p xs) ++ select p ys
      go true e = ap (◌∷◌ x) e
      go false e = e

  pub select_all : (p : A → Bool) (xs : List A) → ((x : A) → x ∈ xs → p x ≡ true) → select p xs ≡ xs
  select_all p [] h = refl
  select_all p (x ∷ xs) h = rw (h x (Memᴰ.head refl)) (ap (◌∷◌ x) (select_all p xs (λ y m. h y (Memᴰ.tail m))))

  pub select_none : (p : A → Bool) (xs : List A) → ((x : A) → x ∈ xs → p x ≡ false) → select p xs ≡ []
  select_none p [] h = refl
  select_none p (x ∷ xs) h = rw (h x (Memᴰ.head refl)) (select_none p xs (λ y m. h y (Memᴰ.tail m)))

  pub length_select : (p : A → Bool) (xs : List A) → length (select p xs) ≤ length xs
  length_select p [] = omega arith
  length_select p (x ∷ xs) = go (p x) (length_select p xs)
    where
      go : (b : Bool) → length (select p xs) ≤ length xs → length (put b x (select p xs)) ≤ suc (length xs)
      go true h = omega arith
      go false h = omega arith

  -- ---- tests over a list
  pub all_at : (p : A → Bool) {x : A} {xs : List A} → all p xs ≡ true → x ∈ xs → p x ≡ true
  all_at p h (Memᴰ.head {x = y} {xs = ys} e) = subst (λ (z : A). p z ≡ true) (sym e) (and_left (p y) (all p ys) h)
  all_at p h (Memᴰ.tail {x = y} {xs = ys} m) = all_at p (and_right (p y) (all p ys) h) m

  pub all_false : (p : A → Bool) (xs : List A) → all p xs ≡ false → (x : A) × (x ∈ xs) × (p x ≡ false)
  all_false p [] e = absurd (true≢false e)
  all_false p (x ∷ xs) e = go (p x) refl e (all_false p xs)
    where
      go : (b : Bool) → p x ≡ b → (b && all p xs) ≡ false → (all p xs ≡ false → (y : A) × (y ∈ xs) × (p y ≡ false)) → (y : A) × (y ∈ (x ∷ xs)) × (p y ≡ false)
      go true k h ih = let w = ih h in (w.0, Memᴰ.tail w.1, w.2)
      go false k h ih = (x, Memᴰ.head refl, k)

  pub any_at : (p : A → Bool) (xs : List A) → any p xs ≡ true → (x : A) × (x ∈ xs) × (p x ≡ true)
  any_at p [] h = absurd (false≢true h)
  any_at p (y ∷ ys) h = go (or_cases (p y) (any p ys) h) (λ k. any_at p ys k)
    where
      go : (p y ≡ true) ⊎ (any p ys ≡ true) → (any p ys ≡ true → (x : A) × (x ∈ ys) × (p x ≡ true)) → (x : A) × (x ∈ (y ∷ ys)) × (p x ≡ true)
      go (inl e) ih = (y, Memᴰ.head refl, e)
      go (inr e) ih = ((ih e).0, Memᴰ.tail (ih e).1, (ih e).2)

  pub any_hit : (p : A → Bool) {x : A} {xs : List A} → x ∈ xs → p x ≡ true → any p xs ≡ true
  any_hit p (Memᴰ.head {x = y} {xs = ys} e) h = or_first (p y) (any p ys) (subst (λ (z : A). p z ≡ true) e h)
  any_hit p (Memᴰ.tail {x = y} {xs = ys} m) h = or_second (p y) (any p ys) (any_hit p m h)

  pub any_none : (p : A → Bool) (xs : List A) → ((x : A) → x ∈ xs → p x ≡ false) → any p xs ≡ false
  any_none p [] h = refl
  any_none p (x ∷ xs) h = rw (h x (Memᴰ.head refl)) (any_none p xs (λ y m. h y (Memᴰ.tail m)))

  pub when_in : {x : A} {xs : List A} (b : Bool) → b ≡ true → x ∈ xs → x ∈ when b xs
  when_in true e m = m
  when_in false e m = absurd (false≢true e)

  -- ---- sublists
  pub sub_in : {C D : List A} → Sublistᴰ C D → {x : A} → x ∈ C → x ∈ D
  sub_in Sublistᴰ.slnil m = m
  sub_in (Sublistᴰ.cons-cons e s) (Memᴰ.head k) = Memᴰ.head (k ∙ e)
  sub_in (Sublistᴰ.cons-cons e s) (Memᴰ.tail m) = Memᴰ.tail (sub_in s m)
  sub_in (Sublistᴰ.cons s) m = Memᴰ.tail (sub_in s m)

  pub sub_select : (p : A → Bool) (D : List A) → Sublistᴰ (select p D) D
  sub_select p [] = Sublistᴰ.slnil
  sub_select p (x ∷ xs) = go (p x) (sub_select p xs)
    where
      go : (b : Bool) → Sublistᴰ (select p xs) xs → Sublistᴰ (put b x (select p xs)) (x ∷ xs)
      go true s = Sublistᴰ.cons-cons refl s
      go false s = Sublistᴰ.cons s

  pub sub_behind : (xs : List A) {ys zs : List A} → Sublistᴰ ys zs → Sublistᴰ (xs ++ ys) (xs ++ zs)
  sub_behind [] s = s
  sub_behind (x ∷ xs) s = Sublistᴰ.cons-cons refl (sub_behind xs s)

  pub sub_before : {xs ys : List A} (zs : List A) → Sublistᴰ xs ys → Sublistᴰ xs (zs ++ ys)
  sub_before [] s = s
  sub_before (z ∷ zs) s = Sublistᴰ.cons (sub_before zs s)

  pub sub_both : {xs ys zs ws : List A} → Sublistᴰ xs ys → Sublistᴰ zs ws → Sublistᴰ (xs ++ zs) (ys ++ ws)
  sub_both Sublistᴰ.slnil t = t
  sub_both (Sublistᴰ.cons-cons e s) t = Sublistᴰ.cons-cons e (sub_both s t)
  sub_both (Sublistᴰ.cons s) t = Sublistᴰ.cons (sub_both s t)

  pub sub_one : {x : A} {xs : List A} → x ∈ xs → Sublistᴰ (x ∷ []) xs
  sub_one (Memᴰ.head {xs = xs} e) = Sublistᴰ.cons-cons e (Sublistᴰ.nil-sublist xs)
  sub_one (Memᴰ.tail m) = Sublistᴰ.cons (sub_one m)

-- ---- joined lists
module _ {A B : Type 0} (f : A → List B) where
  pub concat_map_in : {x : A} {y : B} {xs : List A} → x ∈ xs → y ∈ f x → y ∈ concat_map f xs
  concat_map_in {y = y} (Memᴰ.head {xs = xs} e) k = Memᴰ.append_left (concat_map f xs) (subst (λ (z : A). y ∈ f z) e k)
  concat_map_in (Memᴰ.tail {x = z} m) k = Memᴰ.append_right (f z) (concat_map_in m k)

  pub concat_map_out : {y : B} (xs : List A) → y ∈ concat_map f xs → (x : A) × (x ∈ xs) × (y ∈ f x)
  concat_map_out [] m = absurd (Memᴰ.not-nil m)
  concat_map_out {y} (x ∷ xs) m = go (Memᴰ.append_cases (f x) m) (λ k. concat_map_out xs k)
    where
      go : (y ∈ f x) ⊎ (y ∈ concat_map f xs) → (y ∈ concat_map f xs → (z : A) × (z ∈ xs) × (y ∈ f z)) → (z : A) × (z ∈ (x ∷ xs)) × (y ∈ f z)
      go (inl k) ih = (x, Memᴰ.head refl, k)
      go (inr k) ih = ((ih k).0, Memᴰ.tail (ih k).1, (ih k).2)

  pub concat_map_append : (xs ys : List A) → concat_map f (xs ++ ys) ≡ concat_map f xs ++ concat_map f ys
  concat_map_append [] ys = refl
  concat_map_append (x ∷ xs) ys = ap (◌++◌ (f x)) (concat_map_append xs ys) ∙ sym (append_assoc (f x) (concat_map f xs) (concat_map f ys))

-- what is in one of the lists of the first is in one of the second
pub concat_map_within : {A B : Type 0} (f g : A → List B) {xs ys : List A} {y : B}
    → ((x : A) → x ∈ xs → (x ∈ ys) × ((z : B) → z ∈ f x → z ∈ g x)) → y ∈ concat_map f xs → y ∈ concat_map g ys
concat_map_within f g {xs} {ys} {y} h m =
    let w = concat_map_out f xs m in
    concat_map_in g (h w.0 w.1).0 ((h w.0 w.1).1 y w.2)

-- each element's list is a sublist of what stands for it in the whole
pub concat_map_sub : {A B : Type 0} (f g : A → List B) {es ds : List A} → ((x : A) → x ∈ es → Sublistᴰ (f x) (g x)) → Sublistᴰ es ds → Sublistᴰ (concat_map f es) (concat_map g ds)
concat_map_sub f g h Sublistᴰ.slnil = Sublistᴰ.slnil
concat_map_sub {A} f g h (Sublistᴰ.cons-cons {a = x} {l₁ = xs} {l₂ = ys} e s) =
    subst (λ (z : A). Sublistᴰ (f x ++ concat_map f xs) (g z ++ concat_map g ys)) e (sub_both (h x (Memᴰ.head refl)) (concat_map_sub f g (λ y m. h y (Memᴰ.tail m)) s))
concat_map_sub f g h (Sublistᴰ.cons {a = x} s) = sub_before (g x) (concat_map_sub f g h s)

-- a selection from a list's images
pub select_map : {A B : Type 0} (f : A → B) (p : B → Bool) (xs : List A) → select p (map f xs) ≡ map f (select (λ x. p (f x)) xs)
select_map f p [] = refl
select_map f p (x ∷ xs) = go (p (f x)) (select_map f p xs)
  where
    go : (b : Bool) → select p (map f xs) ≡ map f (select (λ y. p (f y)) xs)
        → put b (f x) (select p (map f xs)) ≡ map f (put b x (select (λ y. p (f y)) xs))
    go true ih = ap (◌∷◌ (f x)) ih
    go false ih = ih

-- two functions that agree on a list's elements
pub map_same : {A B : Type 0} (f g : A → B) (xs : List A) → ((x : A) → x ∈ xs → f x ≡ g x) → map f xs ≡ map g xs
map_same f g [] h = refl
map_same f g (x ∷ xs) h = ap₂ ◌∷◌ (h x (Memᴰ.head refl)) (map_same f g xs (λ y m. h y (Memᴰ.tail m)))

pub map_sub : {A B : Type 0} (f : A → B) {es ds : List A} → Sublistᴰ es ds → Sublistᴰ (map f es) (map f ds)
map_sub f Sublistᴰ.slnil = Sublistᴰ.slnil
map_sub f (Sublistᴰ.cons-cons e s) = Sublistᴰ.cons-cons (ap f e) (map_sub f s)
map_sub f (Sublistᴰ.cons s) = Sublistᴰ.cons (map_sub f s)
