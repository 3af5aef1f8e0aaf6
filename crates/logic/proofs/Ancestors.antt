-- `ancestors` lists the rows that a row hangs under: its parent, and its parent's ancestors. Assumes nothing.
use Prim.Native.Nat.{◌<◌}
use native.Mathlib.Omega.{arith}
use mathlib.Core.Path.{◌≡◌, refl, sym, ap, ap₂, subst, ◌∙◌}
use mathlib.Core.Logic.{◌⊎◌, inl, inr}
use mathlib.Core.Bool.{Bool, true, false, cond, ◌&&◌}
use mathlib.Core.List.Memᴰ
use mathlib.Core.List.{List, [], ◌∷◌, reverse, reverse_aux}
use Rattle.base.specs.Lists.{◌∈◌, all}
use Rattle.base.proofs.Bools.{either}
use Rattle.tables.specs.Tables.{root, is_parent}
use Rattle.tables.specs.declared.Row.{Row}
use Rattle.tables.proofs.Accepted.{parent_device, parent_at}
use Rattle.tables.proofs.OrderedRows.{Above, above_key, Rising, none_rise, more_rise, Parented, up_low, root_alone}
use Rattle.logic.specs.Parts.{lineage, ancestors}
use Rattle.logic.specs.Demand.{Under, under_parent, under_above}

-- ---- one step of the walk back
lineage_hit : (x : Row) (xs : List Row) (r : Row) → is_parent r x ≡ true → lineage (x ∷ xs) r ≡ x ∷ lineage xs x
unfolding lineage
lineage_hit x xs r e = rw e

lineage_miss : (x : Row) (xs : List Row) (r : Row) → is_parent r x ≡ false → lineage (x ∷ xs) r ≡ lineage xs r
unfolding lineage
lineage_miss x xs r e = rw e

lineage_in : (xs : List Row) (r s : Row) → s ∈ lineage xs r → s ∈ xs
unfolding lineage
lineage_in [] r s m = m
lineage_in (x ∷ xs) r s m = go (is_parent r x) m (lineage_in xs x s) (lineage_in xs r s)
  where
    go : (b : Bool) → s ∈ cond b (x ∷ lineage xs x) (lineage xs r) → (s ∈ lineage xs x → s ∈ xs) → (s ∈ lineage xs r → s ∈ xs) → s ∈ (x ∷ xs)
    go true k ih ih' = elim (Memᴰ.cases_cons k) [ inl e ↦ Memᴰ.head e | inr l ↦ Memᴰ.tail (ih l) ]
    go false k ih ih' = Memᴰ.tail (ih' k)

lineage_under : (D xs : List Row) → ((x : Row) → x ∈ xs → x ∈ D) → (r s : Row) → s ∈ lineage xs r → Under D r s
unfolding lineage
lineage_under D [] sub r s m = elim m [ ]
lineage_under D (x ∷ xs) sub r s m = go (is_parent r x) refl m (lineage_under D xs (λ y j. sub y (Memᴰ.tail j)) x s) (lineage_under D xs (λ y j. sub y (Memᴰ.tail j)) r s)
  where
    here : x ∈ D
    here = sub x (Memᴰ.head refl)

    go : (b : Bool) → is_parent r x ≡ b → s ∈ cond b (x ∷ lineage xs x) (lineage xs r) → (s ∈ lineage xs x → Under D x s) → (s ∈ lineage xs r → Under D r s) → Under D r s
    go true e i ih ih' = elim (Memᴰ.cases_cons i) [ inl q ↦ subst (Under D r) (sym q) (under_parent here e) | inr l ↦ under_above here e (ih l) ]
    go false e i ih ih' = ih' i

-- ---- rows that fall: each is above all that follow it, and its parent is not
data Falling : List Row → Type 0 where
  none_fall : Falling []
  more_fall : {x : Row} {xs : List Row} → x.up < x.at → ((y : Row) → y ∈ xs → Above y x) → Falling xs → Falling (x ∷ xs)

up_below : {xs : List Row} → Falling xs → (y : Row) → y ∈ xs → y.up < y.at
up_below none_fall y x3 = elim x3 [ ]
up_below (more_fall l h w) y (Memᴰ.head e) = subst (λ (t : Row). t.up < t.at) (sym e) l
up_below (more_fall l h w) y (Memᴰ.tail m) = up_below w y m

not_parent : (r x : Row) → (is_parent r x ≡ true → ⊥) → is_parent r x ≡ false
not_parent r x h = either (is_parent r x) (λ e. absurd (h e)) (λ e. e)

-- a row at or above p is no parent of p
not_above_lem : (p x : Row) → p.up < p.at → (p ≡ x) ⊎ Above p x → is_parent p x ≡ false
not_above_lem p x l h = not_parent p x (λ e. go (parent_device p x e) (parent_at p x e) h)
  where
    go : x.device ≡ p.device → x.at ≡ p.up → (p ≡ x) ⊎ Above p x → ⊥
    go d a (inl q) = let z : p.at ≡ x.at = ap (λ (t : Row). t.at) q in omega arith
    go d a (inr (inl k)) = omega arith
    go d a (inr (inr k)) = omega arith

-- the walk meets the parent, and goes on as the parent's own
walk : {L : List Row} → Falling L → (r p : Row) → p ∈ L → is_parent r p ≡ true → lineage L r ≡ p ∷ lineage L p
walk none_fall r p x5 c = elim x5 [ ]
walk (more_fall {x = x} {xs = xs} l h w) r p (Memᴰ.head e) c =
    lineage_hit x xs r (subst (λ (t : Row). is_parent r t ≡ true) e c)
    ∙ ap₂ ◌∷◌ (sym e) (sym (lineage_miss x xs p (not_above_lem p x (subst (λ (t : Row). t.up < t.at) (sym e) l) (inl e)) ∙ ap (lineage xs) e))
walk (more_fall {x = x} {xs = xs} l h w) r p (Memᴰ.tail i) c =
    lineage_miss x xs r (not_parent r x other)
    ∙ walk w r p i c
    ∙ ap (◌∷◌ p) (sym (lineage_miss x xs p (not_above_lem p x (up_below w p i) (inr (h p i)))))
  where
    other : is_parent r x ≡ true → ⊥
    other e = above_key p x (h p i) (record { device = parent_device r p c ∙ sym (parent_device r x e); at = parent_at r p c ∙ sym (parent_at r x e) })

-- a root's walk meets nothing
walk_root : (L : List Row) (r : Row) → ((x : Row) → x ∈ L → is_parent r x ≡ false) → lineage L r ≡ []
unfolding lineage
walk_root [] r h = refl
walk_root (x ∷ xs) r h = rw (h x (Memᴰ.head refl)) (walk_root xs r (λ y m. h y (Memᴰ.tail m)))

-- ---- a table's rows, walked back
reverse_in : (xs ys : List Row) {r : Row} → (r ∈ xs) ⊎ (r ∈ ys) → r ∈ reverse_aux xs ys
reverse_in [] ys (inl m) = elim m [ ]
reverse_in [] ys (inr m) = m
reverse_in (x ∷ xs) ys (inl (Memᴰ.head e)) = reverse_in xs (x ∷ ys) (inr (Memᴰ.head e))
reverse_in (x ∷ xs) ys (inl (Memᴰ.tail m)) = reverse_in xs (x ∷ ys) (inl m)
reverse_in (x ∷ xs) ys (inr m) = reverse_in xs (x ∷ ys) (inr (Memᴰ.tail m))

reverse_out : (xs ys : List Row) {r : Row} → r ∈ reverse_aux xs ys → (r ∈ xs) ⊎ (r ∈ ys)
reverse_out [] ys m = inr m
reverse_out (x ∷ xs) ys {r} m = go (reverse_out xs (x ∷ ys) m)
  where
    go : (r ∈ xs) ⊎ (r ∈ (x ∷ ys)) → (r ∈ (x ∷ xs)) ⊎ (r ∈ ys)
    go (inl k) = inl (Memᴰ.tail k)
    go (inr (Memᴰ.head e)) = inl (Memᴰ.head e)
    go (inr (Memᴰ.tail k)) = inr k

fall_back : {D R : List Row} → Rising D → ((r : Row) → r ∈ D → r.up < r.at) → ((r x : Row) → r ∈ R → x ∈ D → Above r x) → Falling R → Falling (reverse_aux D R)
fall_back none_rise u b f = f
fall_back {R = R} (more_rise {x = x} {xs = xs} l w) u b f =
    fall_back w (λ r m. u r (Memᴰ.tail m)) next (more_fall (u x (Memᴰ.head refl)) (λ y m. b y x m (Memᴰ.head refl)) f)
  where
    next : (r y : Row) → r ∈ (x ∷ R) → y ∈ xs → Above r y
    next r y (Memᴰ.head e) m = subst (λ (z : Row). Above z y) (sym e) (l y m)
    next r y (Memᴰ.tail i) m = b r y i (Memᴰ.tail m)

pub under_trans : {D : List Row} {r s t : Row} → Under D r s → Under D s t → Under D r t
under_trans (under_parent m c) k = under_above m c k
under_trans (under_above m c u) k = under_above m c (under_trans u k)

module _ (D : List Row) (ok : Parented D) where
  falls : Falling (reverse D)
  falls = fall_back ok.rise (up_low ok) (λ r x m. elim m [ ]) none_fall

  back_in : {r : Row} → r ∈ reverse D → r ∈ D
  back_in {r} m = elim (reverse_out D [] m) [ inl k ↦ k | inr k ↦ elim k [ ] ]

  pub ancestor_under : (r s : Row) → s ∈ ancestors D r → Under D r s
  unfolding ancestors
  ancestor_under r s m = lineage_under D (reverse D) (λ x j. back_in j) r s m

  pub ancestor_in : (r s : Row) → s ∈ ancestors D r → s ∈ D
  unfolding ancestors
  ancestor_in r s m = back_in (lineage_in (reverse D) r s m)

  -- the parent, and the parent's ancestors
  pub ancestors_child : (r p : Row) → p ∈ D → is_parent r p ≡ true → ancestors D r ≡ p ∷ ancestors D p
  unfolding ancestors
  ancestors_child r p m c = walk falls r p (reverse_in D [] (inl m)) c

  pub ancestors_root : (r : Row) → root r ≡ true → ancestors D r ≡ []
  unfolding ancestors
  ancestors_root r e = walk_root (reverse D) r (λ x m. not_parent r x (λ c. root_alone ok r x (back_in m) c e))

  pub under_ancestor : (r s : Row) → Under D r s → s ∈ ancestors D r
  under_ancestor r s (under_parent m c) = subst (λ (l : List Row). s ∈ l) (sym (ancestors_child r s m c)) (Memᴰ.head refl)
  under_ancestor r s (under_above {p = p} m c u) = subst (λ (l : List Row). s ∈ l) (sym (ancestors_child r p m c)) (Memᴰ.tail (under_ancestor p s u))

  -- row after row: a row stays if it passes and it is a root or its parent stays
  pub stays_child : (t : Row → Bool) (r p : Row) → p ∈ D → is_parent r p ≡ true → (t r && all t (ancestors D r)) ≡ (t r && (t p && all t (ancestors D p)))
  stays_child t r p m c = ap (λ (l : List Row). t r && all t l) (ancestors_child r p m c)

  pub stays_root : (t : Row → Bool) (r : Row) → root r ≡ true → (t r && all t (ancestors D r)) ≡ (t r && true)
  stays_root t r e = ap (λ (l : List Row). t r && all t l) (ancestors_root r e)
