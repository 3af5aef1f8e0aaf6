-- The rows of a table gone into those of another, as foldings do it; and that no more than one table without equal siblings can come of
-- it. Assumes nothing.
use Prim.Native.Nat.{ℕ, zero, suc, ◌+◌, ◌≤◌, ◌<◌}
use mathlib.Core.Path.{◌≡◌, refl, sym, ap, subst, ◌∙◌}
use mathlib.Core.Logic.{◌⊎◌, inl, inr, ⊎_elim}
use mathlib.Core.Bool.{Bool, true, false, ◌&&◌, ◌||◌, true≢false}
use mathlib.Core.List.Memᴰ
use mathlib.Core.List.{List, ◌∷◌, ◌++◌}
use native.Mathlib.Omega.{arith}
use lib.Dec.{eqb, ltb}
use borrow.Author.Tests.{eqb-true, eq-eqb, ltb-true, ltb-false}
use Rattle.base.specs.Lists.{◌∈◌}
use Rattle.base.proofs.Bools.{either, and_left, and_right, and_both, or_second}
use Rattle.tables.specs.Tables.{root, is_parent, is_twin, out_of_range}
use Rattle.tables.specs.declared.Row.{Row}
use Rattle.tables.proofs.Accepted.{parent_device, parent_at}
use Rattle.tables.proofs.OrderedRows.{Above, above_key, Key, Rising, none_rise, more_rise, rising_key, Parented, Ordered, at_low}

-- ---- equal siblings
pub record Equal (r b : Row) : Type 0 where
  pub up : b.up ≡ r.up
  pub name : b.name ≡ r.name
  pub value : b.value ≡ r.value

pub twin_equal : (r b : Row) → is_twin r b ≡ true → Equal r b
twin_equal r b e =
    let a : Bool = eqb b.up r.up in
    let o : Bool = root r || eqb b.device r.device in
    let n : Bool = eqb b.name r.name in
    let v : Bool = eqb b.value r.value in
    let s : (a && o) && n ≡ true = and_left ((a && o) && n) v e in
    record {
      up = eqb-true _ _ (and_left a o (and_left (a && o) n s));
      name = eqb-true _ _ (and_right (a && o) n s);
      value = eqb-true _ _ (and_right ((a && o) && n) v e);
    }

pub value_apart : (r b : Row) → (b.value ≡ r.value → ⊥) → false ≡ is_twin r b
value_apart r b h = either (is_twin r b) (λ e. absurd (h (twin_equal r b e).value)) (λ e. sym e)

pub equal_twin : (r b : Row) → b.device ≡ r.device → Equal r b → is_twin r b ≡ true
equal_twin r b d e =
    and_both _ _
    (and_both _ _
    (and_both _ _ (eq-eqb b.up r.up e.up) (or_second (root r) _ (eq-eqb b.device r.device d)))
    (eq-eqb b.name r.name e.name))
    (eq-eqb b.value r.value e.value)

pub is_parent_lem : (r p : Row) → p.device ≡ r.device → p.at ≡ r.up → is_parent r p ≡ true
is_parent_lem r p d a = and_both _ _ (eq-eqb p.device r.device d) (eq-eqb p.at r.up a)

-- no row has an equal sibling before it
abbrev pub Apart : List Row → Type 0
Apart T = (r s : Row) → r ∈ T → s ∈ T → Above s r → is_twin r s ≡ false

-- ---- rising rows
-- of two rows of one device, the one with the smaller at stands before
order : (r s : Row) → r.device ≡ s.device → Above r s ⊎ (Above s r ⊎ Key r s)
order r s d = either (ltb r.at s.at)
    (λ e. inl (inr (d, ltb-true _ _ e)))
    (λ e. either (ltb s.at r.at)
    (λ f. inr (inl (inr (sym d, ltb-true _ _ f))))
    (λ f. inr (inr (record { device = d; at = omega (arith, ltb-false r.at s.at e, ltb-false s.at r.at f) }))))

-- where equal siblings are the same row
pub apart_same : {T : List Row} → Rising T → Apart T → (r s : Row) → r ∈ T → s ∈ T → s.device ≡ r.device → Equal r s → r ≡ s
apart_same rise apart r s m n d e = ⊎_elim
    (λ a. absurd (true≢false (sym (equal_twin s r (sym d) (record { up = sym e.up; name = sym e.name; value = sym e.value })) ∙ apart s r n m a)))
    (λ k. ⊎_elim
    (λ a. absurd (true≢false (sym (equal_twin r s d e) ∙ apart r s m n a)))
    (λ k. rising_key rise r s m n k)
    k)
    (order r s (sym d))

-- a row's parent, by what up names
pub same_parent : {T : List Row} → Rising T → (u p q : Row) → p ∈ T → q ∈ T → is_parent u p ≡ true → is_parent u q ≡ true → p ≡ q
same_parent rise u p q m n e f = rising_key rise p q m n (record {
  device = parent_device u p e ∙ sym (parent_device u q f);
  at = parent_at u p e ∙ sym (parent_at u q f);
})

-- two lists of rising rows with the same members
rising_same : {A B : List Row} → Rising A → Rising B → ((r : Row) → r ∈ A → r ∈ B) → ((r : Row) → r ∈ B → r ∈ A) → A ≡ B
rising_same none_rise none_rise f g = refl
rising_same none_rise (more_rise {x = y} k b) f g = absurd (Memᴰ.not-nil (g y (Memᴰ.head refl)))
rising_same (more_rise {x = x} h a) none_rise f g = absurd (Memᴰ.not-nil (f x (Memᴰ.head refl)))
rising_same (more_rise {x = x} {xs = xs} h a) (more_rise {x = y} {xs = ys} k b) f g =
    let e : x ≡ y = first (f x (Memᴰ.head refl)) (g y (Memᴰ.head refl)) in
    rw e (ap (◌∷◌ y) (rising_same a b (λ r m. rest h r m (f r (Memᴰ.tail m)) (sym e)) (λ r m. rest k r m (g r (Memᴰ.tail m)) e)))
  where
    first : x ∈ (y ∷ ys) → y ∈ (x ∷ xs) → x ≡ y
    first (Memᴰ.head e) n = e
    first (Memᴰ.tail m) (Memᴰ.head e) = sym e
    first (Memᴰ.tail m) (Memᴰ.tail n) = absurd (never x y (k x m) (h y n))
      where
        never : (r s : Row) → Above s r → Above r s → ⊥
        never r s (inl i) (inl j) = omega arith
        never r s (inl i) (inr j) = omega arith
        never r s (inr i) (inl j) = omega arith
        never r s (inr i) (inr j) = omega arith

    rest : {z v : Row} {zs vs : List Row} → ((w : Row) → w ∈ zs → Above z w) → (r : Row) → r ∈ zs → r ∈ (v ∷ vs) → v ≡ z → r ∈ vs
    rest {z} later r m (Memᴰ.head i) e = absurd (above_key z r (later r m) (record {
      device = ap (λ (w : Row). w.device) (sym (i ∙ e));
      at = ap (λ (w : Row). w.at) (sym (i ∙ e));
    }))
    rest later r m (Memᴰ.tail i) e = i

-- ---- rows gone into others
-- row u has the device, name and value of row r, and isn't later; both are roots, or neither is
pub record Like (r u : Row) : Type 0 where
  pub device : u.device ≡ r.device
  pub name : u.name ≡ r.name
  pub value : u.value ≡ r.value
  pub not_later : u.at ≤ r.at
  pub roots : root u ≡ root r

-- each row of T goes into one of U, and its parent into that one's parent; each row of U is one of T that stays
pub record Image (R : Row → Row → Type 0) (T U : List Row) : Type 0 where
  pub goes : (r : Row) → r ∈ T → (u : Row) × R r u
  pub one : {r u v : Row} → R r u → R r v → u ≡ v
  pub from : {r u : Row} → R r u → r ∈ T
  pub to : {r u : Row} → R r u → u ∈ U
  pub like : {r u : Row} → R r u → Like r u
  pub above : {r u : Row} → R r u → (p : Row) → p ∈ T → is_parent r p ≡ true → (w : Row) × R p w × (is_parent u w ≡ true)
  pub stays : (u : Row) → u ∈ U → (r : Row) × R r u × (r.at ≡ u.at) × (r.deep ≡ u.deep)

abbrev pub Stay : List Row → Row → Row → Type 0
Stay T r u = (r ∈ T) × (u ≡ r)

pub image_same : (T : List Row) → Image (Stay T) T T
image_same T = record {
  goes = λ r m. (r, (m, refl));
  one = λ a b. a.1 ∙ sym b.1;
  from = λ a. a.0;
  to = λ a. Memᴰ.cast a.1 a.0;
  like = λ a. like a;
  above = λ a p m e. (p, (m, refl), subst (λ (z : Row). is_parent z p ≡ true) (sym a.1) e);
  stays = λ u m. (u, (m, refl), refl, refl);
}
  where
    like : {r u : Row} → Stay T r u → Like r u
    like {r} a = subst (Like r) (sym a.1) (record { device = refl; name = refl; value = refl; not_later = omega arith; roots = refl })

abbrev pub Through : (Row → Row → Type 0) → (Row → Row → Type 0) → Row → Row → Type 0
Through R S r v = (u : Row) × R r u × S u v

pub image_through : {R S : Row → Row → Type 0} {T U W : List Row} → Image R T U → Image S U W → Image (Through R S) T W
image_through {R} {S} {T} {U} {W} α β = record {
  goes = λ r m. let a = α.goes r m in let b = β.goes a.0 (α.to a.1) in (b.0, (a.0, a.1, b.1));
  one = λ a b. one a b;
  from = λ a. α.from a.1;
  to = λ a. β.to a.2;
  like = λ a. like (α.like a.1) (β.like a.2);
  above = λ a p m e.
      let w = α.above a.1 p m e in
      let x = β.above a.2 w.0 (α.to w.1) w.2 in
      (x.0, (w.0, w.1, x.1), x.2);
  stays = λ v m.
      let b = β.stays v m in
      let a = α.stays b.0 (β.from b.1) in
      (a.0, (b.0, a.1, b.1), a.2 ∙ b.2, a.3 ∙ b.3);
}
  where
    one : {r v v' : Row} → Through R S r v → Through R S r v' → v ≡ v'
    one {v' = v'} a b = β.one a.2 (subst (λ (z : Row). S z v') (α.one b.1 a.1) b.2)

    like : {r u v : Row} → Like r u → Like u v → Like r v
    like a b = record {
      device = b.device ∙ a.device;
      name = b.name ∙ a.name;
      value = b.value ∙ a.value;
      not_later = omega (arith, a.not_later, b.not_later);
      roots = b.roots ∙ a.roots;
    }

-- tables of different devices, one after the other
abbrev pub OfEither : (Row → Row → Type 0) → (Row → Row → Type 0) → Row → Row → Type 0
OfEither R S r u = R r u ⊎ S r u

pub image_beside : {R S : Row → Row → Type 0} {A B U W : List Row} → Image R A U → Image S B W
    → ((a b : Row) → a ∈ A → b ∈ B → a.device ≡ b.device → ⊥) → Image (OfEither R S) (A ++ B) (U ++ W)
image_beside {R} {S} {A} {B} {U} {W} α β apart = record {
  goes = λ r m. ⊎_elim
      (λ k. let w = α.goes r k in (w.0, inl w.1))
      (λ k. let w = β.goes r k in (w.0, inr w.1))
      (Memᴰ.append_cases A m);
  one = one;
  from = from;
  to = to;
  like = like;
  above = above;
  stays = λ u m. ⊎_elim
      (λ k. let w = α.stays u k in (w.0, inl w.1, w.2, w.3))
      (λ k. let w = β.stays u k in (w.0, inr w.1, w.2, w.3))
      (Memᴰ.append_cases U m);
}
  where
    one : {r u v : Row} → OfEither R S r u → OfEither R S r v → u ≡ v
    one (inl x) (inl y) = α.one x y
    one {r} (inl x) (inr y) = absurd (apart r r (α.from x) (β.from y) refl)
    one {r} (inr x) (inl y) = absurd (apart r r (α.from y) (β.from x) refl)
    one (inr x) (inr y) = β.one x y

    from : {r u : Row} → OfEither R S r u → r ∈ (A ++ B)
    from (inl x) = Memᴰ.append_left B (α.from x)
    from (inr x) = Memᴰ.append_right A (β.from x)

    to : {r u : Row} → OfEither R S r u → u ∈ (U ++ W)
    to (inl x) = Memᴰ.append_left W (α.to x)
    to (inr x) = Memᴰ.append_right U (β.to x)

    like : {r u : Row} → OfEither R S r u → Like r u
    like (inl x) = α.like x
    like (inr x) = β.like x

    above : {r u : Row} → OfEither R S r u → (p : Row) → p ∈ (A ++ B) → is_parent r p ≡ true
        → (w : Row) × OfEither R S p w × (is_parent u w ≡ true)
    above {r} (inl x) p m e = ⊎_elim
        (λ k. let w = α.above x p k e in (w.0, inl w.1, w.2))
        (λ k. absurd (apart r p (α.from x) k (sym (parent_device r p e))))
        (Memᴰ.append_cases A m)
    above {r} (inr x) p m e = ⊎_elim
        (λ k. absurd (apart p r k (β.from x) (parent_device r p e)))
        (λ k. let w = β.above x p k e in (w.0, inr w.1, w.2))
        (Memᴰ.append_cases A m)

-- ---- two tables come of T; in the second equal siblings are the same row
module _ {R S : Row → Row → Type 0} {T A B : List Row} (ok : Parented T) (α : Image R T A) (β : Image S T B)
    (rise : Rising A) (rise' : Rising B) (apart : Apart B) where
  -- rows of which the first has a smaller at than n, and that go into one row of the first table, go into one of the second
  abbrev Together : ℕ → Type 0
  Together n = (r s a b c : Row) → r.at < n → R r a → R s a → S r b → S s c → b ≡ c

  step : (n : ℕ) → Together n → Together (suc n)
  step n lower r s a b c l x y z w = apart_same rise' apart b c (β.to z) (β.to w) same_device
      (record {
        up = either (root r) roots children;
        name = (β.like w).name ∙ sym (α.like y).name ∙ (α.like x).name ∙ sym (β.like z).name;
        value = (β.like w).value ∙ sym (α.like y).value ∙ (α.like x).value ∙ sym (β.like z).value;
      })
    where
      same_device : c.device ≡ b.device
      same_device = (β.like w).device ∙ sym (α.like y).device ∙ (α.like x).device ∙ sym (β.like z).device

      roots : root r ≡ true → c.up ≡ b.up
      roots e =
          eqb-true c.up 0 ((β.like w).roots ∙ sym (α.like y).roots ∙ (α.like x).roots ∙ e)
          ∙ sym (eqb-true b.up 0 ((β.like z).roots ∙ e))

      below : (p : Row) → Above p r → p.device ≡ r.device → p.at < n
      below p (inl h) d = absurd (omega arith)
      below p (inr h) d = omega (arith, h.1)

      children : root r ≡ false → c.up ≡ b.up
      children e =
          let p = ok.parents r (α.from x) e in
          let q = ok.parents s (α.from y) (sym (α.like y).roots ∙ (α.like x).roots ∙ e) in
          let i = α.above x p.0 p.1 p.2 in
          let j = α.above y q.0 q.1 q.2 in
          let k = β.above z p.0 p.1 p.2 in
          let m = β.above w q.0 q.1 q.2 in
          let same : j.0 ≡ i.0 = same_parent rise a j.0 i.0 (α.to j.1) (α.to i.1) j.2 i.2 in
          let both : k.0 ≡ m.0 = lower p.0 q.0 i.0 k.0 m.0 (below p.0 p.3 (parent_device r p.0 p.2))
          i.1 (subst (R q.0) same j.1) k.1 m.1 in
          sym (parent_at c m.0 m.2) ∙ sym (ap (λ (v : Row). v.at) both) ∙ parent_at b k.0 k.2

  together : (n : ℕ) → Together n
  together zero = λ r s a b c l x y z w. absurd (omega arith)
  together (suc n) = step n (together n)

  -- so what a row goes into in the second isn't later than in the first
  pub not_behind : (r : Row) {a b : Row} → R r a → S r b → b.at ≤ a.at
  not_behind r {a} {b} x z =
      let s = α.stays a (α.to x) in
      let c = β.goes s.0 (α.from s.1) in
      let e : c.0 ≡ b = together (suc s.0.at) s.0 r a c.0 b (omega arith) s.1 x c.1 z in
      let f : c.0.at ≡ b.at = ap (λ (v : Row). v.at) e in
      omega (arith, (β.like c.1).not_later, s.2)

-- ---- if both have no equal siblings, they are one
module _ {R S : Row → Row → Type 0} {T A B : List Row} (ok : Parented T) (α : Image R T A) (β : Image S T B)
    (rise : Rising A) (rise' : Rising B) (apart : Apart A) (apart' : Apart B) where
  same_at : (r : Row) {a b : Row} → R r a → S r b → a.at ≡ b.at
  same_at r x z = omega (arith, not_behind ok α β rise rise' apart' r x z, not_behind ok β α rise' rise apart r z x)

  pub within : (a : Row) → a ∈ A → a ∈ B
  within a m =
      let s = α.stays a m in
      let b = β.goes s.0 (α.from s.1) in
      Memᴰ.cast (same s.0 b.0 s.1 b.1 s.2 s.3) (β.to b.1)
    where
      same : (r b : Row) → R r a → S r b → r.at ≡ a.at → r.deep ≡ a.deep → a ≡ b
      same r b x z at-is deep_is =
          let e : a.at ≡ b.at = same_at r x z in
          let q = β.stays b (β.to z) in
          let i : q.0 ≡ r = rising_key ok.rise q.0 r (β.from q.1) (α.from x) (record {
            device = sym (β.like q.1).device ∙ (β.like z).device;
            at = q.2 ∙ sym e ∙ sym at-is;
          }) in
          let device_is : a.device ≡ b.device = (α.like x).device ∙ sym (β.like z).device in
          let name_is : a.name ≡ b.name = (α.like x).name ∙ sym (β.like z).name in
          let value_is : a.value ≡ b.value = (α.like x).value ∙ sym (β.like z).value in
          let deeps : a.deep ≡ b.deep = sym deep_is ∙ ap (λ (v : Row). v.deep) (sym i) ∙ q.3 in
          let ups : a.up ≡ b.up = either (root r) roots children in
          λ j. record {
            device = device_is j;
            at = e j;
            up = ups j;
            deep = deeps j;
            name = name_is j;
            value = value_is j;
          }
        where
          roots : root r ≡ true → a.up ≡ b.up
          roots k = eqb-true a.up 0 ((α.like x).roots ∙ k) ∙ sym (eqb-true b.up 0 ((β.like z).roots ∙ k))

          children : root r ≡ false → a.up ≡ b.up
          children k =
              let p = ok.parents r (α.from x) k in
              let v = α.above x p.0 p.1 p.2 in
              let w = β.above z p.0 p.1 p.2 in
              sym (parent_at a v.0 v.2) ∙ same_at p.0 v.1 w.1 ∙ parent_at b w.0 w.2

pub unique : {R S : Row → Row → Type 0} {T A B : List Row} → Parented T → Image R T A → Image S T B
    → Rising A → Rising B → Apart A → Apart B → A ≡ B
unique ok α β rise rise' apart apart' =
    rising_same rise rise' (within ok α β rise rise' apart apart') (within ok β α rise' rise apart' apart)

-- ---- a table that comes of an ordered one, with the depths kept, is ordered
module _ {R : Row → Row → Type 0} {T U : List Row} (ok : Ordered T) (α : Image R T U)
    (depths : (r u : Row) → R r u → u.deep ≡ r.deep) (rise : Rising U) (ranged : (u : Row) → u ∈ U → out_of_range u ≡ false) where
  -- the parent of a row that stays goes into the row's parent
  up_from : (u r : Row) → R r u → r.at ≡ u.at → root u ≡ false
      → (p q : Row) × (p ∈ T) × (is_parent r p ≡ true) × R p q × (is_parent u q ≡ true) × Above q u
  up_from u r x at-is e =
      let p = ok.parented.parents r (α.from x) (sym (α.like x).roots ∙ e) in
      let q = α.above x p.0 p.1 p.2 in (
        p.0,
        q.0,
        p.1,
        p.2,
        q.1,
        q.2,
        inr (parent_device u q.0 q.2, before p.0 p.3 (parent_device r p.0 p.2) (α.like q.1).not_later),
      )
    where
      before : (p : Row) {n : ℕ} → Above p r → p.device ≡ r.device → n ≤ p.at → n < u.at
      before p (inl h) d l = absurd (omega arith)
      before p (inr h) d l = omega (arith, h.1)

  pub image_ordered : Ordered U
  image_ordered = record {
    parented = record {
      ranged = ranged;
      rise = rise;
      parents = λ u m e. let s = α.stays u m in let w = up_from u s.0 s.1 s.2 e in (w.1, α.to w.4, w.5, w.6);
    };
    top = λ u m e. let s = α.stays u m in sym s.3 ∙ ok.top s.0 (α.from s.1) (sym (α.like s.1).roots ∙ e);
    deeper = λ u v m n c. deeper u v m n c;
  }
    where
      deeper : (u v : Row) → u ∈ U → v ∈ U → is_parent u v ≡ true → u.deep ≡ v.deep + 1
      deeper u v m n c =
          let low : 1 ≤ v.at = at_low v (ranged v n) in
          let e : root u ≡ false = either (root u) (λ z. absurd (omega (arith, parent_at u v c, eqb-true u.up 0 z))) (λ z. z) in
          let s = α.stays u m in
          let w = up_from u s.0 s.1 s.2 e in
          let q : w.1 ≡ v = same_parent rise u w.1 v (α.to w.4) n w.5 c in
          sym s.3 ∙ ok.deeper s.0 w.0 (α.from s.1) w.2 w.3 ∙ ap (λ (d : ℕ). d + 1) (sym (depths w.0 w.1 w.4) ∙ ap (λ (z : Row). z.deep) q)
