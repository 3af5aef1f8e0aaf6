-- One folding: the table stays ordered, and each row goes into itself or, if it is the later one, into the earlier one. Assumes nothing.
use Prim.Native.Nat.{ℕ, ◌≤◌, ◌<◌}
use mathlib.Core.Path.{◌≡◌, refl, sym, ap, subst, ◌∙◌}
use mathlib.Core.Logic.{inl, inr}
use mathlib.Core.Bool.{Bool, true, false, cond, not, true≢false}
use mathlib.Core.List.Memᴰ
use mathlib.Core.List.{List, map}
use native.Mathlib.Omega.{arith}
use lib.Dec.{eqb}
use borrow.Author.Tests.{eqb-true, eq-eqb, ne_eqb, not-true}
use Rattle.base.specs.Lists.{◌∈◌, select}
use Rattle.base.proofs.Bools.{either, and_left, and_right, and_both}
use Rattle.base.proofs.Lists.{select_in, select_out}
use Rattle.tables.specs.Tables.{root, is_parent, same_row, is_twin, out_of_range}
use Rattle.tables.specs.declared.Row.{Row}
use Rattle.tables.proofs.Accepted.{parent_device, parent_at}
use Rattle.tables.proofs.OrderedRows.{Above, Key, Rising, none_rise, more_rise, rising_key, rising_select, Ordered, at_low, up_low}
use Rattle.folding.specs.Folding.{Twins, with_up, hung, fold_twins}
use Rattle.folding.proofs.Images.{Equal, twin_equal, is_parent_lem, Like, Image, image_ordered}

-- rows that keep device and at keep their order
rising_map : (f : Row → Row) → ((r : Row) → (f r).device ≡ r.device) → ((r : Row) → (f r).at ≡ r.at) → {xs : List Row} → Rising xs → Rising (map f xs)
rising_map f d a none_rise = none_rise
rising_map f d a (more_rise {x = x} {xs = xs} l w) = more_rise later (rising_map f d a w)
  where
    moved : (y : Row) → Above x y → Above (f x) (f y)
    moved y (inl h) = inl (omega (arith, d x, d y))
    moved y (inr h) = inr (d x ∙ h.0 ∙ sym (d y), omega (arith, h.1, a x, a y))

    later : (y : Row) → y ∈ map f xs → Above (f x) y
    later y m = let w = Memᴰ.of_map f xs m in subst (Above (f x)) w.2 (moved w.0 (l w.0 w.1))

key_of : (r s : Row) → same_row r s ≡ true → Key r s
key_of r s e = record {
  device = eqb-true _ _ (and_left (eqb r.device s.device) _ e);
  at = eqb-true _ _ (and_right (eqb r.device s.device) _ e);
}

-- what a row goes into
abbrev pub into : Twins → Row → Row
into w r = cond (same_row r w.later) w.earlier (hung w r)

abbrev pub Gone : Twins → List Row → Row → Row → Type 0
Gone w T r u = (r ∈ T) × (u ≡ into w r)

module _ {T : List Row} (ok : Ordered T) (w : Twins) (mx : w.earlier ∈ T) (my : w.later ∈ T)
    (same_device : w.earlier.device ≡ w.later.device) (before : w.earlier.at < w.later.at)
    (twin : is_twin w.later w.earlier ≡ true) where
  abbrev x : Row
  x = w.earlier

  abbrev y : Row
  y = w.later

  equal : Equal y x
  equal = twin_equal y x twin

  low : (r : Row) → r ∈ T → 1 ≤ r.at
  low r m = at_low r (ok.parented.ranged r m)

  -- ---- what stays of a row that hangs anew
  keeps : (f : Row → ℕ) → ((r : Row) → f (with_up x.at r) ≡ f r) → (r : Row) → f (hung w r) ≡ f r
  keeps f h r = go (is_parent r y)
    where
      go : (b : Bool) → f (cond b (with_up x.at r) r) ≡ f r
      go true = h r
      go false = refl

  hung_device : (r : Row) → (hung w r).device ≡ r.device
  hung_device = keeps (λ z. z.device) (λ r. refl)

  hung_at : (r : Row) → (hung w r).at ≡ r.at
  hung_at = keeps (λ z. z.at) (λ r. refl)

  hung_range : (r : Row) → out_of_range (hung w r) ≡ out_of_range r
  hung_range r = go (is_parent r y)
    where
      go : (b : Bool) → out_of_range (cond b (with_up x.at r) r) ≡ out_of_range r
      go true = refl
      go false = refl

  hung_root : (r : Row) → root (hung w r) ≡ root r
  hung_root r = either (is_parent r y)
      (λ e. rw e (no_root x.at (low x mx) ∙ sym (no_root r.up (omega (arith, low y my, parent_at r y e)))))
      (λ e. rw e)
    where
      no_root : (n : ℕ) → 1 ≤ n → eqb n 0 ≡ false
      no_root n h = ne_eqb n 0 (λ z. omega arith)

  -- ---- what a row goes into
  abbrev gone : Row → Row
  gone r = into w r

  gone_later : (r : Row) → same_row r y ≡ true → gone r ≡ x
  gone_later r e = rw e

  gone_other : (r : Row) → same_row r y ≡ false → gone r ≡ hung w r
  gone_other r e = rw e

  is_later : (r : Row) → r ∈ T → same_row r y ≡ true → r ≡ y
  is_later r m e = rising_key ok.parented.rise r y m my (key_of r y e)

  is_other : (r : Row) → (r.at ≡ y.at → ⊥) → same_row r y ≡ false
  is_other r h = either (same_row r y) (λ e. absurd (h (key_of r y e).at)) (λ e. e)

  x_other : same_row x y ≡ false
  x_other = is_other x (λ e. omega arith)

  -- the earlier row is no child of the later one
  x_hung : hung w x ≡ x
  x_hung =
      let e : is_parent x y ≡ false = either (is_parent x y)
      (λ e. absurd (omega (arith, parent_at x y e, up_low ok.parented x mx)))
      (λ e. e) in rw e

  other_in : (r : Row) → r ∈ T → same_row r y ≡ false → hung w r ∈ fold_twins w T
  unfolding fold_twins
  other_in r m e = Memᴰ.map (hung w) (select_in (λ z. not (same_row z y)) m (ap not e))

  gone_in : (r : Row) → r ∈ T → gone r ∈ fold_twins w T
  gone_in r m = either (same_row r y)
      (λ e. Memᴰ.cast (gone_later r e ∙ sym x_hung) (other_in x mx x_other))
      (λ e. Memᴰ.cast (gone_other r e) (other_in r m e))

  gone_like : (r : Row) → r ∈ T → Like r (gone r)
  gone_like r m = either (same_row r y)
      (λ e. subst (Like r) (sym (gone_later r e)) (subst (λ (z : Row). Like z x) (sym (is_later r m e)) (record {
        device = same_device;
        name = equal.name;
        value = equal.value;
        not_later = omega arith;
        roots = ap (λ (u : ℕ). eqb u 0) equal.up;
      })))
      (λ e. subst (Like r) (sym (gone_other r e)) (record {
        device = hung_device r;
        name = keeps (λ z. z.name) (λ z. refl) r;
        value = keeps (λ z. z.value) (λ z. refl) r;
        not_later = omega (arith, hung_at r);
        roots = hung_root r;
      }))

  -- ---- parents
  -- of a row that stays: if it hung under the later row, under the earlier one, else where it hung
  other_above : (r p : Row) → r ∈ T → p ∈ T → is_parent r p ≡ true → is_parent (hung w r) (gone p) ≡ true
  other_above r p m n c = either (same_row p y)
      (λ e. let q : p ≡ y = is_later p n e in
      let d : is_parent r y ≡ true = subst (λ (z : Row). is_parent r z ≡ true) q c in
      subst (λ (z : Row). is_parent z (gone p) ≡ true) (sym (moved d)) (subst (λ (z : Row). is_parent (with_up x.at r) z ≡ true) (sym (gone_later p e))
      (is_parent_lem (with_up x.at r) x (same_device ∙ parent_device r y d) refl)))
      (λ e. let f : is_parent r y ≡ false = either (is_parent r y)
      (λ d. absurd (true≢false (sym (and_both _ _ (eq-eqb p.device y.device (parent_device r p c ∙ sym (parent_device r y d)))
      (eq-eqb p.at y.at (parent_at r p c ∙ sym (parent_at r y d)))) ∙ e)))
      (λ d. d) in
      subst (λ (z : Row). is_parent z (gone p) ≡ true) (sym (stayed f)) (subst (λ (z : Row). is_parent r z ≡ true) (sym (gone_other p e))
      (is_parent_lem r (hung w p) (hung_device p ∙ parent_device r p c) (hung_at p ∙ parent_at r p c))))
    where
      moved : is_parent r y ≡ true → hung w r ≡ with_up x.at r
      moved e = rw e

      stayed : is_parent r y ≡ false → hung w r ≡ r
      stayed e = rw e

  gone_above : (r p : Row) → r ∈ T → p ∈ T → is_parent r p ≡ true → is_parent (gone r) (gone p) ≡ true
  gone_above r p m n c = either (same_row r y)
      (λ e. let q : r ≡ y = is_later r m e in
      let d : is_parent y p ≡ true = subst (λ (z : Row). is_parent z p ≡ true) q c in
      let f : same_row p y ≡ false = is_other p (λ z. omega (arith, parent_at y p d, up_low ok.parented y my)) in
      subst (λ (z : Row). is_parent z (gone p) ≡ true) (sym (gone_later r e)) (subst (λ (z : Row). is_parent x z ≡ true) (sym (gone_other p f))
      (is_parent_lem x (hung w p) (hung_device p ∙ parent_device y p d ∙ sym same_device) (hung_at p ∙ parent_at y p d ∙ sym equal.up))))
      (λ e. subst (λ (z : Row). is_parent z (gone p) ≡ true) (sym (gone_other r e)) (other_above r p m n c))

  -- ---- depths: equal siblings have one
  same_depth : x.deep ≡ y.deep
  same_depth = either (root y)
      (λ e. ok.top x mx (ap (λ (u : ℕ). eqb u 0) equal.up ∙ e) ∙ sym (ok.top y my e))
      (λ e. let p = ok.parented.parents y my e in
      let c : is_parent x p.0 ≡ true = is_parent_lem x p.0 (parent_device y p.0 p.2 ∙ sym same_device) (parent_at y p.0 p.2 ∙ sym equal.up) in
      ok.deeper x p.0 mx p.1 c ∙ sym (ok.deeper y p.0 my p.1 p.2))

  gone_depth : (r : Row) → r ∈ T → (gone r).deep ≡ r.deep
  gone_depth r m = either (same_row r y)
      (λ e. ap (λ (z : Row). z.deep) (gone_later r e) ∙ same_depth ∙ ap (λ (z : Row). z.deep) (sym (is_later r m e)))
      (λ e. ap (λ (z : Row). z.deep) (gone_other r e) ∙ keeps (λ z. z.deep) (λ z. refl) r)

  -- ---- the rows left
  left_out : (u : Row) → u ∈ fold_twins w T → (r : Row) × (r ∈ T) × (same_row r y ≡ false) × (hung w r ≡ u)
  unfolding fold_twins
  left_out u m =
      let i = Memᴰ.of_map (hung w) (select (λ z. not (same_row z y)) T) m in
      let s = select_out (λ z. not (same_row z y)) T i.1 in
      (i.0, s.0, not-true _ s.1, i.2)

  pub gone_image : Image (Gone w T) T (fold_twins w T)
  gone_image = record {
    goes = λ r m. (gone r, (m, refl));
    one = λ a b. a.1 ∙ sym b.1;
    from = λ a. a.0;
    to = λ a. Memᴰ.cast a.1 (gone_in _ a.0);
    like = λ a. subst (Like _) (sym a.1) (gone_like _ a.0);
    above = λ a p n c. (gone p, (n, refl), subst (λ (z : Row). is_parent z (gone p) ≡ true) (sym a.1) (gone_above _ p a.0 n c));
    stays = λ u m.
        let s = left_out u m in (
          s.0,
          (s.1, sym s.3 ∙ sym (gone_other s.0 s.2)),
          sym (hung_at s.0) ∙ ap (λ (z : Row). z.at) s.3,
          sym (keeps (λ z. z.deep) (λ z. refl) s.0) ∙ ap (λ (z : Row). z.deep) s.3,
        );
  }

  pub left_ordered : Ordered (fold_twins w T)
  unfolding fold_twins
  left_ordered = image_ordered ok gone_image (λ r u a. ap (λ (z : Row). z.deep) a.1 ∙ gone_depth r a.0)
      (rising_map (hung w) hung_device hung_at (rising_select (λ z. not (same_row z y)) ok.parented.rise))
      (λ u m. let s = left_out u m in ap out_of_range (sym s.3) ∙ hung_range s.0 ∙ ok.parented.ranged s.0 s.1)
