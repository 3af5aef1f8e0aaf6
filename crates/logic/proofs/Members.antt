-- A sublist of rising rows is the selection of the rows that are members of it. Assumes nothing.
use Prim.Native.Nat.{ℕ}
use mathlib.Core.Path.{◌≡◌, refl, sym, ap₂, subst, ◌∙◌}
use mathlib.Core.Bool.{Bool, true, false, ◌&&◌, true≢false}
use mathlib.Core.List.Memᴰ
use mathlib.Core.List.{List, ◌∷◌, Sublistᴰ}
use lib.Dec.{eqb}
use borrow.Author.Tests.{eqb-true, eq-eqb}
use Rattle.base.specs.Lists.{◌∈◌, select, any}
use Rattle.base.proofs.Bools.{either, and_left, and_right}
use Rattle.base.proofs.Lists.{any_at, any_hit, sub_in}
use Rattle.tables.specs.declared.Row.{Row}
use Rattle.tables.proofs.Proper.{Above, above_key, Rising, more_rise}

-- ---- a test for membership: all words agree
abbrev same : Row → Row → Bool
same r s =
    eqb r.device s.device
    && (eqb r.at s.at && (eqb r.up s.up && (eqb r.deep s.deep && (eqb r.name s.name && eqb r.value s.value))))

same_is : (r s : Row) → same r s ≡ true → r ≡ s
same_is r s e =
    let d = and_left (eqb r.device s.device) _ e in
    let e₁ = and_right (eqb r.device s.device) _ e in
    let a = and_left (eqb r.at s.at) _ e₁ in
    let e₂ = and_right (eqb r.at s.at) _ e₁ in
    let u = and_left (eqb r.up s.up) _ e₂ in
    let e₃ = and_right (eqb r.up s.up) _ e₂ in
    let p = and_left (eqb r.deep s.deep) _ e₃ in
    let e₄ = and_right (eqb r.deep s.deep) _ e₃ in
    let n = and_left (eqb r.name s.name) _ e₄ in
    let v = and_right (eqb r.name s.name) _ e₄ in
    λ i. record {
      device = eqb-true r.device s.device d i;
      at = eqb-true r.at s.at a i;
      up = eqb-true r.up s.up u i;
      deep = eqb-true r.deep s.deep p i;
      name = eqb-true r.name s.name n i;
      value = eqb-true r.value s.value v i;
    }

same_refl : (r : Row) → same r r ≡ true
same_refl r =
    let own : (x : ℕ) → eqb x x ≡ true = λ x. eq-eqb x x refl in
    simp (own r.device, own r.at, own r.up, own r.deep, own r.name, own r.value)

unfoldable pub member : List Row → Row → Bool
member C r = any (same r) C

pub member_in : (C : List Row) {r : Row} → r ∈ C → member C r ≡ true
unfolding member
member_in C {r} m = any_hit (same r) m (same_refl r)

pub in_member : (C : List Row) {r : Row} → member C r ≡ true → r ∈ C
unfolding member
in_member C {r} e = let w = any_at (same r) C e in Memᴰ.cast (same_is r w.0 w.2) w.1

pub not_member : (C : List Row) {r : Row} → member C r ≡ false → ¬ (r ∈ C)
not_member C e m = true≢false (sym (member_in C m) ∙ e)

pub not_in : (C : List Row) {r : Row} → ¬ (r ∈ C) → member C r ≡ false
not_in C {r} h = either (member C r) (λ e. absurd (h (in_member C e))) (λ e. e)

-- ---- sublists of rising rows
not_later : {x : Row} {xs : List Row} → ((y : Row) → y ∈ xs → Above x y) → ¬ (x ∈ xs)
not_later {x} h m = above_key x x (h x m) (record { device = refl; at = refl })

-- by any test that knows the sublist's rows
pub sub_is_select : (keep : Row → Bool) {C D : List Row} → Sublistᴰ C D → Rising D
    → ((r : Row) → r ∈ C → keep r ≡ true) → ((r : Row) → r ∈ D → ¬ (r ∈ C) → keep r ≡ false) → C ≡ select keep D
sub_is_select keep Sublistᴰ.slnil w h k = refl
sub_is_select keep (Sublistᴰ.cons-cons {a = x} {b = y} {l₁ = xs} {l₂ = ys} e s) (more_rise l w) h k =
    rw (subst (λ (z : Row). keep z ≡ true) e (h x (Memᴰ.head refl))) (ap₂ ◌∷◌ e (sub_is_select keep s w (λ r m. h r (Memᴰ.tail m)) (λ r m n. k r (Memᴰ.tail m) (miss r m n))))
  where
    miss : (r : Row) → r ∈ ys → ¬ (r ∈ xs) → ¬ (r ∈ (x ∷ xs))
    miss r m n (Memᴰ.head q) = not_later l (Memᴰ.cast (sym (q ∙ e)) m)
    miss r m n (Memᴰ.tail i) = n i
sub_is_select keep (Sublistᴰ.cons {a = x} s) (more_rise l w) h k =
    rw (k x (Memᴰ.head refl) (λ m. not_later l (sub_in s m))) (sub_is_select keep s w h (λ r m n. k r (Memᴰ.tail m) n))
