-- Foldings, one after another: what they keep, that they come to an end, and that the end is the same in every order. Assumes nothing.
use Prim.Native.Nat.{ℕ, zero, suc, ◌≤◌, ◌<◌}
use mathlib.Core.Path.{◌≡◌, refl, sym, ap, subst, ◌∙◌}
use mathlib.Core.Logic.{inl, inr}
use mathlib.Core.Bool.{Bool, true, false, not, ◌&&◌, true≢false}
use mathlib.Core.List.Memᴰ
use mathlib.Core.List.{List, [], ◌∷◌, map}
use native.Mathlib.Omega.{arith}
use lib.ListN.{length}
use borrow.Author.Tests.{eq-eqb}
use Rattle.base.specs.Lists.{◌∈◌, put, select}
use Rattle.base.proofs.Bools.{either, and_left, and_right, and_both}
use Rattle.base.proofs.Lists.{select_in, select_out, length_select, concat_map_in, concat_map_out}
use Rattle.tables.specs.Tables.{same_row, is_above, is_twin}
use Rattle.tables.specs.declared.Row.{Row}
use Rattle.tables.proofs.OrderedRows.{Above, above_is, is_above_lem, Rising, Ordered}
use Rattle.folding.specs.Folding.{Twins, twins_in, with_up, hung, fold_twins, fold_first, fold_times, folded, Foldings, no_folding, one_more}
use Rattle.folding.proofs.Images.{Apart, Image, Stay, image_same, Through, image_through, unique}
use Rattle.folding.proofs.OneFolding.{Gone, gone_image, left_ordered}

-- ---- the equal siblings of a table
-- the rows that are, with this one, equal siblings of which it is the later one
abbrev earlier_than : Row → Row → Bool
earlier_than later r = is_above later r && is_twin later r

abbrev with_later : List Row → Row → List Twins
with_later T later = map (λ earlier. record { earlier = earlier; later = later }) (select (earlier_than later) T)

pub twins_in_lem : (T : List Row) (r s : Row) → r ∈ T → s ∈ T → Above s r → is_twin r s ≡ true → record { earlier = s; later = r } ∈ twins_in T
unfolding twins_in
twins_in_lem T r s m n a e =
    concat_map_in (with_later T) m
    (Memᴰ.map (λ (z : Row). record { earlier = z; later = r }) (select_in (earlier_than r) n (and_both _ _ (is_above_lem s r a) e)))

pub record AreTwins (T : List Row) (w : Twins) : Type 0 where
  pub earlier_in : w.earlier ∈ T
  pub later_in : w.later ∈ T
  pub before : Above w.earlier w.later
  pub twins : is_twin w.later w.earlier ≡ true

pub twins_out : (T : List Row) (w : Twins) → w ∈ twins_in T → AreTwins T w
unfolding twins_in
twins_out T w m =
    let i = concat_map_out (with_later T) T m in
    let j = Memᴰ.of_map (λ (z : Row). record { earlier = z; later = i.0 }) (select (earlier_than i.0) T) i.2 in
    let s = select_out (earlier_than i.0) T j.1 in
    subst (AreTwins T) j.2 (record {
      earlier_in = s.0;
      later_in = i.1;
      before = above_is j.0 i.0 (and_left (is_above i.0 j.0) _ s.1);
      twins = and_right (is_above i.0 j.0) _ s.1;
    })

pub none_apart : (T : List Row) → twins_in T ≡ [] → Apart T
none_apart T e r s m n a = either (is_twin r s)
    (λ f. absurd (Memᴰ.not-nil (subst (λ (ws : List Twins). record { earlier = s; later = r } ∈ ws) e (twins_in_lem T r s m n a f))))
    (λ f. f)

no_members : {A : Type 0} (xs : List A) → ((x : A) → x ∈ xs → ⊥) → xs ≡ []
no_members [] h = refl
no_members (x ∷ xs) h = absurd (h x (Memᴰ.head refl))

pub apart_none : (T : List Row) → Apart T → twins_in T ≡ []
apart_none T apart = no_members (twins_in T) (λ w m.
    let a = twins_out T w m in true≢false (sym a.twins ∙ apart w.later w.earlier a.later_in a.earlier_in a.before))

-- ---- one device's table in order
pub record Tidy (T : List Row) : Type 0 where
  pub ordered : Ordered T
  pub one_device : (r s : Row) → r ∈ T → s ∈ T → r.device ≡ s.device

module _ {T : List Row} (ok : Tidy T) (w : Twins) (m : w ∈ twins_in T) where
  are : AreTwins T w
  are = twins_out T w m

  same_device : w.earlier.device ≡ w.later.device
  same_device = ok.one_device w.earlier w.later are.earlier_in are.later_in

  lower : w.earlier.at < w.later.at
  lower = go are.before
    where
      go : Above w.earlier w.later → w.earlier.at < w.later.at
      go (inl h) = absurd (omega (arith, same_device))
      go (inr h) = h.1

  pub fold_image : Image (Gone w T) T (fold_twins w T)
  fold_image = gone_image ok.ordered w are.earlier_in are.later_in same_device lower are.twins

  pub fold_tidy : Tidy (fold_twins w T)
  fold_tidy = record {
    ordered = left_ordered ok.ordered w are.earlier_in are.later_in same_device lower are.twins;
    one_device = λ u v i j.
        let r = fold_image.stays u i in
        let s = fold_image.stays v j in
        (fold_image.like r.1).device ∙ ok.one_device r.0 s.0 (fold_image.from r.1) (fold_image.from s.1)
        ∙ sym (fold_image.like s.1).device;
  }

-- ---- foldings in any order
-- what a row goes into by them
unfoldable pub Goes : {T U : List Row} → Foldings T U → Row → Row → Type 0
Goes {T} no_folding = Stay T
Goes (one_more {U = U} {w = w} f m) = Through (Goes f) (Gone w U)

pub record Reached {T U : List Row} (f : Foldings T U) : Type 0 where
  pub tidy : Tidy U
  pub image : Image (Goes f) T U

pub reached : {T : List Row} → Tidy T → {U : List Row} (f : Foldings T U) → Reached f
unfolding Goes
reached {T} ok no_folding = record { tidy = ok; image = image_same T }
reached ok (one_more {w = w} f m) =
    let r = reached ok f in
    record { tidy = fold_tidy r.tidy w m; image = image_through r.image (fold_image r.tidy w m) }

-- ---- as many as there are rows
first_folding : {T U : List Row} → Foldings T U → (ws : List Twins) → ((w : Twins) → w ∈ ws → w ∈ twins_in U) → Foldings T (fold_first ws U)
first_folding f [] h = f
first_folding f (w ∷ ws) h = one_more f (h w (Memᴰ.head refl))

times_foldings : (n : ℕ) {T U : List Row} → Foldings T U → Foldings T (fold_times n U)
unfolding fold_times
times_foldings zero f = f
times_foldings (suc n) {U = U} f = times_foldings n (first_folding f (twins_in U) (λ w m. m))

pub folded_foldings : (T : List Row) → Foldings T (folded T)
unfolding folded
folded_foldings T = times_foldings (length T) no_folding

-- without equal siblings nothing changes
pub times_none : (n : ℕ) (U : List Row) → twins_in U ≡ [] → fold_times n U ≡ U
unfolding fold_times
times_none zero U e = refl
times_none (suc n) U e = rw e (times_none n U e)

-- each folding takes a row away
length-map : (f : Row → Row) (xs : List Row) → length (map f xs) ≡ length xs
length-map f [] = refl
length-map f (x ∷ xs) = ap suc (length-map f xs)

fewer : (p : Row → Bool) {x : Row} {xs : List Row} → x ∈ xs → p x ≡ false → length (select p xs) < length xs
fewer p (Memᴰ.head {x = y} {xs = ys} e) h =
    let f : p y ≡ false = subst (λ (z : Row). p z ≡ false) e h in rw f (omega (arith, length_select p ys))
fewer p (Memᴰ.tail {x = y} {xs = ys} m) h = go (p y) (fewer p m h)
  where
    go : (b : Bool) → length (select p ys) < length ys → length (put b y (select p ys)) < suc (length ys)
    go true l = omega arith
    go false l = omega arith

shorter : (T : List Row) (w : Twins) → w ∈ twins_in T → length (fold_twins w T) < length T
unfolding fold_twins
shorter T w m =
    let keep : Row → Bool = λ r. not (same_row r w.later) in
    let own : same_row w.later w.later ≡ true = and_both _ _ (eq-eqb _ w.later.device refl) (eq-eqb _ w.later.at refl) in
    omega (arith, length-map (hung w) (select keep T), fewer keep (twins_out T w m).later_in (ap not own))

first_shorter : (T : List Row) (ws : List Twins) → ((w : Twins) → w ∈ ws → w ∈ twins_in T) → length (fold_first ws T) ≤ length T
first_shorter T [] h = omega arith
first_shorter T (w ∷ ws) h = omega (arith, shorter T w (h w (Memᴰ.head refl)))

times_shorter : (n : ℕ) (T : List Row) → length (fold_times n T) ≤ length T
unfolding fold_times
times_shorter zero T = omega arith
times_shorter (suc n) T = omega (arith, times_shorter n (fold_first (twins_in T) T), first_shorter T (twins_in T) (λ w m. m))

pub folded_shorter : (T : List Row) → length (folded T) ≤ length T
unfolding folded
folded_shorter T = times_shorter (length T) T

times_enough : (n : ℕ) (T : List Row) → length T ≤ n → twins_in (fold_times n T) ≡ []
unfolding fold_times twins_in
times_enough zero [] l = refl
times_enough zero (x ∷ xs) l = absurd (omega arith)
times_enough (suc n) T l = go (twins_in T) (times_enough n) refl (λ w m. m)
  where
    go : (ws : List Twins) → ((S : List Row) → length S ≤ n → twins_in (fold_times n S) ≡ []) → twins_in T ≡ ws → ((w : Twins) → w ∈ ws → w ∈ twins_in T) → twins_in (fold_times n (fold_first ws T)) ≡ []
    go [] enough e h = ap twins_in (times_none n T e) ∙ e
    go (w ∷ ws) enough e h = enough (fold_twins w T) (omega (arith, shorter T w (h w (Memᴰ.head refl))))

pub folded_none : (T : List Row) → twins_in (folded T) ≡ []
unfolding folded
folded_none T = times_enough (length T) T (omega arith)

-- ---- the end
pub as_it_was : (T : List Row) → Apart T → folded T ≡ T
unfolding folded
as_it_was T apart = times_none (length T) T (apart_none T apart)

module _ {T : List Row} (ok : Tidy T) where
  pub end : Reached (folded_foldings T)
  end = reached ok (folded_foldings T)

  -- no other table without equal siblings comes of it
  pub folded_is : {R : Row → Row → Type 0} {U : List Row} → Image R T U → Rising U → Apart U → U ≡ folded T
  folded_is α rise apart =
      unique ok.ordered.parented α end.image rise end.tidy.ordered.parented.rise apart (none_apart (folded T) (folded_none T))

  pub any_order : (U : List Row) → Foldings T U → twins_in U ≡ [] → U ≡ folded T
  any_order U f e = let r = reached ok f in folded_is r.image r.tidy.ordered.parented.rise (none_apart U e)

  -- a row left keeps all its words but up
  pub words_kept : (r : Row) → r ∈ folded T → (s : Row) × (s ∈ T) × (r ≡ with_up r.up s)
  words_kept r m =
      let α = end.image in
      let s = α.stays r m in
      let l = α.like s.1 in (
        s.0,
        α.from s.1,
        λ j. record {
          device = l.device j;
          at = sym s.2 j;
          up = r.up;
          deep = sym s.3 j;
          name = l.name j;
          value = l.value j;
        },
      )
