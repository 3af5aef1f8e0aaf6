-- What a pass over a table leaves is the folded table. Assumes nothing.
use Prim.Native.Nat.{ℕ, zero, suc, ◌*◌, ◌≤◌, ◌<◌}
use mathlib.Core.Path.{◌≡◌, refl, sym, ap, subst, ◌∙◌}
use mathlib.Core.Logic.{inl, inr, ⊎_elim}
use mathlib.Core.Bool.{Bool, true, false}
use mathlib.Core.List.Memᴰ
use mathlib.Core.List.{List, [], ◌∷◌, ◌++◌, append-nil}
use native.Mathlib.Decide.{dec_lt}
use native.Mathlib.Omega.{arith}
use lib.ListN.{length, get_or}
use lib.Dec.{eqb}
use borrow.Author.Tests.{eq-eqb, ne_eqb}
use Rattle.base.specs.Lists.{◌∈◌, when}
use Rattle.base.specs.Search.{first, sum_below}
use Rattle.base.proofs.Bools.{either}
use Rattle.base.proofs.Search.{none_before, at_first}
use Rattle.tables.specs.Words.{row_words, row_at, row_count, rows, words_of}
use Rattle.tables.specs.Tables.{root, is_parent, is_twin}
use Rattle.tables.specs.declared.Row.{Row}
use Rattle.tables.proofs.Ordered.{at_range, has_parent, behind}
use Rattle.tables.proofs.OrderedRows.{Above, Rising, none_rise, more_rise, rows_ordered}
use Rattle.tables.proofs.RowLists.{row_in, row_out}
use Rattle.tables.proofs.RowWords.{length_words}
use Rattle.folding.specs.Folding.{folded}
use Rattle.folding.specs.Passing.{Foldable, moved_at, Passing, left_of, is_left}
use Rattle.folding.proofs.Images.{Equal, twin_equal, is_parent_lem, Apart, Like, Image}
use Rattle.folding.proofs.Foldings.{Tidy, folded_is}
use Rattle.folding.proofs.ParentSearch.{in_place, same_device, rise, rise_le}
use Rattle.folding.proofs.Passes.{first_none, twins_of, backward}
use Rattle.folding.proofs.Left.{left_in, left_out, left_length}

-- ---- the rows of a table that the tests let pass
pub foldable_tidy : (t : List ℕ) → Foldable t → Tidy (rows t)
foldable_tidy t ok = record {
  ordered = rows_ordered t ok.ordered;
  one_device = λ r s m n. same r s (row_out t m) (row_out t n);
}
  where
    same : (r s : Row) → (j : ℕ) × (j < row_count t) × (r ≡ row_at t j) → (j : ℕ) × (j < row_count t) × (s ≡ row_at t j) → r.device ≡ s.device
    same r s i j =
        ap (λ (z : Row). z.device) i.2 ∙ same_device t ok i.0 j.0 i.1 j.1 ∙ ap (λ (z : Row). z.device) (sym j.2)

-- ---- a pass that is done
module _ (t into ups : List ℕ) (ok : Foldable t) (s : Passing t into ups (row_count t)) where
  abbrev n : ℕ
  n = row_count t

  abbrev goes : ℕ → ℕ
  goes j = get_or into j 0

  abbrev row : ℕ → Row
  row j = moved_at t ups j

  not_later : (j : ℕ) → j < n → goes j ≤ j
  not_later j h = (backward s).not_later j h

  -- a row and the one that it goes into: equal siblings, or one row
  equal : (j : ℕ) → j < n → Equal (row j) (row (goes j))
  equal j h = elim (dec_lt (goes j) j) [
    | yes y ↦
        let p : ℕ → Bool = λ k. is_twin (row j) (row k) in
        let e : goes j ≡ first p j = s.into_are j h in
        twin_equal (row j) (row (goes j)) (ap p e ∙ at_first p j (omega arith))
    | no z ↦
        let e : j ≡ goes j = omega (arith, not_later j h) in
        subst (λ (k : ℕ). Equal (row j) (row k)) e (record { up = refl; name = refl; value = refl })
  ]

  -- which goes into itself
  stays : (j : ℕ) → j < n → goes (goes j) ≡ goes j
  stays j h =
      let p : ℕ → Bool = λ k. is_twin (row j) (row k) in
      let l : goes j < n = omega (arith, not_later j h) in
      s.into_are (goes j) l
      ∙ first_none _ (goes j) (λ k m.
      twins_of (row j) (row (goes j)) (row k) (same_device t ok j (goes j) h l) (equal j h) ∙ none_before p j k (omega (arith, s.into_are j h)))

  -- ---- each row goes into a row left
  abbrev Gone : Row → Row → Type 0
  Gone r u = (j : ℕ) × (j < n) × (r ≡ row_at t j) × (u ≡ row (goes j))

  up_root : (j : ℕ) → j < n → root (row j) ≡ root (row_at t j)
  up_root j h = either (root (row_at t j))
      (λ e. eq-eqb _ 0 ((s.ups_are j h).at_root e) ∙ sym e)
      (λ e. let w = has_parent t (in_place t ok) j h e in
      let l : goes w.0 < n = omega (arith, w.1, not_later w.0 (omega (arith, w.1))) in
      let low : 1 ≤ (row_at t (goes w.0)).at = (at_range t (in_place t ok) (goes w.0) l).0 in
      let u : get_or ups j 0 ≡ (row_at t (goes w.0)).at = (s.ups_are j h).below w.0 w.1 w.2 in
      ne_eqb (get_or ups j 0) 0 (λ z. omega arith) ∙ sym e)

  like : (j : ℕ) → j < n → Like (row_at t j) (row (goes j))
  like j h =
      let l : goes j < n = omega (arith, not_later j h) in
      record {
        device = same_device t ok (goes j) j l h;
        name = (equal j h).name;
        value = (equal j h).value;
        not_later = rise_le t ok (goes j) j (not_later j h) h;
        roots = ap (λ (u : ℕ). eqb u 0) (equal j h).up ∙ up_root j h;
      }

  above : (j k : ℕ) → j < n → k < n → is_parent (row_at t j) (row_at t k) ≡ true → is_parent (row (goes j)) (row (goes k)) ≡ true
  above j k h m c =
      let l : goes j < n = omega (arith, not_later j h) in
      let q : goes k < n = omega (arith, not_later k m) in
      is_parent_lem (row (goes j)) (row (goes k)) (same_device t ok (goes k) (goes j) q l)
      (sym ((equal j h).up ∙ (s.ups_are j h).below k (behind t (in_place t ok) k j m h c) c))

  same_place : (i j : ℕ) → i < n → j < n → row_at t i ≡ row_at t j → i ≡ j
  same_place i j h l e = elim (dec_lt i j) [
    | yes y ↦ absurd (omega (arith, rise t ok i j y l, ap (λ (z : Row). z.at) e))
    | no a ↦ elim (dec_lt j i) [
      | yes y ↦ absurd (omega (arith, rise t ok j i y h, ap (λ (z : Row). z.at) e))
      | no b ↦ omega arith
    ]
  ]

  image : Image Gone (rows t) (left_of t into ups n)
  image = record {
    goes = λ r m. let w = row_out t m in (row (goes w.0), (w.0, w.1, w.2, refl));
    one = λ a b. a.3 ∙ ap (λ (k : ℕ). row (goes k)) (same_place a.0 b.0 a.1 b.1 (sym a.2 ∙ b.2)) ∙ sym b.3;
    from = λ a. Memᴰ.cast a.2 (row_in t a.0 a.1);
    to = λ a. Memᴰ.cast a.3 (left_in t into ups n (goes a.0) (omega (arith, a.1, not_later a.0 a.1)) (stays a.0 a.1));
    like = λ a. subst (Like _) (sym a.3) (subst (λ (z : Row). Like z (row (goes a.0))) (sym a.2) (like a.0 a.1));
    above = λ a p m c. gone_above a p m c;
    stays = λ u m.
        let w = left_out t into ups n m in
        (row_at t w.0, (w.0, w.1, refl, w.3 ∙ ap row (sym w.2)), ap (λ (z : Row). z.at) (sym w.3), ap (λ (z : Row). z.deep) (sym w.3));
  }
    where
      gone_above : {r u : Row} → Gone r u → (p : Row) → p ∈ rows t → is_parent r p ≡ true → (w : Row) × Gone p w × (is_parent u w ≡ true)
      gone_above {r} a p m c =
          let w = row_out t m in
          let d : is_parent (row_at t a.0) (row_at t w.0) ≡ true
          = subst (λ (z : Row). is_parent z (row_at t w.0) ≡ true) a.2 (subst (λ (z : Row). is_parent r z ≡ true) w.2 c) in (
            row (goes w.0),
            (w.0, w.1, w.2, refl),
            subst (λ (z : Row). is_parent z (row (goes w.0)) ≡ true) (sym a.3) (above a.0 w.0 a.1 w.1 d),
          )

  -- ---- they rise, and have no equal siblings
  rising_more : {xs : List Row} (y : Row) → Rising xs → ((x : Row) → x ∈ xs → Above x y) → Rising (xs ++ y ∷ [])
  rising_more y none_rise h = more_rise {xs = []} (λ z m. absurd (Memᴰ.not-nil m)) none_rise
  rising_more y (more_rise {x = x} {xs = xs} l w) h = more_rise later (rising_more y w (λ z m. h z (tail m)))
    where
      tail : {z : Row} → z ∈ xs → z ∈ (x ∷ xs)
      tail m = Memᴰ.tail m

      later : (z : Row) → z ∈ (xs ++ y ∷ []) → Above x z
      later z m = ⊎_elim (λ k. l z k) (λ k. subst (Above x) (sym (Memᴰ.eq_of_singleton k)) (h x (Memᴰ.head refl))) (Memᴰ.append_cases xs m)

  row_above : (j k : ℕ) → j < k → k < n → Above (row j) (row k)
  row_above j k l h = inr (same_device t ok j k (omega arith) h, rise t ok j k l h)

  left_rise : (k : ℕ) → k ≤ n → Rising (left_of t into ups k)
  unfolding left_of
  left_rise zero h = none_rise
  left_rise (suc k) h = go (eqb (goes k) k) (left_rise k (omega arith))
    where
      go : (b : Bool) → Rising (left_of t into ups k) → Rising (left_of t into ups k ++ when b (row k ∷ []))
      go true w = rising_more (row k) w (λ x m. let v = left_out t into ups k m in subst (λ (z : Row). Above z (row k)) (sym v.3) (row_above v.0 k v.1 (omega arith)))
      go false w = subst Rising (sym (append-nil (left_of t into ups k))) w

  apart : Apart (left_of t into ups n)
  apart r u m k a =
      let v = left_out t into ups n m in
      let w = left_out t into ups n k in
      let b : Above (row w.0) (row v.0) = subst (λ (z : Row). Above z (row v.0)) w.3 (subst (Above u) v.3 a) in
      subst (λ (z : Row). is_twin z u ≡ false) (sym v.3) (subst (λ (z : Row). is_twin (row v.0) z ≡ false) (sym w.3)
      (none_before (λ j. is_twin (row v.0) (row j)) v.0 w.0
      (omega (arith, sym (s.into_are v.0 v.1) ∙ v.2, before w.0 v.0 w.1 v.1 b))))
    where
      before : (j k : ℕ) → j < n → k < n → Above (row j) (row k) → j < k
      before j k h l a = elim (dec_lt j k) [
        | yes y ↦ y
        | no z ↦ absurd (never a (rise_le t ok k j (omega arith) h) (same_device t ok j k h l))
      ]
        where
          never : Above (row j) (row k) → (row_at t k).at ≤ (row_at t j).at → (row_at t j).device ≡ (row_at t k).device → ⊥
          never (inl q) e d = omega arith
          never (inr q) e d = omega (arith, q.1)

  pub left_is : left_of t into ups (row_count t) ≡ folded (rows t)
  left_is = folded_is (foldable_tidy t ok) image (left_rise n (omega arith)) apart

  -- how many, and the words that they take
  pub left_count : sum_below (is_left into) (row_count t) ≡ length (folded (rows t))
  left_count = sym (left_length t into ups n) ∙ ap length left_is

  pub left_words : length (words_of (left_of t into ups (row_count t))) ≡ row_words * sum_below (is_left into) (row_count t)
  left_words = length_words (left_of t into ups n) ∙ ap (◌*◌ row_words) (left_length t into ups n)
