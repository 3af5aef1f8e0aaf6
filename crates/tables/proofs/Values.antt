-- The signed order is that of the numbers that the words stand for. Assumes nothing.
use Prim.Native.Nat.{ℕ, suc, ◌+◌, ◌-◌, ◌≤◌, ◌<◌}
use mathlib.Core.Path.{◌≡◌, sym, ap, ◌∙◌}
use mathlib.Core.Bool.{Bool, true, false, not}
use native.Mathlib.Omega.{arith}
use lib.Dec.{ltb, leb}
use lib.IntN.{pos, negsuc, neg_ℤ}
use mir.Val.{sel}
use borrow.Author.Tests.{lt-ltb, le-ltb, ltb-true, ltb-false, le-leb, lt-leb}
use Rattle.base.proofs.Bools.{either}
use Rattle.tables.specs.Words.{word_limit}
use Rattle.tables.specs.Values.{value_limit, is_below_zero, stands_for, opposite, WordsStand, SignedOrder, IsSignedOrder}

-- what a word stands for, on each side of zero
stands_below : (w : ℕ) → is_below_zero w ≡ true → stands_for w ≡ negsuc (word_limit - w)
stands_below w e =
    let h : value_limit < w = ltb-true value_limit w e in
    ap (λ (t : Bool). sel t (pos w) (negsuc (4294967296 - suc w))) (le-ltb w 2147483648 (omega arith)) ∙ ap negsuc (omega arith)

stands_from : (w : ℕ) → is_below_zero w ≡ false → stands_for w ≡ pos w
stands_from w e =
    let h : w ≤ value_limit = ltb-false value_limit w e in
    ap (λ (t : Bool). sel t (pos w) (negsuc (4294967296 - suc w))) (lt-ltb w 2147483648 (omega arith))

ltb_swap : (x y : ℕ) → x ≤ word_limit → y ≤ word_limit → ltb x y ≡ ltb (word_limit - y) (word_limit - x)
ltb_swap x y p q = either (ltb x y)
    (λ e. let l : x < y = ltb-true x y e in e ∙ sym (lt-ltb (word_limit - y) (word_limit - x) (omega arith)))
    (λ e. let l : y ≤ x = ltb-false x y e in e ∙ sym (le-ltb (word_limit - y) (word_limit - x) (omega arith)))

not_ltb : (x y : ℕ) → not (ltb y x) ≡ leb x y
not_ltb x y = either (ltb y x)
    (λ e. rw e (sym (lt-leb x y (ltb-true y x e))))
    (λ e. rw e (sym (le-leb x y (ltb-false y x e))))

module _ (x y : ℕ) (p : x ≤ word_limit) (q : y ≤ word_limit) where
  below_zero : is_below_zero x ≡ true → is_below_zero y ≡ true → SignedOrder x y
  below_zero e d = record {
    less = rw (stands_below x e, stands_below y d, e, d) (ltb_swap x y p q);
    at_most = rw (stands_below x e, stands_below y d, e, d) (ap not (ltb_swap y x q p) ∙ not_ltb (word_limit - y) (word_limit - x));
    equal = λ z. below (sym (stands_below x e) ∙ z ∙ stands_below y d);
  }
    where
      below : negsuc (word_limit - x) ≡ negsuc (word_limit - y) → x ≡ y
      below z = let n : word_limit - x ≡ word_limit - y = cc in omega arith

  across : is_below_zero x ≡ true → is_below_zero y ≡ false → SignedOrder x y
  across e d = record {
    less = rw (stands_below x e, stands_from y d, e, d);
    at_most = rw (stands_below x e, stands_from y d, e, d);
    equal = λ z. absurd (apart (sym (stands_below x e) ∙ z ∙ stands_from y d));
  }
    where
      apart : negsuc (word_limit - x) ≡ pos y → ⊥
      apart z = let n : ◌≡◌ {A = ℕ} 0 1 = cc in omega arith

  back_across : is_below_zero x ≡ false → is_below_zero y ≡ true → SignedOrder x y
  back_across e d = record {
    less = rw (stands_from x e, stands_below y d, e, d);
    at_most = rw (stands_from x e, stands_below y d, e, d);
    equal = λ z. absurd (apart (sym (stands_from x e) ∙ z ∙ stands_below y d));
  }
    where
      apart : pos x ≡ negsuc (word_limit - y) → ⊥
      apart z = let n : ◌≡◌ {A = ℕ} 0 1 = cc in omega arith

  from_zero : is_below_zero x ≡ false → is_below_zero y ≡ false → SignedOrder x y
  from_zero e d = record {
    less = rw (stands_from x e, stands_from y d, e, d);
    at_most = rw (stands_from x e, stands_from y d, e, d) (not_ltb x y);
    equal = λ z. same (sym (stands_from x e) ∙ z ∙ stands_from y d);
  }
    where
      same : pos x ≡ pos y → x ≡ y
      same z = cc

  by_sides : SignedOrder x y
  by_sides = either (is_below_zero x)
      (λ e. either (is_below_zero y) (below_zero e) (across e))
      (λ e. either (is_below_zero y) (back_across e) (from_zero e))

pub signed_order : IsSignedOrder
signed_order x y p q = by_sides x y p q

stands_opposite : (w : ℕ) → w ≤ word_limit → is_below_zero w ≡ true → stands_for w ≡ neg_ℤ (pos (opposite w))
stands_opposite w h e =
    let o : opposite w ≡ suc (word_limit - w) = omega arith in
    stands_below w e ∙ sym (ap (λ (m : ℕ). neg_ℤ (pos m)) o)

stands_size : (n : ℕ) → 0 < n → n ≤ value_limit + 1 → stands_for (opposite n) ≡ neg_ℤ (pos n)
stands_size n z h =
    let o : opposite (opposite n) ≡ n = omega arith in
    stands_opposite (opposite n) (omega arith) (lt-ltb value_limit (opposite n) (omega arith)) ∙ ap (λ (m : ℕ). neg_ℤ (pos m)) o

pub words_stand : WordsStand
words_stand = record { from_zero = stands_from; below_zero = stands_opposite; of_size = stands_size }
