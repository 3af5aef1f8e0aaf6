-- A loop that copies a list to a place of another, an element or a run of them at a time: its invariant, kept by each turn. Assumes nothing.
use Prim.Native.Nat.{ℕ, suc, ◌+◌, ◌≤◌, ◌<◌}
use mathlib.Core.Path.{◌≡◌, refl, sym, ap, ap₂, ◌∙◌}
use mathlib.Core.List.{List, [], ◌∷◌, ◌++◌}
use native.Mathlib.Nat.{add-zero}
use native.Mathlib.Numerals.{add-one}
use native.Mathlib.Omega.{arith}
use lib.ListN.{length, get_or, set, take, drop, length-set, length-drop, take-append-drop, drop_of_length-le}
use lib.Seq.{sets, sets-eq, length-sets, length-take-le, take-set-le, take-append-le, drop-cons, drop-drop}

-- ---- runs of stores
pub sets_append : {X : Type 0} (l : List X) (i : ℕ) (a b : List X) → sets l i (a ++ b) ≡ sets (sets l i a) (i + length a) b
sets_append l i [] b = ap (λ (n : ℕ). sets l n b) (sym (add-zero i))
sets_append l i (x ∷ a) b = sets_append (set l i x) (suc i) a b ∙ ap (λ (n : ℕ). sets (sets (set l i x) (suc i) a) n b) (omega arith)

-- what stands before a run of stores stays
pub sets_before : {X : Type 0} (l : List X) (i : ℕ) (vs : List X) (n : ℕ) → n ≤ i → take n (sets l i vs) ≡ take n l
sets_before l i [] n h = refl
sets_before l i (x ∷ vs) n h = sets_before (set l i x) (suc i) vs n (omega arith) ∙ take-set-le n l i x h

-- ---- the loop

module _ {X : Type 0} (h out₀ : List X) (at : ℕ) where
  -- i elements are copied
  pub record Copying (out : List X) (i : ℕ) : Type 0 where
    pub within : i ≤ length h
    pub len : length out ≡ length out₀
    pub rest : sets out₀ at h ≡ sets out (at + i) (drop i h)

  pub copy_begin : Copying out₀ 0
  copy_begin = record { within = omega arith; len = refl; rest = ap (λ (n : ℕ). sets out₀ n h) (omega arith) }

  -- d is what a reading past the end would give
  pub copy_next : (d : X) (out : List X) (i : ℕ) → Copying out i → i < length h → Copying (set out (at + i) (get_or h i d)) (i + 1)
  copy_next d out i t l =
      let e : suc (at + i) ≡ at + (i + 1) = omega arith in
      record {
        within = omega arith;
        len = length-set out (at + i) (get_or h i d) ∙ t.len;
        rest = t.rest
            ∙ ap (sets out (at + i)) (drop-cons h i d l)
            ∙ ap (λ (n : ℕ). sets (set out (at + i) (get_or h i d)) n (drop (suc i) h)) e
            ∙ ap (λ (n : ℕ). sets (set out (at + i) (get_or h i d)) (at + (i + 1)) (drop n h)) (sym (add-one i));
      }

  -- a run of n elements
  pub copy_run : {out out' : List X} {i : ℕ} (n : ℕ) → Copying out i → i + n ≤ length h → out' ≡ sets out (at + i) (take n (drop i h))
      → Copying out' (i + n)
  copy_run {out} {out'} {i} n t l o_is =
      let run = take n (drop i h) in
      let long : length run ≡ n = length-take-le n (drop i h) (omega (arith, length-drop i h)) in
      let next : at + i + length run ≡ at + (i + n) = omega (arith, long) in
      record {
        within = l;
        len = ap length o_is ∙ length-sets out (at + i) run ∙ t.len;
        rest = t.rest
            ∙ ap (sets out (at + i)) (sym (take-append-drop n (drop i h)))
            ∙ sets_append out (at + i) run (drop n (drop i h))
            ∙ ap₂ (λ (o : List X) (m : ℕ). sets o m (drop n (drop i h))) (sym o_is) next
            ∙ ap (sets out' (at + (i + n))) (drop-drop n i h);
      }

  -- what stands before the place stays
  pub copy_before : {out : List X} {i : ℕ} → Copying out i → take at out ≡ take at out₀
  copy_before {out} {i} t =
      sym (sets_before out (at + i) (drop i h) at (omega arith)) ∙ ap (take at) (sym t.rest) ∙ sets_before out₀ at h at (omega arith)

  pub copy_end : (out : List X) (i : ℕ) → Copying out i → length h ≤ i → out ≡ sets out₀ at h
  copy_end out i t l = sym (t.rest ∙ ap (sets out (at + i)) (drop_of_length-le h l))

-- numbers are read with 0 past the end
pub copy_more : (h out₀ : List ℕ) (at : ℕ) (out : List ℕ) (i : ℕ) → Copying h out₀ at out i → i < length h
    → Copying h out₀ at (set out (at + i) (get_or h i 0)) (i + 1)
copy_more h out₀ at = copy_next h out₀ at 0

-- what is copied to the front stands there
pub copied_front : {X : Type 0} (h out₀ : List X) {out : List X} {i : ℕ} → Copying h out₀ 0 out i → length h ≤ length out₀ → take i out ≡ take i h
copied_front h out₀ {out} {i} t room =
    let l : i ≤ length h = t.within in
    let z : 0 + i ≡ i = omega arith in
    sym (sets_before out i (drop i h) i (omega arith))
    ∙ ap (λ (m : ℕ). take i (sets out m (drop i h))) (sym z)
    ∙ ap (take i) (sym t.rest ∙ sets-eq h out₀ 0 (omega arith))
    ∙ take-append-le i h (drop (0 + length h) out₀) l
