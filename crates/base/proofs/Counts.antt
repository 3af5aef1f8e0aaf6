-- A loop that counts the elements that pass a test: its invariant, kept by each turn. Assumes nothing.
use Prim.Native.Nat.{ℕ, ◌+◌, ◌≤◌, ◌<◌}
use mathlib.Core.Path.{◌≡◌, ap, ◌∙◌}
use mathlib.Core.Bool.{Bool, true, false}
use mathlib.Core.List.{List, [], ◌∷◌}
use native.Mathlib.Numerals.{add-one}
use native.Mathlib.Omega.{arith}
use lib.ListN.{length, get_or, drop, drop_of_length-le}
use lib.Seq.{drop-cons}
use Rattle.base.specs.Lists.{put, select}

-- i elements are passed, and n of them counted
pub record Counted (p : ℕ → Bool) (xs : List ℕ) (n i : ℕ) : Type 0 where
  pub within : i ≤ length xs
  pub few : n ≤ i
  pub rest : length (select p xs) ≡ n + length (select p (drop i xs))

module _ (p : ℕ → Bool) (xs : List ℕ) where
  pub count_begin : Counted p xs 0 0
  count_begin = record { within = omega arith; few = omega arith; rest = omega arith }

  split : (i : ℕ) → i < length xs → select p (drop i xs) ≡ put (p (get_or xs i 0)) (get_or xs i 0) (select p (drop (i + 1) xs))
  split i h = rw (add-one, drop-cons xs i 0 h)

  pub count_hit : (n i : ℕ) → Counted p xs n i → i < length xs → p (get_or xs i 0) ≡ true → Counted p xs (n + 1) (i + 1)
  count_hit n i s h e =
      let z : select p (drop i xs) ≡ get_or xs i 0 ∷ select p (drop (i + 1) xs) =
      split i h ∙ ap (λ (b : Bool). put b (get_or xs i 0) (select p (drop (i + 1) xs))) e in
      record { within = omega arith; few = omega (arith, s.few); rest = omega (arith, s.rest, ap length z) }

  pub count_miss : (n i : ℕ) → Counted p xs n i → i < length xs → p (get_or xs i 0) ≡ false → Counted p xs n (i + 1)
  count_miss n i s h e =
      let z : select p (drop i xs) ≡ select p (drop (i + 1) xs) =
      split i h ∙ ap (λ (b : Bool). put b (get_or xs i 0) (select p (drop (i + 1) xs))) e in
      record { within = omega arith; few = omega (arith, s.few); rest = omega (arith, s.rest, ap length z) }

  pub count_end : (n i : ℕ) → Counted p xs n i → length xs ≤ i → n ≡ length (select p xs)
  count_end n i s h =
      let z : drop i xs ≡ [] = drop_of_length-le xs h in
      omega (arith, s.rest, ap (λ (l : List ℕ). length (select p l)) z)
