-- What a search has found: as an option, and while it goes on. Assumes nothing.
use Prim.Native.Nat.{ℕ, ◌+◌, ◌≤◌, ◌<◌}
use mathlib.Core.Path.{◌≡◌, refl, sym, ap, ◌∙◌}
use mathlib.Core.Bool.{Bool, true, false}
use native.Mathlib.Decide.{dec_lt}
use native.Mathlib.Omega.{arith}
use borrow.Author.Tests.{ltb-true, ltb-false}
use Rattle.std.specs.Prelude.{Option, Some, None, unwrap_or}
use Rattle.std.specs.Option.{option_or}
use Rattle.base.specs.Search.{first_from, first, some, found}
use Rattle.base.proofs.Bools.{either}
use Rattle.base.proofs.Search.{first_le, at_first, none_before, none_at}
use Rattle.base.proofs.Ranges.{first_at, nowhere}

found_or : (p : ℕ → Bool) (n : ℕ) → unwrap_or (found p n) n ≡ first p n
found_or p n = either (some p n)
    (λ e. rw e)
    (λ e. let past : n ≤ first p n = ltb-false _ _ e in let within = first_le p n in rw e (omega arith))

pub first_of : (p : ℕ → Bool) (n : ℕ) (r : Option ℕ) → r ≡ found p n → (x : ℕ) → x ≡ unwrap_or r n → x ≡ first p n
first_of p n r e x x_is = x_is ∙ ap (λ (o : Option ℕ). unwrap_or o n) e ∙ found_or p n

module _ (p : ℕ → Bool) (n : ℕ) where
  pub found_some : (k : ℕ) → found p n ≡ Some k → (k ≡ first p n) × (k < n)
  found_some k e = either (some p n)
      (λ s. let q : Some (first p n) ≡ Some k = (rw s at e) in let z : first p n ≡ k = cc in let l = ltb-true _ _ s in (sym z, omega arith))
      (λ s. let q : None ≡ Some k = (rw s at e) in absurd cc)

  none_found : found p n ≡ None → some p n ≡ false
  none_found e = either (some p n)
      (λ s. let q : Some (first p n) ≡ None = (rw s at e) in absurd cc)
      (λ s. s)

  pub found_none : found p n ≡ None → n ≤ first p n
  found_none e = ltb-false _ _ (none_found e)

-- ---- a search that goes on: i numbers are passed
pub found_begin : (p : ℕ → Bool) → found p 0 ≡ None
unfolding first_from
found_begin p = refl

module _ (p : ℕ → Bool) (i : ℕ) where
  pub found_here : (n : ℕ) → i < n → found p i ≡ None → p i ≡ true → found p n ≡ Some i
  found_here n l e h = first_at p n i l h (λ k m. none_at p i k (none_found p i e) m)

  pub found_not : found p i ≡ None → p i ≡ false → found p (i + 1) ≡ None
  found_not e h = nowhere p (i + 1) (λ j l. elim (dec_lt j i) [
    | yes y ↦ none_at p i j (none_found p i e) y
    | no z ↦ let q : j ≡ i = omega arith in ap p q ∙ h
  ])

  found_still : (k : ℕ) → found p i ≡ Some k → found p (i + 1) ≡ Some k
  found_still k e =
      let f = found_some p i k e in
      let q : k ≡ first p i = f.0 in
      let l : first p i < i = omega (arith, f.1) in
      first_at p (i + 1) k (omega arith) (ap p q ∙ at_first p i l) (λ j m. none_before p i j (omega arith))

  -- where the first is noted
  pub noted_here : (d : Option ℕ) → d ≡ found p i → p i ≡ true → option_or d (Some i) ≡ found p (i + 1)
  noted_here (Some k) e h = sym (found_still k (sym e))
  noted_here None e h = sym (found_here (i + 1) (omega arith) (sym e) h)

  pub noted_not : (d : Option ℕ) → d ≡ found p i → p i ≡ false → d ≡ found p (i + 1)
  noted_not (Some k) e h = sym (found_still k (sym e))
  noted_not None e h = sym (found_not (sym e) h)
