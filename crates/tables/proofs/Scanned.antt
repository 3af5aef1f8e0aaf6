-- Rows looked at one after the other: what a search in a part of them says of the whole. Assumes nothing.
use Prim.Native.Nat.{ℕ, ◌+◌, ◌-◌, ◌*◌, ◌/◌, ◌%◌, ◌<◌, ◌≤◌}
use mathlib.Core.Path.{◌≡◌, sym, ap, ◌∙◌}
use mathlib.Core.Bool.{Bool, true, false, ◌&&◌, ◌||◌, true≢false}
use mathlib.Core.List.{List, ◌++◌}
use native.Mathlib.Decide.{dec_lt}
use native.Mathlib.Omega.{arith}
use lib.ListN.{length}
use lib.Dec.{eqb}
use borrow.Author.Tests.{eqb-true, ltb-true}
use Rattle.base.specs.Search.{first, some}
use Rattle.base.proofs.Bools.{either, and_left, and_right, and_both, or_first, or_second}
use Rattle.base.proofs.Search.{at_first, none_at, some_at, some_none, some_same}
use Rattle.tables.specs.Words.{row_words, row_at}
use Rattle.tables.specs.Tables.{root, is_twin}
use Rattle.tables.specs.declared.Row.{Row}
use Rattle.tables.specs.Links.{is_like}
use Rattle.tables.proofs.Words.{row_left, row_past}

pub some_zero : (p : ℕ → Bool) → false ≡ some p 0
some_zero p = sym (some_none p 0 (λ j l. absurd (omega arith)))

pub some_more : (p : ℕ → Bool) (n : ℕ) → (some p n || p n) ≡ some p (n + 1)
some_more p n = either (some p n)
    (λ e. let l : first p n < n = ltb-true _ _ e in or_first (some p n) (p n) e ∙ sym (some_at p (n + 1) (first p n) (omega arith) (at_first p n l)))
    (λ e. either (p n)
    (λ q. or_second (some p n) (p n) q ∙ sym (some_at p (n + 1) n (omega arith) q))
    (λ q. both e q ∙ sym (some_none p (n + 1) (λ j l. elim (dec_lt j n) [
      | yes y ↦ none_at p n j e y
      | no z ↦ let k : j ≡ n = omega arith in ap p k ∙ q
    ]))))
  where
    both : some p n ≡ false → p n ≡ false → (some p n || p n) ≡ false
    both e q = rw (e, q)

pub some_all : (p : ℕ → Bool) (n i : ℕ) (found : Bool) → i ≤ n → found ≡ some p i → n ≤ i → found ≡ some p n
some_all p n i found h e l = let q : i ≡ n = omega arith in e ∙ ap (some p) q

some_left : (p : ℕ → Bool) (m n : ℕ) → m ≤ n → some p m ≡ true → true ≡ some p n
some_left p m n h e = let l : first p m < m = ltb-true _ _ e in sym (some_at p n (first p m) (omega arith) (at_first p m l))

some_right : (p q : ℕ → Bool) (m n : ℕ) → m ≤ n → some p m ≡ false → ((j : ℕ) → j < n - m → q j ≡ p (m + j)) → some q (n - m) ≡ some p n
some_right p q m n h f s = either (some q (n - m))
    (λ e. let l : first q (n - m) < n - m = ltb-true _ _ e in
    e ∙ sym (some_at p n (m + first q (n - m)) (omega arith) (sym (s (first q (n - m)) l) ∙ at_first q (n - m) l)))
    (λ e. e ∙ sym (some_none p n (λ j l. elim (dec_lt j m) [
      | yes y ↦ none_at p m j f y
      | no z ↦ let k : j ≡ m + (j - m) = omega arith in
          let i : j - m < n - m = omega arith in
          ap p k ∙ sym (s (j - m) i) ∙ none_at q (n - m) (j - m) e i
    ])))

-- ---- the rows of s, then those of t
module _ (r : Row) (s t : List ℕ) where
  pub in_first : (n : ℕ) → row_words * n ≤ length s → some (λ j. is_twin r (row_at s j)) n ≡ some (λ j. is_twin r (row_at (s ++ t) j)) n
  in_first n h = some_same (λ j. is_twin r (row_at s j)) (λ j. is_twin r (row_at (s ++ t) j)) n
      (λ j l. ap (is_twin r) (sym (row_left s t j (omega arith))))

  module _ (n m : ℕ) (m_is : m ≡ length s / row_words) (whole : length s % row_words ≡ 0) (more : m ≤ n) where
    pub found_first : some (λ j. is_twin r (row_at s j)) m ≡ true → true ≡ some (λ j. is_twin r (row_at (s ++ t) j)) n
    found_first e = some_left (λ j. is_twin r (row_at (s ++ t) j)) m n more (sym (in_first m (omega arith)) ∙ e)

    pub in_second : some (λ j. is_twin r (row_at s j)) m ≡ false → some (λ j. is_twin r (row_at t j)) (n - m) ≡ some (λ j. is_twin r (row_at (s ++ t) j)) n
    in_second e = some_right (λ j. is_twin r (row_at (s ++ t) j)) (λ j. is_twin r (row_at t j)) m n more (sym (in_first m (omega arith)) ∙ e)
        (λ j l. let q : (m + j) - length s / row_words ≡ j = omega arith in
        ap (is_twin r) (sym (row_past s t (m + j) whole (omega arith) ∙ ap (row_at t) q)))

-- ---- tests that rule a row out
pub not_twin : (r b : Row) → (b.up ≡ r.up → ⊥) → false ≡ is_twin r b
not_twin r b h =
    let a : Bool = eqb b.up r.up in
    let o : Bool = root r || eqb b.device r.device in
    let n : Bool = eqb b.name r.name in
    let v : Bool = eqb b.value r.value in
    either (is_twin r b)
    (λ e. absurd (h (eqb-true _ _ (and_left a o (and_left (a && o) n (and_left ((a && o) && n) v e))))))
    (λ e. sym e)

twin_like : (r b : Row) → is_twin r b ≡ true → is_like r b ≡ true
unfolding is_like
twin_like r b e =
    let a : Bool = eqb b.up r.up in
    let o : Bool = root r || eqb b.device r.device in
    let n : Bool = eqb b.name r.name in
    let v : Bool = eqb b.value r.value in
    and_both n v (and_right (a && o) n (and_left ((a && o) && n) v e)) (and_right ((a && o) && n) v e)

pub none_like : (r : Row) (t : List ℕ) (n : ℕ) → some (λ j. is_like r (row_at t j)) n ≡ false → false ≡ some (λ j. is_twin r (row_at t j)) n
none_like r t n e = sym (some_none (λ j. is_twin r (row_at t j)) n (λ j l. either (is_twin r (row_at t j))
    (λ s. absurd (true≢false (sym (twin_like r (row_at t j) s) ∙ none_at (λ i. is_like r (row_at t i)) n j e l)))
    (λ s. s)))
