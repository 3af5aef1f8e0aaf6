-- The rows left by a pass: which, how many, and their words, row by row. Assumes nothing.
use Prim.Native.Nat.{ℕ, zero, suc, ◌+◌, ◌≤◌, ◌<◌}
use mathlib.Core.Path.{◌≡◌, refl, sym, ap, ap₂, subst, ◌∙◌}
use mathlib.Core.Logic.{⊎_elim}
use mathlib.Core.Bool.{Bool, true, false}
use mathlib.Core.List.Memᴰ
use mathlib.Core.List.{List, [], ◌∷◌, ◌++◌}
use native.Mathlib.Nat.{eq-or-lt_of_le}
use native.Mathlib.Numerals.{add-one}
use native.Mathlib.Omega.{arith}
use lib.ListN.{length, get_or, set, length-append}
use lib.Seq.{sets, length-sets}
use lib.Dec.{eqb}
use borrow.Author.Tests.{eqb-true, eq-eqb}
use Rattle.base.specs.Lists.{◌∈◌, when}
use Rattle.base.specs.Search.{sum_below}
use Rattle.base.proofs.Copies.{sets_append}
use Rattle.base.proofs.Lists.{concat_map_append}
use Rattle.base.proofs.Sums.{sum_grows}
use Rattle.tables.specs.Words.{row_words, row_at, columns_of, words_of}
use Rattle.tables.specs.Rules.{one}
use Rattle.tables.specs.declared.Row.{Row}
use Rattle.tables.proofs.RowWords.{length_words}
use Rattle.folding.specs.Folding.{with_up}
use Rattle.folding.specs.Passing.{intos, moved_at, left_at, left_of, is_left}
use Rattle.folding.specs.declared.passing.Move.{Move}
use Rattle.folding.proofs.Passes.{into_at}

-- ---- one row
pub left_if : (moves : List Move) (i : ℕ) {b c : Bool} → b ≡ eqb (get_or moves i (record { into = 0; up = 0 })).into i → b ≡ c → one c ≡ is_left (intos moves) i
left_if moves i b_is e = ap one (sym e ∙ b_is) ∙ ap (λ (k : ℕ). one (eqb k i)) (into_at moves i)

module _ (t into ups : List ℕ) where
  -- ---- which
  at_in : (j : ℕ) → get_or into j 0 ≡ j → moved_at t ups j ∈ left_at t into ups j
  at_in j e = go (eqb (get_or into j 0) j) (eq-eqb _ j e)
    where
      go : (b : Bool) → b ≡ true → moved_at t ups j ∈ when b (moved_at t ups j ∷ [])
      go b z = rw z (Memᴰ.head refl)

  at_out : (j : ℕ) {u : Row} → u ∈ left_at t into ups j → (get_or into j 0 ≡ j) × (u ≡ moved_at t ups j)
  at_out j {u} m = go (eqb (get_or into j 0) j) refl m
    where
      go : (b : Bool) → eqb (get_or into j 0) j ≡ b → u ∈ when b (moved_at t ups j ∷ []) → (get_or into j 0 ≡ j) × (u ≡ moved_at t ups j)
      go true e k = (eqb-true _ j e, Memᴰ.eq_of_singleton k)
      go false e k = absurd (Memᴰ.not-nil k)

  pub left_in : (n j : ℕ) → j < n → get_or into j 0 ≡ j → moved_at t ups j ∈ left_of t into ups n
  unfolding left_of
  left_in zero j l e = absurd (omega arith)
  left_in (suc n) j l e = ⊎_elim
      (λ q. Memᴰ.append_right (left_of t into ups n) (subst (λ (k : ℕ). moved_at t ups j ∈ left_at t into ups k) q (at_in j e)))
      (λ q. Memᴰ.append_left (left_at t into ups n) (left_in n j q e))
      (eq-or-lt_of_le (below l))
    where
      below : j < suc n → j ≤ n
      below h = omega arith

  pub left_out : (n : ℕ) {u : Row} → u ∈ left_of t into ups n → (j : ℕ) × (j < n) × (get_or into j 0 ≡ j) × (u ≡ moved_at t ups j)
  unfolding left_of
  left_out zero m = absurd (Memᴰ.not-nil m)
  left_out (suc n) m = ⊎_elim
      (λ k. let w = left_out n k in (w.0, omega (arith, w.1), w.2, w.3))
      (λ k. let w = at_out n k in (n, omega arith, w.0, w.1))
      (Memᴰ.append_cases (left_of t into ups n) m)

  -- ---- how many
  at_length : (j : ℕ) → length (left_at t into ups j) ≡ is_left into j
  at_length j = go (eqb (get_or into j 0) j)
    where
      go : (b : Bool) → length (when b (moved_at t ups j ∷ [])) ≡ one b
      go true = refl
      go false = refl

  pub left_length : (n : ℕ) → length (left_of t into ups n) ≡ sum_below (is_left into) n
  unfolding left_of sum_below
  left_length zero = refl
  left_length (suc n) = length-append (left_of t into ups n) (left_at t into ups n) ∙ ap₂ ◌+◌ (left_length n) (at_length n)

  left_grows : (i n : ℕ) → i ≤ n → length (left_of t into ups i) ≤ length (left_of t into ups n)
  left_grows i n h = omega (arith, left_length i, left_length n, sum_grows (is_left into) i n h)

  -- ---- one row's words
  at_none : (j : ℕ) → is_left into j ≡ 0 → left_at t into ups j ≡ []
  at_none j e = go (eqb (get_or into j 0) j) e
    where
      go : (b : Bool) → one b ≡ 0 → when b (moved_at t ups j ∷ []) ≡ []
      go true z = absurd (omega arith)
      go false z = refl

  at_one : (j : ℕ) → (is_left into j ≡ 0 → ⊥) → left_at t into ups j ≡ moved_at t ups j ∷ []
  at_one j h = go (eqb (get_or into j 0) j) h
    where
      go : (b : Bool) → (one b ≡ 0 → ⊥) → when b (moved_at t ups j ∷ []) ≡ moved_at t ups j ∷ []
      go true z = refl
      go false z = absurd (z refl)

  pub put_nothing : (j : ℕ) → is_left into j ≡ 0 → (out : List ℕ) (at : ℕ)
      → (at ≡ at + length (words_of (left_at t into ups j))) × (out ≡ sets out at (words_of (left_at t into ups j)))
  put_nothing j e out at = (
    omega (arith, ap (λ (D : List Row). length (words_of D)) (at_none j e)),
    ap (λ (D : List Row). sets out at (words_of D)) (sym (at_none j e)),
  )

  module _ (j : ℕ) (h : is_left into j ≡ 0 → ⊥) where
    pub row_words_lem : length (words_of (left_at t into ups j)) ≡ row_words
    row_words_lem = ap (λ (D : List Row). length (words_of D)) (at_one j h)

    pub row_written : (out : List ℕ) (at : ℕ) (r : Row) → r ≡ row_at t j
        → set (set (set (set (set (set out at r.device) (at + 1) r.at) (at + 2) (get_or ups j 0)) (at + 3) r.deep) (at + 4) r.name) (at + 5) r.value
        ≡ sets out at (words_of (left_at t into ups j))
    row_written out at r r_is =
        numbers (at + 1) (at + 2) (at + 3) (at + 4) (at + 5) (omega arith) (omega arith) (omega arith) (omega arith) (omega arith)
        ∙ ap (λ (y : Row). sets out at (words_of (with_up (get_or ups j 0) y ∷ []))) r_is
        ∙ ap (λ (D : List Row). sets out at (words_of D)) (sym (at_one j h))
      where
        numbers : (a b c d e : ℕ) → a ≡ suc at → b ≡ suc (suc at) → c ≡ suc (suc (suc at)) → d ≡ suc (suc (suc (suc at)))
            → e ≡ suc (suc (suc (suc (suc at))))
            → set (set (set (set (set (set out at r.device) a r.at) b (get_or ups j 0)) c r.deep) d r.name) e r.value
            ≡ sets out at (words_of (with_up (get_or ups j 0) r ∷ []))
        numbers a b c d e ea eb ec ed ee = rw (ea, eb, ec, ed, ee)

-- ---- the loop over the rows
module _ (t into ups out₀ : List ℕ) (n : ℕ) where
  -- the words of the rows left of the first i are written
  pub record Written (out : List ℕ) (at i : ℕ) : Type 0 where
    pub within : i ≤ n
    pub len : length out ≡ length out₀
    pub end : at ≡ length (words_of (left_of t into ups i))
    pub words : out ≡ sets out₀ 0 (words_of (left_of t into ups i))

  pub write_begin : Written out₀ 0 0
  unfolding left_of
  write_begin = record { within = omega arith; len = refl; end = refl; words = refl }

  module _ {out : List ℕ} {at i : ℕ} (s : Written out at i) (l : i < n) where
    more : words_of (left_of t into ups (i + 1)) ≡ words_of (left_of t into ups i) ++ words_of (left_at t into ups i)
    unfolding left_of
    more = ap (λ (k : ℕ). words_of (left_of t into ups k)) (add-one i) ∙ concat_map_append columns_of (left_of t into ups i) (left_at t into ups i)

    length_more : length (words_of (left_of t into ups (i + 1))) ≡ at + length (words_of (left_at t into ups i))
    length_more =
        ap length more ∙ length-append (words_of (left_of t into ups i)) (words_of (left_at t into ups i))
        ∙ ap (λ (k : ℕ). k + length (words_of (left_at t into ups i))) (sym s.end)

    pub row_room : length (words_of (left_of t into ups n)) ≤ length out₀ → at + length (words_of (left_at t into ups i)) ≤ length out
    row_room room = omega (
      arith,
      length_more,
      s.len,
      length_words (left_of t into ups (i + 1)),
      length_words (left_of t into ups n),
      left_grows t into ups (i + 1) n (omega arith),
    )

    pub write_more : {out' : List ℕ} {at' : ℕ} → out' ≡ sets out at (words_of (left_at t into ups i))
        → at' ≡ at + length (words_of (left_at t into ups i)) → Written out' at' (i + 1)
    write_more {out'} {at'} o_is a_is =
        let w = words_of (left_of t into ups i) in
        let v = words_of (left_at t into ups i) in
        let z : at ≡ 0 + length w = omega (arith, s.end) in
        record {
          within = omega arith;
          len = ap length o_is ∙ length-sets out at v ∙ s.len;
          end = a_is ∙ sym length_more;
          words = o_is ∙ ap₂ (λ (o : List ℕ) (k : ℕ). sets o k v) s.words z ∙ sym (sets_append out₀ 0 w v) ∙ ap (sets out₀ 0) (sym more);
        }

  pub write_end : {out : List ℕ} {at i : ℕ} → Written out at i → n ≤ i → out ≡ sets out₀ 0 (words_of (left_of t into ups n))
  write_end {i = i} s h = let e : i ≡ n = omega (arith, s.within) in s.words ∙ ap (λ (k : ℕ). sets out₀ 0 (words_of (left_of t into ups k))) e
