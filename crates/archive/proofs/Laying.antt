-- The loops that lay word after word, or line after line: they copy what the words or lines are. Assumes nothing.
use Rattle.std.proofs.Common.{◌≡◌, ℕ, suc, ◌+◌, ◌*◌, ◌<◌, ◌≤◌, List, set, sym, ap, ◌∙◌, subst, ap₂, mul-le-mul_left, mul-zero, mul-suc, add-one, arith}
use lib.Seq.{sets}
use Rattle.base.proofs.Copies.{Copying, copy_begin, copy_more, copy_run, copy_end}
use Rattle.archive.specs.Archive.{words_below, lines_below}
use Rattle.archive.proofs.ByPlace.{words_length, words_at, lines_length, line_at}

-- ---- n words from a place on
module _ (f : ℕ → ℕ) (n : ℕ) (out₀ : List ℕ) (at : ℕ) where
  pub word_laid : {out : List ℕ} {i p x : ℕ} → Copying (words_below f n) out₀ at out i → i < n → p ≡ at + i → x ≡ f i
      → Copying (words_below f n) out₀ at (set out p x) (i + 1)
  word_laid {out} {i} t l p_is x_is =
      subst (λ (o : List ℕ). Copying (words_below f n) out₀ at o (i + 1))
      (ap₂ (set out) (sym p_is) (words_at f n i l ∙ sym x_is))
      (copy_more (words_below f n) out₀ at out i t (omega (arith, words_length f n)))

  pub words_laid : {out : List ℕ} {i : ℕ} → Copying (words_below f n) out₀ at out i → n ≤ i → out ≡ sets out₀ at (words_below f n)
  words_laid {out} {i} t past = copy_end (words_below f n) out₀ at out i t (omega (arith, words_length f n))

-- ---- n lines of k words from the start
module _ (f : ℕ → ℕ → ℕ) (k n : ℕ) (out₀ : List ℕ) where
  -- so many lines are laid
  abbrev pub LinesLaid : List ℕ → ℕ → Type 0
  LinesLaid out i = Copying (lines_below f k n) out₀ 0 out (k * i)

  pub none_laid : LinesLaid out₀ 0
  none_laid = subst (Copying (lines_below f k n) out₀ 0 out₀) (sym (mul-zero k)) (copy_begin (lines_below f k n) out₀ 0)

  pub line_laid : {out out' : List ℕ} {i : ℕ} → LinesLaid out i → i < n → out' ≡ sets out (k * i) (words_below (f i) k) → LinesLaid out' (i + 1)
  line_laid {out} {out'} {i} t l o_is =
      let m : k * suc i ≤ k * n = mul-le-mul_left k l in
      let next : k * i + k ≡ k * (i + 1) = sym (mul-suc k i) ∙ ap (◌*◌ k) (sym (add-one i)) in
      let z : k * i ≡ 0 + k * i = omega arith in
      subst (Copying (lines_below f k n) out₀ 0 out') next
      (copy_run (lines_below f k n) out₀ 0 k t (omega (arith, mul-suc k i, lines_length f k n))
      (o_is ∙ ap₂ (sets out) z (line_at f k n i l)))

  pub lines_laid : {out : List ℕ} {i : ℕ} → LinesLaid out i → n ≤ i → out ≡ sets out₀ 0 (lines_below f k n)
  lines_laid {out} {i} t past =
      let m : k * n ≤ k * i = mul-le-mul_left k past in
      copy_end (lines_below f k n) out₀ 0 out (k * i) t (omega (arith, lines_length f k n))
