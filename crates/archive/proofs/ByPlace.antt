-- Runs of words by their places: their lengths, their words, and when two are the same. Assumes nothing.
use Rattle.std.proofs.Common.{◌≡◌, ℕ, zero, suc, ◌+◌, ◌*◌, ◌<◌, ◌≤◌, ltb, List, [], ◌∷◌, ◌++◌, length, get_or, take, drop, sym, refl, ap, ◌∙◌, ap₂, mul-le-mul_left, mul-suc, arith, length-append, length-drop, get_or-drop, take-suc, take-add, ltb-false, ltb-true}
use lib.ListN.{get_or-append}
use lib.Seq.{get_or_at, take-length}
use Rattle.base.proofs.Bools.{either}
use Rattle.tables.specs.Words.{word}
use Rattle.tables.proofs.Words.{word_left, word_right}
use Rattle.archive.specs.Archive.{words_below, lines_below}

-- each place of the first n lines of k words is below k * n
pub place_below : {k n i c : ℕ} → i < n → c < k → k * i + c < k * n
place_below {k} {n} {i} h l =
    let m : k * suc i ≤ k * n = mul-le-mul_left k h in
    omega (arith, mul-suc k i)

-- ---- one line
module _ (f : ℕ → ℕ) where
  pub words_length : (n : ℕ) → length (words_below f n) ≡ n
  unfolding words_below
  words_length zero = refl
  words_length (suc n) = length-append (words_below f n) (f n ∷ []) ∙ (let e = words_length n in omega (arith, e))

  pub words_at : (n i : ℕ) → i < n → get_or (words_below f n) i 0 ≡ f i
  unfolding words_below
  words_at zero i h = absurd (omega arith)
  words_at (suc n) i h = either (ltb i n)
      (λ s. let l : i < length (words_below f n) = omega (arith, words_length n, ltb-true i n s) in
      get_or-append (words_below f n) (f n ∷ []) 0 i l ∙ words_at n i (ltb-true i n s))
      (λ s. let e : n ≡ i = omega (arith, ltb-false i n s) in
      get_or_at (words_below f n) (f n) [] 0 i (words_length n ∙ e) ∙ ap f e)

words_same : (f g : ℕ → ℕ) (n : ℕ) → ((i : ℕ) → i < n → f i ≡ g i) → words_below f n ≡ words_below g n
unfolding words_below
words_same f g zero h = refl
words_same f g (suc n) h = ap₂ (λ (xs : List ℕ) (x : ℕ). xs ++ (x ∷ [])) (words_same f g n (λ i l. h i (omega arith))) (h n (omega arith))

-- the words of a list from a place on
words_of : (ws : List ℕ) (at n : ℕ) → at + n ≤ length ws → words_below (λ i. get_or ws (at + i) 0) n ≡ take n (drop at ws)
unfolding words_below
words_of ws at zero h = refl
words_of ws at (suc n) h =
    let l : n < length (drop at ws) = omega (arith, length-drop at ws) in
    ap₂ (λ (xs : List ℕ) (x : ℕ). xs ++ (x ∷ [])) (words_of ws at n (omega arith)) (sym (get_or-drop at ws n 0))
    ∙ sym (take-suc (drop at ws) n 0 l)

-- ---- lines of k words
module _ (f : ℕ → ℕ → ℕ) (k : ℕ) where
  pub lines_length : (n : ℕ) → length (lines_below f k n) ≡ k * n
  unfolding lines_below
  lines_length zero = omega arith
  lines_length (suc n) =
      length-append (lines_below f k n) (words_below (f n) k)
      ∙ (let e = lines_length n in omega (arith, e, words_length (f n) k, mul-suc k n))

  pub lines_at : (n i c : ℕ) → i < n → c < k → word k (lines_below f k n) i c ≡ f i c
  unfolding lines_below
  lines_at zero i c h l = absurd (omega arith)
  lines_at (suc n) i c h l = either (ltb i n)
      (λ s. let b : k * i + c < k * n = place_below (ltb-true i n s) l in
      word_left k (lines_below f k n) (words_below (f n) k) i c (omega (arith, lines_length n)) ∙ lines_at n i c (ltb-true i n s) l)
      (λ s. let e : i ≡ n + 0 = omega (arith, ltb-false i n s) in
      let z : k * 0 + c ≡ c = omega arith in
      ap (λ (j : ℕ). word k (lines_below f k n ++ words_below (f n) k) j c) e
      ∙ word_right k (lines_below f k n) (words_below (f n) k) n 0 c (lines_length n)
      ∙ ap (λ (j : ℕ). get_or (words_below (f n) k) j 0) z
      ∙ words_at (f n) k c l
      ∙ ap (λ (j : ℕ). f j c) (omega (arith, e)))

pub lines_same : (f g : ℕ → ℕ → ℕ) (k n : ℕ) → ((i c : ℕ) → i < n → c < k → f i c ≡ g i c) → lines_below f k n ≡ lines_below g k n
unfolding lines_below
lines_same f g k zero h = refl
lines_same f g k (suc n) h =
    ap₂ (λ (xs ys : List ℕ). xs ++ ys) (lines_same f g k n (λ i c l. h i c (omega arith)))
    (words_same (f n) (g n) k (λ c. h n c (omega arith)))

lines_of : (k : ℕ) (ws : List ℕ) (n : ℕ) → k * n ≤ length ws → lines_below (word k ws) k n ≡ take (k * n) ws
unfolding lines_below
lines_of k ws zero h = let z : k * 0 ≡ 0 = omega arith in rw z
lines_of k ws (suc n) h =
    let m : k * suc n ≡ k * n + k = mul-suc k n in
    ap₂ (λ (xs ys : List ℕ). xs ++ ys) (lines_of k ws n (omega arith)) (words_of ws (k * n) k (omega arith))
    ∙ sym (take-add (k * n) k ws)
    ∙ ap (λ (j : ℕ). take j ws) (sym m)

-- line i of them
pub line_at : (f : ℕ → ℕ → ℕ) (k n i : ℕ) → i < n → words_below (f i) k ≡ take k (drop (k * i) (lines_below f k n))
line_at f k n i h =
    let m : k * suc i ≤ k * n = mul-le-mul_left k h in
    words_same (f i) (λ c. get_or (lines_below f k n) (k * i + c) 0) k (λ c l. sym (lines_at f k n i c h l))
    ∙ words_of (lines_below f k n) (k * i) k (omega (arith, mul-suc k i, lines_length f k n))

-- a run of whole lines is its lines
pub run_lines : (k : ℕ) (ws : List ℕ) (n : ℕ) → length ws ≡ k * n → lines_below (word k ws) k n ≡ ws
run_lines k ws n e = lines_of k ws n (omega (arith, e)) ∙ ap (λ (j : ℕ). take j ws) (sym e) ∙ take-length ws
