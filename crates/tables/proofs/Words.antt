-- Words and rows of two runs, one after the other. Assumes nothing.
use Prim.Native.Nat.{ℕ, ◌+◌, ◌-◌, ◌*◌, ◌/◌, ◌%◌, ◌≤◌, ◌<◌}
use mathlib.Core.Path.{◌≡◌, ap, ◌∙◌}
use mathlib.Core.List.{List, ◌++◌}
use native.Mathlib.Nat.{mul-add}
use native.Mathlib.Omega.{arith}
use lib.ListN.{length, get_or, get_or-append}
use lib.Seq.{get_or-append-add}
use Rattle.tables.specs.Words.{word, row_words, row_at}

pub word_left : (k : ℕ) (s t : List ℕ) (i c : ℕ) → k * i + c < length s → word k (s ++ t) i c ≡ word k s i c
word_left k s t i c h = get_or-append s t 0 (k * i + c) h

pub word_right : (k : ℕ) (s t : List ℕ) (n i c : ℕ) → length s ≡ k * n → word k (s ++ t) (n + i) c ≡ word k t i c
word_right k s t n i c h =
    let d : k * (n + i) ≡ k * n + k * i = mul-add k n i in
    ap (λ (m : ℕ). get_or (s ++ t) m 0) (omega arith) ∙ get_or-append-add s t (k * i + c) 0

pub row_left : (s t : List ℕ) (i : ℕ) → row_words * i + row_words ≤ length s → row_at (s ++ t) i ≡ row_at s i
row_left s t i h = λ j. record {
  device = word_left row_words s t i 0 (omega arith) j;
  at = word_left row_words s t i 1 (omega arith) j;
  up = word_left row_words s t i 2 (omega arith) j;
  deep = word_left row_words s t i 3 (omega arith) j;
  name = word_left row_words s t i 4 (omega arith) j;
  value = word_left row_words s t i 5 (omega arith) j;
}

pub row_right : (s t : List ℕ) (n i : ℕ) → length s ≡ row_words * n → row_at (s ++ t) (n + i) ≡ row_at t i
row_right s t n i h = λ j. record {
  device = word_right row_words s t n i 0 h j;
  at = word_right row_words s t n i 1 h j;
  up = word_right row_words s t n i 2 h j;
  deep = word_right row_words s t n i 3 h j;
  name = word_right row_words s t n i 4 h j;
  value = word_right row_words s t n i 5 h j;
}

-- row i of the joined table, where the first one has fewer rows
pub row_past : (s t : List ℕ) (i : ℕ) → length s % row_words ≡ 0 → length s / row_words ≤ i → row_at (s ++ t) i ≡ row_at t (i - length s / row_words)
row_past s t i e h =
    ap (row_at (s ++ t)) (let z : i ≡ length s / row_words + (i - length s / row_words) = omega arith in z)
    ∙ row_right s t (length s / row_words) (i - length s / row_words) (omega arith)
