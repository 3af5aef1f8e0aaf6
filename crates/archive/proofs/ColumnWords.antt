-- The words of both orders, one by one, as the code finds them. Assumes nothing.
use Rattle.std.proofs.Common.{◌≡◌, ℕ, suc, ◌+◌, ◌-◌, ◌*◌, ◌%◌, ◌^◌, ◌<◌, ◌≤◌, List, take, sym, ap, ◌∙◌, ap₂, arith, get_or-take}
use Rattle.tables.specs.Words.{word_limit, word}
use Rattle.archive.specs.Archive.{wrapping_sub, wrapping_add, lines_below, archived_word, restored_word}
use Rattle.archive.proofs.ByPlace.{place_below, lines_at}

-- ---- word i of column c
module _ (k : ℕ) (table : List ℕ) (c i : ℕ) {w : ℕ} (w_is : w ≡ word k table i c) where
  pub first_archived : i ≡ 0 → w ≡ archived_word k table c i
  unfolding archived_word
  first_archived e = w_is ∙ rw e

  -- a is the word above
  pub further_archived : ¬ (i ≡ 0) → {a : ℕ} → a ≡ word k table (i - 1) c → a ≤ word_limit → (w + (2 ^ 32 - a)) % 2 ^ 32 ≡ archived_word k table c i
  unfolding archived_word
  further_archived further {a} a_is a_small =
      let s : suc (i - 1) ≡ i = omega arith in
      let behind : w + (2 ^ 32 - a) ≡ w + 2 ^ 32 - a = omega arith in
      ap (λ (m : ℕ). m % 2 ^ 32) behind
      ∙ ap₂ wrapping_sub (w_is ∙ ap (λ (j : ℕ). word k table j c) (sym s)) a_is
      ∙ ap (archived_word k table c) s

-- ---- word c of row i, where the rows before it are in the table
module _ (k n : ℕ) (columns : List ℕ) (i c : ℕ) {w : ℕ} (w_is : w ≡ word n columns c i) where
  pub first_restored : i ≡ 0 → w ≡ restored_word n columns i c
  unfolding restored_word
  first_restored e = w_is ∙ rw e

  module _ (table : List ℕ) (above : take (k * i) table ≡ take (k * i) (lines_below (restored_word n columns) k n))
      (further : ¬ (i ≡ 0)) (i_row : i < n) (h : c < k) where
    row_above : word k table (i - 1) c ≡ restored_word n columns (i - 1) c
    row_above =
        let l : i - 1 < i = omega arith in
        let rows = lines_below (restored_word n columns) k n in
        let p : k * (i - 1) + c < k * i = place_below l h in
        sym (get_or-take (k * i) table (k * (i - 1) + c) 0 p)
        ∙ ap (λ (xs : List ℕ). word k xs (i - 1) c) above
        ∙ get_or-take (k * i) rows (k * (i - 1) + c) 0 p
        ∙ lines_at (restored_word n columns) k n (i - 1) c (omega arith) h

    pub further_restored : {a r : ℕ} → a ≡ word k table (i - 1) c → r ≡ wrapping_add w a → r ≡ restored_word n columns i c
    unfolding restored_word
    further_restored a_is r_is =
        let s : suc (i - 1) ≡ i = omega arith in
        r_is ∙ ap₂ wrapping_add (w_is ∙ ap (word n columns c) (sym s)) (a_is ∙ row_above) ∙ ap (λ (j : ℕ). restored_word n columns j c) s
