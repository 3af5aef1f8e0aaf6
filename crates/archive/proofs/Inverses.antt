-- The archive's order and its inverse undo each other. Assumes nothing.
use Rattle.std.proofs.Common.{◌≡◌, ℕ, zero, suc, ◌+◌, ◌*◌, ◌/◌, ◌<◌, ◌≤◌, true, List, length, sym, ap, ◌∙◌, ap₂, mul_comm, arith}
use Rattle.tables.specs.Words.{word_limit, AllWords, word, whole, line_count}
use Rattle.tables.proofs.Whole.{whole_lines}
use Rattle.archive.specs.Archive.{wrapping_sub, wrapping_add, lines_below, archived_word, to_columns, restored_word, from_columns, Inverses}
use Rattle.archive.proofs.Wrapping.{sum_word, add_back, take_back}
use Rattle.archive.proofs.ByPlace.{lines_length, lines_at, lines_same, run_lines}

module _ (k : ℕ) (ws : List ℕ) (ok : whole k ws ≡ true) where
  abbrev n : ℕ
  n = line_count k ws

  pub to_length : length (to_columns k ws) ≡ length ws
  to_length = lines_length (archived_word k ws) n k ∙ mul_comm n k ∙ sym (whole_lines k ws ok)

  pub from_length : length (from_columns k ws) ≡ length ws
  from_length = lines_length (restored_word n ws) k n ∙ sym (whole_lines k ws ok)

  module _ (small : AllWords ws) where
    -- ---- to columns and back
    restored : (i c : ℕ) → i < n → c < k → restored_word n (to_columns k ws) i c ≡ word k ws i c
    unfolding restored_word archived_word
    restored zero c h l = lines_at (archived_word k ws) n k c 0 l h
    restored (suc i) c h l =
        ap₂ wrapping_add (lines_at (archived_word k ws) n k c (suc i) l h) (restored i c (omega arith) l)
        ∙ add_back (small (k * suc i + c)) (small (k * i + c))

    pub table_back : from_columns k (to_columns k ws) ≡ ws
    table_back =
        ap (λ (m : ℕ). lines_below (restored_word m (to_columns k ws)) k m) (ap (λ (l : ℕ). l / k) to_length)
        ∙ lines_same (restored_word n (to_columns k ws)) (word k ws) k n restored
        ∙ run_lines k ws n (whole_lines k ws ok)

    -- ---- from columns and back
    restored_small : (i c : ℕ) → restored_word n ws i c ≤ word_limit
    unfolding restored_word
    restored_small zero c = small (n * c + 0)
    restored_small (suc i) c = sum_word (word n ws c (suc i)) (restored_word n ws i c)

    archived : (c i : ℕ) → c < k → i < n → archived_word k (from_columns k ws) c i ≡ word n ws c i
    unfolding restored_word archived_word
    archived c zero h l = lines_at (restored_word n ws) k n 0 c l h
    archived c (suc i) h l =
        ap₂ wrapping_sub (lines_at (restored_word n ws) k n (suc i) c l h) (lines_at (restored_word n ws) k n i c (omega arith) h)
        ∙ take_back (small (n * c + suc i)) (restored_small i c)

    pub columns_back : to_columns k (from_columns k ws) ≡ ws
    columns_back =
        ap (λ (m : ℕ). lines_below (archived_word k (from_columns k ws)) m k) (ap (λ (l : ℕ). l / k) from_length)
        ∙ lines_same (archived_word k (from_columns k ws)) (word n ws) n k archived
        ∙ run_lines n ws k (whole_lines k ws ok ∙ mul_comm k n)

pub inverses : Inverses
inverses k ws small ok = record { table_back = table_back k ws ok small; columns_back = columns_back k ws ok small }
