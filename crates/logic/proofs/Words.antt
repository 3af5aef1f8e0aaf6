-- The words of rows and the rows of words are each other's inverse. Assumes nothing.
use Prim.Native.Nat.{ℕ, zero, suc, ◌*◌, ◌%◌}
use native.Mathlib.Omega.{arith}
use mathlib.Core.Path.{◌≡◌, refl, ap, ◌∙◌}
use mathlib.Core.Bool.{true}
use mathlib.Core.List.{List, [], ◌∷◌}
use lib.ListN.{length}
use borrow.Author.Tests.{eq-eqb}
use Rattle.tables.specs.Words.{whole, row_words, row_count, rows_from, rows}
use Rattle.tables.specs.declared.Row.{Row}
use Rattle.tables.proofs.Whole.{whole_lines}
use Rattle.tables.proofs.RowLists.{rows_append}
use Rattle.logic.specs.Parts.{words_of}

-- ---- whole rows
pub whole_is : (t : List ℕ) → whole row_words t ≡ true → length t ≡ row_words * row_count t
whole_is t e = whole_lines row_words t e

pub is_whole : (t : List ℕ) (n : ℕ) → length t ≡ row_words * n → whole row_words t ≡ true
is_whole t n h = eq-eqb (length t % row_words) 0 (omega arith)

-- ---- rows as words
pub length_words : (D : List Row) → length (words_of D) ≡ row_words * length D
length_words [] = refl
length_words (r ∷ D) = let e : length (words_of D) ≡ row_words * length D = length_words D in omega arith

pub words_whole : (D : List Row) → whole row_words (words_of D) ≡ true
words_whole D = is_whole (words_of D) (length D) (length_words D)

pub rows_words : (D : List Row) → rows (words_of D) ≡ D
unfolding rows_from
rows_words [] = refl
rows_words (r ∷ D) = rows_append (words_of (r ∷ [])) (words_of D) refl ∙ ap (◌∷◌ r) (rows_words D)

from_words : (n : ℕ) (t : List ℕ) → length t ≡ row_words * n → words_of (rows t) ≡ t
unfolding rows_from
from_words n [] h = refl
from_words n (a ∷ []) h = absurd (omega arith)
from_words n (a ∷ b ∷ []) h = absurd (omega arith)
from_words n (a ∷ b ∷ c ∷ []) h = absurd (omega arith)
from_words n (a ∷ b ∷ c ∷ d ∷ []) h = absurd (omega arith)
from_words n (a ∷ b ∷ c ∷ d ∷ e ∷ []) h = absurd (omega arith)
from_words zero (a ∷ b ∷ c ∷ d ∷ e ∷ f ∷ t) h = absurd (omega arith)
from_words (suc n) (a ∷ b ∷ c ∷ d ∷ e ∷ f ∷ t) h =
    ap words_of (rows_append (a ∷ b ∷ c ∷ d ∷ e ∷ f ∷ []) t refl) ∙ ap (λ (ws : List ℕ). a ∷ b ∷ c ∷ d ∷ e ∷ f ∷ ws) (from_words n t (omega arith))

pub words_rows : (t : List ℕ) → whole row_words t ≡ true → words_of (rows t) ≡ t
words_rows t e = from_words (row_count t) t (whole_is t e)
