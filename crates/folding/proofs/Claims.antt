-- What is claimed of every accepted call. Assumes nothing.
use Prim.Native.Nat.{ℕ, ◌≤◌, ◌<◌}
use mathlib.Core.Path.{◌≡◌, sym, ap, subst, ◌∙◌}
use mathlib.Core.Bool.{true}
use mathlib.Core.List.{List}
use native.Mathlib.Omega.{arith}
use lib.ListN.{length}
use lib.Dec.{leb}
use borrow.Author.Tests.{eq-eqb, le-leb}
use Rattle.base.specs.Lists.{◌∈◌}
use Rattle.base.proofs.Bools.{and_both}
use Rattle.tables.specs.Answers.{is_done, value}
use Rattle.tables.specs.Words.{whole, row_words, row_at, row_count, rows, words_of}
use Rattle.tables.specs.Tables.{row_limit, table_length, accepted_table}
use Rattle.tables.specs.declared.Row.{Row}
use Rattle.tables.specs.Answers.{Done}
use Rattle.tables.proofs.Accepted.{ordered, length_ok}
use Rattle.tables.proofs.Ordered.{few_rows}
use Rattle.tables.proofs.Proper.{Proper, rows_proper, proper_accepted}
use Rattle.tables.proofs.RowLists.{length_rows, row_in}
use Rattle.tables.proofs.RowWords.{words_whole, rows_words, words_rows}
use Rattle.tables.proofs.Whole.{table_whole}
use Rattle.folding.specs.Folding.{twins_in, folded, fold_answer, folded_table, FoldsOf}
use Rattle.folding.specs.Passing.{Foldable}
use Rattle.folding.proofs.Foldings as laws
use Rattle.folding.proofs.Foldings.{Tidy, none_apart, folded_none, folded_shorter}
use Rattle.folding.proofs.Ends.{foldable_tidy}
use Rattle.folding.proofs.Answers.{call_done, done_foldable, done_fits, table_is}

-- ---- the rows left, in words
count_words : (T : List Row) → row_count (words_of T) ≡ length T
count_words T = sym (length_rows (words_of T)) ∙ ap length (rows_words T)

module _ (t : List ℕ) (ok : Foldable t) where
  abbrev left : List Row
  left = folded (rows t)

  abbrev words : List ℕ
  words = words_of left

  tidy : Tidy (rows t)
  tidy = foldable_tidy t ok

  short : table_length words ≡ true
  short =
      let few : row_count t ≤ row_limit = few_rows t ok.ordered in
      let n : length (rows t) ≡ row_count t = length_rows t in
      and_both (whole row_words words) (leb (row_count words) row_limit) (words_whole left)
      (le-leb (row_count words) row_limit (omega (arith, count_words left, folded_shorter (rows t))))

  pub left_proper : Proper left
  left_proper = record { order = (laws.end tidy).tidy.ordered; siblings = none_apart left (folded_none (rows t)) }

  pub left_accepted : accepted_table words ≡ true
  left_accepted = proper_accepted words short (subst Proper (sym (rows_words left)) left_proper)

  -- it may be folded again
  again : Foldable words
  again = record {
    ordered = ordered words left_accepted;
    one_device = λ i h. rw (eq-eqb _ _ (same i 0 h (omega arith)));
  }
    where
      own : (i : ℕ) → i < row_count words → row_at words i ∈ left
      own i h = subst (λ (T : List Row). row_at words i ∈ T) (rows_words left) (row_in words i h)

      same : (i j : ℕ) → i < row_count words → j < row_count words → (row_at words i).device ≡ (row_at words j).device
      same i j h l = (laws.end tidy).tidy.one_device (row_at words i) (row_at words j) (own i h) (own j l)

  left_again : folded (rows words) ≡ left
  left_again = ap folded (rows_words left) ∙ laws.as_it_was left left_proper.siblings

-- ---- the claims
pub folds : FoldsOf
folds t out ok =
    let f = done_foldable t (length out) ok in
    let left = folded (rows t) in
    let is : folded_table t out ≡ words_of left = table_is t out ok in
    let answer : fold_answer t (length out) ≡ Done (length left) = call_done t f (length out) (done_fits t (length out) ok) in
    let rows_are : rows (folded_table t out) ≡ left = ap rows is ∙ rows_words left in
    record {
      count = ap value answer ∙ sym (ap row_count is ∙ count_words left);
      none_left = ap twins_in rows_are ∙ folded_none (rows t);
      accepted = ap accepted_table is ∙ left_accepted t f;
      any_order = λ U g e. laws.any_order (foldable_tidy t f) U g e ∙ sym rows_are;
      words_kept = λ r m. laws.words_kept (foldable_tidy t f) r (subst (λ (T : List Row). r ∈ T) rows_are m);
      as_it_was = λ a. is ∙ ap words_of (laws.as_it_was (rows t) (rows_proper t a).siblings) ∙ words_rows t (table_whole t (length_ok t a));
      twice = λ b h. twice b (subst (λ (ws : List ℕ). length ws ≤ length b) is h) is answer f;
    }
  where
    twice : (b : List ℕ) → length (words_of (folded (rows t))) ≤ length b → folded_table t out ≡ words_of (folded (rows t))
        → fold_answer t (length out) ≡ Done (length (folded (rows t))) → (f : Foldable t)
        → (fold_answer (folded_table t out) (length b) ≡ fold_answer t (length out)) × (folded_table (folded_table t out) b ≡ folded_table t out)
    twice b h is answer f =
        let ws = words_of (folded (rows t)) in
        let same : folded (rows ws) ≡ folded (rows t) = left_again t f in
        let done : fold_answer ws (length b) ≡ Done (length (folded (rows ws)))
        = call_done ws (again t f) (length b) (subst (λ (T : List Row). length (words_of T) ≤ length b) (sym same) h) in (
          ap (λ (w : List ℕ). fold_answer w (length b)) is ∙ done ∙ ap (λ (T : List Row). Done (length T)) same ∙ sym answer,
          ap (λ (w : List ℕ). folded_table w b) is ∙ table_is ws b (ap is_done done) ∙ ap words_of same ∙ sym is,
        )
