-- A selection of an accepted table that has the parent of each of its rows is accepted, in words. Assumes nothing.
use Prim.Native.Nat.{ℕ, ◌*◌, ◌≤◌}
use native.Mathlib.Omega.{arith}
use mathlib.Core.Path.{◌≡◌, sym, subst}
use mathlib.Core.Bool.{Bool, true}
use mathlib.Core.List.{List, Sublistᴰ}
use lib.ListN.{length}
use lib.Dec.{leb}
use borrow.Author.Tests.{le-leb}
use Rattle.base.specs.Lists.{◌∈◌, select}
use Rattle.base.proofs.Bools.{and_both}
use Rattle.base.proofs.Lists.{length_select}
use Rattle.tables.specs.Words.{whole, row_words, row_count, rows}
use Rattle.tables.specs.Tables.{is_parent, row_limit, accepted_table}
use Rattle.tables.specs.declared.Row.{Row}
use Rattle.tables.proofs.Accepted.{few_rows}
use Rattle.tables.proofs.Proper.{Proper, proper_select, rows_proper, proper_accepted}
use Rattle.tables.proofs.RowLists.{length_rows}
use Rattle.logic.specs.Parts.{words_of}
use Rattle.logic.proofs.Words.{length_words, words_whole, rows_words}
use Rattle.logic.proofs.Members.{member, member_in, in_member, not_in, sub_is_select}

module _ (t : List ℕ) (ok : accepted_table t ≡ true) where
  pub kept_accepted : (keep : Row → Bool) → ((r p : Row) → r ∈ rows t → p ∈ rows t → keep r ≡ true → is_parent r p ≡ true → keep p ≡ true)
      → accepted_table (words_of (select keep (rows t))) ≡ true
  kept_accepted keep closed =
      let S = select keep (rows t) in
      let words : length (words_of S) ≡ row_words * length S = length_words S in
      let few : length S ≤ length (rows t) = length_select keep (rows t) in
      let count : length (rows t) ≡ row_count t = length_rows t in
      let most : row_count t ≤ row_limit = few_rows t ok in
      proper_accepted (words_of S)
      (and_both (whole row_words (words_of S)) (leb (row_count (words_of S)) row_limit) (words_whole S) (le-leb (row_count (words_of S)) row_limit (omega arith)))
      (subst Proper (sym (rows_words S)) (proper_select (rows_proper t ok) keep closed))

  -- the same of a sublist
  pub sub_accepted : (C : List Row) → Sublistᴰ C (rows t) → ((r p : Row) → r ∈ C → p ∈ rows t → is_parent r p ≡ true → p ∈ C) → accepted_table (words_of C) ≡ true
  sub_accepted C s closed =
      subst (λ (l : List Row). accepted_table (words_of l) ≡ true)
      (sym (sub_is_select (member C) s (rows_proper t ok).order.parented.rise (λ r m. member_in C m) (λ r m n. not_in C n)))
      (kept_accepted (member C) (λ r p i j k c. member_in C (closed r p (in_member C k) j c)))
