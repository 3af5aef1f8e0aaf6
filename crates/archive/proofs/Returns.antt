-- Through the calls: what one has written, the other gives back. Assumes nothing.
use Rattle.std.proofs.Common.{◌≡◌, ℕ, true, List, length, ap, ◌∙◌, arith}
use Rattle.tables.specs.Words.{AllWords, whole, row_words}
use Rattle.tables.specs.Answers.{Done}
use Rattle.archive.specs.Archive.{to_columns, from_columns, reordered, GivesBack, ArchiveCalls}
use Rattle.archive.proofs.Inverses.{to_length, from_length, table_back, columns_back}
use Rattle.archive.proofs.Answers.{AsLong, accepted, left, exactly}

-- two orders of as many words, of which one undoes the other
gives_back : (there back : List ℕ → List ℕ) → AsLong there → AsLong back
    → ((ws : List ℕ) → whole row_words ws ≡ true → AllWords ws → back (there ws) ≡ ws) → GivesBack there back
gives_back there back there-long back_long undoes ws first second small ok h₁ h₂ =
    let e : reordered there ws first ≡ there ws = left there there-long ws ok first h₁ in
    let l : length (there ws) ≡ length ws = there-long ws ok in
    let w : whole row_words (there ws) ≡ true = rw l ok in (
      rw e (accepted back back_long (there ws) w (length second) (omega (arith, l)) ∙ ap Done l),
      rw e (left back back_long (there ws) w second (omega (arith, l)) ∙ undoes ws ok small),
    )

pub archive_calls : ArchiveCalls
archive_calls = record {
  to_exactly = exactly (to_columns row_words) (to_length row_words);
  from_exactly = exactly (from_columns row_words) (from_length row_words);
  to_then_from = gives_back (to_columns row_words) (from_columns row_words) (to_length row_words) (from_length row_words) (table_back row_words);
  from_then_to = gives_back (from_columns row_words) (to_columns row_words) (from_length row_words) (to_length row_words) (columns_back row_words);
}
