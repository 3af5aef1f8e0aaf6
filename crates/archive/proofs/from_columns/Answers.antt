-- `archive::from_columns` meets its contract. Assumes nothing.
use Rattle.std.proofs.Common.{◌≡◌, Err, sym, ap, ◌∙◌, rules}
use Rattle.tables.specs.Answers.{is_done}
use Rattle.tables.specs.Words.{row_words}
use Rattle.archive.specs.Archive.{from_columns}
use Rattle.archive.proofs.Inverses.{from_length}
use Rattle.archive.proofs.Answers.{fits, refused, done}
use Rattle.archive.proofs.from_columns.Goals as goal

pub returns-in_err-words-clause-answer : goal.returns-in_err-words-clause-answer
returns-in_err-words-clause-answer c =
    let e : c.from_residual.result ≡ Err c.in_err-words.field-0.0 = search rules in
    e ∙ (refused (from_columns row_words) (from_length row_words) c.args.columns.now c.args.table.now (sym c.reorder_answer.ensures ∙ c.in_err-words.was)).0

pub returns-in_err-words-clause-words : goal.returns-in_err-words-clause-words
returns-in_err-words-clause-words c = (refused (from_columns row_words) (from_length row_words) c.args.columns.now c.args.table.now (sym c.reorder_answer.ensures ∙ c.in_err-words.was)).1

pub put_rows-requires : goal.put_rows-requires
put_rows-requires c = fits c.args.columns.now _ (ap is_done (sym c.reorder_answer.ensures ∙ c.in_ok-words.was))

pub returns-clause-answer : goal.returns-clause-answer
returns-clause-answer c = (done (from_columns row_words) (from_length row_words) c.args.columns.now c.args.table.now (sym c.reorder_answer.ensures ∙ c.in_ok-words.was) c.put_rows.ensures).0

pub returns-clause-words : goal.returns-clause-words
returns-clause-words c = (done (from_columns row_words) (from_length row_words) c.args.columns.now c.args.table.now (sym c.reorder_answer.ensures ∙ c.in_ok-words.was) c.put_rows.ensures).1
