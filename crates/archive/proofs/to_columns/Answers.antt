-- `archive::to_columns` meets its contract. Assumes nothing.
use Rattle.std.proofs.Common.{◌≡◌, Err, sym, ap, ◌∙◌, rules}
use Rattle.tables.specs.Answers.{is_done}
use Rattle.tables.specs.Words.{row_words}
use Rattle.archive.specs.Archive.{to_columns}
use Rattle.archive.proofs.Inverses.{to_length}
use Rattle.archive.proofs.Answers.{fits, refused, done}
use Rattle.archive.proofs.to_columns.Goals as goal

pub returns-in_err-words-clause-answer : goal.returns-in_err-words-clause-answer
returns-in_err-words-clause-answer c =
    let e : c.from_residual.result ≡ Err c.in_err-words.field-0.0 = search rules in
    e ∙ (refused (to_columns row_words) (to_length row_words) c.args.table.now c.args.columns.now (sym c.reorder_answer.ensures ∙ c.in_err-words.was)).0

pub returns-in_err-words-clause-words : goal.returns-in_err-words-clause-words
returns-in_err-words-clause-words c = (refused (to_columns row_words) (to_length row_words) c.args.table.now c.args.columns.now (sym c.reorder_answer.ensures ∙ c.in_err-words.was)).1

pub put_columns-requires : goal.put_columns-requires
put_columns-requires c = fits c.args.table.now _ (ap is_done (sym c.reorder_answer.ensures ∙ c.in_ok-words.was))

pub returns-clause-answer : goal.returns-clause-answer
returns-clause-answer c = (done (to_columns row_words) (to_length row_words) c.args.table.now c.args.columns.now (sym c.reorder_answer.ensures ∙ c.in_ok-words.was) c.put_columns.ensures).0

pub returns-clause-words : goal.returns-clause-words
returns-clause-words c = (done (to_columns row_words) (to_length row_words) c.args.table.now c.args.columns.now (sym c.reorder_answer.ensures ∙ c.in_ok-words.was) c.put_columns.ensures).1
