-- `folding::fold` meets its contract. Assumes nothing.
use Rattle.std.proofs.Common.{List, ◌≡◌, length, rules, arith, Err, sym, ap, ◌∙◌}
use Rattle.std.proofs.lemmas.List.Edits.{sets}
use Rattle.tables.specs.Answers.{is_done}
use Rattle.base.specs.Search.{sum_below}
use Rattle.tables.specs.Words.{words_of, rows as table_rows}
use Rattle.tables.specs.declared.Row.{Row}
use Rattle.tables.proofs.Ordered.{few_rows}
use Rattle.folding.specs.Folding.{folded}
use Rattle.folding.specs.Passing.{intos, is_left}
use Rattle.folding.proofs.Answers.{foldable, foldable_count, refused, stop_17, done}
use Rattle.folding.proofs.Ends.{left_is, left_count, left_words}
use Rattle.folding.proofs.fold.Goals as goal

pub returns-in_err-rows-clause-answer : goal.returns-in_err-rows-clause-answer
returns-in_err-rows-clause-answer c =
    let e : c.from_residual.result ≡ Err c.in_err-rows.field-0.0 = search rules in
    e ∙ (refused c.args.table.now c.args.folded.now (sym c.check_foldable.ensures ∙ c.in_err-rows.was)).0

pub returns-in_err-rows-clause-words : goal.returns-in_err-rows-clause-words
returns-in_err-rows-clause-words c =
    (refused c.args.table.now c.args.folded.now (sym c.check_foldable.ensures ∙ c.in_err-rows.was)).1

pub pass-requires-clause-foldable : goal.pass-requires-clause-foldable
pass-requires-clause-foldable c =
    let passed = sym c.check_foldable.ensures ∙ c.in_ok-rows.was in
    foldable c.args.table.now (ap is_done passed)

pub count_left-left-requires : goal.count_left-left-requires
count_left-left-requires c =
    let passed = sym c.check_foldable.ensures ∙ c.in_ok-rows.was in
    let ok = foldable c.args.table.now (ap is_done passed) in
    let few = few_rows c.args.table.now ok.ordered in
    let rows = foldable_count c.args.table.now passed in
    omega (arith, c.pass.auto.moves)

pub returns-then-folded-left-clause-answer : goal.returns-then-folded-left-clause-answer
returns-then-folded-left-clause-answer c =
    let passed = sym c.check_foldable.ensures ∙ c.in_ok-rows.was in
    let ok = foldable c.args.table.now (ap is_done passed) in
    let rows = foldable_count c.args.table.now passed in
    let left : c.count_left-left.result ≡ length (folded (table_rows c.args.table.now)) = c.count_left-left.ensures.0 ∙ ap (sum_below (is_left (intos c.pass.new.moves))) rows ∙ left_count c.args.table.now _ _ ok c.pass.ensures in
    rw c.of.ensures (stop_17 c.args.table.now c.args.folded.now passed left c.if-folded-left.true).0

pub returns-then-folded-left-clause-words : goal.returns-then-folded-left-clause-words
returns-then-folded-left-clause-words c =
    let passed = sym c.check_foldable.ensures ∙ c.in_ok-rows.was in
    let ok = foldable c.args.table.now (ap is_done passed) in
    let rows = foldable_count c.args.table.now passed in
    let left : c.count_left-left.result ≡ length (folded (table_rows c.args.table.now)) = c.count_left-left.ensures.0 ∙ ap (sum_below (is_left (intos c.pass.new.moves))) rows ∙ left_count c.args.table.now _ _ ok c.pass.ensures in
    (stop_17 c.args.table.now c.args.folded.now passed left c.if-folded-left.true).1

pub put_left-requires-clause-table_in_bounds : goal.put_left-requires-clause-table_in_bounds
put_left-requires-clause-table_in_bounds c =
    let passed = sym c.check_foldable.ensures ∙ c.in_ok-rows.was in
    let ok = foldable c.args.table.now (ap is_done passed) in
    let few = few_rows c.args.table.now ok.ordered in
    omega (arith, c.pass.auto.moves)

pub put_left-requires-clause-room : goal.put_left-requires-clause-room
put_left-requires-clause-room c =
    let passed = sym c.check_foldable.ensures ∙ c.in_ok-rows.was in
    let ok = foldable c.args.table.now (ap is_done passed) in
    let rows = foldable_count c.args.table.now passed in
    let left : c.count_left-left.result ≡ length (folded (table_rows c.args.table.now)) = c.count_left-left.ensures.0 ∙ ap (sum_below (is_left (intos c.pass.new.moves))) rows ∙ left_count c.args.table.now _ _ ok c.pass.ensures in
    omega (arith, left_words c.args.table.now _ _ ok c.pass.ensures, left_count c.args.table.now _ _ ok c.pass.ensures, c.if-folded-left.false)

pub returns-clause-answer : goal.returns-clause-answer
returns-clause-answer c =
    let passed = sym c.check_foldable.ensures ∙ c.in_ok-rows.was in
    let ok = foldable c.args.table.now (ap is_done passed) in
    let rows = foldable_count c.args.table.now passed in
    let left : c.count_left-left.result ≡ length (folded (table_rows c.args.table.now)) = c.count_left-left.ensures.0 ∙ ap (sum_below (is_left (intos c.pass.new.moves))) rows ∙ left_count c.args.table.now _ _ ok c.pass.ensures in
    (done c.args.table.now c.args.folded.now passed left c.if-folded-left.false (c.put_left.ensures ∙ ap (λ (L : List Row). sets c.args.folded.now 0 (words_of L)) (left_is c.args.table.now _ _ ok c.pass.ensures))).0

pub returns-clause-words : goal.returns-clause-words
returns-clause-words c =
    let passed = sym c.check_foldable.ensures ∙ c.in_ok-rows.was in
    let ok = foldable c.args.table.now (ap is_done passed) in
    let rows = foldable_count c.args.table.now passed in
    let left : c.count_left-left.result ≡ length (folded (table_rows c.args.table.now)) = c.count_left-left.ensures.0 ∙ ap (sum_below (is_left (intos c.pass.new.moves))) rows ∙ left_count c.args.table.now _ _ ok c.pass.ensures in
    (done c.args.table.now c.args.folded.now passed left c.if-folded-left.false (c.put_left.ensures ∙ ap (λ (L : List Row). sets c.args.folded.now 0 (words_of L)) (left_is c.args.table.now _ _ ok c.pass.ensures))).1
