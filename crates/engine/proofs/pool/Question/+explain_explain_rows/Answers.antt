-- `engine::pool::Question::explain` and `engine::pool::Question::explain_rows`, which call each other, meet their contracts. Assumes nothing.
use mathlib.Core.Path.{refl, sym, ap, ◌∙◌}
use mathlib.Core.Bool.{beq}
use native.Mathlib.Omega.{arith}
use lib.ListN.{length-set}
use borrow.Author.Tests.{not-true, not-false}
use Rattle.tables.specs.Words.{entry_count, row_count}
use Rattle.engine.proofs.Falls.{below_later, falls_child, falls_later, falls_run}
use Rattle.engine.proofs.Read as read
use Rattle.engine.proofs.Rows as law
use Rattle.engine.proofs.Explained as explained
use Rattle.engine.proofs.Wholes.{whole_stays, whole_with_row}
use Rattle.engine.proofs.pool.Question.+explain_explain_rows.Goals as goal

pub explain-explain-whole-requires : goal.explain-explain-whole-requires
explain-explain-whole-requires t c =
    let u = explained.under_ready _ _ _ _ _ c.past_nots-bare.ensures.under c.args.self.now.pool.words.now c.args.b c.requires.ready in
    let v = explained.under_verdict _ _ _ _ _ c.past_nots-bare.ensures.under c.args.self.now.pool.words.now c.args.b c.requires.verdict_value.0 in
    let l = read.left_later c.args.self.now.rule.now c.args.self.now.pool.words.now c.args.b c.past_nots-bare.result.entry u _ c.entry_at.ensures c.in-Connective.by c.in-Connective.left c.in-Connective.right c.in-Connective.ensures.parts in (
      below_later c.decreases (falls_later (entry_count c.args.self.now.rule.now) (row_count c.args.self.now.pool.words.now) c.args.entry c.past_nots-bare.result.entry c.past_nots-bare.ensures.under.later) (falls_child (entry_count c.args.self.now.rule.now) (row_count c.args.self.now.pool.words.now) c.past_nots-bare.result.entry _ l.0 l.1),
      (read.left_ready c.args.self.now.rule.now c.args.self.now.pool.words.now c.args.b c.past_nots-bare.result.entry u _ c.entry_at.ensures c.in-Connective.by c.in-Connective.left c.in-Connective.right c.in-Connective.ensures.parts, ((explained.both_left_verdict c.args.self.now.rule.now c.args.self.now.pool.words.now c.args.b c.past_nots-bare.result.entry _ v _ _ _ (read.joined_is c.args.self.now.rule.now c.args.self.now.pool.words.now c.args.b c.past_nots-bare.result.entry u _ c.entry_at.ensures c.in-Connective.by c.in-Connective.left c.in-Connective.right c.in-Connective.ensures.parts) (ap (beq c.past_nots-bare.result.verdict) (sym c.undecided.ensures) ∙ c.if-verdict-undecided.true) _ c.side.ensures, c.requires.verdict_value.1), c.requires.marked_whole)),
    )

pub explain-explain-requires : goal.explain-explain-requires
explain-explain-requires t c =
    let u = explained.under_ready _ _ _ _ _ c.past_nots-bare.ensures.under c.args.self.now.pool.words.now c.args.b c.requires.ready in
    let v = explained.under_verdict _ _ _ _ _ c.past_nots-bare.ensures.under c.args.self.now.pool.words.now c.args.b c.requires.verdict_value.0 in
    let l = read.right_later c.args.self.now.rule.now c.args.self.now.pool.words.now c.args.b c.past_nots-bare.result.entry u _ c.entry_at.ensures c.in-Connective.by c.in-Connective.left c.in-Connective.right c.in-Connective.ensures.parts in (
      below_later c.decreases (falls_later (entry_count c.args.self.now.rule.now) (row_count c.args.self.now.pool.words.now) c.args.entry c.past_nots-bare.result.entry c.past_nots-bare.ensures.under.later) (falls_child (entry_count c.args.self.now.rule.now) (row_count c.args.self.now.pool.words.now) c.past_nots-bare.result.entry _ l.0 l.1),
      (read.right_ready c.args.self.now.rule.now c.args.self.now.pool.words.now c.args.b c.past_nots-bare.result.entry u _ c.entry_at.ensures c.in-Connective.by c.in-Connective.left c.in-Connective.right c.in-Connective.ensures.parts, ((explained.both_right_verdict c.args.self.now.rule.now c.args.self.now.pool.words.now c.args.b c.past_nots-bare.result.entry _ v _ _ _ (read.joined_is c.args.self.now.rule.now c.args.self.now.pool.words.now c.args.b c.past_nots-bare.result.entry u _ c.entry_at.ensures c.in-Connective.by c.in-Connective.left c.in-Connective.right c.in-Connective.ensures.parts) (ap (beq c.past_nots-bare.result.verdict) (sym c.undecided.ensures) ∙ c.if-verdict-undecided.true), omega (arith, c.requires.verdict_value.1, c.explain-whole.auto.out)), c.explain-whole.ensures.marked_whole_2)),
    )

pub explain-returns-then-verdict-undecided-clause-out_after : goal.explain-returns-then-verdict-undecided-clause-out_after
explain-returns-then-verdict-undecided-clause-out_after t c =
    let u = explained.under_ready _ _ _ _ _ c.past_nots-bare.ensures.under c.args.self.now.pool.words.now c.args.b c.requires.ready in
    let v = explained.under_verdict _ _ _ _ _ c.past_nots-bare.ensures.under c.args.self.now.pool.words.now c.args.b c.requires.verdict_value.0 in
    explained.under_marked _ _ _ _ _ c.past_nots-bare.ensures.under c.args.self.now.pool.words.now c.args.b c.args.out.now _ (explained.both_marked c.args.self.now.rule.now c.args.self.now.pool.words.now c.args.b c.past_nots-bare.result.entry _ v _ _ _ (read.joined_is c.args.self.now.rule.now c.args.self.now.pool.words.now c.args.b c.past_nots-bare.result.entry u _ c.entry_at.ensures c.in-Connective.by c.in-Connective.left c.in-Connective.right c.in-Connective.ensures.parts) (ap (beq c.past_nots-bare.result.verdict) (sym c.undecided.ensures) ∙ c.if-verdict-undecided.true) c.args.out.now _ _ c.explain-whole.ensures.out_after c.explain.ensures.out_after)

pub explain-holds-first-requires : goal.explain-holds-first-requires
explain-holds-first-requires t c =
    let u = explained.under_ready _ _ _ _ _ c.past_nots-bare.ensures.under c.args.self.now.pool.words.now c.args.b c.requires.ready in
    let v = explained.under_verdict _ _ _ _ _ c.past_nots-bare.ensures.under c.args.self.now.pool.words.now c.args.b c.requires.verdict_value.0 in
    read.left_ready c.args.self.now.rule.now c.args.self.now.pool.words.now c.args.b c.past_nots-bare.result.entry u _ c.entry_at.ensures c.in-Connective.by c.in-Connective.left c.in-Connective.right c.in-Connective.ensures.parts

pub explain-explain-requires-then-left_decides : goal.explain-explain-requires-then-left_decides
explain-explain-requires-then-left_decides t c =
    let u = explained.under_ready _ _ _ _ _ c.past_nots-bare.ensures.under c.args.self.now.pool.words.now c.args.b c.requires.ready in
    let v = explained.under_verdict _ _ _ _ _ c.past_nots-bare.ensures.under c.args.self.now.pool.words.now c.args.b c.requires.verdict_value.0 in
    let l = read.left_later c.args.self.now.rule.now c.args.self.now.pool.words.now c.args.b c.past_nots-bare.result.entry u _ c.entry_at.ensures c.in-Connective.by c.in-Connective.left c.in-Connective.right c.in-Connective.ensures.parts in (
      below_later c.decreases (falls_later (entry_count c.args.self.now.rule.now) (row_count c.args.self.now.pool.words.now) c.args.entry c.past_nots-bare.result.entry c.past_nots-bare.ensures.under.later) (falls_child (entry_count c.args.self.now.rule.now) (row_count c.args.self.now.pool.words.now) c.past_nots-bare.result.entry _ l.0 l.1),
      (read.left_ready c.args.self.now.rule.now c.args.self.now.pool.words.now c.args.b c.past_nots-bare.result.entry u _ c.entry_at.ensures c.in-Connective.by c.in-Connective.left c.in-Connective.right c.in-Connective.ensures.parts, ((c.holds-first.ensures, c.requires.verdict_value.1), c.requires.marked_whole)),
    )

pub explain-returns-then-left_decides-clause-out_after : goal.explain-returns-then-left_decides-clause-out_after
explain-returns-then-left_decides-clause-out_after t c =
    let u = explained.under_ready _ _ _ _ _ c.past_nots-bare.ensures.under c.args.self.now.pool.words.now c.args.b c.requires.ready in
    let v = explained.under_verdict _ _ _ _ _ c.past_nots-bare.ensures.under c.args.self.now.pool.words.now c.args.b c.requires.verdict_value.0 in
    explained.under_marked _ _ _ _ _ c.past_nots-bare.ensures.under c.args.self.now.pool.words.now c.args.b c.args.out.now _ (explained.left_marked_only c.args.self.now.rule.now c.args.self.now.pool.words.now c.args.b c.past_nots-bare.result.entry _ v _ _ _ (read.joined_is c.args.self.now.rule.now c.args.self.now.pool.words.now c.args.b c.past_nots-bare.result.entry u _ c.entry_at.ensures c.in-Connective.by c.in-Connective.left c.in-Connective.right c.in-Connective.ensures.parts) (ap (beq c.past_nots-bare.result.verdict) (sym c.undecided.ensures) ∙ c.if-verdict-undecided.false) _ _ c.holds-first.ensures c.left_decides.ensures c.if-left_decides.true c.args.out.now _ c.explain-then-left_decides.ensures.out_after)

pub explain-explain-requires-in-Connective : goal.explain-explain-requires-in-Connective
explain-explain-requires-in-Connective t c =
    let u = explained.under_ready _ _ _ _ _ c.past_nots-bare.ensures.under c.args.self.now.pool.words.now c.args.b c.requires.ready in
    let v = explained.under_verdict _ _ _ _ _ c.past_nots-bare.ensures.under c.args.self.now.pool.words.now c.args.b c.requires.verdict_value.0 in
    let l = read.right_later c.args.self.now.rule.now c.args.self.now.pool.words.now c.args.b c.past_nots-bare.result.entry u _ c.entry_at.ensures c.in-Connective.by c.in-Connective.left c.in-Connective.right c.in-Connective.ensures.parts in (
      below_later c.decreases (falls_later (entry_count c.args.self.now.rule.now) (row_count c.args.self.now.pool.words.now) c.args.entry c.past_nots-bare.result.entry c.past_nots-bare.ensures.under.later) (falls_child (entry_count c.args.self.now.rule.now) (row_count c.args.self.now.pool.words.now) c.past_nots-bare.result.entry _ l.0 l.1),
      (read.right_ready c.args.self.now.rule.now c.args.self.now.pool.words.now c.args.b c.past_nots-bare.result.entry u _ c.entry_at.ensures c.in-Connective.by c.in-Connective.left c.in-Connective.right c.in-Connective.ensures.parts, ((explained.last_verdict c.args.self.now.rule.now c.args.self.now.pool.words.now c.args.b c.past_nots-bare.result.entry _ v _ _ _ (read.joined_is c.args.self.now.rule.now c.args.self.now.pool.words.now c.args.b c.past_nots-bare.result.entry u _ c.entry_at.ensures c.in-Connective.by c.in-Connective.left c.in-Connective.right c.in-Connective.ensures.parts) (ap (beq c.past_nots-bare.result.verdict) (sym c.undecided.ensures) ∙ c.if-verdict-undecided.false) _ _ c.holds-first.ensures c.left_decides.ensures c.if-left_decides.false, c.requires.verdict_value.1), c.requires.marked_whole)),
    )

pub explain-returns-else-left_decides-clause-out_after : goal.explain-returns-else-left_decides-clause-out_after
explain-returns-else-left_decides-clause-out_after t c =
    let u = explained.under_ready _ _ _ _ _ c.past_nots-bare.ensures.under c.args.self.now.pool.words.now c.args.b c.requires.ready in
    let v = explained.under_verdict _ _ _ _ _ c.past_nots-bare.ensures.under c.args.self.now.pool.words.now c.args.b c.requires.verdict_value.0 in
    explained.under_marked _ _ _ _ _ c.past_nots-bare.ensures.under c.args.self.now.pool.words.now c.args.b c.args.out.now _ (explained.right_marked_only c.args.self.now.rule.now c.args.self.now.pool.words.now c.args.b c.past_nots-bare.result.entry _ v _ _ _ (read.joined_is c.args.self.now.rule.now c.args.self.now.pool.words.now c.args.b c.past_nots-bare.result.entry u _ c.entry_at.ensures c.in-Connective.by c.in-Connective.left c.in-Connective.right c.in-Connective.ensures.parts) (ap (beq c.past_nots-bare.result.verdict) (sym c.undecided.ensures) ∙ c.if-verdict-undecided.false) _ _ c.holds-first.ensures c.left_decides.ensures c.if-left_decides.false c.args.out.now _ c.explain-in-Connective.ensures.out_after)

pub explain-run_of-run-requires-clause-parent : goal.explain-run_of-run-requires-clause-parent
explain-run_of-run-requires-clause-parent t c =
    let u = explained.under_ready _ _ _ _ _ c.past_nots-bare.ensures.under c.args.self.now.pool.words.now c.args.b c.requires.ready in
    let v = explained.under_verdict _ _ _ _ _ c.past_nots-bare.ensures.under c.args.self.now.pool.words.now c.args.b c.requires.verdict_value.0 in
    read.parent_named c.args.self.now.rule.now c.args.self.now.pool.words.now c.args.b c.past_nots-bare.result.entry u _ c.entry_at.ensures c.in-Quantifier.by c.in-Quantifier.over c.in-Quantifier.name c.in-Quantifier.body c.in-Quantifier.ensures.parts

pub explain-first_deciding-row-requires-clause-ready : goal.explain-first_deciding-row-requires-clause-ready
explain-first_deciding-row-requires-clause-ready t c =
    let u = explained.under_ready _ _ _ _ _ c.past_nots-bare.ensures.under c.args.self.now.pool.words.now c.args.b c.requires.ready in
    let v = explained.under_verdict _ _ _ _ _ c.past_nots-bare.ensures.under c.args.self.now.pool.words.now c.args.b c.requires.verdict_value.0 in
    let span = c.run_of-run.ensures (record { by = c.in-Quantifier.by; over = c.in-Quantifier.over; name = c.in-Quantifier.name; body = c.in-Quantifier.body }) refl in
    let o = read.run_ready c.args.self.now.rule.now c.args.self.now.pool.words.now c.args.b c.past_nots-bare.result.entry u _ c.entry_at.ensures c.in-Quantifier.by c.in-Quantifier.over c.in-Quantifier.name c.in-Quantifier.body c.in-Quantifier.ensures.parts c.run_of-run.result.start c.run_of-run.result.rows span.place in
    let is = read.quantified_is c.args.self.now.rule.now c.args.self.now.pool.words.now c.args.b c.past_nots-bare.result.entry u _ c.entry_at.ensures c.in-Quantifier.by c.in-Quantifier.over c.in-Quantifier.name c.in-Quantifier.body c.in-Quantifier.ensures.parts in
    o

pub explain-first_deciding-row-requires-clause-decided : goal.explain-first_deciding-row-requires-clause-decided
explain-first_deciding-row-requires-clause-decided t c =
    let u = explained.under_ready _ _ _ _ _ c.past_nots-bare.ensures.under c.args.self.now.pool.words.now c.args.b c.requires.ready in
    let v = explained.under_verdict _ _ _ _ _ c.past_nots-bare.ensures.under c.args.self.now.pool.words.now c.args.b c.requires.verdict_value.0 in
    let span = c.run_of-run.ensures (record { by = c.in-Quantifier.by; over = c.in-Quantifier.over; name = c.in-Quantifier.name; body = c.in-Quantifier.body }) refl in
    let o = read.run_ready c.args.self.now.rule.now c.args.self.now.pool.words.now c.args.b c.past_nots-bare.result.entry u _ c.entry_at.ensures c.in-Quantifier.by c.in-Quantifier.over c.in-Quantifier.name c.in-Quantifier.body c.in-Quantifier.ensures.parts c.run_of-run.result.start c.run_of-run.result.rows span.place in
    let is = read.quantified_is c.args.self.now.rule.now c.args.self.now.pool.words.now c.args.b c.past_nots-bare.result.entry u _ c.entry_at.ensures c.in-Quantifier.by c.in-Quantifier.over c.in-Quantifier.name c.in-Quantifier.body c.in-Quantifier.ensures.parts in
    explained.some_decides c.args.self.now.rule.now c.args.self.now.pool.words.now c.args.b (record { by = c.in-Quantifier.by; over = c.in-Quantifier.over; name = c.in-Quantifier.name; body = c.in-Quantifier.body }) c.run_of-run.result.start c.run_of-run.result.rows o c.past_nots-bare.result.entry is _ v span (ap (beq c.past_nots-bare.result.verdict) (sym c.settled.ensures) ∙ not-true _ c.if-verdict-settled.true)

pub explain-bounds-out-row : goal.explain-bounds-out-row
explain-bounds-out-row t c =
    let u = explained.under_ready _ _ _ _ _ c.past_nots-bare.ensures.under c.args.self.now.pool.words.now c.args.b c.requires.ready in
    let v = explained.under_verdict _ _ _ _ _ c.past_nots-bare.ensures.under c.args.self.now.pool.words.now c.args.b c.requires.verdict_value.0 in
    let span = c.run_of-run.ensures (record { by = c.in-Quantifier.by; over = c.in-Quantifier.over; name = c.in-Quantifier.name; body = c.in-Quantifier.body }) refl in
    let o = read.run_ready c.args.self.now.rule.now c.args.self.now.pool.words.now c.args.b c.past_nots-bare.result.entry u _ c.entry_at.ensures c.in-Quantifier.by c.in-Quantifier.over c.in-Quantifier.name c.in-Quantifier.body c.in-Quantifier.ensures.parts c.run_of-run.result.start c.run_of-run.result.rows span.place in
    let is = read.quantified_is c.args.self.now.rule.now c.args.self.now.pool.words.now c.args.b c.past_nots-bare.result.entry u _ c.entry_at.ensures c.in-Quantifier.by c.in-Quantifier.over c.in-Quantifier.name c.in-Quantifier.body c.in-Quantifier.ensures.parts in
    omega (arith, explained.deciding_place c.args.self.now.rule.now c.args.self.now.pool.words.now c.args.b (record { by = c.in-Quantifier.by; over = c.in-Quantifier.over; name = c.in-Quantifier.name; body = c.in-Quantifier.body }) c.run_of-run.result.start c.run_of-run.result.rows o c.past_nots-bare.result.entry is _ v span (ap (beq c.past_nots-bare.result.verdict) (sym c.settled.ensures) ∙ not-true _ c.if-verdict-settled.true) _ c.first_deciding-row.ensures, span.place, c.requires.verdict_value.1)

pub explain-overflow_add-row : goal.explain-overflow_add-row
explain-overflow_add-row t c =
    let u = explained.under_ready _ _ _ _ _ c.past_nots-bare.ensures.under c.args.self.now.pool.words.now c.args.b c.requires.ready in
    let v = explained.under_verdict _ _ _ _ _ c.past_nots-bare.ensures.under c.args.self.now.pool.words.now c.args.b c.requires.verdict_value.0 in
    let span = c.run_of-run.ensures (record { by = c.in-Quantifier.by; over = c.in-Quantifier.over; name = c.in-Quantifier.name; body = c.in-Quantifier.body }) refl in
    let o = read.run_ready c.args.self.now.rule.now c.args.self.now.pool.words.now c.args.b c.past_nots-bare.result.entry u _ c.entry_at.ensures c.in-Quantifier.by c.in-Quantifier.over c.in-Quantifier.name c.in-Quantifier.body c.in-Quantifier.ensures.parts c.run_of-run.result.start c.run_of-run.result.rows span.place in
    let is = read.quantified_is c.args.self.now.rule.now c.args.self.now.pool.words.now c.args.b c.past_nots-bare.result.entry u _ c.entry_at.ensures c.in-Quantifier.by c.in-Quantifier.over c.in-Quantifier.name c.in-Quantifier.body c.in-Quantifier.ensures.parts in
    omega (arith, explained.deciding_place c.args.self.now.rule.now c.args.self.now.pool.words.now c.args.b (record { by = c.in-Quantifier.by; over = c.in-Quantifier.over; name = c.in-Quantifier.name; body = c.in-Quantifier.body }) c.run_of-run.result.start c.run_of-run.result.rows o c.past_nots-bare.result.entry is _ v span (ap (beq c.past_nots-bare.result.verdict) (sym c.settled.ensures) ∙ not-true _ c.if-verdict-settled.true) _ c.first_deciding-row.ensures, span.place, c.requires.verdict_value.1)

pub explain-explain-requires-then-verdict-settled : goal.explain-explain-requires-then-verdict-settled
explain-explain-requires-then-verdict-settled t c =
    let u = explained.under_ready _ _ _ _ _ c.past_nots-bare.ensures.under c.args.self.now.pool.words.now c.args.b c.requires.ready in
    let v = explained.under_verdict _ _ _ _ _ c.past_nots-bare.ensures.under c.args.self.now.pool.words.now c.args.b c.requires.verdict_value.0 in
    let l = read.body_later c.args.self.now.rule.now c.args.self.now.pool.words.now c.args.b c.past_nots-bare.result.entry u _ c.entry_at.ensures c.in-Quantifier.by c.in-Quantifier.over c.in-Quantifier.name c.in-Quantifier.body c.in-Quantifier.ensures.parts in
    let span = c.run_of-run.ensures (record { by = c.in-Quantifier.by; over = c.in-Quantifier.over; name = c.in-Quantifier.name; body = c.in-Quantifier.body }) refl in
    let o = read.run_ready c.args.self.now.rule.now c.args.self.now.pool.words.now c.args.b c.past_nots-bare.result.entry u _ c.entry_at.ensures c.in-Quantifier.by c.in-Quantifier.over c.in-Quantifier.name c.in-Quantifier.body c.in-Quantifier.ensures.parts c.run_of-run.result.start c.run_of-run.result.rows span.place in
    let is = read.quantified_is c.args.self.now.rule.now c.args.self.now.pool.words.now c.args.b c.past_nots-bare.result.entry u _ c.entry_at.ensures c.in-Quantifier.by c.in-Quantifier.over c.in-Quantifier.name c.in-Quantifier.body c.in-Quantifier.ensures.parts in
    let d = explained.deciding_place c.args.self.now.rule.now c.args.self.now.pool.words.now c.args.b (record { by = c.in-Quantifier.by; over = c.in-Quantifier.over; name = c.in-Quantifier.name; body = c.in-Quantifier.body }) c.run_of-run.result.start c.run_of-run.result.rows o c.past_nots-bare.result.entry is _ v span (ap (beq c.past_nots-bare.result.verdict) (sym c.settled.ensures) ∙ not-true _ c.if-verdict-settled.true) _ c.first_deciding-row.ensures in (
      below_later c.decreases (falls_later (entry_count c.args.self.now.rule.now) (row_count c.args.self.now.pool.words.now) c.args.entry c.past_nots-bare.result.entry c.past_nots-bare.ensures.under.later) (falls_child (entry_count c.args.self.now.rule.now) (row_count c.args.self.now.pool.words.now) c.past_nots-bare.result.entry _ l.0 l.1),
      (law.bound_ready c.args.self.now.rule.now c.args.self.now.pool.words.now c.args.b (record { by = c.in-Quantifier.by; over = c.in-Quantifier.over; name = c.in-Quantifier.name; body = c.in-Quantifier.body }) _ _ o _ (omega (arith, d, span.place)) _ c.bind.ensures, ((explained.deciding_verdict c.args.self.now.rule.now c.args.self.now.pool.words.now c.args.b (record { by = c.in-Quantifier.by; over = c.in-Quantifier.over; name = c.in-Quantifier.name; body = c.in-Quantifier.body }) c.run_of-run.result.start c.run_of-run.result.rows o c.past_nots-bare.result.entry is _ v span (ap (beq c.past_nots-bare.result.verdict) (sym c.settled.ensures) ∙ not-true _ c.if-verdict-settled.true) _ c.first_deciding-row.ensures _ c.bind.ensures, simp length-set c.requires.verdict_value.1), whole_with_row c.args.self.now.pool.words.now c.args.whole c.args.out.now c.requires.marked_whole c.requires.ready.pool_accepted _ (omega (arith, d, span.place)))),
    )

pub explain-returns-then-verdict-settled-clause-out_after : goal.explain-returns-then-verdict-settled-clause-out_after
explain-returns-then-verdict-settled-clause-out_after t c =
    let u = explained.under_ready _ _ _ _ _ c.past_nots-bare.ensures.under c.args.self.now.pool.words.now c.args.b c.requires.ready in
    let v = explained.under_verdict _ _ _ _ _ c.past_nots-bare.ensures.under c.args.self.now.pool.words.now c.args.b c.requires.verdict_value.0 in
    let span = c.run_of-run.ensures (record { by = c.in-Quantifier.by; over = c.in-Quantifier.over; name = c.in-Quantifier.name; body = c.in-Quantifier.body }) refl in
    let o = read.run_ready c.args.self.now.rule.now c.args.self.now.pool.words.now c.args.b c.past_nots-bare.result.entry u _ c.entry_at.ensures c.in-Quantifier.by c.in-Quantifier.over c.in-Quantifier.name c.in-Quantifier.body c.in-Quantifier.ensures.parts c.run_of-run.result.start c.run_of-run.result.rows span.place in
    let is = read.quantified_is c.args.self.now.rule.now c.args.self.now.pool.words.now c.args.b c.past_nots-bare.result.entry u _ c.entry_at.ensures c.in-Quantifier.by c.in-Quantifier.over c.in-Quantifier.name c.in-Quantifier.body c.in-Quantifier.ensures.parts in
    explained.under_marked _ _ _ _ _ c.past_nots-bare.ensures.under c.args.self.now.pool.words.now c.args.b c.args.out.now _ (explained.first_marked c.args.self.now.rule.now c.args.self.now.pool.words.now c.args.b (record { by = c.in-Quantifier.by; over = c.in-Quantifier.over; name = c.in-Quantifier.name; body = c.in-Quantifier.body }) c.run_of-run.result.start c.run_of-run.result.rows o c.past_nots-bare.result.entry is _ v span (ap (beq c.past_nots-bare.result.verdict) (sym c.settled.ensures) ∙ not-true _ c.if-verdict-settled.true) _ c.first_deciding-row.ensures _ c.bind.ensures c.args.out.now _ c.explain-then-verdict-settled.ensures.out_after)

pub explain-settled_before-requires : goal.explain-settled_before-requires
explain-settled_before-requires t c =
    let u = explained.under_ready _ _ _ _ _ c.past_nots-bare.ensures.under c.args.self.now.pool.words.now c.args.b c.requires.ready in
    let v = explained.under_verdict _ _ _ _ _ c.past_nots-bare.ensures.under c.args.self.now.pool.words.now c.args.b c.requires.verdict_value.0 in
    read.run_ready c.args.self.now.rule.now c.args.self.now.pool.words.now c.args.b c.past_nots-bare.result.entry u _ c.entry_at.ensures c.in-Quantifier.by c.in-Quantifier.over c.in-Quantifier.name c.in-Quantifier.body c.in-Quantifier.ensures.parts 0 0 (omega arith)

pub explain-explain_rows-requires : goal.explain-explain_rows-requires
explain-explain_rows-requires t c =
    let u = explained.under_ready _ _ _ _ _ c.past_nots-bare.ensures.under c.args.self.now.pool.words.now c.args.b c.requires.ready in
    let v = explained.under_verdict _ _ _ _ _ c.past_nots-bare.ensures.under c.args.self.now.pool.words.now c.args.b c.requires.verdict_value.0 in
    let l = read.body_later c.args.self.now.rule.now c.args.self.now.pool.words.now c.args.b c.past_nots-bare.result.entry u _ c.entry_at.ensures c.in-Quantifier.by c.in-Quantifier.over c.in-Quantifier.name c.in-Quantifier.body c.in-Quantifier.ensures.parts in
    let span = c.run_of-run.ensures (record { by = c.in-Quantifier.by; over = c.in-Quantifier.over; name = c.in-Quantifier.name; body = c.in-Quantifier.body }) refl in
    let o = read.run_ready c.args.self.now.rule.now c.args.self.now.pool.words.now c.args.b c.past_nots-bare.result.entry u _ c.entry_at.ensures c.in-Quantifier.by c.in-Quantifier.over c.in-Quantifier.name c.in-Quantifier.body c.in-Quantifier.ensures.parts c.run_of-run.result.start c.run_of-run.result.rows span.place in
    let is = read.quantified_is c.args.self.now.rule.now c.args.self.now.pool.words.now c.args.b c.past_nots-bare.result.entry u _ c.entry_at.ensures c.in-Quantifier.by c.in-Quantifier.over c.in-Quantifier.name c.in-Quantifier.body c.in-Quantifier.ensures.parts in (
      below_later c.decreases (falls_later (entry_count c.args.self.now.rule.now) (row_count c.args.self.now.pool.words.now) c.args.entry c.past_nots-bare.result.entry c.past_nots-bare.ensures.under.later)
          (falls_run (entry_count c.args.self.now.rule.now) (row_count c.args.self.now.pool.words.now) c.past_nots-bare.result.entry _ c.run_of-run.result.rows l.0 l.1 (omega (arith, span.place))),
      (o, ((explained.all_settled c.args.self.now.rule.now c.args.self.now.pool.words.now c.args.b (record { by = c.in-Quantifier.by; over = c.in-Quantifier.over; name = c.in-Quantifier.name; body = c.in-Quantifier.body }) c.run_of-run.result.start c.run_of-run.result.rows o c.past_nots-bare.result.entry is _ v span (ap (beq c.past_nots-bare.result.verdict) (sym c.settled.ensures) ∙ not-false _ c.if-verdict-settled.false), c.requires.verdict_value.1), c.requires.marked_whole)),
    )

pub explain-returns-then-not-settled_before-clause-out_after : goal.explain-returns-then-not-settled_before-clause-out_after
explain-returns-then-not-settled_before-clause-out_after t c =
    let u = explained.under_ready _ _ _ _ _ c.past_nots-bare.ensures.under c.args.self.now.pool.words.now c.args.b c.requires.ready in
    let v = explained.under_verdict _ _ _ _ _ c.past_nots-bare.ensures.under c.args.self.now.pool.words.now c.args.b c.requires.verdict_value.0 in
    let span = c.run_of-run.ensures (record { by = c.in-Quantifier.by; over = c.in-Quantifier.over; name = c.in-Quantifier.name; body = c.in-Quantifier.body }) refl in
    let o = read.run_ready c.args.self.now.rule.now c.args.self.now.pool.words.now c.args.b c.past_nots-bare.result.entry u _ c.entry_at.ensures c.in-Quantifier.by c.in-Quantifier.over c.in-Quantifier.name c.in-Quantifier.body c.in-Quantifier.ensures.parts c.run_of-run.result.start c.run_of-run.result.rows span.place in
    let is = read.quantified_is c.args.self.now.rule.now c.args.self.now.pool.words.now c.args.b c.past_nots-bare.result.entry u _ c.entry_at.ensures c.in-Quantifier.by c.in-Quantifier.over c.in-Quantifier.name c.in-Quantifier.body c.in-Quantifier.ensures.parts in
    explained.under_marked _ _ _ _ _ c.past_nots-bare.ensures.under c.args.self.now.pool.words.now c.args.b c.args.out.now _ (explained.all_marked c.args.self.now.rule.now c.args.self.now.pool.words.now c.args.b (record { by = c.in-Quantifier.by; over = c.in-Quantifier.over; name = c.in-Quantifier.name; body = c.in-Quantifier.body }) c.run_of-run.result.start c.run_of-run.result.rows o c.past_nots-bare.result.entry is _ v span (ap (beq c.past_nots-bare.result.verdict) (sym c.settled.ensures) ∙ not-false _ c.if-verdict-settled.false) c.args.out.now _ c.explain_rows.ensures.out_after)

pub explain-mark_whole-all-requires-clause-parent : goal.explain-mark_whole-all-requires-clause-parent
explain-mark_whole-all-requires-clause-parent t c =
    let u = explained.under_ready _ _ _ _ _ c.past_nots-bare.ensures.under c.args.self.now.pool.words.now c.args.b c.requires.ready in
    let v = explained.under_verdict _ _ _ _ _ c.past_nots-bare.ensures.under c.args.self.now.pool.words.now c.args.b c.requires.verdict_value.0 in
    read.parent_named c.args.self.now.rule.now c.args.self.now.pool.words.now c.args.b c.past_nots-bare.result.entry u _ c.entry_at.ensures c.in-Quantifier.by c.in-Quantifier.over c.in-Quantifier.name c.in-Quantifier.body c.in-Quantifier.ensures.parts

pub explain-returns-then-not-all-clause-out_after : goal.explain-returns-then-not-all-clause-out_after
explain-returns-then-not-all-clause-out_after t c =
    let u = explained.under_ready _ _ _ _ _ c.past_nots-bare.ensures.under c.args.self.now.pool.words.now c.args.b c.requires.ready in
    let v = explained.under_verdict _ _ _ _ _ c.past_nots-bare.ensures.under c.args.self.now.pool.words.now c.args.b c.requires.verdict_value.0 in
    let span = c.run_of-run.ensures (record { by = c.in-Quantifier.by; over = c.in-Quantifier.over; name = c.in-Quantifier.name; body = c.in-Quantifier.body }) refl in
    let o = read.run_ready c.args.self.now.rule.now c.args.self.now.pool.words.now c.args.b c.past_nots-bare.result.entry u _ c.entry_at.ensures c.in-Quantifier.by c.in-Quantifier.over c.in-Quantifier.name c.in-Quantifier.body c.in-Quantifier.ensures.parts c.run_of-run.result.start c.run_of-run.result.rows span.place in
    let is = read.quantified_is c.args.self.now.rule.now c.args.self.now.pool.words.now c.args.b c.past_nots-bare.result.entry u _ c.entry_at.ensures c.in-Quantifier.by c.in-Quantifier.over c.in-Quantifier.name c.in-Quantifier.body c.in-Quantifier.ensures.parts in
    explained.under_marked _ _ _ _ _ c.past_nots-bare.ensures.under c.args.self.now.pool.words.now c.args.b c.args.out.now _ (explained.nowhere_marked c.args.self.now.rule.now c.args.self.now.pool.words.now c.args.b (record { by = c.in-Quantifier.by; over = c.in-Quantifier.over; name = c.in-Quantifier.name; body = c.in-Quantifier.body }) c.run_of-run.result.start c.run_of-run.result.rows o c.past_nots-bare.result.entry is _ v span (ap (beq c.past_nots-bare.result.verdict) (sym c.settled.ensures) ∙ not-false _ c.if-verdict-settled.false) _ refl (λ y. c.settled_before.ensures.alike c.if-not-settled_before.false refl y) _ c.mark_whole-all.ensures.found_value c.args.out.now _ c.mark_whole-all.ensures.out_after (not-true _ c.if-not-all.true))

pub explain-explain-requires-in-Quantifier : goal.explain-explain-requires-in-Quantifier
explain-explain-requires-in-Quantifier t c =
    let u = explained.under_ready _ _ _ _ _ c.past_nots-bare.ensures.under c.args.self.now.pool.words.now c.args.b c.requires.ready in
    let v = explained.under_verdict _ _ _ _ _ c.past_nots-bare.ensures.under c.args.self.now.pool.words.now c.args.b c.requires.verdict_value.0 in
    let l = read.body_later c.args.self.now.rule.now c.args.self.now.pool.words.now c.args.b c.past_nots-bare.result.entry u _ c.entry_at.ensures c.in-Quantifier.by c.in-Quantifier.over c.in-Quantifier.name c.in-Quantifier.body c.in-Quantifier.ensures.parts in
    let span = c.run_of-run.ensures (record { by = c.in-Quantifier.by; over = c.in-Quantifier.over; name = c.in-Quantifier.name; body = c.in-Quantifier.body }) refl in
    let o = read.run_ready c.args.self.now.rule.now c.args.self.now.pool.words.now c.args.b c.past_nots-bare.result.entry u _ c.entry_at.ensures c.in-Quantifier.by c.in-Quantifier.over c.in-Quantifier.name c.in-Quantifier.body c.in-Quantifier.ensures.parts c.run_of-run.result.start c.run_of-run.result.rows span.place in
    let is = read.quantified_is c.args.self.now.rule.now c.args.self.now.pool.words.now c.args.b c.past_nots-bare.result.entry u _ c.entry_at.ensures c.in-Quantifier.by c.in-Quantifier.over c.in-Quantifier.name c.in-Quantifier.body c.in-Quantifier.ensures.parts in (
      below_later c.decreases (falls_later (entry_count c.args.self.now.rule.now) (row_count c.args.self.now.pool.words.now) c.args.entry c.past_nots-bare.result.entry c.past_nots-bare.ensures.under.later) (falls_child (entry_count c.args.self.now.rule.now) (row_count c.args.self.now.pool.words.now) c.past_nots-bare.result.entry _ l.0 l.1),
      (law.bound_ready c.args.self.now.rule.now c.args.self.now.pool.words.now c.args.b (record { by = c.in-Quantifier.by; over = c.in-Quantifier.over; name = c.in-Quantifier.name; body = c.in-Quantifier.body }) _ _ o 0 (omega arith) _ c.bind-in-Quantifier.ensures, ((explained.once_verdict c.args.self.now.rule.now c.args.self.now.pool.words.now c.args.b (record { by = c.in-Quantifier.by; over = c.in-Quantifier.over; name = c.in-Quantifier.name; body = c.in-Quantifier.body }) c.run_of-run.result.start c.run_of-run.result.rows o c.past_nots-bare.result.entry is _ v span (ap (beq c.past_nots-bare.result.verdict) (sym c.settled.ensures) ∙ not-false _ c.if-verdict-settled.false) (c.settled_before.ensures.body c.if-not-settled_before.false) _ c.bind-in-Quantifier.ensures, omega (arith, c.requires.verdict_value.1, c.mark_whole-all.auto.out)), c.mark_whole-all.ensures.marked_whole_2)),
    )

pub explain-returns-else-not-all-clause-out_after : goal.explain-returns-else-not-all-clause-out_after
explain-returns-else-not-all-clause-out_after t c =
    let u = explained.under_ready _ _ _ _ _ c.past_nots-bare.ensures.under c.args.self.now.pool.words.now c.args.b c.requires.ready in
    let v = explained.under_verdict _ _ _ _ _ c.past_nots-bare.ensures.under c.args.self.now.pool.words.now c.args.b c.requires.verdict_value.0 in
    let span = c.run_of-run.ensures (record { by = c.in-Quantifier.by; over = c.in-Quantifier.over; name = c.in-Quantifier.name; body = c.in-Quantifier.body }) refl in
    let o = read.run_ready c.args.self.now.rule.now c.args.self.now.pool.words.now c.args.b c.past_nots-bare.result.entry u _ c.entry_at.ensures c.in-Quantifier.by c.in-Quantifier.over c.in-Quantifier.name c.in-Quantifier.body c.in-Quantifier.ensures.parts c.run_of-run.result.start c.run_of-run.result.rows span.place in
    let is = read.quantified_is c.args.self.now.rule.now c.args.self.now.pool.words.now c.args.b c.past_nots-bare.result.entry u _ c.entry_at.ensures c.in-Quantifier.by c.in-Quantifier.over c.in-Quantifier.name c.in-Quantifier.body c.in-Quantifier.ensures.parts in
    explained.under_marked _ _ _ _ _ c.past_nots-bare.ensures.under c.args.self.now.pool.words.now c.args.b c.args.out.now _ (explained.once_marked c.args.self.now.rule.now c.args.self.now.pool.words.now c.args.b (record { by = c.in-Quantifier.by; over = c.in-Quantifier.over; name = c.in-Quantifier.name; body = c.in-Quantifier.body }) c.run_of-run.result.start c.run_of-run.result.rows o c.past_nots-bare.result.entry is _ v span (ap (beq c.past_nots-bare.result.verdict) (sym c.settled.ensures) ∙ not-false _ c.if-verdict-settled.false) _ c.bind-in-Quantifier.ensures (λ y. c.settled_before.ensures.alike c.if-not-settled_before.false refl y) _ c.mark_whole-all.ensures.found_value c.args.out.now _ c.mark_whole-all.ensures.out_after (not-false _ c.if-not-all.false) _ c.explain-in-Quantifier.ensures.out_after)

pub explain-mark_compared-requires-clause-inside : goal.explain-mark_compared-requires-clause-inside
explain-mark_compared-requires-clause-inside t c =
    let u = explained.under_ready _ _ _ _ _ c.past_nots-bare.ensures.under c.args.self.now.pool.words.now c.args.b c.requires.ready in
    let v = explained.under_verdict _ _ _ _ _ c.past_nots-bare.ensures.under c.args.self.now.pool.words.now c.args.b c.requires.verdict_value.0 in
    read.variable_named c.args.self.now.rule.now c.args.self.now.pool.words.now c.args.b c.past_nots-bare.result.entry u _ c.entry_at.ensures c.in-Comparison.by c.in-Comparison.variable c.in-Comparison.operand c.in-Comparison.ensures.parts

pub explain-mark_compared-requires-clause-named : goal.explain-mark_compared-requires-clause-named
explain-mark_compared-requires-clause-named t c =
    let u = explained.under_ready _ _ _ _ _ c.past_nots-bare.ensures.under c.args.self.now.pool.words.now c.args.b c.requires.ready in
    let v = explained.under_verdict _ _ _ _ _ c.past_nots-bare.ensures.under c.args.self.now.pool.words.now c.args.b c.requires.verdict_value.0 in
    read.other_named c.args.self.now.rule.now c.args.self.now.pool.words.now c.args.b c.past_nots-bare.result.entry u _ c.entry_at.ensures c.in-Comparison.by c.in-Comparison.variable c.in-Comparison.operand c.in-Comparison.ensures.parts

pub explain-returns-in-Comparison-clause-out_after : goal.explain-returns-in-Comparison-clause-out_after
explain-returns-in-Comparison-clause-out_after t c =
    let u = explained.under_ready _ _ _ _ _ c.past_nots-bare.ensures.under c.args.self.now.pool.words.now c.args.b c.requires.ready in
    let v = explained.under_verdict _ _ _ _ _ c.past_nots-bare.ensures.under c.args.self.now.pool.words.now c.args.b c.requires.verdict_value.0 in
    explained.under_marked _ _ _ _ _ c.past_nots-bare.ensures.under c.args.self.now.pool.words.now c.args.b c.args.out.now _ (explained.compared_marked c.args.self.now.rule.now c.args.self.now.pool.words.now c.args.b c.past_nots-bare.result.entry _ v c.requires.ready.pool_accepted c.requires.ready.placed _ _ _ (read.compared_is c.args.self.now.rule.now c.args.self.now.pool.words.now c.args.b c.past_nots-bare.result.entry u _ c.entry_at.ensures c.in-Comparison.by c.in-Comparison.variable c.in-Comparison.operand c.in-Comparison.ensures.parts) c.args.out.now _ c.mark_compared.ensures)

pub explain-returns-in-Comparison-clause-marked_whole_2 : goal.explain-returns-in-Comparison-clause-marked_whole_2
explain-returns-in-Comparison-clause-marked_whole_2 t c =
    let u = explained.under_ready _ _ _ _ _ c.past_nots-bare.ensures.under c.args.self.now.pool.words.now c.args.b c.requires.ready in
    let v = explained.under_verdict _ _ _ _ _ c.past_nots-bare.ensures.under c.args.self.now.pool.words.now c.args.b c.requires.verdict_value.0 in
    whole_stays c.args.self.now.pool.words.now c.args.whole c.args.out.now c.requires.marked_whole _ _ (explained.compared_marked c.args.self.now.rule.now c.args.self.now.pool.words.now c.args.b c.past_nots-bare.result.entry _ v c.requires.ready.pool_accepted c.requires.ready.placed _ _ _ (read.compared_is c.args.self.now.rule.now c.args.self.now.pool.words.now c.args.b c.past_nots-bare.result.entry u _ c.entry_at.ensures c.in-Comparison.by c.in-Comparison.variable c.in-Comparison.operand c.in-Comparison.ensures.parts) c.args.out.now _ c.mark_compared.ensures)

pub explain_rows-returns-in_default-clause-out_after : goal.explain_rows-returns-in_default-clause-out_after
explain_rows-returns-in_default-clause-out_after t c =
    explained.no_row_marked c.args.self.now.rule.now c.args.self.now.pool.words.now c.args.b c.args.q.now c.args.run.start c.args.run.rows c.requires.ready c.requires.verdict_value.0 (sym c.next_ranged.ensures ∙ c.in_default.is) c.args.out.now

pub explain_rows-explain-whole-requires : goal.explain_rows-explain-whole-requires
explain_rows-explain-whole-requires t c =
    let p = law.row_inside c.args.self.now.rule.now c.args.self.now.pool.words.now c.args.b c.args.q.now c.args.run.start c.args.run.rows c.requires.ready c.in-Some.skipped (sym c.next_ranged.ensures ∙ c.in-Some.is) in (
      omega arith,
      (
        law.bound_ready c.args.self.now.rule.now c.args.self.now.pool.words.now c.args.b c.args.q.now _ _ c.requires.ready _ p _ c.bind.ensures,
        (
          (c.settled.ensures ∙ explained.first_verdict c.args.self.now.rule.now c.args.self.now.pool.words.now c.args.b c.args.q.now c.args.run.start c.args.run.rows c.requires.ready c.requires.verdict_value.0 c.in-Some.skipped (sym c.next_ranged.ensures ∙ c.in-Some.is) _ c.bind.ensures, simp length-set c.requires.verdict_value.1),
          whole_with_row c.args.self.now.pool.words.now c.args.whole c.args.out.now c.requires.marked_whole c.requires.ready.pool_accepted _ (omega (arith, p)),
        ),
      ),
    )

pub explain_rows-returns-then-left-eq0-clause-out_after : goal.explain_rows-returns-then-left-eq0-clause-out_after
explain_rows-returns-then-left-eq0-clause-out_after t c =
    explained.last_marked c.args.self.now.rule.now c.args.self.now.pool.words.now c.args.b c.args.q.now c.args.run.start c.args.run.rows c.requires.ready c.requires.verdict_value.0 c.in-Some.skipped (sym c.next_ranged.ensures ∙ c.in-Some.is) _ c.bind.ensures c.if-left-eq0.true c.args.out.now _ c.explain-whole.ensures.out_after

pub explain_rows-explain_rows-whole-requires : goal.explain_rows-explain_rows-whole-requires
explain_rows-explain_rows-whole-requires t c =
    let p = law.row_inside c.args.self.now.rule.now c.args.self.now.pool.words.now c.args.b c.args.q.now c.args.run.start c.args.run.rows c.requires.ready c.in-Some.skipped (sym c.next_ranged.ensures ∙ c.in-Some.is) in (
      omega arith,
      (
        law.part_ready c.args.self.now.rule.now c.args.self.now.pool.words.now c.args.b c.args.q.now _ _ c.requires.ready _ _ (omega (arith, p, c.requires.ready.place)),
        ((explained.near_settled c.args.self.now.rule.now c.args.self.now.pool.words.now c.args.b c.args.q.now c.args.run.start c.args.run.rows c.requires.ready c.requires.verdict_value.0 c.in-Some.skipped (sym c.next_ranged.ensures ∙ c.in-Some.is) _ (omega arith), omega (arith, simp length-set at c.explain-whole.auto.out, c.requires.verdict_value.1)), c.explain-whole.ensures.marked_whole_2),
      ),
    )

pub explain_rows-explain_rows-requires : goal.explain_rows-explain_rows-requires
explain_rows-explain_rows-requires t c =
    let p = law.row_inside c.args.self.now.rule.now c.args.self.now.pool.words.now c.args.b c.args.q.now c.args.run.start c.args.run.rows c.requires.ready c.in-Some.skipped (sym c.next_ranged.ensures ∙ c.in-Some.is) in (
      omega arith,
      (
        law.part_ready c.args.self.now.rule.now c.args.self.now.pool.words.now c.args.b c.args.q.now _ _ c.requires.ready _ _ (omega (arith, p, c.requires.ready.place)),
        ((explained.far_settled c.args.self.now.rule.now c.args.self.now.pool.words.now c.args.b c.args.q.now c.args.run.start c.args.run.rows c.requires.ready c.requires.verdict_value.0 c.in-Some.skipped (sym c.next_ranged.ensures ∙ c.in-Some.is) _ (omega arith), omega (arith, simp length-set at c.explain-whole.auto.out, c.explain_rows-whole.auto.out, c.requires.verdict_value.1)), c.explain_rows-whole.ensures.marked_whole_2),
      ),
    )

pub explain_rows-returns-clause-out_after : goal.explain_rows-returns-clause-out_after
explain_rows-returns-clause-out_after t c =
    explained.rows_marked c.args.self.now.rule.now c.args.self.now.pool.words.now c.args.b c.args.q.now c.args.run.start c.args.run.rows c.requires.ready c.requires.verdict_value.0 c.in-Some.skipped (sym c.next_ranged.ensures ∙ c.in-Some.is) _ (omega arith) _ c.bind.ensures c.args.out.now _ _ _ c.explain-whole.ensures.out_after c.explain_rows-whole.ensures.out_after c.explain_rows.ensures.out_after
