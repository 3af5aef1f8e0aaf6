-- `engine::pool::Question::holds` and `engine::pool::Question::walk`, which call each other, meet their contracts. Assumes nothing.
use mathlib.Core.Path.{refl, sym, ap, ◌∙◌}
use mathlib.Core.Bool.{not, beq}
use native.Mathlib.Omega.{arith}
use borrow.Author.Tests.{not-true, not-false}
use Rattle.tables.specs.Words.{entry_count, row_count}
use Rattle.engine.proofs.Falls.{below, falls_child, falls_run}
use Rattle.engine.proofs.Read as read
use Rattle.engine.proofs.Rows as law
use Rattle.engine.proofs.pool.Question.+holds_walk.Goals as goal

pub holds-holds-requires : goal.holds-holds-requires
holds-holds-requires t c =
    let l = read.not_later c.args.self.now.rule.now c.args.self.now.pool.words.now c.args.b c.args.entry c.requires _ c.entry_at.ensures c.in-Not.body c.in-Not.ensures.parts in
    (below c.decreases (falls_child (entry_count c.args.self.now.rule.now) (row_count c.args.self.now.pool.words.now) c.args.entry _ l.0 l.1), read.not_ready c.args.self.now.rule.now c.args.self.now.pool.words.now c.args.b c.args.entry c.requires _ c.entry_at.ensures c.in-Not.body c.in-Not.ensures.parts)

pub holds-returns-in-Not : goal.holds-returns-in-Not
holds-returns-in-Not t c =
    law.not_verdict c.args.self.now.rule.now c.args.self.now.pool.words.now c.args.b c.args.entry _ (read.not_is c.args.self.now.rule.now c.args.self.now.pool.words.now c.args.b c.args.entry c.requires _ c.entry_at.ensures c.in-Not.body c.in-Not.ensures.parts) _ c.holds.ensures

pub holds-holds-first-requires : goal.holds-holds-first-requires
holds-holds-first-requires t c =
    let l = read.left_later c.args.self.now.rule.now c.args.self.now.pool.words.now c.args.b c.args.entry c.requires _ c.entry_at.ensures c.in-Connective.by c.in-Connective.left c.in-Connective.right c.in-Connective.ensures.parts in
    (below c.decreases (falls_child (entry_count c.args.self.now.rule.now) (row_count c.args.self.now.pool.words.now) c.args.entry _ l.0 l.1), read.left_ready c.args.self.now.rule.now c.args.self.now.pool.words.now c.args.b c.args.entry c.requires _ c.entry_at.ensures c.in-Connective.by c.in-Connective.left c.in-Connective.right c.in-Connective.ensures.parts)

pub holds-returns-then-left_decides : goal.holds-returns-then-left_decides
holds-returns-then-left_decides t c =
    ap not c.undecided.ensures ∙ law.left_verdict c.args.self.now.rule.now c.args.self.now.pool.words.now c.args.b c.args.entry _ _ _ (read.joined_is c.args.self.now.rule.now c.args.self.now.pool.words.now c.args.b c.args.entry c.requires _ c.entry_at.ensures c.in-Connective.by c.in-Connective.left c.in-Connective.right c.in-Connective.ensures.parts) _ _ c.holds-first.ensures c.left_decides.ensures c.if-left_decides.true

pub holds-holds-requires-in-Connective : goal.holds-holds-requires-in-Connective
holds-holds-requires-in-Connective t c =
    let l = read.right_later c.args.self.now.rule.now c.args.self.now.pool.words.now c.args.b c.args.entry c.requires _ c.entry_at.ensures c.in-Connective.by c.in-Connective.left c.in-Connective.right c.in-Connective.ensures.parts in
    (below c.decreases (falls_child (entry_count c.args.self.now.rule.now) (row_count c.args.self.now.pool.words.now) c.args.entry _ l.0 l.1), read.right_ready c.args.self.now.rule.now c.args.self.now.pool.words.now c.args.b c.args.entry c.requires _ c.entry_at.ensures c.in-Connective.by c.in-Connective.left c.in-Connective.right c.in-Connective.ensures.parts)

pub holds-returns-else-left_decides : goal.holds-returns-else-left_decides
holds-returns-else-left_decides t c =
    law.right_verdict c.args.self.now.rule.now c.args.self.now.pool.words.now c.args.b c.args.entry _ _ _ (read.joined_is c.args.self.now.rule.now c.args.self.now.pool.words.now c.args.b c.args.entry c.requires _ c.entry_at.ensures c.in-Connective.by c.in-Connective.left c.in-Connective.right c.in-Connective.ensures.parts) _ _ c.holds-first.ensures c.left_decides.ensures c.if-left_decides.false _ c.holds-in-Connective.ensures

pub holds-settled_before-requires : goal.holds-settled_before-requires
holds-settled_before-requires t c =
    read.run_ready c.args.self.now.rule.now c.args.self.now.pool.words.now c.args.b c.args.entry c.requires _ c.entry_at.ensures c.in-Quantifier.by c.in-Quantifier.over c.in-Quantifier.name c.in-Quantifier.body c.in-Quantifier.ensures.parts 0 0 (omega arith)

pub holds-returns-then-settled_before : goal.holds-returns-then-settled_before
holds-returns-then-settled_before t c =
    c.settled.ensures ∙ c.settled_before.ensures.sure c.if-settled_before.true ∙ sym (law.all_verdict c.args.self.now.rule.now c.args.self.now.pool.words.now c.args.b c.args.entry (record { by = c.in-Quantifier.by; over = c.in-Quantifier.over; name = c.in-Quantifier.name; body = c.in-Quantifier.body }) (read.quantified_is c.args.self.now.rule.now c.args.self.now.pool.words.now c.args.b c.args.entry c.requires _ c.entry_at.ensures c.in-Quantifier.by c.in-Quantifier.over c.in-Quantifier.name c.in-Quantifier.body c.in-Quantifier.ensures.parts))

pub holds-run_of-requires-clause-parent : goal.holds-run_of-requires-clause-parent
holds-run_of-requires-clause-parent t c =
    read.parent_named c.args.self.now.rule.now c.args.self.now.pool.words.now c.args.b c.args.entry c.requires _ c.entry_at.ensures c.in-Quantifier.by c.in-Quantifier.over c.in-Quantifier.name c.in-Quantifier.body c.in-Quantifier.ensures.parts

pub holds-walk-requires : goal.holds-walk-requires
holds-walk-requires t c =
    let l = read.body_later c.args.self.now.rule.now c.args.self.now.pool.words.now c.args.b c.args.entry c.requires _ c.entry_at.ensures c.in-Quantifier.by c.in-Quantifier.over c.in-Quantifier.name c.in-Quantifier.body c.in-Quantifier.ensures.parts in
    let span = c.run_of.ensures (record { by = c.in-Quantifier.by; over = c.in-Quantifier.over; name = c.in-Quantifier.name; body = c.in-Quantifier.body }) refl in (
      below c.decreases (falls_run (entry_count c.args.self.now.rule.now) (row_count c.args.self.now.pool.words.now) c.args.entry _ c.run_of.result.rows l.0 l.1 (omega (arith, span.place))),
      read.run_ready c.args.self.now.rule.now c.args.self.now.pool.words.now c.args.b c.args.entry c.requires _ c.entry_at.ensures c.in-Quantifier.by c.in-Quantifier.over c.in-Quantifier.name c.in-Quantifier.body c.in-Quantifier.ensures.parts c.run_of.result.start c.run_of.result.rows span.place,
    )

pub holds-returns-else-settled_before : goal.holds-returns-else-settled_before
holds-returns-else-settled_before t c =
    law.run_verdict c.args.self.now.rule.now c.args.self.now.pool.words.now c.args.b c.args.entry (record { by = c.in-Quantifier.by; over = c.in-Quantifier.over; name = c.in-Quantifier.name; body = c.in-Quantifier.body }) (read.quantified_is c.args.self.now.rule.now c.args.self.now.pool.words.now c.args.b c.args.entry c.requires _ c.entry_at.ensures c.in-Quantifier.by c.in-Quantifier.over c.in-Quantifier.name c.in-Quantifier.body c.in-Quantifier.ensures.parts) (c.run_of.ensures (record { by = c.in-Quantifier.by; over = c.in-Quantifier.over; name = c.in-Quantifier.name; body = c.in-Quantifier.body }) refl) _ c.walk.ensures

pub holds-compared-requires-clause-inside : goal.holds-compared-requires-clause-inside
holds-compared-requires-clause-inside t c =
    read.variable_named c.args.self.now.rule.now c.args.self.now.pool.words.now c.args.b c.args.entry c.requires _ c.entry_at.ensures c.in-Comparison.by c.in-Comparison.variable c.in-Comparison.operand c.in-Comparison.ensures.parts

pub holds-compared-requires-clause-named : goal.holds-compared-requires-clause-named
holds-compared-requires-clause-named t c =
    read.other_named c.args.self.now.rule.now c.args.self.now.pool.words.now c.args.b c.args.entry c.requires _ c.entry_at.ensures c.in-Comparison.by c.in-Comparison.variable c.in-Comparison.operand c.in-Comparison.ensures.parts

pub holds-returns-in-Comparison : goal.holds-returns-in-Comparison
holds-returns-in-Comparison t c =
    law.compared_verdict c.args.self.now.rule.now c.args.self.now.pool.words.now c.args.b c.args.entry _ _ _ (read.compared_is c.args.self.now.rule.now c.args.self.now.pool.words.now c.args.b c.args.entry c.requires _ c.entry_at.ensures c.in-Comparison.by c.in-Comparison.variable c.in-Comparison.operand c.in-Comparison.ensures.parts) _ c.compared.ensures

pub walk-returns-in_default : goal.walk-returns-in_default
walk-returns-in_default t c =
    c.settled-open.ensures ∙ law.walk_none c.args.self.now.rule.now c.args.self.now.pool.words.now c.args.b c.args.q.now c.args.run.start c.args.run.rows c.requires (sym c.next_ranged.ensures ∙ c.in_default.is)

pub walk-returns-then-verdict-open : goal.walk-returns-then-verdict-open
walk-returns-then-verdict-open t c =
    law.walk_first c.args.self.now.rule.now c.args.self.now.pool.words.now c.args.b c.args.q.now c.args.run.start c.args.run.rows c.requires c.in-Some.skipped (sym c.next_ranged.ensures ∙ c.in-Some.is) _ c.bind.ensures _ c.holds-verdict.ensures (ap (beq _) (sym c.settled-open.ensures) ∙ not-true _ c.if-verdict-open.true)

pub walk-returns-then-left-eq0 : goal.walk-returns-then-left-eq0
walk-returns-then-left-eq0 t c =
    c.settled-open.ensures ∙ law.walk_last c.args.self.now.rule.now c.args.self.now.pool.words.now c.args.b c.args.q.now c.args.run.start c.args.run.rows c.requires c.in-Some.skipped (sym c.next_ranged.ensures ∙ c.in-Some.is) _ c.bind.ensures _ c.holds-verdict.ensures (ap (beq _) (sym c.settled-open.ensures) ∙ not-false _ c.if-verdict-open.false) c.if-left-eq0.true

pub walk-returns-then-near-open : goal.walk-returns-then-near-open
walk-returns-then-near-open t c =
    law.walk_near c.args.self.now.rule.now c.args.self.now.pool.words.now c.args.b c.args.q.now c.args.run.start c.args.run.rows c.requires c.in-Some.skipped (sym c.next_ranged.ensures ∙ c.in-Some.is) _ c.bind.ensures _ c.holds-verdict.ensures (ap (beq _) (sym c.settled-open.ensures) ∙ not-false _ c.if-verdict-open.false) _ (omega arith) _ c.walk-near.ensures (ap (beq _) (sym c.settled-open.ensures) ∙ not-true _ c.if-near-open.true)

pub walk-returns : goal.walk-returns
walk-returns t c =
    law.walk_rest c.args.self.now.rule.now c.args.self.now.pool.words.now c.args.b c.args.q.now c.args.run.start c.args.run.rows c.requires c.in-Some.skipped (sym c.next_ranged.ensures ∙ c.in-Some.is) _ c.bind.ensures _ c.holds-verdict.ensures (ap (beq _) (sym c.settled-open.ensures) ∙ not-false _ c.if-verdict-open.false) _ (omega arith) _ c.walk-near.ensures (ap (beq _) (sym c.settled-open.ensures) ∙ not-false _ c.if-near-open.false) _ c.walk.ensures
