-- `engine::pool::Question::sure` and `engine::pool::Question::scan`, which call each other, meet their contracts. Assumes nothing.
use mathlib.Core.Path.{refl, sym, ap, ◌∙◌}
use mathlib.Core.Bool.{beq}
use native.Mathlib.Omega.{arith}
use borrow.Author.Tests.{not-true, not-false}
use Rattle.tables.specs.Words.{entry_count, row_count}
use Rattle.engine.proofs.Falls.{below, falls_child, falls_run}
use Rattle.engine.proofs.Read as read
use Rattle.engine.proofs.Rows as law
use Rattle.engine.proofs.Compared.{same_true}
use Rattle.engine.proofs.Settled as settled
use Rattle.engine.proofs.pool.Question.+scan_sure.Goals.{sure-then-same-first+else-not-sure, sure-else-same-first}
use Rattle.engine.proofs.pool.Question.+scan_sure.Goals as goal

pub sure-sure-requires : goal.sure-sure-requires
sure-sure-requires t c =
    let l = read.not_later c.args.self.now.rule.now c.args.self.now.pool.words.now c.args.b c.args.entry c.requires _ c.entry_at.ensures c.in-Not.body c.in-Not.ensures.parts in
    (below c.decreases (falls_child (entry_count c.args.self.now.rule.now) (row_count c.args.self.now.pool.words.now) c.args.entry _ l.0 l.1), read.not_ready c.args.self.now.rule.now c.args.self.now.pool.words.now c.args.b c.args.entry c.requires _ c.entry_at.ensures c.in-Not.body c.in-Not.ensures.parts)

pub sure-returns-in-Not : goal.sure-returns-in-Not
sure-returns-in-Not t c =
    settled.certain_not c.args.self.now.rule.now c.args.self.now.pool.words.now c.args.b c.args.entry c.args.want c.args.same _ (read.not_is c.args.self.now.rule.now c.args.self.now.pool.words.now c.args.b c.args.entry c.requires _ c.entry_at.ensures c.in-Not.body c.in-Not.ensures.parts) _ c.sure.ensures

pub sure-sure-first-requires : goal.sure-sure-first-requires
sure-sure-first-requires t c =
    let l = read.left_later c.args.self.now.rule.now c.args.self.now.pool.words.now c.args.b c.args.entry c.requires _ c.entry_at.ensures c.in-Connective.by c.in-Connective.left c.in-Connective.right c.in-Connective.ensures.parts in
    (below c.decreases (falls_child (entry_count c.args.self.now.rule.now) (row_count c.args.self.now.pool.words.now) c.args.entry _ l.0 l.1), read.left_ready c.args.self.now.rule.now c.args.self.now.pool.words.now c.args.b c.args.entry c.requires _ c.entry_at.ensures c.in-Connective.by c.in-Connective.left c.in-Connective.right c.in-Connective.ensures.parts)

pub sure-returns-then-first-both : goal.sure-returns-then-first-both
sure-returns-then-first-both t c =
    settled.certain_left c.args.self.now.rule.now c.args.self.now.pool.words.now c.args.b c.args.entry c.args.want c.args.same _ _ _ (read.joined_is c.args.self.now.rule.now c.args.self.now.pool.words.now c.args.b c.args.entry c.requires _ c.entry_at.ensures c.in-Connective.by c.in-Connective.left c.in-Connective.right c.in-Connective.ensures.parts) _ _ c.side-decides.ensures c.sure-first.ensures (ap (λ z. beq c.sure-first.result (beq c.args.want z)) (sym c.undecided.ensures) ∙ not-true _ c.if-first-both.true)

pub sure-sure-requires-then-same-first : goal.sure-sure-requires-then-same-first
sure-sure-requires-then-same-first t c =
    let l = read.left_later c.args.self.now.rule.now c.args.self.now.pool.words.now c.args.b c.args.entry c.requires _ c.entry_at.ensures c.in-Connective.by c.in-Connective.left c.in-Connective.right c.in-Connective.ensures.parts in
    (below c.decreases (falls_child (entry_count c.args.self.now.rule.now) (row_count c.args.self.now.pool.words.now) c.args.entry _ l.0 l.1), read.left_ready c.args.self.now.rule.now c.args.self.now.pool.words.now c.args.b c.args.entry c.requires _ c.entry_at.ensures c.in-Connective.by c.in-Connective.left c.in-Connective.right c.in-Connective.ensures.parts)

pub sure-sure-requires-in-Connective : goal.sure-sure-requires-in-Connective
sure-sure-requires-in-Connective t c =
    let l = read.right_later c.args.self.now.rule.now c.args.self.now.pool.words.now c.args.b c.args.entry c.requires _ c.entry_at.ensures c.in-Connective.by c.in-Connective.left c.in-Connective.right c.in-Connective.ensures.parts in
    (below c.decreases (falls_child (entry_count c.args.self.now.rule.now) (row_count c.args.self.now.pool.words.now) c.args.entry _ l.0 l.1), read.right_ready c.args.self.now.rule.now c.args.self.now.pool.words.now c.args.b c.args.entry c.requires _ c.entry_at.ensures c.in-Connective.by c.in-Connective.left c.in-Connective.right c.in-Connective.ensures.parts)

pub sure-returns-after-same-first : goal.sure-returns-after-same-first
sure-returns-after-same-first t c =
    elim c.if-same-first.branch [
      | sure-then-same-first+else-not-sure w ↦ settled.certain_other c.args.self.now.rule.now c.args.self.now.pool.words.now c.args.b c.args.entry c.args.want c.args.same _ _ _ (read.joined_is c.args.self.now.rule.now c.args.self.now.pool.words.now c.args.b c.args.entry c.requires _ c.entry_at.ensures c.in-Connective.by c.in-Connective.left c.in-Connective.right c.in-Connective.ensures.parts) _ _ c.side-decides.ensures c.sure-first.ensures (ap (λ z. beq c.sure-first.result (beq c.args.want z)) (sym c.undecided.ensures) ∙ not-false _ c.if-first-both.false) w.if-same-first.true _ _ c.side-decides.ensures w.sure-then-same-first.ensures w.if-not-sure.false _ c.sure-in-Connective.ensures
      | sure-else-same-first w ↦ settled.certain_right c.args.self.now.rule.now c.args.self.now.pool.words.now c.args.b c.args.entry c.args.want c.args.same _ _ _ (read.joined_is c.args.self.now.rule.now c.args.self.now.pool.words.now c.args.b c.args.entry c.requires _ c.entry_at.ensures c.in-Connective.by c.in-Connective.left c.in-Connective.right c.in-Connective.ensures.parts) _ _ c.side-decides.ensures c.sure-first.ensures (ap (λ z. beq c.sure-first.result (beq c.args.want z)) (sym c.undecided.ensures) ∙ not-false _ c.if-first-both.false) w.if-same-first.false _ c.sure-in-Connective.ensures
    ]

pub sure-is_steady-requires : goal.sure-is_steady-requires
sure-is_steady-requires t c =
    read.parent_named c.args.self.now.rule.now c.args.self.now.pool.words.now c.args.b c.args.entry c.requires _ c.entry_at.ensures c.in-Quantifier.by c.in-Quantifier.over c.in-Quantifier.name c.in-Quantifier.body c.in-Quantifier.ensures.parts

pub sure-reads_ahead-requires-clause-parent : goal.sure-reads_ahead-requires-clause-parent
sure-reads_ahead-requires-clause-parent t c =
    read.parent_named c.args.self.now.rule.now c.args.self.now.pool.words.now c.args.b c.args.entry c.requires _ c.entry_at.ensures c.in-Quantifier.by c.in-Quantifier.over c.in-Quantifier.name c.in-Quantifier.body c.in-Quantifier.ensures.parts

pub sure-scan-requires : goal.sure-scan-requires
sure-scan-requires t c =
    let l = read.body_later c.args.self.now.rule.now c.args.self.now.pool.words.now c.args.b c.args.entry c.requires _ c.entry_at.ensures c.in-Quantifier.by c.in-Quantifier.over c.in-Quantifier.name c.in-Quantifier.body c.in-Quantifier.ensures.parts in
    let span = c.run_of-run.ensures (record { by = c.in-Quantifier.by; over = c.in-Quantifier.over; name = c.in-Quantifier.name; body = c.in-Quantifier.body }) refl in (
      below c.decreases (falls_run (entry_count c.args.self.now.rule.now) (row_count c.args.self.now.pool.words.now) c.args.entry _ c.run_of-run.result.rows l.0 l.1 (omega (arith, span.place))),
      (read.run_ready c.args.self.now.rule.now c.args.self.now.pool.words.now c.args.b c.args.entry c.requires _ c.entry_at.ensures c.in-Quantifier.by c.in-Quantifier.over c.in-Quantifier.name c.in-Quantifier.body c.in-Quantifier.ensures.parts c.run_of-run.result.start c.run_of-run.result.rows span.place, c.reads_ahead.ensures c.if-reads_ahead.true),
    )

pub sure-returns-then-reads_ahead : goal.sure-returns-then-reads_ahead
sure-returns-then-reads_ahead t c =
    let span = c.run_of-run.ensures (record { by = c.in-Quantifier.by; over = c.in-Quantifier.over; name = c.in-Quantifier.name; body = c.in-Quantifier.body }) refl in
    settled.certain_scan c.args.self.now.rule.now c.args.self.now.pool.words.now c.args.b (record { by = c.in-Quantifier.by; over = c.in-Quantifier.over; name = c.in-Quantifier.name; body = c.in-Quantifier.body }) c.run_of-run.result.start c.run_of-run.result.rows (read.run_ready c.args.self.now.rule.now c.args.self.now.pool.words.now c.args.b c.args.entry c.requires _ c.entry_at.ensures c.in-Quantifier.by c.in-Quantifier.over c.in-Quantifier.name c.in-Quantifier.body c.in-Quantifier.ensures.parts c.run_of-run.result.start c.run_of-run.result.rows span.place)
    c.args.entry (read.quantified_is c.args.self.now.rule.now c.args.self.now.pool.words.now c.args.b c.args.entry c.requires _ c.entry_at.ensures c.in-Quantifier.by c.in-Quantifier.over c.in-Quantifier.name c.in-Quantifier.body c.in-Quantifier.ensures.parts) c.args.want c.args.same _ c.is_steady.ensures c.if-not-is_steady.false (c.reads_ahead.ensures c.if-reads_ahead.true) span _ c.scan.ensures

pub sure-sure-requires-in-Quantifier : goal.sure-sure-requires-in-Quantifier
sure-sure-requires-in-Quantifier t c =
    let l = read.body_later c.args.self.now.rule.now c.args.self.now.pool.words.now c.args.b c.args.entry c.requires _ c.entry_at.ensures c.in-Quantifier.by c.in-Quantifier.over c.in-Quantifier.name c.in-Quantifier.body c.in-Quantifier.ensures.parts in (
      below c.decreases (falls_child (entry_count c.args.self.now.rule.now) (row_count c.args.self.now.pool.words.now) c.args.entry _ l.0 l.1),
      law.bound_ready c.args.self.now.rule.now c.args.self.now.pool.words.now c.args.b (record { by = c.in-Quantifier.by; over = c.in-Quantifier.over; name = c.in-Quantifier.name; body = c.in-Quantifier.body }) 0 0 (read.run_ready c.args.self.now.rule.now c.args.self.now.pool.words.now c.args.b c.args.entry c.requires _ c.entry_at.ensures c.in-Quantifier.by c.in-Quantifier.over c.in-Quantifier.name c.in-Quantifier.body c.in-Quantifier.ensures.parts 0 0 (omega arith)) 0 (omega arith) _ c.bind.ensures,
    )

pub sure-returns-else-want-settled : goal.sure-returns-else-want-settled
sure-returns-else-want-settled t c =
    settled.certain_all c.args.self.now.rule.now c.args.self.now.pool.words.now c.args.b (record { by = c.in-Quantifier.by; over = c.in-Quantifier.over; name = c.in-Quantifier.name; body = c.in-Quantifier.body }) 0 0 (read.run_ready c.args.self.now.rule.now c.args.self.now.pool.words.now c.args.b c.args.entry c.requires _ c.entry_at.ensures c.in-Quantifier.by c.in-Quantifier.over c.in-Quantifier.name c.in-Quantifier.body c.in-Quantifier.ensures.parts 0 0 (omega arith)) c.args.entry (read.quantified_is c.args.self.now.rule.now c.args.self.now.pool.words.now c.args.b c.args.entry c.requires _ c.entry_at.ensures c.in-Quantifier.by c.in-Quantifier.over c.in-Quantifier.name c.in-Quantifier.body c.in-Quantifier.ensures.parts) c.args.want c.args.same _ c.is_steady.ensures c.if-not-is_steady.false
    (same_true _ _ (not-false _ c.if-want-settled.false) ∙ c.settled.ensures) _ c.bind.ensures _ c.sure-in-Quantifier.ensures

pub sure-sure_compared-requires-clause-inside : goal.sure-sure_compared-requires-clause-inside
sure-sure_compared-requires-clause-inside t c =
    read.variable_named c.args.self.now.rule.now c.args.self.now.pool.words.now c.args.b c.args.entry c.requires _ c.entry_at.ensures c.in-Comparison.by c.in-Comparison.variable c.in-Comparison.operand c.in-Comparison.ensures.parts

pub sure-sure_compared-requires-clause-named : goal.sure-sure_compared-requires-clause-named
sure-sure_compared-requires-clause-named t c =
    read.other_named c.args.self.now.rule.now c.args.self.now.pool.words.now c.args.b c.args.entry c.requires _ c.entry_at.ensures c.in-Comparison.by c.in-Comparison.variable c.in-Comparison.operand c.in-Comparison.ensures.parts

pub sure-returns-in-Comparison : goal.sure-returns-in-Comparison
sure-returns-in-Comparison t c =
    settled.certain_compared c.args.self.now.rule.now c.args.self.now.pool.words.now c.args.b c.args.entry c.args.want c.args.same _ _ _ (read.compared_is c.args.self.now.rule.now c.args.self.now.pool.words.now c.args.b c.args.entry c.requires _ c.entry_at.ensures c.in-Comparison.by c.in-Comparison.variable c.in-Comparison.operand c.in-Comparison.ensures.parts) _ c.sure_compared.ensures

pub scan-returns-in_default : goal.scan-returns-in_default
scan-returns-in_default t c =
    rw c.settled.ensures (settled.scan_none c.args.self.now.rule.now c.args.self.now.pool.words.now c.args.b c.args.q.now c.args.run.start c.args.run.rows c.requires.ready c.args.want c.args.same (sym c.next_ranged.ensures ∙ c.in_default.is))

pub scan-returns-then-left-eq1 : goal.scan-returns-then-left-eq1
scan-returns-then-left-eq1 t c =
    settled.scan_one c.args.self.now.rule.now c.args.self.now.pool.words.now c.args.b c.args.q.now c.args.run.start c.args.run.rows c.requires.ready c.args.want c.args.same c.in-Some.skipped (sym c.next_ranged.ensures ∙ c.in-Some.is) c.if-left-eq1.true _ c.bind.ensures _ c.sure.ensures

pub scan-returns-then-known-all : goal.scan-returns-then-known-all
scan-returns-then-known-all t c =
    settled.scan_left c.args.self.now.rule.now c.args.self.now.pool.words.now c.args.b c.args.q.now c.args.run.start c.args.run.rows c.requires.ready c.args.want c.args.same c.in-Some.skipped (sym c.next_ranged.ensures ∙ c.in-Some.is) _ (omega arith) _ c.scan-known.ensures (ap (λ z. beq c.scan-known.result (beq c.args.want z)) (sym c.settled.ensures) ∙ not-true _ c.if-known-all.true)

pub scan-returns : goal.scan-returns
scan-returns t c =
    settled.scan_right c.args.self.now.rule.now c.args.self.now.pool.words.now c.args.b c.args.q.now c.args.run.start c.args.run.rows c.requires.ready c.args.want c.args.same c.in-Some.skipped (sym c.next_ranged.ensures ∙ c.in-Some.is) _ (omega arith) _ c.scan-known.ensures (ap (λ z. beq c.scan-known.result (beq c.args.want z)) (sym c.settled.ensures) ∙ not-false _ c.if-known-all.false) _ c.scan.ensures
