-- `parts::device::reads` and `sweep`, which call each other, meet their contracts. Assumes nothing.
use mathlib.Core.Path.{refl, sym, ◌∙◌}
use native.Mathlib.Omega.{arith}
use borrow.Author.Tests.{not-false, not-true}
use Rattle.parts.proofs.Asking.{settles}
use Rattle.parts.proofs.Halves as halves
use Rattle.parts.proofs.Steps as laws
use Rattle.parts.proofs.device.+reads_sweep.Goals as goal

pub reads-reads-requires : goal.reads-reads-requires
reads-reads-requires t c = laws.not_call c.requires c.entry_at.ensures c.in-Not.ensures.parts c.decreases

pub reads-returns-in-Not : goal.reads-returns-in-Not
reads-returns-in-Not t c = laws.not_reads c.requires c.entry_at.ensures c.in-Not.ensures.parts c.args.wanted c.reads.ensures

pub reads-reads-first-requires : goal.reads-reads-first-requires
reads-reads-first-requires t c = laws.left_call c.requires c.entry_at.ensures c.in-Connective.ensures.parts c.decreases

pub reads-returns-then-first-both : goal.reads-returns-then-first-both
reads-returns-then-first-both t c = laws.left_reads c.requires c.entry_at.ensures c.in-Connective.ensures.parts c.args.wanted c.eq.ensures c.ne.ensures c.reads-first.ensures (not-true _ c.if-first-both.true)

pub reads-reads-requires-in-Connective : goal.reads-reads-requires-in-Connective
reads-reads-requires-in-Connective t c = laws.right_call c.requires c.entry_at.ensures c.in-Connective.ensures.parts c.decreases

pub reads-returns-else-first-both : goal.reads-returns-else-first-both
reads-returns-else-first-both t c = laws.right_reads c.requires c.entry_at.ensures c.in-Connective.ensures.parts c.args.wanted c.eq.ensures c.ne.ensures c.reads-first.ensures (not-false _ c.if-first-both.false) c.reads-in-Connective.ensures

pub reads-compared-requires-clause-variable : goal.reads-compared-requires-clause-variable
reads-compared-requires-clause-variable t c = laws.left_bound c.requires c.entry_at.ensures c.in-Comparison.ensures.parts

pub reads-compared-requires-clause-bound : goal.reads-compared-requires-clause-bound
reads-compared-requires-clause-bound t c = laws.right_bound c.requires c.entry_at.ensures c.in-Comparison.ensures.parts

pub reads-returns-in-Comparison : goal.reads-returns-in-Comparison
reads-returns-in-Comparison t c = laws.compared_reads c.requires c.entry_at.ensures c.in-Comparison.ensures.parts c.args.wanted c.compared.ensures

pub reads-parent_under-parent-requires : goal.reads-parent_under-parent-requires
reads-parent_under-parent-requires t c = laws.bound_over c.requires c.entry_at.ensures c.in-Quantifier.ensures.parts

pub reads-bounds-q-row : goal.reads-bounds-q-row
reads-bounds-q-row t c = let l = laws.parent_few c.requires c.entry_at.ensures c.in-Quantifier.ensures.parts c.args.wanted (c.eq-in-Quantifier.ensures ∙ settles _) c.parent_under-parent.ensures c.in-Some.is c.args.q.now.device.known in omega (arith, c.args.q.now.device.known.sized)

pub reads-sweep-requires : goal.reads-sweep-requires
reads-sweep-requires t c = laws.under_call c.requires c.entry_at.ensures c.in-Quantifier.ensures.parts c.args.wanted (c.eq-in-Quantifier.ensures ∙ settles _) c.parent_under-parent.ensures c.in-Some.is c.args.q.now.device.known refl c.decreases

pub reads-returns-in-Some : goal.reads-returns-in-Some
reads-returns-in-Some t c = laws.under_reads c.requires c.entry_at.ensures c.in-Quantifier.ensures.parts c.args.wanted (c.eq-in-Quantifier.ensures ∙ settles _) c.parent_under-parent.ensures c.in-Some.is c.args.q.now.device.known refl c.sweep.ensures

pub reads-reads-requires-then-all : goal.reads-reads-requires-then-all
reads-reads-requires-then-all t c = laws.elsewhere_call c.requires c.entry_at.ensures c.in-Quantifier.ensures.parts c.bind.ensures c.decreases

pub reads-returns-then-all : goal.reads-returns-then-all
reads-returns-then-all t c = laws.elsewhere_reads c.requires c.entry_at.ensures c.in-Quantifier.ensures.parts c.args.wanted (c.eq-in-Quantifier.ensures ∙ settles _) c.parent_under-parent.ensures c.in_default.is c.if-all.true c.bind.ensures c.reads-then-all.ensures

pub reads-returns-in-Under : goal.reads-returns-in-Under
reads-returns-in-Under t c = laws.none_reads c.requires c.entry_at.ensures c.in-Quantifier.ensures.parts c.args.wanted (c.eq-in-Quantifier.ensures ∙ settles _) c.parent_under-parent.ensures c.in_default.is c.if-all.false c.in-Under.is

pub reads-reads-requires-in-Quantifier : goal.reads-reads-requires-in-Quantifier
reads-reads-requires-in-Quantifier t c = laws.elsewhere_call c.requires c.entry_at.ensures c.in-Quantifier.ensures.parts c.bind-in-Quantifier.ensures c.decreases

pub reads-returns-then-reads : goal.reads-returns-then-reads
reads-returns-then-reads t c = laws.spared_reads c.requires c.entry_at.ensures c.in-Quantifier.ensures.parts c.args.wanted (c.eq-in-Quantifier.ensures ∙ settles _) c.parent_under-parent.ensures c.in_default.is c.if-all.false c.in_default-over.is c.bind-in-Quantifier.ensures c.reads-in-Quantifier.ensures c.if-reads.true

pub reads-sweep-requires-in-Quantifier : goal.reads-sweep-requires-in-Quantifier
reads-sweep-requires-in-Quantifier t c = laws.roots_call c.requires c.entry_at.ensures c.in-Quantifier.ensures.parts c.args.wanted (c.eq-in-Quantifier.ensures ∙ settles _) c.in_default.is refl c.decreases

pub reads-returns-else-reads : goal.reads-returns-else-reads
reads-returns-else-reads t c = laws.own_reads c.requires c.entry_at.ensures c.in-Quantifier.ensures.parts c.args.wanted (c.eq-in-Quantifier.ensures ∙ settles _) c.parent_under-parent.ensures c.in_default.is c.if-all.false c.in_default-over.is refl c.sweep-in-Quantifier.ensures

pub sweep-returns-in_default : goal.sweep-returns-in_default
sweep-returns-in_default t c = halves.sweep_none c.requires c.args.s.now.name c.args.s.now.wanted c.args.s.now.all (sym c.in_default.is ∙ c.next_ranged.ensures)

pub sweep-returns-then-left-eq1 : goal.sweep-returns-then-left-eq1
sweep-returns-then-left-eq1 t c = halves.sweep_one c.requires c.args.s.now.name c.args.s.now.wanted c.args.s.now.all (sym c.in-Some.is ∙ c.next_ranged.ensures) c.if-left-eq1.true c.bind.ensures c.reads.ensures

pub sweep-returns-then-near-s : goal.sweep-returns-then-near-s
sweep-returns-then-near-s t c = halves.sweep_near c.requires c.args.s.now.name c.args.s.now.wanted c.args.s.now.all (sym c.in-Some.is ∙ c.next_ranged.ensures) _ (omega arith) c.sweep-near.ensures (not-true _ c.if-near-s.true)

pub sweep-returns : goal.sweep-returns
sweep-returns t c = halves.sweep_far c.requires c.args.s.now.name c.args.s.now.wanted c.args.s.now.all (sym c.in-Some.is ∙ c.next_ranged.ensures) _ (omega arith) c.sweep-near.ensures (not-false _ c.if-near-s.false) c.sweep.ensures
