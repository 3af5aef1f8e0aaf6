-- `tables::parents::parent_fault` meets its contract. Assumes nothing.
use lib.Dec.{eqb}
use Rattle.base.proofs.Bools.{either}
use borrow.Author.Tests.{eq-eqb, ne_eqb}
use mathlib.Core.Path.{sym, ◌∙◌}
use Rattle.tables.specs.Links.{parent_fault}
use Rattle.tables.proofs.ParentFaults.{wrong_is, parent_is}
use Rattle.tables.proofs.parents.parent_fault.Goals as goal

pub returns-then-r-eq0 : goal.returns-then-r-eq0
unfolding parent_fault
returns-then-r-eq0 c = let wrong = wrong_is c.args.t.now c.args.chains.now.rows c.args.r c.requires.row.1 in
    let parent = parent_is c.args.t.now c.args.chains.now.rows c.args.r c.requires.row.1 in
    c.then_some.ensures ∙ either (eqb c.args.r.deep 0)
    (λ e. sym (rw (wrong, parent, eq-eqb _ _ c.if-r-eq0.true, e)))
    (λ e. sym (rw (wrong, parent, eq-eqb _ _ c.if-r-eq0.true, e)))

pub returns-then-has_parent : goal.returns-then-has_parent
unfolding parent_fault
returns-then-has_parent c = let wrong = wrong_is c.args.t.now c.args.chains.now.rows c.args.r c.requires.row.1 in
    sym (rw (wrong, ne_eqb _ _ c.if-r-eq0.false, sym c.has_parent.ensures ∙ c.if-has_parent.true))

pub returns-then-has_parent-2 : goal.returns-then-has_parent-2
unfolding parent_fault
returns-then-has_parent-2 c = let wrong = wrong_is c.args.t.now c.args.chains.now.rows c.args.r c.requires.row.1 in
    let parent = parent_is c.args.t.now c.args.chains.now.rows c.args.r c.requires.row.1 in
    sym (rw (wrong, parent, ne_eqb _ _ c.if-r-eq0.false, sym c.has_parent.ensures ∙ c.if-has_parent.false, sym c.has_parent-2.ensures ∙ c.if-has_parent-2.true))

pub returns : goal.returns
unfolding parent_fault
returns c = let wrong = wrong_is c.args.t.now c.args.chains.now.rows c.args.r c.requires.row.1 in
    let parent = parent_is c.args.t.now c.args.chains.now.rows c.args.r c.requires.row.1 in
    sym (rw (wrong, parent, ne_eqb _ _ c.if-r-eq0.false, sym c.has_parent.ensures ∙ c.if-has_parent.false, sym c.has_parent-2.ensures ∙ c.if-has_parent-2.false))
