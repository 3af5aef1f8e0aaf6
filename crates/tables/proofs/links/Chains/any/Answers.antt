-- `tables::links::Chains::any` meets its contract. Assumes nothing.
use Prim.Native.Nat.{◌-◌}
use mathlib.Core.Path.{sym, ◌∙◌}
use native.Mathlib.Omega.{arith}
use Rattle.tables.proofs.Linked.{seek_begin, seek_next, seek_hit, seek_rest, seek_end}
use Rattle.tables.proofs.links.Chains.any.Goals as goal

pub loop-init : goal.loop-init
loop-init g c = (c.args.self.now.heads_within c.args.h, λ hash p ch agrees tests. seek_begin agrees _ (ch.heads.lasts c.args.h c.requires.h_in_bounds))

pub returns-then-at-eq0 : goal.returns-then-at-eq0
returns-then-at-eq0 g c = λ hash p ch agrees tests scans. seek_end (c.loop.invariant.1 hash p ch agrees tests) (omega arith)

pub returns-then-test : goal.returns-then-test
returns-then-test g c = λ hash p ch agrees tests scans.
    seek_hit (c.loop.invariant.1 hash p ch agrees tests) (omega arith) (sym (tests _ _ c.test.ensures) ∙ c.if-test.true)

pub loop-preserved : goal.loop-preserved
loop-preserved g c = (
  omega (arith, c.args.self.now.next_before (c.loop.at - 1)),
  λ hash p ch agrees tests.
      seek_next (c.loop.invariant.1 hash p ch agrees tests) ch.linked (omega arith) (sym (tests _ _ c.test.ensures) ∙ c.if-test.false),
)

pub returns : goal.returns
returns g c = λ hash p ch agrees tests scans. scans _ _ c.scan.ensures ∙ seek_rest (c.loop.invariant.1 hash p ch agrees tests)
