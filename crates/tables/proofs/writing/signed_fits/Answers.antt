-- `tables::writing::signed_fits` meets its contract, by the laws of proofs/Measures.antt. Assumes nothing.
use Prim.Native.Nat.{ℕ, ◌+◌}
use mathlib.Core.Path.{ap}
use Rattle.std.proofs.Common.{rules}
use Rattle.tables.proofs.Measures.{fit_begin, fit_short, fit_more, fit_end}
use Rattle.tables.proofs.writing.signed_fits.Goals as goal

pub loop-w-init : goal.loop-w-init
loop-w-init c = fit_begin _ _ _ _ (search rules) c.args.format.has_column

pub returns-then-left-n : goal.returns-then-left-n
returns-then-left-n c = fit_short _ _ _ _ _ _ c.loop-w.invariant c.loop-w-test.true _ c.may_sign.ensures _
    (ap (λ (n : ℕ). n + 1) c.word_width-n.ensures.0) c.if-left-n.true

pub column_after-column-requires : goal.column_after-column-requires
column_after-column-requires c = c.loop-w.invariant.column

pub loop-w-preserved : goal.loop-w-preserved
loop-w-preserved c = fit_more _ _ _ _ _ _ c.loop-w.invariant c.loop-w-test.true _ c.may_sign.ensures _
    (ap (λ (n : ℕ). n + 1) c.word_width-n.ensures.0) _ c.if-left-n.false c.column_after-column.ensures.after c.column_after-column.ensures.bound

pub returns : goal.returns
returns c = fit_end _ _ _ _ _ _ c.loop-w.invariant c.loop-w-test.false
