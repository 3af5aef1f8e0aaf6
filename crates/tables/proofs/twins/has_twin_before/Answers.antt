-- `tables::twins::has_twin_before` meets its contract. Assumes nothing.
use mathlib.Core.Path.{refl, sym, ◌∙◌}
use native.Mathlib.Omega.{arith}
use Rattle.tables.proofs.Scanned.{in_first, found_first, in_second}
use Rattle.tables.proofs.twins.has_twin_before.Goals as goal

pub has_twin_in-requires : goal.has_twin_in-requires
has_twin_in-requires c = omega (arith, c.if-n-m.true)

pub returns-then-n-m : goal.returns-then-n-m
returns-then-n-m c = c.has_twin_in.ensures ∙ in_first c.args.r c.args.s.now c.args.t.now c.args.n (omega (arith, c.if-n-m.true))

pub has_twin_in-requires-2 : goal.has_twin_in-requires-2
has_twin_in-requires-2 c = omega arith

pub returns-then-has_twin_in : goal.returns-then-has_twin_in
returns-then-has_twin_in c = found_first c.args.r c.args.s.now c.args.t.now c.args.n _ refl c.requires.row_words_len (omega (arith, c.if-n-m.false)) (sym c.has_twin_in-2.ensures ∙ c.if-has_twin_in.true)

pub overflow_sub-n : goal.overflow_sub-n
overflow_sub-n c = omega (arith, c.if-n-m.false)

pub has_twin_in-requires-3 : goal.has_twin_in-requires-3
has_twin_in-requires-3 c = omega (arith, c.requires.row_words_len, c.requires.n_in_bounds)

pub returns : goal.returns
returns c = c.has_twin_in-3.ensures ∙ in_second c.args.r c.args.s.now c.args.t.now c.args.n _ refl c.requires.row_words_len (omega (arith, c.if-n-m.false)) (sym c.has_twin_in-2.ensures ∙ c.if-has_twin_in.false)
