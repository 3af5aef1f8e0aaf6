-- `tables::twins::has_twin` meets its contract. Assumes nothing.
use borrow.Author.Rules.{rules}
use mathlib.Core.List.{◌++◌}
use mathlib.Core.Path.{sym, ◌∙◌}
use native.Mathlib.Omega.{arith}
use Rattle.tables.specs.Words.{row_at}
use Rattle.tables.specs.Tables.{is_twin}
use Rattle.tables.specs.Links.{twins_at}
use Rattle.tables.proofs.Siblings.{twin_below, same_hash}
use Rattle.tables.proofs.twins.has_twin.Goals as goal

pub any-requires-clause-h_in_bounds : goal.any-requires-clause-h_in_bounds
any-requires-clause-h_in_bounds c = omega (arith, twin_below c.args.r, c.requires.hash)

pub returns : goal.returns
returns c =
    let t = c.args.s.now ++ c.args.t.now in
    c.any.ensures (twins_at t) (λ j. is_twin c.args.r (row_at t j)) c.requires.chained
    (λ j e. same_hash c.args.r (row_at t j) e ∙ sym c.requires.hash) (λ j b k. search rules) (λ n b k. search rules)
