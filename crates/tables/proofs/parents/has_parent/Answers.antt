-- `tables::parents::has_parent` meets its contract. Assumes nothing.
use borrow.Author.Rules.{rules}
use Prim.Native.Nat.{ℕ}
use mathlib.Core.Path.{sym, ◌∙◌}
use Rattle.tables.specs.Words.{row_at}
use Rattle.tables.specs.Links.{places_at, fits_parent}
use Rattle.tables.proofs.ParentFaults.{parent_hash}
use Rattle.tables.proofs.parents.has_parent.Goals as goal

pub returns : goal.returns
returns c =
    let t = c.args.t.now in
    let fits = λ (j : ℕ). fits_parent c.args.deeper c.args.r (row_at t j) in
    c.any.ensures (places_at t) fits c.requires.chained
    (λ j e. parent_hash c.args.deeper c.args.r (row_at t j) e ∙ sym c.place_hash.ensures.value) (λ j b k. search rules) (λ n b k. search rules)
