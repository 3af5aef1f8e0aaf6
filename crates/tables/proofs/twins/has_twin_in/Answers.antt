-- `tables::twins::has_twin_in` meets its contract. Assumes nothing.
use mathlib.Core.Path.{sym, ◌∙◌}
use Rattle.tables.proofs.Scanned.{none_like}
use Rattle.tables.proofs.twins.has_twin_in.Goals as goal

pub returns : goal.returns
returns c = none_like c.args.r c.args.t.now _ (sym c.has_like.ensures ∙ c.if-has_like.false)
