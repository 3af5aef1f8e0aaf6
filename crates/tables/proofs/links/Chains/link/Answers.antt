-- `tables::links::Chains::link` meets its contract. Assumes nothing.
use mathlib.Core.Path.{refl}
use Rattle.tables.proofs.Linked.{chained_more}
use Rattle.tables.proofs.links.Chains.link.Goals as goal

pub returns-clause-chained : goal.returns-clause-chained
returns-clause-chained c = λ hash e ch. chained_more hash e c.requires.rows_in_bounds c.requires.h_in_bounds ch refl refl refl
