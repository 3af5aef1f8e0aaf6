-- `tables::links::Chains::new` meets its contract. Assumes nothing.
use mathlib.Core.Path.{refl}
use native.Mathlib.Omega.{arith}
use Rattle.tables.specs.Links.{hashes}
use Rattle.tables.specs.Tables.{row_limit}
use Rattle.tables.proofs.Linked.{none_yet, chained_none}
use Rattle.tables.proofs.links.Chains.new.Goals as goal

pub invariant_of-result : goal.invariant_of-result
invariant_of-result c = record {
  room = omega arith;
  heads_within = λ h. none_yet hashes h 0;
  next_before = λ j. none_yet row_limit j j;
}

pub returns-clause-chained : goal.returns-clause-chained
returns-clause-chained c = λ hash. chained_none hash _ refl refl refl
