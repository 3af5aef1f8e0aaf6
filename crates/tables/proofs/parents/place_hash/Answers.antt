-- `tables::parents::place_hash` meets its contract. Assumes nothing.
use Rattle.tables.specs.Links.{place_hash}
use Rattle.tables.proofs.parents.place_hash.Goals as goal

pub returns-clause-value : goal.returns-clause-value
unfolding place_hash
returns-clause-value c = c.hash_of.ensures.value
