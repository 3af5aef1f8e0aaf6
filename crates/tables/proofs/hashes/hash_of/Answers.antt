-- `tables::hashes::hash_of` meets its contract. Assumes nothing.
use borrow.Author.Rules.{rules}
use native.Mathlib.Omega.{arith}
use Rattle.tables.specs.Links.{hash_of}
use Rattle.tables.proofs.hashes.hash_of.Goals as goal

pub returns-clause-value : goal.returns-clause-value
unfolding hash_of
returns-clause-value c = search rules

pub returns-clause-upper_bound : goal.returns-clause-upper_bound
returns-clause-upper_bound c = omega arith
