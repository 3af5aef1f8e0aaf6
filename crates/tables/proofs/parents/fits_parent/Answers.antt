-- `tables::parents::fits_parent` meets its contract. Assumes nothing.
use borrow.Author.Rules.{rules}
use Rattle.tables.specs.Links.{fits_parent}
use Rattle.tables.proofs.parents.fits_parent.Goals as goal

pub returns-then-not-deeper : goal.returns-then-not-deeper
unfolding fits_parent
returns-then-not-deeper c = search rules

pub returns-else-not-deeper : goal.returns-else-not-deeper
unfolding fits_parent
returns-else-not-deeper c = search rules

pub returns-else-is_parent : goal.returns-else-is_parent
unfolding fits_parent
returns-else-is_parent c = search rules
