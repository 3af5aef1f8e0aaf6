-- `parts::chains::climb`, which calls itself, meets its contract. Assumes nothing.
use Rattle.parts.proofs.chains.+climb.Given as goal

abbrev pub decreases-climb : goal.decreases-climb
decreases-climb l = l.variable
