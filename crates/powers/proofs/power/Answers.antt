-- `powers::power` meets its contract: each entry of the table is its power. Assumes nothing.
use Rattle.std.proofs.Common.{◌∙◌}
use native.Mathlib.Omega.{arith}
use Rattle.powers.proofs.Powers.{entry_is}
use Rattle.powers.proofs.power.Goals as goal

pub returns : goal.returns
returns c = rw (c.unwrap_or.ensures, c.copied.ensures) (c.get.ensures.lookup.4 (omega arith) 1000000000 ∙ entry_is c.args.i)
