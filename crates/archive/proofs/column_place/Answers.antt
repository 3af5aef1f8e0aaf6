-- `archive::column_place` meets its contract. Assumes nothing.
use Rattle.std.proofs.Common.{refl, arith}
use Rattle.archive.proofs.ByPlace.{place_below}
use Rattle.archive.proofs.column_place.Goals as goal

pub overflow_mul-result : goal.overflow_mul-result
overflow_mul-result c = omega (arith, place_below c.requires.0 c.requires.1)

pub overflow_add-result : goal.overflow_add-result
overflow_add-result c = omega (arith, place_below c.requires.0 c.requires.1)

pub returns : goal.returns
returns c = (refl, omega (arith, place_below c.requires.0 c.requires.1))
