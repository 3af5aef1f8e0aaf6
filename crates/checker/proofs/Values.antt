-- The value of an answer, 0 where the call is refused. Assumes nothing.
use mathlib.Core.Path.{◌≡◌, refl}
use Rattle.std.specs.Prelude.{Err}
use Rattle.std.specs.Result.{result_unwrap_or}
use Rattle.tables.specs.Answers.{Answer}
use Rattle.tables.specs.Answers.{Done}
use Rattle.tables.specs.Answers.{value}

pub value_is : (a : Answer) → result_unwrap_or a 0 ≡ value a
value_is (Done n) = refl
value_is (Err r) = refl
