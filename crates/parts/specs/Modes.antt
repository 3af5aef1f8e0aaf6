-- The modes and their words; cited by private contracts alone. Assumes nothing.
use Rattle.std.specs.Prelude.{ℕ, cond, eqb, Option, Some, None}
use Rattle.parts.specs.declared.modes.Mode.{Mode}
use Rattle.parts.specs.declared.modes.Mode.TheVariants.{All, Branch, Full}

abbrev pub word_of : Mode → ℕ
word_of All = 1
word_of Branch = 2
word_of Full = 3

abbrev pub mode_of : ℕ → Option Mode
mode_of w = cond (eqb w 1) (Some All) (cond (eqb w 2) (Some Branch) (cond (eqb w 3) (Some Full) None))
