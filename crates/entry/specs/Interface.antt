-- The C interface's answers. Assumes nothing.
use Rattle.std.specs.Prelude.{ℕ, ◌-◌, List}
use Rattle.tables.specs.Answers.{number, place, value}
use Rattle.tables.specs.Devices.{device_start, device_end}
use Rattle.tables.specs.Answers.{Answer}
use Rattle.entry.specs.declared.CAnswer.{CAnswer}
use Rattle.entry.specs.declared.CSpan.{CSpan}

-- 01's number (0 where the call is accepted), place and value of an answer
abbrev pub answered : Answer → CAnswer
answered a = record { number = number a; place = place a; value = value a }

-- where one device's rows stand: a slice can't be returned to C, so its start and length are
abbrev pub spanned : List ℕ → ℕ → CSpan
spanned t d = record { start = device_start t d; length = device_end t d - device_start t d }
