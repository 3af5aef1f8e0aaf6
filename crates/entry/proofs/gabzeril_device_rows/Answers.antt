-- `entry::gabzeril_device_rows` meets its contract. Assumes nothing.
use mathlib.Core.Path.{ap₂}
use Prim.Native.Nat.{ℕ, ◌-◌}
use Rattle.entry.proofs.gabzeril_device_rows.Goals as goal

pub returns : goal.returns
returns c = λ j. record { start = c.device_span-s.ensures.start_is j; length = ap₂ (λ (a e : ℕ). e - a) c.device_span-s.ensures.start_is c.device_span-s.ensures.end_is j }
