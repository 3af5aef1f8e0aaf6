-- Private contract of the search for one device's rows. Assumes nothing.
use Rattle.std.specs.Prelude.{ℕ, ◌≤◌, ◌≡◌, List, length}
use Rattle.tables.specs.Devices.{device_start, device_end}

-- start and end are the device's, and lie within the table
pub record IsSpan (t : List ℕ) (d start end : ℕ) : Type 0 where
  pub start_is : start ≡ device_start t d
  pub end_is : end ≡ device_end t d
  pub ordered : start ≤ end
  pub within : end ≤ length t
