-- What a session says of what it prints: what a file has, no contract can say. Assumes nothing.
use Rattle.std.specs.Prelude.{ℕ, ◌≡◌, List, length}
use Rattle.checker.specs.Report.{report_text}

-- n is the number of bytes of the program's text for some rule file and some pool file
pub record IsReport (n : ℕ) : Type 0 where
  pub rule : List ℕ
  pub pool : List ℕ
  pub count : n ≡ length (report_text rule pool)
