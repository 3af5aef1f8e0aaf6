-- What the private contracts of loading files, and of the number that the C entry returns, cite. Assumes nothing.
use Rattle.std.specs.Prelude.{ℕ, ◌≤◌, ◌≡◌, cond, eqb, List, length, take}
use Rattle.tables.specs.Answers.{number, and_then}
use Rattle.tables.specs.Answers.{Answer}
use Rattle.tables.specs.Answers.{Done, Refused}
use Rattle.tables.specs.Refusals.{number_of}
use Rattle.tables.specs.declared.Fault.{Fault}
use Rattle.tables.specs.declared.Fault.TheVariants.{ShortOutput, Depth}

-- more words than the buffer has are too many lines: that fault, not that of the output
abbrev pub lines_answer : Fault → Answer → Answer
lines_answer too_many read = cond (eqb (number read) (number_of ShortOutput)) (Refused too_many 0) read

-- a file whose answer is `checked` and whose words are `words` was loaded into a buffer that is now `out`: the answer r is the number of
-- words, and the buffer begins with them; or r is the refusal
pub record Loaded (checked : Answer) (words : List ℕ) (r : Answer) (out : List ℕ) : Type 0 where
  pub answer : r ≡ and_then checked (Done (length words))
  pub within : (n : ℕ) → r ≡ Done n → n ≤ length out
  pub held : (n : ℕ) → r ≡ Done n → take n out ≡ words

-- no refusal of a file, rule or table has a larger number
abbrev pub largest_refusal : ℕ
largest_refusal = number_of Depth
