-- The faults by number, where 15 and 27 are not used, and the refusal of a place that a search found. Assumes nothing.
use Rattle.std.specs.Prelude.{ℕ, Option, Some, None, Result, Ok, Err}
use Rattle.tables.specs.declared.refusals.Fault.{Fault}
use Rattle.tables.specs.declared.refusals.Fault.TheVariants.{RuleLength, Kind, Word, Child, Naming, Nesting, Unbound, TableLength, Range, Order, Parent, Sibling, Mode, OtherDevice, Join, ShortOutput, FirstLine, Line, Counts, Blank, Parameters, Step, Absent, Removal, Depth, Rows}
use Rattle.tables.specs.declared.refusals.Refusal.{Refusal}

abbrev pub number_of : Fault → ℕ
number_of RuleLength = 1
number_of Kind = 2
number_of Word = 3
number_of Child = 4
number_of Naming = 5
number_of Nesting = 6
number_of Unbound = 7
number_of TableLength = 8
number_of Range = 9
number_of Order = 10
number_of Parent = 11
number_of Sibling = 12
number_of Mode = 13
number_of OtherDevice = 14
number_of Join = 16
number_of ShortOutput = 17
number_of FirstLine = 18
number_of Line = 19
number_of Counts = 20
number_of Blank = 21
number_of Parameters = 22
number_of Step = 23
number_of Absent = 24
number_of Removal = 25
number_of Depth = 26
number_of Rows = 28

-- the refusal of the place found, if there is one
abbrev pub refusal_at : Fault → Option ℕ → Result (Unit {0}) Refusal
refusal_at k (Some p) = Err (record { fault = k; place = p })
refusal_at k None = Ok tt
