-- What a call answers: its value, or the refusal by fault and place. Assumes nothing.
use Rattle.std.specs.Prelude.{ℕ, Bool, true, false, cond, List, [], ◌∷◌, ◌++◌, length, drop, leb, Result, Ok, Err}
use Rattle.base.specs.Search.{first, some}
use Rattle.tables.specs.Refusals.{number_of}
use Rattle.tables.specs.declared.refusals.Fault.{Fault}
use Rattle.tables.specs.declared.refusals.Fault.TheVariants.{ShortOutput}
use Rattle.tables.specs.declared.refusals.Refusal.{Refusal}

abbrev pub Answer : Type 0
Answer = Result ℕ Refusal

-- the call is accepted, and returns that value
pattern abbrev pub Done : ℕ → Answer
Done n = Ok n

-- it is refused for that fault at that place: entries and rows from 0, lines from 1, otherwise 0
abbrev pub Refused : Fault → ℕ → Answer
Refused k p = Err (record { fault = k; place = p })

-- the number of the fault, 0 where the call is accepted
abbrev pub number : Answer → ℕ
number (Done n) = 0
number (Err r) = number_of r.fault

-- the place of the refusal, 0 where the call is accepted
abbrev pub place : Answer → ℕ
place (Done n) = 0
place (Err r) = r.place

-- the value that an accepted call returns
abbrev pub value : Answer → ℕ
value (Done n) = n
value (Err r) = 0

-- the call is accepted
abbrev pub is_done : Answer → Bool
is_done (Done n) = true
is_done (Err r) = false

-- a refusal stands; after an accepted call comes the next answer
abbrev pub and_then : Answer → Answer → Answer
and_then (Done n) next = next
and_then (Err r) next = Err r

-- the refusal for that fault at place 0, unless the condition holds
abbrev pub unless : Bool → Fault → Answer → Answer
unless ok k next = cond ok next (Refused k 0)

-- the refusal for that fault at the first of n places that has it, unless none has
abbrev pub unless_any : (ℕ → Bool) → Fault → ℕ → Answer → Answer
unless_any fault k n next = cond (some fault n) (Refused k (first fault n)) next

-- the lines of the refusal table in the given order, each tested at all n places before the next
abbrev pub in_order : (Fault → ℕ → Bool) → ℕ → List Fault → Answer
in_order fault n [] = Done n
in_order fault n (k ∷ ks) = unless_any (fault k) k n (in_order fault n ks)

-- the output is not shorter than the answer
abbrev pub fitting : List ℕ → ℕ → Answer
fitting result room = unless (leb (length result) room) ShortOutput (Done (length result))

-- the output after a call: past the answer as it came, and all of it where the call is refused
abbrev pub output : Answer → List ℕ → List ℕ → List ℕ
output answer result out = cond (is_done answer) (result ++ drop (length result) out) out
