-- Faults differ by their numbers. Assumes nothing.
use Prim.Native.Nat.{ℕ}
use mathlib.Core.Path.{◌≡◌, refl, sym, ap, ◌∙◌}
use mathlib.Core.Bool.{Bool, true}
use mathlib.Core.List.{[], ◌∷◌}
use lib.Dec.{eqb}
use lib.ListN.{get_or}
use native.Mathlib.Omega.{arith}
use borrow.Author.Tests.{eqb-true, eq-eqb}
use Rattle.tables.specs.Refusals.{number_of}
use Rattle.tables.specs.declared.refusals.Fault.{Fault}
use Rattle.tables.specs.declared.refusals.Fault.TheVariants.{RuleLength, Kind, Word, Child, Naming, Nesting, Unbound, TableLength, Range, Order, Parent, Sibling, Mode, OtherDevice, Join, ShortOutput, FirstLine, Line, Counts, Blank, Parameters, Step, Absent, Removal, Depth, Rows}

-- the fault with that number; any for a number that is not used
abbrev fault_of : ℕ → Fault
fault_of k = get_or (RuleLength ∷ RuleLength ∷ Kind ∷ Word ∷ Child ∷ Naming ∷ Nesting ∷ Unbound ∷ TableLength ∷ Range ∷ Order ∷ Parent ∷ Sibling ∷ Mode ∷ OtherDevice ∷ RuleLength ∷ Join ∷ ShortOutput ∷ FirstLine ∷ Line ∷ Counts ∷ Blank ∷ Parameters ∷ Step ∷ Absent ∷ Removal ∷ Depth ∷ RuleLength ∷ Rows ∷ []) k RuleLength

back : (k : Fault) → fault_of (number_of k) ≡ k
back RuleLength = refl
back Kind = refl
back Word = refl
back Child = refl
back Naming = refl
back Nesting = refl
back Unbound = refl
back TableLength = refl
back Range = refl
back Order = refl
back Parent = refl
back Sibling = refl
back Mode = refl
back OtherDevice = refl
back Join = refl
back ShortOutput = refl
back FirstLine = refl
back Line = refl
back Counts = refl
back Blank = refl
back Parameters = refl
back Step = refl
back Absent = refl
back Removal = refl
back Depth = refl
back Rows = refl

pub same_number : (j k : Fault) → number_of j ≡ number_of k → j ≡ k
same_number j k e = sym (back j) ∙ ap fault_of e ∙ back k

-- a test that computes
abbrev pub is_fault : Fault → Fault → Bool
is_fault j k = eqb (number_of j) (number_of k)

pub is_fault_true : (j k : Fault) → is_fault j k ≡ true → j ≡ k
is_fault_true j k e = same_number j k (eqb-true (number_of j) (number_of k) e)

pub is_fault_same : (j k : Fault) → j ≡ k → is_fault j k ≡ true
is_fault_same j k e = eq-eqb (number_of j) (number_of k) (ap number_of e)

-- 0 tells that a call is accepted
pub none_is_0 : (k : Fault) → number_of k ≡ 0 → ⊥
none_is_0 k e = omega (arith, e, ap number_of (sym (back k) ∙ ap fault_of e))

-- 15 is retired: it is no fault's number
pub none_is_15 : (k : Fault) → number_of k ≡ 15 → ⊥
none_is_15 k e = omega (arith, e, ap number_of (sym (back k) ∙ ap fault_of e))
