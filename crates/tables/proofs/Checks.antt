-- Checks one after another: the answer while they are passed, and where one refuses. Assumes nothing.
use Prim.Native.Nat.{ℕ}
use mathlib.Core.Path.{◌≡◌, refl, ap, ◌∙◌}
use mathlib.Core.Bool.{Bool, true, false, cond}
use mathlib.Core.List.{List, [], ◌∷◌}
use Rattle.std.specs.Prelude.{Option, Some, None, Result, Ok, Err}
use Rattle.base.specs.Search.{first, some, found}
use Rattle.tables.specs.Refusals.{refusal_at}
use Rattle.tables.specs.Answers.{Answer, Done, Refused, unless_any, in_order}
use Rattle.tables.specs.Words.{entry_at, entry_count, row_at, row_count}
use Rattle.tables.specs.Tables.{out_of_range, not_above, no_parent, wrong_depth, row_fault, table_length, order_checks, check_order}
use Rattle.tables.specs.Links.{check_parents}
use Rattle.tables.specs.Rules.{unknown_kind, bad_word, bad_child, bad_naming, too_deep, unbound, around, entry_fault, rule_length, rule_checks, check_entries}
use Rattle.tables.specs.declared.refusals.Fault.TheVariants.{RuleLength, Kind, Word, Child, Naming, Nesting, Unbound, TableLength, Range, Order, Parent, Depth}
use Rattle.tables.specs.declared.refusals.Fault.{Fault}
use Rattle.tables.specs.declared.refusals.Refusal.{Refusal}

-- a check, then the next answer
abbrev pub then : Result (Unit {0}) Refusal → Answer → Answer
then (Ok u) next = next
then (Err r) next = Err r

pub unless_any_is : (p : ℕ → Bool) (k : Fault) (n : ℕ) (next : Answer) → unless_any p k n next ≡ then (refusal_at k (found p n)) next
unless_any_is p k n next = go (some p n)
  where
    go : (b : Bool) → cond b (Refused k (first p n)) next ≡ then (refusal_at k (cond b (Some (first p n)) None)) next
    go true = refl
    go false = refl

-- checks in order, one after another
abbrev pub in_turn : (Fault → ℕ → Bool) → ℕ → List Fault → Answer
in_turn fault n [] = Done n
in_turn fault n (k ∷ ks) = then (refusal_at k (found (fault k) n)) (in_turn fault n ks)

pub in_order_is : (fault : Fault → ℕ → Bool) (n : ℕ) (ks : List Fault) → in_order fault n ks ≡ in_turn fault n ks
in_order_is fault n [] = refl
in_order_is fault n (k ∷ ks) = unless_any_is (fault k) k n (in_order fault n ks) ∙ ap (then (refusal_at k (found (fault k) n))) (in_order_is fault n ks)

module _ (most : ℕ) (r : List ℕ) where
  abbrev place : (ℕ → Bool) → Option ℕ
  place p = found p (entry_count r)

  pub bad_length : rule_length r ≡ false → check_entries most r ≡ Refused RuleLength 0
  unfolding check_entries
  bad_length e = rw e

  pub entries_in_turn : rule_length r ≡ true → check_entries most r
      ≡ then (refusal_at Kind (place (λ i. unknown_kind (entry_at r i))))
      (then (refusal_at Word (place (λ i. bad_word most (entry_at r i))))
      (then (refusal_at Child (place (λ i. bad_child (entry_count r) i (entry_at r i))))
      (then (refusal_at Naming (place (bad_naming r)))
      (then (refusal_at Nesting (place (too_deep r)))
      (then (refusal_at Unbound (place (λ i. unbound (around r i) (entry_at r i))))
      (Done (entry_count r)))))))
  unfolding check_entries entry_fault
  entries_in_turn e = rw e (in_order_is (entry_fault most r) (entry_count r) rule_checks)

module _ (t : List ℕ) where
  abbrev row : (ℕ → Bool) → Option ℕ
  row p = found p (row_count t)

  pub bad_rows : table_length t ≡ false → check_order t ≡ Refused TableLength 0
  unfolding check_order
  bad_rows e = rw e

  pub rows_in_turn : table_length t ≡ true → check_order t
      ≡ then (refusal_at Range (row (λ i. out_of_range (row_at t i))))
      (then (refusal_at Order (row (not_above t)))
      (then (refusal_at Parent (row (no_parent t)))
      (then (refusal_at Depth (row (wrong_depth t)))
      (Done (row_count t)))))
  unfolding check_order row_fault
  rows_in_turn e = rw e (in_order_is (row_fault t) (row_count t) order_checks)

-- the two checks of parents are made in one pass
pub parents_in_turn : (t : List ℕ) (n : ℕ) (next : Answer)
    → then (refusal_at Parent (found (no_parent t) n)) (then (refusal_at Depth (found (wrong_depth t) n)) next) ≡ then (check_parents t n) next
parents_in_turn t n next = go (some (no_parent t) n)
  where
    go : (b : Bool) → then (refusal_at Parent (cond b (Some (first (no_parent t) n)) None)) (then (refusal_at Depth (found (wrong_depth t) n)) next)
        ≡ then (cond b (refusal_at Parent (cond b (Some (first (no_parent t) n)) None)) (refusal_at Depth (found (wrong_depth t) n))) next
    go true = refl
    go false = refl

-- what a refusal by a search tells, and that it did not refuse
pub refused_at : (k : Fault) (o : Option ℕ) (r : Refusal) → refusal_at k o ≡ Err r → (p : ℕ) × (o ≡ Some p) × (r ≡ record { fault = k; place = p })
refused_at k (Some p) r e = (p, refl, cc)
refused_at k None r e = absurd cc

pub passed_at : (k : Fault) (o : Option ℕ) (u : Unit {0}) → refusal_at k o ≡ Ok u → o ≡ None
passed_at k (Some p) u e = absurd cc
passed_at k None u e = refl
