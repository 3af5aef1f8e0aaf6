-- A row removed without rows under it leaves an accepted table. Assumes nothing.
use Prim.Native.Nat.{ℕ}
use mathlib.Core.Path.{◌≡◌, sym, ap, ap₂, subst, ◌∙◌}
use mathlib.Core.Bool.{Bool, true, false, not, ◌&&◌, true≢false}
use mathlib.Core.List.{List}
use lib.Dec.{eqb}
use Rattle.base.specs.Lists.{◌∈◌}
use Rattle.base.proofs.Bools.{either}
use Rattle.base.proofs.Search.{some_at}
use Rattle.tables.specs.Answers.{is_done}
use Rattle.tables.specs.Words.{row_at, row_count, rows}
use Rattle.tables.specs.Tables.{same_row, is_parent, accepted_table}
use Rattle.tables.specs.declared.Row.{Row}
use Rattle.tables.proofs.Accepted.{whole_rows}
use Rattle.tables.proofs.RowLists.{row_out}
use Rattle.plans.specs.Plans.{removing, step_row, has_under, step_place, table_after}
use Rattle.plans.proofs.Splices.{passed_25}
use Rattle.plans.proofs.Changes.{remove_length}
use Rattle.plans.proofs.Exactly.{same_device, same_at, only_that_row}
use Rattle.logic.specs.Parts.{words_of}
use Rattle.logic.specs.Trial.{RemovesFit}
use Rattle.logic.proofs.Words.{is_whole, words_rows}
use Rattle.logic.proofs.Selections.{kept_accepted}

module _ (t s : List ℕ) (ok : accepted_table t ≡ true) (passed : is_done (step_place t s) ≡ true) (e : removing s ≡ true) where
  none_under : has_under t (step_row s) ≡ false
  none_under = ap (λ (b : Bool). b && has_under t (step_row s)) (sym e) ∙ passed_25 t s passed

  -- no row left hangs under it
  stays : (r p : Row) → r ∈ rows t → is_parent r p ≡ true → not (same_row p (step_row s)) ≡ true
  stays r p m h = either (same_row p (step_row s))
      (λ q.
      let at = row_out t m in
      let under : is_parent (row_at t at.0) (step_row s) ≡ true =
      ap (λ (x : Row). is_parent x (step_row s)) (sym at.2)
      ∙ ap₂ (λ (d a : ℕ). eqb d r.device && eqb a r.up) (sym (same_device (step_row s) p q)) (sym (same_at (step_row s) p q)) ∙ h in
      absurd (true≢false (sym (some_at (λ i. is_parent (row_at t i) (step_row s)) (row_count t) at.0 at.1 under) ∙ none_under)))
      (λ q. ap not q)

  fits : accepted_table (table_after t s) ≡ true
  fits =
      subst (λ (u : List ℕ). accepted_table u ≡ true)
      (ap words_of (sym ((only_that_row t s ok passed).removed e)) ∙ words_rows (table_after t s) (is_whole (table_after t s) _ (remove_length t s (whole_rows t ok) passed e)))
      (kept_accepted t ok (λ r. not (same_row r (step_row s))) (λ r p m n k h. stays r p m h))

pub removes_fit : RemovesFit
removes_fit = fits
