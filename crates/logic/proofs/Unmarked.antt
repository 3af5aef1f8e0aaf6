-- What is not marked does not matter, by the bytes of the call for marks. Assumes nothing.
use Prim.Native.Nat.{ℕ, zero, suc, ◌+◌, ◌≤◌, ◌<◌}
use mathlib.Core.Path.{◌≡◌, sym, ap, subst, ◌∙◌}
use mathlib.Core.Bool.{Bool, true}
use mathlib.Core.List.Memᴰ
use mathlib.Core.List.{List}
use native.Mathlib.Omega.{arith}
use lib.ListN.{length}
use lib.Dec.{eqb}
use Rattle.base.specs.Lists.{◌∈◌}
use Rattle.base.proofs.Bools.{either}
use Rattle.base.proofs.Lists.{any_hit}
use Rattle.tables.specs.Words.{row_at, row_count, rows}
use Rattle.tables.specs.Rules.{one, accepted_rule}
use Rattle.tables.specs.Tables.{root, is_parent, same_row, accepted_table}
use Rattle.tables.specs.declared.Row.{Row}
use Rattle.tables.specs.Answers.{Done}
use Rattle.tables.proofs.Accepted.{ordered, same_place, has_parent}
use Rattle.tables.proofs.Ordered.{root_depth, child_depth}
use Rattle.tables.proofs.RowLists.{row_in, row_out}
use Rattle.sets.specs.Sets.{rules_of}
use Rattle.sets.proofs.Sets.{rule_accepted}
use Rattle.logic.specs.Formulas.{Formula, formula}
use Rattle.logic.specs.Verdict.{none_bound, verdict, verdict_answer}
use Rattle.logic.specs.Marks.{reason, marked}
use Rattle.logic.specs.Demand.{Marked}
use Rattle.logic.specs.Unmarked.{ButValue, UnmarkedChanged, MarksSuffice, SetMarksSuffice}
use Rattle.logic.proofs.Ranging.{parent_same}
use Rattle.logic.proofs.Enough.{FromRows, reason_enough}
use Rattle.logic.proofs.Calls.{same_itself, verdict_is, byte_is, same_verdicts}

-- ---- two accepted tables that agree in devices, numbers, parents and names
module _ (t s : List ℕ) (t_ok : accepted_table t ≡ true) (s_ok : accepted_table s ≡ true) (as_many : row_count s ≡ row_count t)
    (but_value : (i : ℕ) → i < row_count t → ButValue (row_at t i) (row_at s i)) where
  inside : {i : ℕ} → i < row_count t → i < row_count s
  inside h = omega (arith, h, as_many)

  still_parent : (i p : ℕ) → i < row_count t → p < row_count t
      → is_parent (row_at t i) (row_at t p) ≡ true → is_parent (row_at s i) (row_at s p) ≡ true
  still_parent i p h hp e =
      let row = but_value i h in
      let parent = but_value p hp in
      parent_same (row_at t i) (row_at s i) (row_at t p) (row_at s p) row.device_kept row.up_kept parent.device_kept parent.at_kept ∙ e

  -- their depths agree
  depth_kept : (n i : ℕ) → i < n → i < row_count t → (row_at s i).deep ≡ (row_at t i).deep
  depth_kept zero i l h = absurd (omega arith)
  depth_kept (suc n) i l h = either (root (row_at t i))
      (λ e. root_depth s (ordered s s_ok) i (inside h) (ap (λ (u : ℕ). eqb u 0) (but_value i h).up_kept ∙ e)
      ∙ sym (root_depth t (ordered t t_ok) i h e))
      (λ e. let w = has_parent t t_ok i h e in
      let hp : w.0 < row_count t = omega (arith, w.1) in
      child_depth s (ordered s s_ok) w.0 i (inside hp) (inside h) (still_parent i w.0 h hp w.2)
      ∙ ap (λ (x : ℕ). x + 1) (depth_kept n w.0 (omega (arith, w.1)) hp)
      ∙ sym (child_depth t (ordered t t_ok) w.0 i hp h w.2))

  -- and so do all words of a row whose values agree
  row_kept : (i : ℕ) → i < row_count t → (row_at s i).value ≡ (row_at t i).value → row_at s i ≡ row_at t i
  row_kept i h e j = record {
    device = (but_value i h).device_kept j;
    at = (but_value i h).at_kept j;
    up = (but_value i h).up_kept j;
    deep = depth_kept (suc i) i (omega arith) h j;
    name = (but_value i h).name_kept j;
    value = e j;
  }

  rows_come : FromRows (rows t) (rows s)
  rows_come = record {
    identified = λ x y m n d a. one_row (row_out s m) (row_out s n) d a;
    came_from = λ x m. origin (row_out s m);
  }
    where
      one_row : {x y : Row} → (j : ℕ) × (j < row_count s) × (x ≡ row_at s j) → (j : ℕ) × (j < row_count s) × (y ≡ row_at s j)
          → x.device ≡ y.device → x.at ≡ y.at → x ≡ y
      one_row (i, hi, e) (j, hj, k) d a =
          let same : i ≡ j = same_place s s_ok i j hi hj
          (ap (λ (z : Row). z.device) (sym e) ∙ d ∙ ap (λ (z : Row). z.device) k) (ap (λ (z : Row). z.at) (sym e) ∙ a ∙ ap (λ (z : Row). z.at) k) in
          e ∙ ap (row_at s) same ∙ sym k

      origin : {x : Row} → (j : ℕ) × (j < row_count s) × (x ≡ row_at s j) → (r : Row) × (r ∈ rows t) × ButValue r x
      origin (j, h, e) =
          let h' : j < row_count t = omega (arith, h, as_many) in
          (row_at t j, row_in t j h', subst (λ (z : Row). ButValue (row_at t j) z) (sym e) (but_value j h'))

-- ---- the theorem
module _ (rule t s out : List ℕ) (rule_ok : accepted_rule rule ≡ true) (t_ok : accepted_table t ≡ true) (s_ok : accepted_table s ≡ true)
    (room : row_count t ≤ length out) (changed : UnmarkedChanged rule t out s) where
  abbrev F : Formula
  F = formula rule

  reason_stays : (r : Row) → r ∈ rows t → r ∈ reason F (rows t) 0 none_bound → r ∈ rows s
  unfolding marked
  reason_stays r m k =
      let w = row_out t m in
      let mark : marked F (rows t) r ≡ true = any_hit (same_row r) k (same_itself r) in
      let byte : Marked rule t out w.0
      = byte_is rule t rule_ok t_ok out room w.0 w.1 ∙ ap one (subst (λ (z : Row). marked F (rows t) z ≡ true) w.2 mark) in
      let same = row_kept t s t_ok s_ok changed.as_many changed.but_value w.0 w.1 (changed.value_kept w.0 w.1 byte) in
      subst (λ (z : Row). z ∈ rows s) (same ∙ sym w.2) (row_in s w.0 (omega (arith, w.1, changed.as_many)))

  same_verdict : verdict F (rows s) ≡ verdict F (rows t)
  unfolding verdict
  same_verdict = reason_enough (rows_come t s t_ok s_ok changed.as_many changed.but_value) F 0 none_bound reason_stays

  same_answer : verdict_answer rule s ≡ verdict_answer rule t
  same_answer = verdict_is rule s rule_ok s_ok ∙ ap (λ (b : Bool). Done (one b)) same_verdict ∙ sym (verdict_is rule t rule_ok t_ok)

pub marks_suffice : MarksSuffice
marks_suffice rule t s out rule_ok t_ok s_ok room changed = same_answer rule t s out rule_ok t_ok s_ok room changed

pub set_marks_suffice : SetMarksSuffice
set_marks_suffice rules counts t s out set_ok t_ok s_ok room changed =
    same_verdicts rules counts s t set_ok s_ok t_ok
    (λ F m. let w = Memᴰ.of_map formula (rules_of rules counts) m in
    ap (λ (G : Formula). verdict G (rows s)) (sym w.2)
    ∙ same_verdict w.0 t s out (rule_accepted rules counts set_ok w.1) t_ok s_ok room (changed w.0 w.1)
    ∙ ap (λ (G : Formula). verdict G (rows t)) w.2)
