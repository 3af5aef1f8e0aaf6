-- One law for each way through the calls, over plain variables. Assumes nothing.
use Prim.Native.Nat.{ℕ, ◌+◌, ◌<◌, ◌≤◌}
use mathlib.Core.Path.{◌≡◌, refl, sym, ap, ap₂, ◌∙◌}
use mathlib.Core.Bool.{Bool, true}
use mathlib.Core.List.{List, ◌++◌}
use native.Mathlib.Omega.{arith}
use lib.ListN.{length, drop, replicate, length-map}
use lib.Seq.{sets, sets-eq}
use lib.Dec.{leb}
use borrow.Author.Tests.{le-leb, lt-leb}
use Rattle.tables.specs.Answers.{is_done, and_then, unless, fitting, output}
use Rattle.tables.specs.Words.{row_count, rows}
use Rattle.tables.specs.Rules.{one, to_constant, around_from, check_rule, accepted_rule}
use Rattle.tables.specs.Tables.{check_table, accepted_table}
use Rattle.tables.specs.Answers.{Answer}
use Rattle.tables.specs.Answers.{Done, Refused}
use Rattle.tables.proofs.Answers.{and_then_first, and_then_next}
use Rattle.tables.proofs.AcceptedRule.{some_entry}
use Rattle.tables.proofs.RowLists.{length_rows}
use Rattle.sets.specs.Sets.{check_set, accepted_set}
use Rattle.logic.specs.Formulas.{formula, formulas_of}
use Rattle.logic.specs.Verdict as meaning
use Rattle.logic.specs.Marks.{marked, reason, mark_bytes, marks_answer, marks_out}
use Rattle.logic.proofs.Calls.{verdict_count}
use Rattle.engine.specs.Places.{fresh}
use Rattle.engine.specs.Ready.{Ready, verdict_at}
use Rattle.engine.specs.Marked.{mark_in, reason_at}
use Rattle.engine.specs.declared.bindings.Bindings.{Bindings}
use Rattle.engine.proofs.Bound.{meant_fresh, placed_fresh}
use Rattle.engine.proofs.Marking.{mark_zeros}
use Rattle.tables.specs.declared.Fault.TheVariants.{ShortOutput}
use Rattle.tables.specs.declared.Refusal.{Refusal}
use Rattle.std.specs.Prelude.{Err}

-- ---- answers after one another
pub next_answer : {r t T : Answer} {n : ℕ} → r ≡ Done n → t ≡ T → t ≡ and_then r T
next_answer {T = T} h t-is = t-is ∙ ap (λ (a : Answer). and_then a T) (sym h)

pub refused_answer : {r : Answer} (T : Answer) {e : Refusal} → r ≡ Err e → Err e ≡ and_then r T
refused_answer T h = ap (λ (a : Answer). and_then a T) (sym h)

pub then_assoc : (R T X : Answer) → and_then (and_then R T) X ≡ and_then R (and_then T X)
then_assoc (Done n) T X = refl
then_assoc (Err r) T X = refl

-- ---- where the evaluator starts, on an accepted rule and table
module _ (rule pool : List ℕ) (rule_ok : accepted_rule rule ≡ true) (pool_ok : accepted_table pool ≡ true) {b : Bindings} (b_is : b ≡ fresh) where
  pub start_ready : Ready rule pool b 0
  unfolding around_from
  start_ready = rw b_is (record {
    rule_accepted = rule_ok;
    pool_accepted = pool_ok;
    inside = some_entry to_constant rule rule_ok;
    depth_is = refl;
    placed = placed_fresh pool;
  })

  start_verdict : verdict_at rule pool b 0 ≡ meaning.verdict (formula rule) (rows pool)
  unfolding meaning.verdict
  start_verdict = rw b_is (ap (meaning.holds (formula rule) (rows pool) 0) (meant_fresh pool))

  start_reason : reason_at rule pool b 0 ≡ reason (formula rule) (rows pool) 0 meaning.none_bound
  start_reason = rw b_is (ap (reason (formula rule) (rows pool) 0) (meant_fresh pool))

  pub start_number : {v : Bool} → v ≡ verdict_at rule pool b 0 → {w : ℕ} → w ≡ one v → w ≡ one (meaning.verdict (formula rule) (rows pool))
  start_number v_is w_is = w_is ∙ ap one (v_is ∙ start_verdict)

-- ---- the checks of a rule or a set, and then of a table
module _ (checked : Answer) (pool : List ℕ) {x a : Answer} (x_is : x ≡ checked) (a_of : a ≡ and_then x (check_table pool)) where
  a_is : a ≡ and_then checked (check_table pool)
  a_is = a_of ∙ ap (λ (z : Answer). and_then z (check_table pool)) x_is

  -- a refusal stands
  refused : {r : Refusal} → a ≡ Err r → (X : Answer) → Err r ≡ and_then checked (and_then (check_table pool) X)
  refused h X = ap (λ (r : Answer). and_then r X) (sym h ∙ a_is) ∙ then_assoc checked (check_table pool) X

  module _ {n : ℕ} (h : a ≡ Done n) where
    both_done : is_done (and_then checked (check_table pool)) ≡ true
    both_done = ap is_done (sym a_is ∙ h)

    pub checked_ok : is_done checked ≡ true
    checked_ok = and_then_first checked (check_table pool) both_done

    pub table_ok : accepted_table pool ≡ true
    table_ok = and_then_next checked (check_table pool) both_done

    passed : (X : Answer) → and_then checked (and_then (check_table pool) X) ≡ X
    passed X = sym (then_assoc checked (check_table pool) X) ∙ ap (λ (r : Answer). and_then r X) (sym a_is ∙ h)

-- ---- one rule
module _ (rule pool : List ℕ) {x a : Answer} (x_is : x ≡ check_rule rule) (a_of : a ≡ and_then x (check_table pool)) where
  module _ {r : Refusal} (h : a ≡ Err r) where
    pub verdict_refused : Err r ≡ meaning.verdict_answer rule pool
    unfolding meaning.verdict_answer
    verdict_refused = refused (check_rule rule) pool x_is a_of h _

    pub marks_refused : (out : List ℕ) → (Err r ≡ marks_answer rule pool (length out)) × (out ≡ marks_out rule pool out)
    unfolding marks_answer marks_out
    marks_refused out =
        let e = refused (check_rule rule) pool x_is a_of h (unless (leb (row_count pool) (length out)) ShortOutput (Done (one (meaning.verdict (formula rule) (rows pool))))) in
        (e, sym (rw (← e)))

  module _ {n : ℕ} (h : a ≡ Done n) where
    abbrev through : (X : Answer) → and_then (check_rule rule) (and_then (check_table pool) X) ≡ X
    through = passed (check_rule rule) pool x_is a_of h

    pub rule_ready : {b : Bindings} → b ≡ fresh → Ready rule pool b 0
    rule_ready = start_ready rule pool (checked_ok (check_rule rule) pool x_is a_of h) (table_ok (check_rule rule) pool x_is a_of h)

    module _ {b : Bindings} (b_is : b ≡ fresh) {v : Bool} (v_is : v ≡ verdict_at rule pool b 0) {w : ℕ} (w_is : w ≡ one v) where
      answered : w ≡ one (meaning.verdict (formula rule) (rows pool))
      answered = start_number rule pool (checked_ok (check_rule rule) pool x_is a_of h) (table_ok (check_rule rule) pool x_is a_of h) b_is v_is w_is

      pub verdict_done : Done w ≡ meaning.verdict_answer rule pool
      unfolding meaning.verdict_answer
      verdict_done = ap Done answered ∙ sym (through _)

      pub marks_done : (out : List ℕ) {cleared_out m : List ℕ} → row_count pool ≤ length out → cleared_out ≡ replicate (row_count pool) 0 ++ drop (row_count pool) out
          → m ≡ mark_in pool (reason_at rule pool b 0) cleared_out → (Done w ≡ marks_answer rule pool (length out)) × (m ≡ marks_out rule pool out)
      unfolding marks_answer marks_out marked
      marks_done out l c_is m_is = (
        ap Done answered ∙ sym done,
        m_is ∙ ap₂ (mark_in pool) (start_reason rule pool (checked_ok (check_rule rule) pool x_is a_of h) (table_ok (check_rule rule) pool x_is a_of h) b_is) c_is
            ∙ mark_zeros pool 0 (row_count pool) (reason (formula rule) (rows pool) 0 meaning.none_bound) (drop (row_count pool) out)
            ∙ ap (λ (n : ℕ). mark_bytes (formula rule) (rows pool) ++ drop n out) (sym (length-map (rows pool) (λ r. one (marked (formula rule) (rows pool) r)) ∙ length_rows pool))
            ∙ sym (rw done),
      )
        where
          done : and_then (check_rule rule) (and_then (check_table pool) (unless (leb (row_count pool) (length out)) ShortOutput (Done (one (meaning.verdict (formula rule) (rows pool)))))) ≡ Done (one (meaning.verdict (formula rule) (rows pool)))
          done = through _ ∙ rw (le-leb (row_count pool) (length out) l)

    -- 17
    pub marks_short : (out : List ℕ) → length out < row_count pool → (Refused ShortOutput 0 ≡ marks_answer rule pool (length out)) × (out ≡ marks_out rule pool out)
    unfolding marks_answer marks_out
    marks_short out l = (sym short, sym (rw short))
      where
        short : and_then (check_rule rule) (and_then (check_table pool) (unless (leb (row_count pool) (length out)) ShortOutput (Done (one (meaning.verdict (formula rule) (rows pool)))))) ≡ Refused ShortOutput 0
        short = through _ ∙ rw (lt-leb (row_count pool) (length out) l)

-- ---- a set
module _ (rules counts pool : List ℕ) {x a : Answer} (x_is : x ≡ check_set rules counts) (a_of : a ≡ and_then x (check_table pool)) (out : List ℕ) where
  abbrev bytes : List ℕ
  bytes = meaning.verdict_bytes (formulas_of rules counts) (rows pool)

  abbrev answer : Answer
  answer = meaning.set_verdicts_answer rules counts pool (length out)

  out_is : (z : Answer) → answer ≡ z → meaning.set_verdicts_out rules counts pool out ≡ output z bytes out
  unfolding meaning.set_verdicts_out
  out_is z e = ap (λ (y : Answer). output y bytes out) e

  pub verdicts_refused : {r : Refusal} → a ≡ Err r → (Err r ≡ answer) × (out ≡ meaning.set_verdicts_out rules counts pool out)
  unfolding meaning.set_verdicts_answer
  verdicts_refused h = let e = refused (check_set rules counts) pool x_is a_of h (fitting bytes (length out)) in (e, sym (out_is _ (sym e)))

  module _ {n : ℕ} (h : a ≡ Done n) where
    pub set_ok : (accepted_set rules counts ≡ true) × (accepted_table pool ≡ true)
    set_ok = (checked_ok (check_set rules counts) pool x_is a_of h, table_ok (check_set rules counts) pool x_is a_of h)

    bytes_count : length bytes ≡ length counts
    bytes_count = verdict_count rules counts (rows pool)

    -- 17
    fitting_is : answer ≡ fitting bytes (length out)
    unfolding meaning.set_verdicts_answer
    fitting_is = passed (check_set rules counts) pool x_is a_of h (fitting bytes (length out))

    pub verdicts_short : length out < length counts → (Refused ShortOutput 0 ≡ answer) × (out ≡ meaning.set_verdicts_out rules counts pool out)
    verdicts_short l =
        let e : answer ≡ Refused ShortOutput 0 = fitting_is ∙ ap (λ (b : Bool). unless b ShortOutput (Done (length bytes))) (lt-leb (length bytes) (length out) (omega (arith, bytes_count))) in
        (sym e, sym (out_is _ e))

    pub verdicts_done : length counts ≤ length out → {out' : List ℕ} → out' ≡ sets out 0 bytes → (Done (length counts) ≡ answer) × (out' ≡ meaning.set_verdicts_out rules counts pool out)
    verdicts_done l {out'} out'-is =
        let e : answer ≡ Done (length bytes) = fitting_is ∙ ap (λ (b : Bool). unless b ShortOutput (Done (length bytes))) (le-leb (length bytes) (length out) (omega (arith, bytes_count))) in
        let z : 0 + length bytes ≡ length bytes = omega arith in (
          ap Done (sym bytes_count) ∙ sym e,
          out'-is ∙ sets-eq bytes out 0 (omega (arith, bytes_count)) ∙ ap (λ (j : ℕ). bytes ++ drop j out) z ∙ sym (out_is _ e),
        )
