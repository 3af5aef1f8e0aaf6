-- The run of a plan, step by step: what a step that is done tells, and that the run goes through the plan's states. Assumes nothing.
use Prim.Native.Nat.{ℕ, zero, suc, ◌+◌, ◌≤◌, ◌<◌}
use native.Mathlib.Nat.{eq-or-lt_of_le}
use native.Mathlib.Omega.{arith}
use mathlib.Core.Path.{◌≡◌, refl, sym, ap, subst, ◌∙◌}
use mathlib.Core.Logic.{⊎_elim}
use mathlib.Core.Bool.{true, false, true≢false}
use mathlib.Core.List.{List}
use lib.ListN.{length}
use lib.Dec.{leb}
use borrow.Author.Tests.{leb-true}
use Rattle.base.proofs.Bools.{either, and_left, and_right}
use Rattle.tables.specs.Answers.{place, is_done, and_then, unless}
use Rattle.tables.specs.Tables.{check_table, accepted_table}
use Rattle.tables.specs.Answers.{Answer}
use Rattle.tables.specs.Answers.{Done}
use Rattle.tables.proofs.Answers.{unless_ok, and_then_first, and_then_next}
use Rattle.plans.specs.Plans.{step_at, steps_from, step_place, table_after}
use Rattle.logic.specs.Formulas.{Formula}
use Rattle.logic.specs.Trial.{State, stepped, at_step, fits, step_answer, Outcome, try_steps, state_at}
use Rattle.tables.specs.declared.Fault.TheVariants.{ShortOutput}
use Rattle.std.specs.Prelude.{Err}

at_done : (k : ℕ) (a : Answer) → is_done (at_step k a) ≡ true → is_done a ≡ true
at_done k (Done m) e = refl
at_done k (Err r) e = e

at_place : (k : ℕ) (a : Answer) → is_done (at_step k a) ≡ false → place (at_step k a) ≡ k
at_place k (Done m) e = absurd (true≢false e)
at_place k (Err r) e = refl

-- ---- a step that is done
module _ (Fs : List Formula) (words bytes k : ℕ) (x : State) (s : List ℕ) where
  abbrev room : Answer
  room = unless (fits (stepped Fs x s) words bytes) ShortOutput (Done k)

  module _ (done : is_done (step_answer Fs words bytes k x s) ≡ true) where
    behind_23 : is_done (and_then (check_table (table_after x.table s)) room) ≡ true
    unfolding step_answer
    behind_23 = and_then_next (step_place x.table s) _ (at_done k (and_then (step_place x.table s) (and_then (check_table (table_after x.table s)) room)) done)

    pub step_passed : is_done (step_place x.table s) ≡ true
    unfolding step_answer
    step_passed = and_then_first (step_place x.table s) _ (at_done k (and_then (step_place x.table s) (and_then (check_table (table_after x.table s)) room)) done)

    pub accepted_after : accepted_table (table_after x.table s) ≡ true
    accepted_after = and_then_first (check_table (table_after x.table s)) room behind_23

    both_fit : fits (stepped Fs x s) words bytes ≡ true
    both_fit = unless_ok (fits (stepped Fs x s) words bytes) ShortOutput (Done k) (and_then_next (check_table (table_after x.table s)) room behind_23)

    pub table_fits : length (table_after x.table s) ≤ words
    table_fits = leb-true _ words (and_left (leb (length (table_after x.table s)) words) _ both_fit)

    pub verdicts_fit : length (stepped Fs x s).verdicts ≤ bytes
    verdicts_fit = leb-true _ bytes (and_right (leb (length (table_after x.table s)) words) _ both_fit)

  pub refused_place : is_done (step_answer Fs words bytes k x s) ≡ false → place (step_answer Fs words bytes k x s) ≡ k
  unfolding step_answer
  refused_place e = at_place k (and_then (step_place x.table s) (and_then (check_table (table_after x.table s)) room)) e

-- ---- the run from state k on, over m steps
module _ (Fs : List Formula) (words bytes : ℕ) (pool steps : List ℕ) where
  abbrev state : ℕ → State
  state k = state_at Fs pool steps k

  abbrev answer_of : ℕ → Answer
  answer_of j = step_answer Fs words bytes j (state j) (step_at steps j)

  abbrev pub Does : ℕ → Type 0
  Does j = is_done (answer_of j) ≡ true

  abbrev outcome_from : ℕ → ℕ → Outcome
  outcome_from k m = try_steps Fs words bytes k (state k) (steps_from steps k m)

  pub record Goes (k m : ℕ) (r : Outcome) : Type 0 where
    pub low : k ≤ r.steps
    pub high : r.steps ≤ k + m
    pub left : r.state ≡ state r.steps
    pub all_done : is_done r.answer ≡ true → r.steps ≡ k + m
    pub stopped : is_done r.answer ≡ false → (r.answer ≡ answer_of r.steps) × (place r.answer ≡ r.steps) × (r.steps < k + m)
    pub each_done : (j : ℕ) → k ≤ j → j < r.steps → Does j

  goes_on : (k m : ℕ) → Does k → Goes (suc k) m (outcome_from (suc k) m) → Goes k (suc m) (outcome_from (suc k) m)
  goes_on k m done g = record {
    low = omega (arith, g.low);
    high = omega (arith, g.high);
    left = g.left;
    all_done = λ e. omega (arith, g.all_done e);
    stopped = λ e. ((g.stopped e).0, (g.stopped e).1, omega (arith, (g.stopped e).2));
    each_done = λ j l h. ⊎_elim (λ q. subst Does q done) (λ q. g.each_done j q h) (eq-or-lt_of_le l);
  }

  pub goes : (m k : ℕ) → Goes k m (outcome_from k m)
  unfolding try_steps steps_from state_at
  goes zero k = record {
    low = omega arith;
    high = omega arith;
    left = refl;
    all_done = λ e. omega arith;
    stopped = λ e. absurd (true≢false e);
    each_done = λ j l h. absurd (omega arith);
  }
  goes (suc m) k = either (is_done (step_answer Fs words bytes k (state k) (step_at steps k)))
      (λ e. rw e (goes_on k m e (goes m (suc k))))
      (λ e. rw e (record {
        low = omega arith;
        high = omega arith;
        left = refl;
        all_done = λ q. absurd (true≢false (sym q ∙ e));
        stopped = λ q. (refl, refused_place Fs words bytes k (state k) (step_at steps k) e, omega arith);
        each_done = λ j l h. absurd (omega arith);
      }))

  -- where each step is done, the run ends behind the last
  pub runs_through : (m k : ℕ) → ((j : ℕ) → k ≤ j → j < k + m → Does j) → outcome_from k m ≡ record { answer = Done (k + m); steps = k + m; state = state (k + m) }
  unfolding try_steps steps_from state_at
  runs_through zero k h =
      let e : k ≡ k + 0 = omega arith in
      ap (λ (j : ℕ). record { answer = Done j; steps = j; state = state j }) e
  runs_through (suc m) k h =
      let e : suc k + m ≡ k + suc m = omega arith in
      rw (h k (omega arith) (omega arith)) (runs_through m (suc k) (λ j l g. h j (omega arith) (omega arith)))
      ∙ ap (λ (j : ℕ). record { answer = Done j; steps = j; state = state j }) e
