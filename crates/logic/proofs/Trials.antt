-- Trying a plan: each claim about the run. Assumes nothing.
use Prim.Native.Nat.{ℕ, zero, suc, ◌+◌, ◌*◌, ◌≤◌, ◌<◌}
use native.Mathlib.Nat.{eq-or-lt_of_le, min-le_right, mul-suc, mul-le-mul_left}
use native.Mathlib.Omega.{arith}
use mathlib.Core.Path.{◌≡◌, refl, sym, ap, ap₂, subst, ◌∙◌}
use mathlib.Core.Logic.{⊎_elim}
use mathlib.Core.Bool.{Bool, true, cond}
use mathlib.Core.List.{List, [], ◌∷◌, ◌++◌}
use lib.ListN.{length, take, drop, length-append, length-take, length-drop, take-append-drop}
use lib.Seq.{take_all, take-append-le, drop-append-le, drop_at, take-add, length-take-le}
use lib.Dec.{leb}
use borrow.Author.Tests.{le-leb}
use Rattle.tables.specs.Answers.{is_done, and_then, unless, fitting, output}
use Rattle.base.proofs.Bools.{either}
use Rattle.tables.specs.Words.{row_count, rows}
use Rattle.tables.specs.Tables.{check_table, accepted_table}
use Rattle.tables.specs.Answers.{Answer}
use Rattle.tables.specs.Answers.{Done}
use Rattle.tables.proofs.Answers.{and_then_first, and_then_next}
use Rattle.sets.specs.Sets.{check_set, accepted_set}
use Rattle.plans.specs.Plans.{step_words, step_at, steps_from, step_count, steps_of, step_place, RowsAfter}
use Rattle.plans.proofs.Splices.{passed_words}
use Rattle.plans.proofs.Exactly.{only_that_row}
use Rattle.logic.specs.Formulas.{Formula, formulas_of}
use Rattle.logic.specs.Verdict.{verdict_bytes, set_verdicts_answer, set_verdicts_out}
use Rattle.logic.specs.Demand.{Device, dump, taken, joined_parts, Claim}
use Rattle.logic.specs.Trial.{State, given, Outcome, try_steps, begin_answer, nothing_done, trial_outcome, trial_answer, state_at, bytes_of, Dumped, SetWrites, Tried, Trials, ToldApart}
use Rattle.logic.proofs.Calls.{verdict_count, verdicts_are, bytes_are}
use Rattle.logic.proofs.Demand.{demand_3}
use Rattle.logic.proofs.Runs.{accepted_after, step_passed, Does, Goes, goes, runs_through}
use Rattle.tables.specs.declared.Fault.TheVariants.{ShortOutput}

-- ---- the first k steps of a plan
module _ (steps : List ℕ) (k : ℕ) (h : step_words * k ≤ length steps) where
  abbrev first : List ℕ
  first = take (step_words * k) steps

  long : length first ≡ step_words * k
  long = length-take-le (step_words * k) steps h

  pub first_count : step_count first ≡ k
  first_count = omega (arith, long)

  same_step : (j : ℕ) → j < k → step_at first j ≡ step_at steps j
  same_step j l =
      sym (ap (λ (z : List ℕ). step_at z j) (sym (take-append-drop (step_words * k) steps))
      ∙ ap (take step_words) (drop-append-le (step_words * j) first (drop (step_words * k) steps) (omega (arith, long)))
      ∙ take-append-le step_words (drop (step_words * j) first) (drop (step_words * k) steps) (omega (arith, long, length-drop (step_words * j) first)))

  same_steps : (m j : ℕ) → j + m ≤ k → steps_from first j m ≡ steps_from steps j m
  unfolding steps_from
  same_steps zero j l = refl
  same_steps (suc m) j l = ap₂ ◌∷◌ (same_step j (omega arith)) (same_steps m (suc j) (omega arith))

  pub first_steps_are : steps_of first ≡ steps_from steps 0 k
  first_steps_are = ap (steps_from first 0) first_count ∙ same_steps k 0 (omega arith)

-- a step that has its words lies in the plan
pub step_inside : (steps : List ℕ) (k : ℕ) → step_words ≤ length (step_at steps k) → step_words * suc k ≤ length steps
step_inside steps k h =
    let cut = length-take step_words (drop (step_words * k) steps) in
    let rest = length-drop (step_words * k) steps in
    omega (arith, h, cut, rest, min-le_right step_words (length (drop (step_words * k) steps)))

-- ---- the verdicts of the states
module _ (rules counts pool steps : List ℕ) where
  abbrev Fs : List Formula
  Fs = formulas_of rules counts

  abbrev n : ℕ
  n = length counts

  abbrev state : ℕ → State
  state k = state_at Fs pool steps k

  abbrev bytes_at : ℕ → List ℕ
  bytes_at k = verdict_bytes Fs (rows (state k).table)

  verdicts_more : (k : ℕ) → (state (suc k)).verdicts ≡ (state k).verdicts ++ bytes_at (suc k)
  unfolding state_at
  verdicts_more k = refl

  many : (k : ℕ) → length (state k).verdicts ≡ n * k
  unfolding state_at
  many zero = omega arith
  many (suc k) =
      length-append (state k).verdicts (bytes_at (suc k)) ∙ ap₂ ◌+◌ (many k) (verdict_count rules counts (rows (state (suc k)).table))
      ∙ sym (mul-suc n k)

  pub first_of : (m k : ℕ) → k ≤ m → (state k).verdicts ≡ take (n * k) (state m).verdicts
  first_of zero k h =
      let z : k ≡ 0 = omega arith in
      rw z (sym (take_all (n * 0) (state 0).verdicts (omega (arith, many 0))))
  first_of (suc m) k h = ⊎_elim
      (λ q. rw q (sym (take_all (n * suc m) (state (suc m)).verdicts (omega (arith, many (suc m))))))
      (λ q.
      let low : n * k ≤ n * m = mul-le-mul_left n (let l : k ≤ m = omega arith in l) in
      first_of m k (omega arith)
      ∙ sym (ap (take (n * k)) (verdicts_more m) ∙ take-append-le (n * k) (state m).verdicts (bytes_at (suc m)) (omega (arith, low, many m))))
      (eq-or-lt_of_le h)

  pub bytes_of_step : (m k : ℕ) → k < m → take n (drop (n * k) (state m).verdicts) ≡ bytes_at (suc k)
  bytes_of_step m k h =
      sym (drop_at (state k).verdicts (take n (drop (n * k) (state m).verdicts)) (n * k) (many k)) ∙ ap (drop (n * k)) same ∙ drop_at (state k).verdicts (bytes_at (suc k)) (n * k) (many k)
    where
      same : (state k).verdicts ++ take n (drop (n * k) (state m).verdicts) ≡ (state k).verdicts ++ bytes_at (suc k)
      same =
          ap (λ (vs : List ℕ). vs ++ take n (drop (n * k) (state m).verdicts)) (first_of m k (omega arith))
          ∙ sym (take-add (n * k) n (state m).verdicts)
          ∙ ap (λ (j : ℕ). take j (state m).verdicts) (sym (mul-suc n k))
          ∙ sym (first_of m (suc k) (omega arith)) ∙ verdicts_more k

  -- what the set's verdict call writes on an accepted table
  set_writes : (t : List ℕ) → accepted_set rules counts ≡ true → accepted_table t ≡ true → SetWrites rules counts t (verdict_bytes Fs (rows t))
  set_writes t set_ok ok out h =
      let v : List ℕ = verdict_bytes Fs (rows t) in
      let long : length v ≡ n = verdict_count rules counts (rows t) in
      let fit : fitting v (length out) ≡ Done (length v) = ap (λ (b : Bool). unless b ShortOutput (Done (length v))) (le-leb (length v) (length out) (omega (arith, long, h))) in (
        verdicts_are rules counts t set_ok ok (length out) ∙ fit ∙ ap Done long,
        bytes_are rules counts t set_ok ok out ∙ ap (λ (a : Answer). output a v out) fit ∙ ap (λ (m : ℕ). v ++ drop m out) long,
      )

-- ---- the claims
pub begun_set : (rules counts pool : List ℕ) (words : ℕ) → is_done (begin_answer rules counts pool words) ≡ true → accepted_set rules counts ≡ true
unfolding begin_answer
begun_set rules counts pool words begun =
    and_then_first (check_set rules counts) (and_then (check_table pool) (unless (leb (length pool) words) ShortOutput (Done 0))) begun

module _ (rules counts pool steps : List ℕ) (words bytes : ℕ) (begun : is_done (begin_answer rules counts pool words) ≡ true) where
  abbrev behind : Answer
  behind = and_then (check_table pool) (unless (leb (length pool) words) ShortOutput (Done 0))

  set_ok : accepted_set rules counts ≡ true
  set_ok = begun_set rules counts pool words begun

  pool_ok : accepted_table pool ≡ true
  unfolding begin_answer
  pool_ok = and_then_first (check_table pool) _ (and_then_next (check_set rules counts) behind begun)

  abbrev r : Outcome
  r = try_steps (formulas_of rules counts) words bytes 0 (given pool) (steps_of steps)

  went : Goes (formulas_of rules counts) words bytes pool steps 0 (step_count steps) r
  unfolding state_at
  went = goes (formulas_of rules counts) words bytes pool steps (step_count steps) 0

  each : (j : ℕ) → j < r.steps → Does (formulas_of rules counts) words bytes pool steps j
  each j h = went.each_done j (omega arith) h

  accepted : (k : ℕ) → k ≤ r.steps → accepted_table (state_at (formulas_of rules counts) pool steps k).table ≡ true
  unfolding state_at
  accepted zero h = pool_ok
  accepted (suc k) h = accepted_after (formulas_of rules counts) words bytes k (state_at (formulas_of rules counts) pool steps k) (step_at steps k) (each k (omega arith))

  as_dumped : (k : ℕ) → k < r.steps
      → SetWrites rules counts (state_at (formulas_of rules counts) pool steps (suc k)).table (bytes_of (length counts) k r)
  as_dumped k h out e =
      let T = (state_at (formulas_of rules counts) pool steps (suc k)).table in
      let w = set_writes rules counts pool steps T set_ok (accepted (suc k) (omega arith)) out e in
      (w.0, w.1 ∙ ap (λ (vs : List ℕ). vs ++ drop (length counts) out) (sym bytes_here))
    where
      bytes_here : bytes_of (length counts) k r ≡ verdict_bytes (formulas_of rules counts) (rows (state_at (formulas_of rules counts) pool steps (suc k)).table)
      bytes_here =
          ap (λ (x : State). take (length counts) (drop (length counts * k) x.verdicts)) went.left
          ∙ bytes_of_step rules counts pool steps r.steps k h

  parts : (k : ℕ) → k ≤ r.steps → (ds : List Device)
      → Dumped (formulas_of rules counts) (state_at (formulas_of rules counts) pool steps k).table ds → Claim rules counts ds
  parts k h ds d = demand_3 rules counts ds (record {
    set_accepted = set_ok;
    none_twice = d.none_twice;
    devices = d.devices;
    dump_accepted = subst (λ (t : List ℕ). accepted_table t ≡ true) (sym d.dump_is) (accepted k h);
  })

  parts_judged : (k : ℕ) → k < r.steps → (ds : List Device)
      → Dumped (formulas_of rules counts) (state_at (formulas_of rules counts) pool steps (suc k)).table ds → taken [] ds ≡ ds
      → SetWrites rules counts (joined_parts ds) (bytes_of (length counts) k r)
  parts_judged k h ds d all out e =
      let same = (parts (suc k) (omega arith) ds d).same_verdicts out in
      let whole : dump (taken [] ds) ≡ (state_at (formulas_of rules counts) pool steps (suc k)).table = ap dump all ∙ d.dump_is in
      let j = as_dumped k h out e in (
        same.0 ∙ ap (λ (t : List ℕ). set_verdicts_answer rules counts t (length out)) whole ∙ j.0,
        same.1 ∙ ap (λ (t : List ℕ). set_verdicts_out rules counts t out) whole ∙ j.1,
      )

  -- what 23 to 25 let pass
  passed_at : (k : ℕ) → k < r.steps → is_done (step_place (state_at (formulas_of rules counts) pool steps k).table (step_at steps k)) ≡ true
  passed_at k h = step_passed (formulas_of rules counts) words bytes k (state_at (formulas_of rules counts) pool steps k) (step_at steps k) (each k h)

  one_row : (k : ℕ) → k < r.steps → RowsAfter (state_at (formulas_of rules counts) pool steps k).table (step_at steps k)
  one_row k h = only_that_row (state_at (formulas_of rules counts) pool steps k).table (step_at steps k) (accepted k (omega arith)) (passed_at k h)

  -- a step that is done has its words
  words_there : (k : ℕ) → k ≤ r.steps → step_words * k ≤ length steps
  words_there zero h = omega arith
  words_there (suc k) h =
      step_inside steps k (passed_words (state_at (formulas_of rules counts) pool steps k).table (step_at steps k) (passed_at k (omega arith)))

  first_steps : (k : ℕ) → k ≤ r.steps
      → trial_outcome rules counts pool (take (step_words * k) steps) words bytes
      ≡ record { answer = Done k; steps = k; state = state_at (formulas_of rules counts) pool steps k }
  unfolding state_at
  first_steps k h =
      let z : 0 + k ≡ k = omega arith in
      ap (λ (b : Bool). cond b (try_steps (formulas_of rules counts) words bytes 0 (given pool) (steps_of (take (step_words * k) steps)))
      (record { answer = begin_answer rules counts pool words; steps = 0; state = nothing_done })) begun
      ∙ ap (try_steps (formulas_of rules counts) words bytes 0 (given pool)) (first_steps_are steps k (words_there k h))
      ∙ runs_through (formulas_of rules counts) words bytes pool steps k 0 (λ j l g. each j (omega arith))
      ∙ ap (λ (j : ℕ). record { answer = Done j; steps = j; state = state_at (formulas_of rules counts) pool steps j }) z

  tried : Tried rules counts pool steps words bytes r
  tried = record {
    left = went.left;
    each_done = each;
    all_done = λ e. omega (arith, went.all_done e);
    stopped = λ e. ((went.stopped e).0, (went.stopped e).1, omega (arith, (went.stopped e).2));
    accepted = accepted;
    one_row = one_row;
    as_dumped = as_dumped;
    parts = parts;
    parts_judged = parts_judged;
    first_steps = first_steps;
    first_bytes = λ k h.
        first_of rules counts pool steps r.steps k h ∙ ap (λ (x : State). take (length counts * k) x.verdicts) (sym went.left);
  }

pub trials : Trials
trials rules counts pool steps words bytes begun =
    subst (Tried rules counts pool steps words bytes)
    (sym (ap (λ (b : Bool). cond b (try_steps (formulas_of rules counts) words bytes 0 (given pool) (steps_of steps))
    (record { answer = begin_answer rules counts pool words; steps = 0; state = nothing_done })) begun))
    (tried rules counts pool steps words bytes begun)

pub told_apart : ToldApart
unfolding trial_answer state_at
told_apart rules counts pool steps words bytes none = either (is_done (begin_answer rules counts pool words))
    (λ e.
    let one = trials rules counts pool steps words bytes e in
    ap (λ (x : State). row_count x.table) (one.left ∙ ap (state_at (formulas_of rules counts) pool steps) none) ∙ first_state (formulas_of rules counts) pool steps
    ∙ sym (ap (λ (b : Bool). cond b (row_count pool) 0) e))
    (λ e. rw e)
  where
    first_state : (Fs : List Formula) (pool steps : List ℕ) → row_count (state_at Fs pool steps 0).table ≡ row_count pool
    first_state Fs pool steps = refl
