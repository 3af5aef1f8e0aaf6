-- A trial's run: the loop over the steps, and the call. Assumes nothing.
use Prim.Native.Nat.{ℕ, suc, ◌+◌, ◌-◌, ◌*◌, ◌/◌, ◌<◌, ◌≤◌}
use native.Mathlib.Nat.{mul-suc}
use native.Mathlib.Numerals.{add-one}
use native.Mathlib.Omega.{arith}
use mathlib.Core.Path.{◌≡◌, refl, sym, ap, ap₂, subst, ◌∙◌}
use mathlib.Core.Bool.{Bool, true, cond, true≢false}
use mathlib.Core.List.{List, ◌++◌}
use lib.ListN.{length, take, drop, replicate, length-append, length-drop, length-replicate, take-append-drop}
use lib.Seq.{sets, sets-eq, length-sets, length-take-le, take_all, take_at, drop_at, drop-drop}
use lib.Dec.{leb}
use borrow.Author.Tests.{le-leb, lt-leb, leb-true}
use Rattle.tables.specs.Answers.{value, is_done, and_then, unless}
use Rattle.tables.specs.Words.{row_words, rows}
use Rattle.tables.specs.Tables.{check_table, accepted_table}
use Rattle.tables.specs.Answers.{Answer}
use Rattle.tables.specs.Answers.{Done, Refused}
use Rattle.tables.proofs.Answers.{unless_ok, and_then_first, and_then_next, and_then_passed}
use Rattle.sets.specs.Sets.{set_limit, check_set, accepted_set}
use Rattle.plans.specs.Plans.{step_words, step_at, steps_from, step_count, steps_of, table_after}
use Rattle.plans.specs.declared.Trial.{Trial}
use Rattle.logic.specs.Formulas.{formulas_of}
use Rattle.logic.specs.Verdict.{verdict_bytes}
use Rattle.logic.specs.Trial.{State, given, stepped, step_answer, Outcome, try_steps, begin_answer, nothing_done, trial_outcome, returned_by, trial_answer, appended_by, verdicts_out, TableLeft}
use Rattle.logic.proofs.Calls.{verdict_count}
use Rattle.logic.proofs.Runs.{accepted_after, table_fits, verdicts_fit}
use Rattle.engine.specs.Trying.{byte_at, state_of, BeforeStep, Taken, StepEnd, Begun, outcome_from, Ran}
use Rattle.engine.proofs.Answered.{then_assoc}
use Rattle.engine.proofs.Stepping.{first_bytes}
use Rattle.tables.specs.declared.Fault.TheVariants.{ShortOutput}
use Rattle.std.specs.Prelude.{Err}
use Rattle.tables.specs.Refusals.{number_of}
use Rattle.tables.specs.declared.Refusal.{Refusal}

-- ---- the words of a step
module _ (steps : List ℕ) (k : ℕ) (h : step_words * k < length steps) where
  abbrev left : List ℕ
  left = drop (step_words * k) steps

  pub end_lacks : length steps - step_words * k < step_words → StepEnd steps k (length steps)
  end_lacks l =
      let long : length left ≡ length steps - step_words * k = length-drop (step_words * k) steps in
      record {
        from_start = omega arith;
        inside = omega arith;
        words_are = take_all (length steps - step_words * k) left (omega (arith, long)) ∙ sym (take_all step_words left (omega (arith, long)));
      }

  pub end_whole : step_words ≤ length steps - step_words * k → StepEnd steps k (step_words * k + step_words)
  end_whole l =
      let e : step_words * k + step_words - step_words * k ≡ step_words = omega arith in
      record { from_start = omega arith; inside = omega arith; words_are = ap (λ (m : ℕ). take m left) e }

-- ---- bytes appended to a run
module _ (out vs : List ℕ) (i j : ℕ) (h : i + length vs ≤ length out) (j_is : j ≡ i + length vs) where
  front : length (take i out) ≡ i
  front = length-take-le i out (omega arith)

  split : sets out i vs ≡ (take i out ++ vs) ++ drop j out
  split = sets-eq vs out i h ∙ ap (λ (m : ℕ). take i out ++ vs ++ drop m out) (sym j_is)

  both : length (take i out ++ vs) ≡ j
  both = length-append (take i out) vs ∙ ap (λ (m : ℕ). m + length vs) front ∙ sym j_is

  pub appended_front : take j (sets out i vs) ≡ take i out ++ vs
  appended_front = ap (take j) split ∙ take_at (take i out ++ vs) (drop j out) j both

  pub appended_rest : drop j (sets out i vs) ≡ drop j out
  appended_rest = ap (drop j) split ∙ drop_at (take i out ++ vs) (drop j out) j both

-- ---- the loop: the run is that of the steps left
module _ (rules counts steps : List ℕ) (words₀ : ℕ) (table₀ verdicts₀ : List ℕ) where
  abbrev n : ℕ
  n = length counts

  abbrev runs : ℕ → State → List (List ℕ) → Outcome
  runs = try_steps (formulas_of rules counts) (length table₀) (length verdicts₀)

  pub record Running (k words : ℕ) (table bytes verdicts : List ℕ) : Type 0 where
    pub standing : BeforeStep rules counts k words table bytes verdicts
    pub same_table : length table ≡ length table₀
    pub same_verdicts : length verdicts ≡ length verdicts₀
    pub within : k ≤ step_count steps
    pub ahead : drop (n * k) verdicts ≡ drop (n * k) verdicts₀
    pub rest : outcome_from rules counts steps words₀ table₀ verdicts₀
        ≡ runs k (state_of n k words table verdicts) (steps_from steps k (step_count steps - k))

  pub run_begin : Begun words₀ table₀ → Running 0 words₀ table₀ (replicate set_limit 0) verdicts₀
  run_begin w = record {
    standing = record {
      table_accepted = w.table_accepted;
      words_inside = w.words_inside;
      bytes_inside = omega arith;
      sized = length-replicate {A = ℕ} set_limit 0;
      last = λ q. absurd (omega arith);
    };
    same_table = refl;
    same_verdicts = refl;
    within = omega arith;
    ahead = refl;
    rest = ap₂ (λ (m j : ℕ). runs 0 (record { table = take words₀ table₀; verdicts = take m verdicts₀ }) (steps_from steps 0 j)) none all;
  }
    where
      none : 0 ≡ n * 0
      none = omega arith

      all : step_count steps ≡ step_count steps - 0
      all = omega arith

  module _ {k words : ℕ} {table bytes verdicts : List ℕ} (r : Running k words table bytes verdicts) where
    abbrev x : State
    x = state_of n k words table verdicts

    long : length (take words table) ≡ words
    long = length-take-le words table r.standing.words_inside

    many : length (take (n * k) verdicts) ≡ n * k
    many = length-take-le (n * k) verdicts r.standing.bytes_inside

    -- a run that ends in this state
    ran : {trial : Trial} {answer : Answer} → outcome_from rules counts steps words₀ table₀ verdicts₀ ≡ record { answer = answer; steps = k; state = x }
        → trial ≡ returned_by (record { answer = answer; steps = k; state = x })
        → Ran rules counts steps words₀ table₀ verdicts₀ trial table verdicts
    ran {trial} {answer} e t-is = record {
      returned = t-is ∙ ap returned_by (sym e);
      same_length = r.same_table;
      working = subst (λ (z : Outcome). take (length z.state.table) table ≡ z.state.table) (sym e) (ap (λ (m : ℕ). take m table) long);
      appended = subst (λ (z : Outcome). verdicts ≡ appended_by z verdicts₀) (sym e) kept;
    }
      where
        kept : verdicts ≡ take (n * k) verdicts ++ drop (length (take (n * k) verdicts)) verdicts₀
        kept =
            sym (take-append-drop (n * k) verdicts)
            ∙ ap (λ (zs : List ℕ). take (n * k) verdicts ++ zs) (r.ahead ∙ ap (λ (m : ℕ). drop m verdicts₀) (sym many))

    pub run_end : step_count steps ≤ k
        → Ran rules counts steps words₀ table₀ verdicts₀ (record { number = 0; place = 0; steps = k; rows = words / row_words }) table verdicts
    unfolding try_steps steps_from
    run_end h =
        let z : step_count steps - k ≡ 0 = omega arith in
        ran (r.rest ∙ ap (λ (j : ℕ). runs k x (steps_from steps k j)) z)
        (ap (λ (m : ℕ). record { number = 0; place = 0; steps = k; rows = m / row_words }) (sym long))

    -- there is another step
    module _ (h : k < step_count steps) where
      pub step_inside : step_words * k < length steps
      step_inside = omega arith

      abbrev s : List ℕ
      s = step_at steps k

      abbrev answer_here : Answer
      answer_here = step_answer (formulas_of rules counts) (length table₀) (length verdicts₀) k x s

      splits : outcome_from rules counts steps words₀ table₀ verdicts₀
          ≡ cond (is_done answer_here)
          (runs (suc k) (stepped (formulas_of rules counts) x s) (steps_from steps (suc k) (step_count steps - suc k)))
          (record { answer = answer_here; steps = k; state = x })
      unfolding try_steps steps_from
      splits = let z : step_count steps - k ≡ suc (step_count steps - suc k) = omega arith in r.rest ∙ ap (λ (j : ℕ). runs k x (steps_from steps k j)) z

      module _ {step : List ℕ} (step_is : step ≡ step_at steps k) {answer : Answer} {table' bytes' verdicts' : List ℕ}
          (Taken-step : Taken rules counts k words step table bytes verdicts answer table' bytes' verdicts') where
        taken : Taken rules counts k words s table bytes verdicts answer table' bytes' verdicts'
        taken = subst (λ (z : List ℕ). Taken rules counts k words z table bytes verdicts answer table' bytes' verdicts') step_is Taken-step

        answer_is : answer ≡ and_then answer_here (Done (length (table_after (take words table) s)))
        answer_is =
            taken.answered
            ∙ ap₂ (λ (a b : ℕ). and_then (step_answer (formulas_of rules counts) a b k x s) (Done (length (table_after (take words table) s)))) r.same_table r.same_verdicts

        -- it is refused
        module _ {o : Refusal} (refused : answer ≡ Err o) where
          here_refused : answer_here ≡ Err o
          here_refused = go answer_here (sym answer_is ∙ refused)
            where
              go : (a : Answer) → and_then a (Done (length (table_after (take words table) s))) ≡ Err o → a ≡ Err o
              go (Done q) e = absurd (true≢false (ap is_done e))
              go (Err q) e = e

          pub run_stops : Ran rules counts steps words₀ table₀ verdicts₀ (record { number = number_of o.fault; place = o.place; steps = k; rows = words / row_words }) table' verdicts'
          run_stops =
              let same = taken.refused (ap is_done refused) in
              ap₂_back same.0 same.1
              (ran (splits ∙ ap (λ (a : Answer). cond (is_done a) (runs (suc k) (stepped (formulas_of rules counts) x s) (steps_from steps (suc k) (step_count steps - suc k))) (record { answer = a; steps = k; state = x })) here_refused)
              (ap (λ (j : ℕ). record { number = number_of o.fault; place = o.place; steps = k; rows = j / row_words }) (sym long)))
            where
              ap₂_back : table' ≡ table → verdicts' ≡ verdicts
                  → Ran rules counts steps words₀ table₀ verdicts₀ (record { number = number_of o.fault; place = o.place; steps = k; rows = words / row_words }) table verdicts
                  → Ran rules counts steps words₀ table₀ verdicts₀ (record { number = number_of o.fault; place = o.place; steps = k; rows = words / row_words }) table' verdicts'
              ap₂_back e f y =
                  subst (λ (t : List ℕ). Ran rules counts steps words₀ table₀ verdicts₀ (record { number = number_of o.fault; place = o.place; steps = k; rows = words / row_words }) t verdicts') (sym e)
                  (subst (λ (v : List ℕ). Ran rules counts steps words₀ table₀ verdicts₀ (record { number = number_of o.fault; place = o.place; steps = k; rows = words / row_words }) table v) (sym f) y)

        -- it is done
        module _ {c : ℕ} (done : answer ≡ Done c) where
          here_done : is_done answer_here ≡ true
          here_done = and_then_first answer_here _ (ap is_done (sym answer_is ∙ done))

          words_are : value answer ≡ length (table_after (take words table) s)
          words_are = ap value (answer_is ∙ and_then_passed answer_here _ here_done)

          abbrev next : List ℕ
          next = table_after (take words table) s

          abbrev vs : List ℕ
          vs = verdict_bytes (formulas_of rules counts) (rows next)

          table_now : take (value answer) table' ≡ next
          table_now = ap (λ (j : ℕ). take j table') words_are ∙ (taken.done (ap is_done done)).0

          one_more : n * (k + 1) ≡ n * k + length vs
          one_more = omega (arith, verdict_count rules counts (rows next), mul-suc n k, add-one k)

          room : n * k + length vs ≤ length verdicts
          room =
              let fit = verdicts_fit (formulas_of rules counts) (length table₀) (length verdicts₀) k x s here_done in
              omega (arith, fit, length-append (take (n * k) verdicts) vs, many, r.same_verdicts)

          verdicts_now : take (n * (k + 1)) verdicts' ≡ take (n * k) verdicts ++ vs
          verdicts_now = ap (take (n * (k + 1))) (taken.done (ap is_done done)).1 ∙ appended_front verdicts vs (n * k) (n * (k + 1)) room one_more

          ahead_now : drop (n * (k + 1)) verdicts' ≡ drop (n * (k + 1)) verdicts₀
          ahead_now =
              ap (drop (n * (k + 1))) (taken.done (ap is_done done)).1
              ∙ appended_rest verdicts vs (n * k) (n * (k + 1)) room one_more
              ∙ ap (λ (j : ℕ). drop j verdicts) one_more ∙ sym (drop-drop (length vs) (n * k) verdicts)
              ∙ ap (drop (length vs)) r.ahead
              ∙ drop-drop (length vs) (n * k) verdicts₀ ∙ ap (λ (j : ℕ). drop j verdicts₀) (sym one_more)

          stands : BeforeStep rules counts (k + 1) (value answer) table' bytes' verdicts'
          stands = record {
            table_accepted = subst (λ (u : List ℕ). accepted_table u ≡ true) (sym table_now)
                (accepted_after (formulas_of rules counts) (length table₀) (length verdicts₀) k x s here_done);
            words_inside = omega (arith, words_are, table_fits (formulas_of rules counts) (length table₀) (length verdicts₀) k x s here_done, taken.same_table, r.same_table);
            bytes_inside = omega (arith, one_more, room, taken.same_verdicts);
            sized = taken.same_bytes ∙ r.standing.sized;
            last = λ q i l. (taken.done (ap is_done done)).2 i l ∙ ap (λ (u : List ℕ). byte_at rules counts u i) (sym table_now);
          }

          pub run_more : {words' : ℕ} → words' ≡ value answer → Running (k + 1) words' table' bytes' verdicts'
          run_more words-is = rw words-is (record {
            standing = stands;
            same_table = taken.same_table ∙ r.same_table;
            same_verdicts = taken.same_verdicts ∙ r.same_verdicts;
            within = omega arith;
            ahead = ahead_now;
            rest = splits
                ∙ ap (λ (b : Bool). cond b (runs (suc k) (stepped (formulas_of rules counts) x s) (steps_from steps (suc k) (step_count steps - suc k))) (record { answer = answer_here; steps = k; state = x })) here_done
                ∙ ap (λ (j : ℕ). runs j (stepped (formulas_of rules counts) x s) (steps_from steps j (step_count steps - j))) (sym (add-one k))
                ∙ ap₂ (λ (u v : List ℕ). runs (k + 1) (record { table = u; verdicts = v }) (steps_from steps (k + 1) (step_count steps - (k + 1)))) (sym table_now) (sym verdicts_now);
          })

-- ---- the call
module _ (rules counts pool : List ℕ) (words : ℕ) {x a : Answer} (x_is : x ≡ check_set rules counts) (a_is : a ≡ and_then x (check_table pool)) where
  checks : a ≡ and_then (check_set rules counts) (check_table pool)
  checks = a_is ∙ ap (λ (z : Answer). and_then z (check_table pool)) x_is

  abbrev room_17 : Answer
  room_17 = unless (leb (length pool) words) ShortOutput (Done 0)

  pub begin_refused : {o : Refusal} → a ≡ Err o → Err o ≡ begin_answer rules counts pool words
  unfolding begin_answer
  begin_refused e = ap (λ (z : Answer). and_then z room_17) (sym e ∙ checks) ∙ then_assoc (check_set rules counts) (check_table pool) room_17

  module _ {m : ℕ} (e : a ≡ Done m) where
    begin_room : room_17 ≡ begin_answer rules counts pool words
    unfolding begin_answer
    begin_room = ap (λ (z : Answer). and_then z room_17) (sym e ∙ checks) ∙ then_assoc (check_set rules counts) (check_table pool) room_17

    pub begin_short : words < length pool → Refused ShortOutput 0 ≡ begin_answer rules counts pool words
    begin_short h = ap (λ (b : Bool). unless b ShortOutput (Done 0)) (sym (lt-leb (length pool) words h)) ∙ begin_room

    pub begin_fits : length pool ≤ words → Done 0 ≡ begin_answer rules counts pool words
    begin_fits h = ap (λ (b : Bool). unless b ShortOutput (Done 0)) (sym (le-leb (length pool) words h)) ∙ begin_room

module _ (rules counts pool steps table verdicts : List ℕ) {a : Answer} (a_is : a ≡ begin_answer rules counts pool (length table)) where
  abbrev outcome : Outcome
  outcome = trial_outcome rules counts pool steps (length table) (length verdicts)

  abbrev Tells : Trial → List ℕ → List ℕ → Type 0
  Tells trial table' verdicts' =
      (trial ≡ trial_answer rules counts pool steps (length table) (length verdicts))
      × (TableLeft rules counts pool steps (length verdicts) table table' × (verdicts' ≡ verdicts_out rules counts pool steps (length table) verdicts))

  pub trial_refused : {o : Refusal} → a ≡ Err o → Tells (record { number = number_of o.fault; place = o.place; steps = 0; rows = 0 }) table verdicts
  unfolding trial_answer verdicts_out
  trial_refused {o} e = (
    ap returned_by (sym whole),
    (record { same_length = refl; working = empty; untouched = λ q. refl }, ap (λ (z : Outcome). appended_by z verdicts) (sym whole)),
  )
    where
      whole : outcome ≡ record { answer = Err o; steps = 0; state = nothing_done }
      whole =
          ap (λ (z : Answer). cond (is_done z) (try_steps (formulas_of rules counts) (length table) (length verdicts) 0 (given pool) (steps_of steps))
          (record { answer = z; steps = 0; state = nothing_done })) (sym a_is ∙ e)

      empty : take (length outcome.state.table) table ≡ outcome.state.table
      empty = subst (λ (z : Outcome). take (length z.state.table) table ≡ z.state.table) (sym whole) refl

  module _ {m : ℕ} (e : a ≡ Done m) where
    begun : is_done (begin_answer rules counts pool (length table)) ≡ true
    begun = ap is_done (sym a_is ∙ e)

    abbrev behind : Answer
    behind = and_then (check_table pool) (unless (leb (length pool) (length table)) ShortOutput (Done 0))

    pub set_ok : accepted_set rules counts ≡ true
    unfolding begin_answer
    set_ok = and_then_first (check_set rules counts) behind begun

    behind_set : is_done behind ≡ true
    unfolding begin_answer
    behind_set = and_then_next (check_set rules counts) behind begun

    pub pool_fits : length pool ≤ length table
    pool_fits = leb-true _ _ (unless_ok (leb (length pool) (length table)) ShortOutput (Done 0) (and_then_next (check_table pool) _ behind_set))

    module _ {table₁ : List ℕ} (copied : table₁ ≡ sets table 0 pool) where
      pool_there : take (length pool) table₁ ≡ pool
      pool_there = ap (take (length pool)) copied ∙ first_bytes table pool pool_fits

      same_room : length table₁ ≡ length table
      same_room = ap length copied ∙ length-sets table 0 pool

      pub trial_begun : Begun (length pool) table₁
      trial_begun = record {
        table_accepted = subst (λ (u : List ℕ). accepted_table u ≡ true) (sym pool_there) (and_then_first (check_table pool) _ behind_set);
        words_inside = omega (arith, pool_fits, same_room);
      }

      run_is : outcome_from rules counts steps (length pool) table₁ verdicts ≡ outcome
      run_is =
          ap₂ (λ (w : ℕ) (u : List ℕ). try_steps (formulas_of rules counts) w (length verdicts) 0 (given u) (steps_of steps)) same_room pool_there
          ∙ sym (ap (λ (b : Bool). cond b (try_steps (formulas_of rules counts) (length table) (length verdicts) 0 (given pool) (steps_of steps))
          (record { answer = begin_answer rules counts pool (length table); steps = 0; state = nothing_done })) begun)

      pub trial_done : {trial : Trial} {table' verdicts' : List ℕ} → Ran rules counts steps (length pool) table₁ verdicts trial table' verdicts'
          → Tells trial table' verdicts'
      unfolding trial_answer verdicts_out
      trial_done {table' = table'} r = (
        r.returned ∙ ap returned_by run_is,
        (
          record {
            same_length = r.same_length ∙ same_room;
            working = subst (λ (z : Outcome). take (length z.state.table) table' ≡ z.state.table) run_is r.working;
            untouched = λ q. absurd (true≢false (sym begun ∙ q));
          },
          r.appended ∙ ap (λ (z : Outcome). appended_by z verdicts) run_is,
        ),
      )
