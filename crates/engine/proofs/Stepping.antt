-- Steps of a trial: one law for each way through the code, over plain variables. Assumes nothing.
use Prim.Native.Nat.{ℕ, ◌+◌, ◌-◌, ◌*◌, ◌<◌, ◌≤◌}
use native.Mathlib.Omega.{arith}
use mathlib.Core.Path.{◌≡◌, refl, sym, ap, ap₂, subst, ◌∙◌}
use mathlib.Core.Bool.{Bool, true, false, ◌&&◌, ◌||◌, true≢false}
use mathlib.Core.List.{List, ◌++◌}
use lib.ListN.{length, get_or, take, drop, replicate, length-append, length-replicate}
use lib.Seq.{sets, sets-eq, length-sets, length-take-le, take-append_seam, get_or-take}
use lib.Dec.{eqb, ltb, leb}
use borrow.Author.Tests.{le-leb, lt-leb, leb-true, ltb-true, ltb-false, eqb-false}
use Rattle.base.proofs.Bools.{either, and_left, and_right, or_left, or_right}
use Rattle.tables.specs.Answers.{value, is_done, and_then, unless, fitting, output}
use Rattle.tables.specs.Words.{row_words, row_at, row_count, rows}
use Rattle.tables.specs.Rules.{one}
use Rattle.tables.specs.Tables.{row_limit, check_table, accepted_table}
use Rattle.tables.specs.Answers.{Answer}
use Rattle.tables.specs.Answers.{Done, Refused}
use Rattle.tables.proofs.Answers.{unless_ok, and_then_first, and_then_next, and_then_passed}
use Rattle.tables.proofs.Accepted.{whole_rows, few_rows}
use Rattle.sets.specs.Sets.{set_limit, rule_at, accepted_set}
use Rattle.sets.proofs.Sets.{counts_fit_lem, set_few}
use Rattle.plans.specs.Plans.{change_with, step_words, is_step, kind_of, step_row, place_for, step_place, table_after, change_answer, changed, change_out}
use Rattle.plans.specs.declared.Change.{Change}
use Rattle.plans.specs.declared.RefusedStep.{RefusedStep}
use Rattle.plans.proofs.Splices.{passed_place, passed_words, passed_kind}
use Rattle.plans.proofs.Changes.{row_there, place_after, after_long, remove_adds_none}
use Rattle.logic.specs.Formulas.{formula, formulas_of}
use Rattle.logic.specs.Verdict.{verdict, verdict_bytes}
use Rattle.logic.specs.Parts.{reached}
use Rattle.logic.specs.Trial.{State, at_step, fits, stepped, step_answer}
use Rattle.logic.proofs.Calls.{verdict_count, verdict_byte}
use Rattle.logic.proofs.Kept.{kept_removed, kept_other}
use Rattle.engine.specs.Trying.{with_row, byte_at, state_of, BeforeStep, Changed, room_answer, Taken}
use Rattle.tables.specs.declared.Fault.TheVariants.{ShortOutput}
use Rattle.std.specs.Prelude.{Result, Ok, Err}
use Rattle.std.specs.Result.{is_ok}
use Rattle.tables.specs.declared.Refusal.{Refusal}

-- ---- an accepted set
pub few : (rules counts : List ℕ) → accepted_set rules counts ≡ true → length counts ≤ set_limit
few rules counts ok = set_few rules counts (counts_fit_lem rules counts ok)

-- ---- bytes brought up to the table after
module _ (rules counts t next s : List ℕ) (row : ℕ) (first : Bool) (bytes : List ℕ) (set_ok : accepted_set rules counts ≡ true) (w : Changed rules counts t next s row first bytes) where
  passed : is_done (step_place t s) ≡ true
  passed = ap is_done w.passed

  row_is : row ≡ place_for t (step_row s)
  row_is = ap value (sym w.passed ∙ passed_place t s passed)

  pub known_step : is_step s ≡ true
  known_step = rw (le-leb step_words (length s) (passed_words t s passed), passed_kind t s passed) refl

  pub room_for_bytes : length counts ≤ length bytes
  room_for_bytes = omega (arith, w.sized, few rules counts set_ok)

  -- where its row stands
  pub row_seen : (row < row_count (with_row s t next)) × (accepted_table (with_row s t next) ≡ true)
  row_seen = either (eqb (kind_of s) 3)
      (λ e. rw e (subst (λ (p : ℕ). p < row_count t) (sym row_is) (row_there t s passed (remove_adds_none t s e)), w.table_accepted))
      (λ e. rw e (
        subst (λ (u : List ℕ). row < row_count u) (sym w.next_is)
            (subst (λ (p : ℕ). p < row_count (table_after t s)) (sym row_is) (place_after t s (whole_rows t w.table_accepted) passed e)),
        w.next_accepted,
      ))

  -- the byte of a rule that isn't asked for is the one of the table before, and that of the table after
  pub stays : first ≡ false → (i : ℕ) → i < length counts
      → reached (formula (rule_at rules counts i)) (rows (with_row s t next)) (row_at (with_row s t next) row) ≡ false
      → get_or bytes i 0 ≡ byte_at rules counts next i
  stays q i h misses = w.last q i h ∙ ap one same ∙ ap (λ (u : List ℕ). byte_at rules counts u i) (sym w.next_is)
    where
      same : verdict (formula (rule_at rules counts i)) (rows t) ≡ verdict (formula (rule_at rules counts i)) (rows (table_after t s))
      same = either (eqb (kind_of s) 3)
          (λ e. kept_removed t s w.table_accepted passed (formula (rule_at rules counts i)) e
          (ap (λ (p : ℕ). reached (formula (rule_at rules counts i)) (rows t) (row_at t p)) (sym row_is) ∙ (rw e at misses)))
          (λ e. kept_other t s w.table_accepted passed (formula (rule_at rules counts i)) e
          (ap₂ (λ (p : ℕ) (u : List ℕ). reached (formula (rule_at rules counts i)) (rows u) (row_at u p)) (sym row_is) (sym w.next_is) ∙ (rw e at misses)))

-- ---- 8 to 12 and 17
and-false : (b : Bool) → (b && false) ≡ false
and-false true = refl
and-false false = refl

module _ (next : List ℕ) (n k words bytes : ℕ) {checked : Answer} (checked_is : checked ≡ check_table next) where
  abbrev behind : Answer
  behind = unless (leb (length next) words && leb (n * k + n) bytes) ShortOutput (Done k)

  pub room_refused : {r : Refusal} → checked ≡ Err r → Refused r.fault k ≡ room_answer n k words bytes next
  room_refused e = ap (λ (a : Answer). at_step k (and_then a behind)) (sym e ∙ checked_is)

  module _ {c : ℕ} (done : checked ≡ Done c) where
    passed_8 : {b : Bool} → (leb (length next) words && leb (n * k + n) bytes) ≡ b → at_step k (unless b ShortOutput (Done k)) ≡ room_answer n k words bytes next
    passed_8 e = ap (λ (b : Bool). at_step k (unless b ShortOutput (Done k))) (sym e) ∙ ap (λ (a : Answer). at_step k (and_then a behind)) (sym done ∙ checked_is)

    pub room_short : (ltb words (length next) || ltb (bytes - n * k) n) ≡ true → Refused ShortOutput k ≡ room_answer n k words bytes next
    room_short e = passed_8 (go (ltb words (length next)) refl)
      where
        go : (b : Bool) → ltb words (length next) ≡ b → (leb (length next) words && leb (n * k + n) bytes) ≡ false
        go true q = ap (λ (x : Bool). x && leb (n * k + n) bytes) (lt-leb (length next) words (ltb-true words (length next) q))
        go false q =
            let short = ltb-true (bytes - n * k) n (ap (λ (x : Bool). x || ltb (bytes - n * k) n) (sym q) ∙ e) in
            ap (λ (x : Bool). leb (length next) words && x) (lt-leb (n * k + n) bytes (omega (arith, short))) ∙ and-false (leb (length next) words)

    pub room_fits : n * k ≤ bytes → (ltb words (length next) || ltb (bytes - n * k) n) ≡ false → Done k ≡ room_answer n k words bytes next
    room_fits h e = passed_8 (ap₂ ◌&&◌
        (le-leb (length next) words (ltb-false words (length next) (or_left (ltb words (length next)) _ e)))
        (le-leb (n * k + n) bytes (omega (arith, h, ltb-false (bytes - n * k) n (or_right (ltb words (length next)) _ e)))))

-- ---- a step is taken
-- the bytes that the code has written at the start of a run are its first bytes
pub first_bytes : (bytes vs : List ℕ) → length vs ≤ length bytes → take (length vs) (sets bytes 0 vs) ≡ vs
first_bytes bytes vs h =
    ap (take (length vs)) (sets-eq vs bytes 0 (omega arith)) ∙ take-append_seam vs (drop (0 + length vs) bytes)

module _ (rules counts pool bytes : List ℕ) where
  abbrev theirs : List ℕ
  theirs = verdict_bytes (formulas_of rules counts) (rows pool)

  many : length theirs ≡ length counts
  many = verdict_count rules counts (rows pool)

  module _ (room : length counts ≤ length bytes) {bytes' : List ℕ} (written : bytes' ≡ sets bytes 0 theirs) where
    pub bytes_there : length counts ≤ length bytes'
    bytes_there = omega (arith, room, ap length written, length-sets bytes 0 theirs)

    pub bytes_taken : length (take (length counts) bytes') ≡ length counts
    bytes_taken = length-take-le (length counts) bytes' bytes_there

    pub bytes_are : take (length counts) bytes' ≡ theirs
    bytes_are =
        ap₂ take (sym many) written ∙ first_bytes bytes theirs (omega (arith, many, room))

    -- each is its rule's
    pub byte_is : (i : ℕ) → i < length counts → get_or bytes' i 0 ≡ byte_at rules counts pool i
    byte_is i h =
        sym (get_or-take (length counts) bytes' i 0 h) ∙ ap (λ (vs : List ℕ). get_or vs i 0) bytes_are ∙ verdict_byte rules counts (rows pool) i h

-- ---- a change and the answer in it
refused_change : (row : ℕ) (a : Answer) {r : RefusedStep} → change_with row a ≡ Err r → a ≡ Err r.refusal
refused_change row (Done words) e = absurd (true≢false (ap is_ok e))
refused_change row (Err q) e = ap Err (ap refusal e)
  where
    refusal : Result Change RefusedStep → Refusal
    refusal (Ok c) = q
    refusal (Err r) = r.refusal

done_change : (row : ℕ) (a : Answer) {c : Change} → change_with row a ≡ Ok c → (a ≡ Done c.words) × (row ≡ c.row)
done_change row (Done words) {c} e = (ap Done (ap (λ (x : Change). x.words) (ap change e)), ap (λ (x : Change). x.row) (ap change e))
  where
    change : Result Change RefusedStep → Change
    change (Ok x) = x
    change (Err r) = c
done_change row (Err q) e = absurd (true≢false (sym (ap is_ok e)))

-- ---- a step is tried
abbrev pub next_words : ℕ
next_words = row_words * row_limit + row_words

abbrev no_words : List ℕ
no_words = replicate next_words 0

module _ (rules counts : List ℕ) (set_ok : accepted_set rules counts ≡ true) (k words : ℕ) (s table bytes verdicts : List ℕ) (w : BeforeStep rules counts k words table bytes verdicts) where
  abbrev t : List ℕ
  t = take words table

  abbrev n : ℕ
  n = length counts

  abbrev x : State
  x = state_of n k words table verdicts

  abbrev answer_of : Answer
  answer_of = and_then (step_answer (formulas_of rules counts) (length table) (length verdicts) k x s) (Done (length (table_after t s)))

  -- what comes behind 23 to 25
  abbrev behind_25 : Answer
  behind_25 = and_then (check_table (table_after t s)) (unless (fits (stepped (formulas_of rules counts) x s) (length table) (length verdicts)) ShortOutput (Done k))

  -- the private table takes the table after any step
  next_room : is_done (step_place t s) ≡ true → length (table_after t s) ≤ next_words
  next_room passed =
      let long = after_long t s (whole_rows t w.table_accepted) passed in
      omega (arith, long, whole_rows t w.table_accepted, few_rows t w.table_accepted)

  change_is : change_answer t s next_words ≡ and_then (step_place t s) (Done (length (table_after t s)))
  change_is = go (step_place t s) refl
    where
      go : (a : Answer) → step_place t s ≡ a → and_then a (fitting (table_after t s) next_words) ≡ and_then a (Done (length (table_after t s)))
      go (Done p) e =
          ap (λ (b : Bool). unless b ShortOutput (Done (length (table_after t s)))) (le-leb (length (table_after t s)) next_words (next_room (ap is_done e)))
      go (Err r) e = refl

  module _ {change : Result Change RefusedStep} (change_of : change ≡ changed t s next_words) where
    abbrev whole_answer : Answer
    whole_answer = and_then (step_place t s) (Done (length (table_after t s)))

    change_with_is : change ≡ change_with (value (step_place t s)) whole_answer
    change_with_is = change_of ∙ ap (change_with (value (step_place t s))) change_is

    -- what a refused step leaves
    refused_by : {a : Answer} → a ≡ answer_of → is_done a ≡ false → Taken rules counts k words s table bytes verdicts a table bytes verdicts
    refused_by e not_done = record {
      answered = e;
      same_table = refl;
      same_bytes = refl;
      same_verdicts = refl;
      refused = λ q. (refl, refl);
      done = λ q. absurd (true≢false (sym q ∙ not_done));
    }

    -- 23 to 25
    pub step_refused : {r : RefusedStep} → change ≡ Err r → Taken rules counts k words s table bytes verdicts (Refused r.refusal.fault k) table bytes verdicts
    unfolding step_answer
    step_refused {r} e = refused_by (ap (λ (a : Answer). and_then (at_step k (and_then a behind_25)) (Done (length (table_after t s)))) (sym place_is)) refl
      where
        place_is : step_place t s ≡ Err r.refusal
        place_is = first_refused (step_place t s) (refused_change _ whole_answer (sym change_with_is ∙ e))
          where
            first_refused : (a : Answer) → and_then a (Done (length (table_after t s))) ≡ Err r.refusal → a ≡ Err r.refusal
            first_refused (Done q) h = absurd (true≢false (ap is_done h))
            first_refused (Err q) h = h

    module _ {done : Change} (found : change ≡ Ok done) {next : List ℕ} (next_of : next ≡ change_out t s no_words) where
      abbrev long : ℕ
      long = done.words

      found_is : (whole_answer ≡ Done long) × (value (step_place t s) ≡ done.row)
      found_is = done_change _ whole_answer (sym change_with_is ∙ found)

      passed_it : is_done (step_place t s) ≡ true
      passed_it = and_then_first (step_place t s) _ (ap is_done found_is.0)

      long_is : long ≡ length (table_after t s)
      long_is = ap value (sym found_is.0 ∙ and_then_passed (step_place t s) _ passed_it)

      next_begins : next ≡ table_after t s ++ drop (length (table_after t s)) no_words
      next_begins =
          next_of
          ∙ ap (λ (r : ℕ). output (change_answer t s r) (table_after t s) no_words) (length-replicate {A = ℕ} next_words 0)
          ∙ ap (λ (a : Answer). output a (table_after t s) no_words) (change_is ∙ and_then_passed (step_place t s) _ passed_it)

      pub after_is : take long next ≡ table_after t s
      after_is = ap₂ take long_is next_begins ∙ take-append_seam (table_after t s) (drop (length (table_after t s)) no_words)

      pub long_inside : long ≤ length next
      long_inside = omega (arith, long_is, ap length next_begins, length-append (table_after t s) (drop (length (table_after t s)) no_words))

      -- then 8 to 12 and 17
      answer_is : answer_of ≡ and_then (room_answer n k (length table) (length verdicts) (take long next)) (Done (length (table_after t s)))
      unfolding step_answer
      answer_is =
          ap (λ (a : Answer). and_then (at_step k a) (Done (length (table_after t s)))) (and_then_passed (step_place t s) _ passed_it)
          ∙ ap (λ (m : ℕ). and_then (at_step k (and_then (check_table (table_after t s)) (unless (leb (length (table_after t s)) (length table) && leb m (length verdicts)) ShortOutput (Done k)))) (Done (length (table_after t s)))) many_bytes
          ∙ ap (λ (u : List ℕ). and_then (room_answer n k (length table) (length verdicts) u) (Done (length (table_after t s)))) (sym after_is)
        where
          many_bytes : length (x.verdicts ++ verdict_bytes (formulas_of rules counts) (rows (table_after t s))) ≡ n * k + n
          many_bytes =
              length-append (take (n * k) verdicts) (verdict_bytes (formulas_of rules counts) (rows (table_after t s)))
              ∙ ap₂ ◌+◌ (length-take-le (n * k) verdicts w.bytes_inside) (verdict_count rules counts (rows (table_after t s)))

      module _ {a : Answer} (a_is : a ≡ room_answer n k (length table) (length verdicts) (take long next)) where
        pub room_refuses : {r : Refusal} → a ≡ Err r → Taken rules counts k words s table bytes verdicts (Err r) table bytes verdicts
        room_refuses e = refused_by (ap (λ (z : Answer). and_then z (Done (length (table_after t s)))) (sym e ∙ a_is) ∙ sym answer_is) refl

        module _ {m : ℕ} (fits_it : a ≡ Done m) where
          room_done : is_done (room_answer n k (length table) (length verdicts) (take long next)) ≡ true
          room_done = ap is_done (sym a_is ∙ fits_it)

          at_done : (z : Answer) → is_done (at_step k z) ≡ true → is_done z ≡ true
          at_done (Done q) e = refl
          at_done (Err r) e = e

          abbrev inner : Answer
          inner = and_then (check_table (take long next)) (unless (leb (length (take long next)) (length table) && leb (n * k + n) (length verdicts)) ShortOutput (Done k))

          inner_done : is_done inner ≡ true
          inner_done = at_done inner room_done

          both_fit : (leb (length (take long next)) (length table) && leb (n * k + n) (length verdicts)) ≡ true
          both_fit = unless_ok _ ShortOutput (Done k) (and_then_next (check_table (take long next)) _ inner_done)

          pub room_there : (length (take long next) ≤ length table) × (n * k + n ≤ length verdicts)
          room_there = (leb-true _ _ (and_left (leb (length (take long next)) (length table)) _ both_fit), leb-true _ _ (and_right (leb (length (take long next)) (length table)) _ both_fit))

          pub changed_so : Changed rules counts t (take long next) s done.row (eqb k 0) bytes
          changed_so = record {
            table_accepted = w.table_accepted;
            next_accepted = and_then_first (check_table (take long next)) _ inner_done;
            passed = passed_place t s passed_it ∙ ap Done (ap value (sym (passed_place t s passed_it)) ∙ found_is.1);
            next_is = after_is;
            sized = w.sized;
            last = λ q. w.last (let apart : ¬ (k ≡ 0) = eqb-false k 0 q in omega (arith, apart));
          }

          pub step_taken : {table' bytes' verdicts' : List ℕ} → table' ≡ sets table 0 (take long next)
              → bytes' ≡ sets bytes 0 (verdict_bytes (formulas_of rules counts) (rows (take long next)))
              → verdicts' ≡ sets verdicts (n * k) (verdict_bytes (formulas_of rules counts) (rows (take long next)))
              → Taken rules counts k words s table bytes verdicts (Done long) table' bytes' verdicts'
          step_taken {table'} {bytes'} {verdicts'} table_is bytes-is verdicts-is = record {
            answered = ap Done long_is ∙ ap (λ (z : Answer). and_then z (Done (length (table_after t s)))) (sym fits_it ∙ a_is) ∙ sym answer_is;
            same_table = ap length table_is ∙ length-sets table 0 (take long next);
            same_bytes = ap length bytes-is ∙ length-sets bytes 0 (verdict_bytes (formulas_of rules counts) (rows (take long next)));
            same_verdicts = ap length verdicts-is ∙ length-sets verdicts (n * k) (verdict_bytes (formulas_of rules counts) (rows (take long next)));
            refused = λ q. absurd (true≢false q);
            done = λ q. (
              ap (take (length (table_after t s))) (table_is ∙ ap (sets table 0) after_is) ∙ first_bytes table (table_after t s) (omega (arith, room_there.0, ap length after_is)),
              verdicts-is ∙ ap (λ (u : List ℕ). sets verdicts (n * k) (verdict_bytes (formulas_of rules counts) (rows u))) after_is,
              byte_is rules counts (table_after t s) bytes few_bytes (bytes-is ∙ ap (λ (u : List ℕ). sets bytes 0 (verdict_bytes (formulas_of rules counts) (rows u))) after_is),
            );
          }
            where
              few_bytes : n ≤ length bytes
              few_bytes = omega (arith, w.sized, few rules counts set_ok)
