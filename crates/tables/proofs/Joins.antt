-- What joining answers at each way out. Assumes nothing.
use Prim.Native.Nat.{ℕ, ◌+◌, ◌-◌, ◌*◌, ◌/◌, ◌%◌, ◌≤◌, ◌<◌}
use mathlib.Core.Path.{◌≡◌, sym, ap, ◌∙◌}
use mathlib.Core.Bool.{Bool, true, false}
use mathlib.Core.List.{List, ◌++◌}
use native.Mathlib.Omega.{arith}
use lib.Dec.{ltb, leb}
use lib.ListN.{length, take, drop, length-append}
use lib.Seq.{sets, sets-eq, length-take-le}
use borrow.Author.Tests.{eq-eqb, ne_eqb, lt-ltb, le-ltb, le-leb, lt-leb, leb-true}
use Rattle.base.specs.Search.{first}
use Rattle.tables.specs.Answers.{is_done, unless, unless_any}
use Rattle.tables.specs.Words.{row_words, row_at, row_count}
use Rattle.tables.specs.Tables.{row_limit, has_twin, row_fault, table_length, check_table, accepted_table}
use Rattle.tables.specs.Joining.{follows, join_tables, join_answer, join_pool}
use Rattle.tables.specs.declared.Row.{Row}
use Rattle.tables.specs.Answers.{Answer}
use Rattle.tables.specs.Answers.{Done, Refused}
use Rattle.tables.proofs.Answers.{and_then_next, unless_ok, unless_next, unless_any_next}
use Rattle.tables.proofs.Accepted.{few_rows, whole_rows}
use Rattle.tables.specs.declared.refusals.Fault.TheVariants.{TableLength, Sibling, Join, ShortOutput}
use Rattle.std.specs.Prelude.{Err}
use Rattle.tables.specs.declared.refusals.Refusal.{Refusal}

module _ (s t : List ℕ) where
  pub follows_empty : row_count s ≡ 0 → true ≡ follows s t
  follows_empty e = sym (simp (eq-eqb (row_count s) 0 e))

  pub follows_none : (row_count s ≡ 0 → ⊥) → row_count t ≡ 0 → true ≡ follows s t
  follows_none n e = sym (simp (ne_eqb (row_count s) 0 n, eq-eqb (row_count t) 0 e))

  pub follows_above : (row_count s ≡ 0 → ⊥) → (row_count t ≡ 0 → ⊥) → (a b : Row) → a ≡ row_at s (row_count s - 1) → b ≡ row_at t 0
      → ltb a.device b.device ≡ follows s t
  follows_above n m a b a_is b_is =
      ap (λ (x : Row). ltb x.device b.device) a_is ∙ ap (λ (x : Row). ltb (row_at s (row_count s - 1)).device x.device) b_is
      ∙ sym (simp (ne_eqb (row_count s) 0 n, ne_eqb (row_count t) 0 m))

-- ---- what the checks of both tables tell
done : (t : List ℕ) (n : ℕ) → check_table t ≡ Done n → accepted_table t ≡ true
done t n e = ap is_done e

module _ (t : List ℕ) (n : ℕ) (e : check_table t ≡ Done n) where
  pub short : length t ≤ row_limit * row_words
  short = omega (arith, few_rows t (done t n e), whole_rows t (done t n e))

  pub rows_whole : length t % row_words ≡ 0
  rows_whole = omega (arith, whole_rows t (done t n e))

module _ (s t : List ℕ) (room : ℕ) where
  pub refused_first : (r : Refusal) → check_table s ≡ Err r → Err r ≡ join_tables s t room
  unfolding join_tables
  refused_first r e = sym (rw e)

  module _ (m : ℕ) (em : check_table s ≡ Done m) where
    pub refused_second : (r : Refusal) → check_table t ≡ Err r → Err r ≡ join_tables s t room
    unfolding join_tables
    refused_second r e = sym (rw (em, e))

    module _ (n : ℕ) (en : check_table t ≡ Done n) (f : Bool) (f_is : f ≡ follows s t) where
      abbrev from_length : Answer
      from_length =
          unless (table_length (s ++ t)) TableLength
          (unless_any (row_fault (s ++ t) Sibling) Sibling (row_count (s ++ t))
          (unless (leb (length (s ++ t)) room) ShortOutput
          (Done (length (s ++ t)))))

      begun : join_tables s t room ≡ unless f Join from_length
      unfolding join_tables
      begun = rw (em, en) (ap (λ (b : Bool). unless b Join from_length) (sym f_is))

      pub not_behind : f ≡ false → Refused Join 0 ≡ join_tables s t room
      not_behind e = sym (begun ∙ ap (λ (b : Bool). unless b Join from_length) e)

      module _ (f_true : f ≡ true) where
        passed_join : join_tables s t room ≡ from_length
        passed_join = begun ∙ ap (λ (b : Bool). unless b Join from_length) f_true

        both_whole : length (s ++ t) % row_words ≡ 0
        both_whole = omega (arith, length-append s t, rows_whole s m em, rows_whole t n en)

        pub too_many : row_limit < (length s + length t) / row_words → Refused TableLength 0 ≡ join_tables s t room
        too_many h =
            let l : length (s ++ t) ≡ length s + length t = length-append s t in
            sym (passed_join ∙ simp (eq-eqb (length (s ++ t) % row_words) 0 both_whole, lt-leb (row_count (s ++ t)) row_limit (rw l h)))

        module _ (few : (length s + length t) / row_words ≤ row_limit) where
          abbrev from_twins : Answer
          from_twins =
              unless_any (row_fault (s ++ t) Sibling) Sibling (row_count (s ++ t))
              (unless (leb (length (s ++ t)) room) ShortOutput
              (Done (length (s ++ t))))

          passed_length : join_tables s t room ≡ from_twins
          passed_length =
              let l : length (s ++ t) ≡ length s + length t = length-append s t in
              passed_join ∙ simp (eq-eqb (length (s ++ t) % row_words) 0 both_whole, le-leb (row_count (s ++ t)) row_limit (rw l few))

          module _ (i : ℕ) (i_is : i ≡ first (has_twin (s ++ t)) ((length s + length t) / row_words)) where
            place_is : i ≡ first (row_fault (s ++ t) Sibling) (row_count (s ++ t))
            unfolding row_fault
            place_is = i_is ∙ ap (λ (n : ℕ). first (has_twin (s ++ t)) (n / row_words)) (sym (length-append s t))

            count_is : (length s + length t) / row_words ≡ row_count (s ++ t)
            count_is = ap (λ (n : ℕ). n / row_words) (sym (length-append s t))

            pub twin_refused : i < (length s + length t) / row_words → Refused Sibling i ≡ join_tables s t room
            twin_refused h = sym (passed_length ∙ rw (← place_is, lt-ltb i (row_count (s ++ t)) (rw count_is at h)))

            module _ (none : (length s + length t) / row_words ≤ i) where
              passed_twins : join_tables s t room ≡ unless (leb (length (s ++ t)) room) ShortOutput (Done (length (s ++ t)))
              passed_twins = passed_length ∙ rw (← place_is, le-ltb i (row_count (s ++ t)) (rw count_is at none))

              pub no_room : room < length s + length t → Refused ShortOutput 0 ≡ join_tables s t room
              no_room h =
                  let l : length (s ++ t) ≡ length s + length t = length-append s t in
                  sym (passed_twins ∙ simp (lt-leb (length (s ++ t)) room (rw l h)))

              pub joined : length s + length t ≤ room → Done (length s + length t) ≡ join_tables s t room
              joined h =
                  let l : length (s ++ t) ≡ length s + length t = length-append s t in
                  sym (passed_twins ∙ simp (le-leb (length (s ++ t)) room (rw l h)) (ap Done l))

-- an accepted joining fits its buffer
join_fits : (s t : List ℕ) (room : ℕ) → is_done (join_tables s t room) ≡ true → length (s ++ t) ≤ room
unfolding join_tables
join_fits s t room e =
    let a = and_then_next (check_table s) _ e in
    let b = and_then_next (check_table t) _ a in
    let c = unless_next (follows s t) Join _ b in
    let d = unless_next (table_length (s ++ t)) TableLength _ c in
    let f = unless_any_next (row_fault (s ++ t) Sibling) Sibling (row_count (s ++ t)) _ d in
    leb-true (length (s ++ t)) room (unless_ok (leb (length (s ++ t)) room) ShortOutput _ f)

-- ---- in place
module _ (pool : List ℕ) (used : ℕ) (t : List ℕ) where
  pub over_used : length pool < used → (Refused TableLength 0 ≡ join_answer pool used t) × (pool ≡ join_pool pool used t)
  unfolding join_answer join_pool
  over_used h = (sym (simp (lt-leb used (length pool) h)), sym (simp (lt-leb used (length pool) h)))

  module _ (l : used ≤ length pool) (a : Answer) (a_is : a ≡ join_tables (take used pool) t (length pool)) where
    answer_is : join_answer pool used t ≡ a
    unfolding join_answer
    answer_is = simp (le-leb used (length pool) l) (sym a_is)

    pub kept : (r : Refusal) → a ≡ Err r → (Err r ≡ join_answer pool used t) × (pool ≡ join_pool pool used t)
    unfolding join_pool
    kept r e = (sym (answer_is ∙ e), sym (rw (answer_is, e)))

    module _ (n : ℕ) (e : a ≡ Done n) where
      room_left : used + length t ≤ length pool
      room_left = let x : is_done (join_tables (take used pool) t (length pool)) ≡ true = ap is_done (sym a_is ∙ e) in
          omega (arith, join_fits (take used pool) t (length pool) x, length-append (take used pool) t, length-take-le used pool l)

      pub copy_fits : used + length t ≤ length pool
      copy_fits = room_left

      pub written : (out : List ℕ) → out ≡ sets pool used t → (Done n ≡ join_answer pool used t) × (out ≡ join_pool pool used t)
      unfolding join_pool
      written out o = (sym (answer_is ∙ e), o ∙ sets-eq t pool used room_left ∙ past_answer ∙ sym (rw (answer_is, e)))
        where
          past_answer : (take used pool ++ t) ++ drop (used + length t) pool ≡ (take used pool ++ t) ++ drop (length (take used pool ++ t)) pool
          past_answer =
              let z : used + length t ≡ length (take used pool ++ t) = omega (arith, length-append (take used pool) t, length-take-le used pool l) in
              ap (λ (n : ℕ). (take used pool ++ t) ++ drop n pool) z
