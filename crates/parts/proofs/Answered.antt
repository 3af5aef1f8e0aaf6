-- What the part calls answer and write, by the checks on the way. Assumes nothing.
use Prim.Native.Nat.{ℕ, ◌+◌, ◌*◌, ◌%◌, ◌<◌, ◌≤◌}
use mathlib.Core.Path.{◌≡◌, refl, sym, ap, subst, ◌∙◌}
use mathlib.Core.Logic.{◌⊎◌, inl, inr, ⊎_elim}
use mathlib.Core.Bool.{Bool, true, false, cond, ◌&&◌, and-false, false≢true}
use mathlib.Core.List.{List, [], ◌∷◌, ◌++◌, map}
use native.Mathlib.Omega.{arith}
use lib.ListN.{length, take, drop}
use lib.Seq.{sets, sets-eq}
use lib.Dec.{eqb, ltb, leb}
use borrow.Author.Tests.{eq-eqb, eqb-true, eqb-false, leb-true, lt-ltb, le-ltb, le-leb, lt-leb, not-false}
use Rattle.std.specs.Prelude.{Some, None, Err}
use Rattle.std.specs.List.{count_by}
use Rattle.base.specs.Search.{first}
use Rattle.base.proofs.Bools.{either}
use Rattle.base.proofs.Search.{none_before}
use Rattle.tables.specs.Answers.{Answer, Done, Refused, is_done, and_then, unless, unless_any, output}
use Rattle.tables.specs.Words.{row_words, row_at, row_count, rows, entry_count, entry_words}
use Rattle.tables.specs.Rules.{to_constant, entry_limit, check_rule, accepted_rule}
use Rattle.tables.proofs.AcceptedRule.{whole_entries, few_entries}
use Rattle.tables.proofs.Answers.{and_then_passed}
use Rattle.tables.specs.Tables.{check_table}
use Rattle.tables.specs.declared.Row.{Row}
use Rattle.tables.specs.declared.refusals.Fault.TheVariants as fault
use Rattle.tables.specs.declared.refusals.Refusal.{Refusal}
use Rattle.sets.specs.Sets.{check_set, accepted_set}
use Rattle.logic.specs.Formulas.{Formula, formula, formulas_of}
use Rattle.logic.specs.Parts.{part_of, words_of, other_device, send_answer, send_out, part_answer, part_out, set_part_answer, set_part_out}
use Rattle.tables.proofs.AcceptedRule.{checked_count}
use Rattle.logic.specs.Sets.{OfOne}
use Rattle.logic.proofs.Sets.{set_of_one}
use Rattle.logic.proofs.Words.{length_words}
use Rattle.parts.specs.Modes.{word_of, mode_of}
use Rattle.parts.specs.declared.modes.Mode.{Mode}
use Rattle.parts.specs.declared.modes.Mode.TheVariants.{All, Branch, Full}
use Rattle.parts.specs.Families.{OneDevice}
use Rattle.parts.specs.Keeping.{Keeps}
use Rattle.parts.specs.Sending.{rows_sent, Marks}
use Rattle.parts.proofs.Sent.{fits, sent_is, count_is}

-- ---- modes
abbrev mode_ok : ℕ → Bool
mode_ok m = leb 1 m && leb m 3

mode_cases : (m : ℕ) → ((mode_of m ≡ None) × (mode_ok m ≡ false)) ⊎ ((d : Mode) × (mode_of m ≡ Some d) × (word_of d ≡ m) × (mode_ok m ≡ true))
mode_cases m = either (eqb m 1)
    (λ e. rw (eqb-true m 1 e) (inr (All, refl, refl, refl)))
    (λ e. either (eqb m 2)
    (λ f. rw (eqb-true m 2 f) (inr (Branch, refl, refl, refl)))
    (λ f. either (eqb m 3)
    (λ g. rw (eqb-true m 3 g) (inr (Full, refl, refl, refl)))
    (λ g. inl (
      rw (e, f, g),
      either (leb m 3)
          (λ h. let z : m ≡ 0 = omega (arith, leb-true m 3 h, eqb-false m 1 e, eqb-false m 2 f, eqb-false m 3 g) in rw z)
          (λ h. rw (h, and-false (leb 1 m))),
    ))))

mode_none : (m : ℕ) → None ≡ mode_of m → mode_ok m ≡ false
mode_none m e = ⊎_elim (λ q. q.1) (λ q. let z : None ≡ Some q.0 = e ∙ q.1 in absurd (cc)) (mode_cases m)

module _ (m : ℕ) {mode : Mode} (e : Some mode ≡ mode_of m) where
  some_case : (word_of mode ≡ m) × (mode_ok m ≡ true)
  some_case = ⊎_elim
      (λ q. let z : Some mode ≡ None = e ∙ q.0 in absurd (cc))
      (λ q. let z : mode ≡ q.0 = (let y : Some mode ≡ Some q.0 = e ∙ q.1 in cc) in (ap word_of z ∙ q.2, q.3))
      (mode_cases m)

  pub mode_word : word_of mode ≡ m
  mode_word = some_case.0

  mode_done : mode_ok m ≡ true
  mode_done = some_case.1

-- ---- the checks of the table, of the mode and of the devices
module _ (Fs : List Formula) (t : List ℕ) (m room : ℕ) where
  abbrev sent : List Row
  sent = part_of Fs m (rows t)

  abbrev whole : Answer
  whole = send_answer (Done 0) Fs t m room

  abbrev short : Answer
  short = unless (leb (length (words_of sent)) room) fault.ShortOutput (Done (length sent))

  by_table : whole ≡ and_then (check_table t) (unless (mode_ok m) fault.Mode (unless_any (other_device t) fault.OtherDevice (row_count t) short))
  unfolding send_answer
  by_table = refl

  pub table_refused : {r : Refusal} → check_table t ≡ Err r → Err r ≡ whole
  table_refused e = sym (by_table ∙ ap (λ (a : Answer). and_then a (unless (mode_ok m) fault.Mode (unless_any (other_device t) fault.OtherDevice (row_count t) short))) e)

  module _ {y : ℕ} (table_done : Done y ≡ check_table t) where
    by_mode : whole ≡ unless (mode_ok m) fault.Mode (unless_any (other_device t) fault.OtherDevice (row_count t) short)
    by_mode = by_table ∙ ap (λ (a : Answer). and_then a (unless (mode_ok m) fault.Mode (unless_any (other_device t) fault.OtherDevice (row_count t) short))) (sym table_done)

    pub mode_refused : None ≡ mode_of m → Refused fault.Mode 0 ≡ whole
    mode_refused e = sym (by_mode ∙ ap (λ (b : Bool). unless b fault.Mode (unless_any (other_device t) fault.OtherDevice (row_count t) short)) (mode_none m e))

    module _ {mode : Mode} (e : Some mode ≡ mode_of m) {i : ℕ} (i_is : i ≡ first (other_device t) (row_count t)) where
      by_device : whole ≡ cond (ltb i (row_count t)) (Refused fault.OtherDevice i) short
      by_device = by_mode ∙ ap (λ (b : Bool). unless b fault.Mode (unless_any (other_device t) fault.OtherDevice (row_count t) short)) (mode_done m e)
          ∙ ap (λ (j : ℕ). cond (ltb j (row_count t)) (Refused fault.OtherDevice j) short) (sym i_is)

      pub device_refused : i < row_count t → Refused fault.OtherDevice i ≡ whole
      device_refused h = sym (by_device ∙ ap (λ (b : Bool). cond b (Refused fault.OtherDevice i) short) (lt-ltb i (row_count t) h))

      module _ (h : row_count t ≤ i) where
        by_room : whole ≡ short
        by_room = by_device ∙ ap (λ (b : Bool). cond b (Refused fault.OtherDevice i) short) (le-ltb i (row_count t) h)

        pub one_device : OneDevice t
        one_device = record {
          accepted = ap is_done (sym table_done);
          same = λ j l. eqb-true (row_at t j).device (row_at t 0).device (not-false _ (none_before (other_device t) (row_count t) j (omega (arith, i_is))));
        }

        module _ {kept : List Bool} (marked : Keeps Fs t (word_of mode) kept (row_count t)) where
          keeps : Keeps Fs t m kept (row_count t)
          keeps = subst (λ (k : ℕ). Keeps Fs t k kept (row_count t)) (mode_word m e) marked

          pub rows_fit : row_count t ≤ length kept
          rows_fit = fits Fs t kept m one_device.accepted keeps

          module _ {count : ℕ} (count_of : count ≡ count_by (λ b. b) (take (row_count t) kept)) where
            count_sent : count ≡ length sent
            count_sent = count_of ∙ count_is Fs t kept m one_device.accepted keeps

            words_sent : length (words_of sent) ≡ row_words * count
            words_sent = length_words sent ∙ ap (λ (j : ℕ). row_words * j) (sym count_sent)

            pub short_refused : room < row_words * count → Refused fault.ShortOutput 0 ≡ whole
            short_refused g = sym (by_room ∙ ap (λ (b : Bool). unless b fault.ShortOutput (Done (length sent))) (lt-leb (length (words_of sent)) room (omega (arith, words_sent))))

            pub part_done : row_words * count ≤ room → Done count ≡ whole
            part_done g =
                sym (by_room ∙ ap (λ (b : Bool). unless b fault.ShortOutput (Done (length sent))) (le-leb (length (words_of sent)) room (omega (arith, words_sent)))
                ∙ ap Done (sym count_sent))

            pub marks : row_words * count ≤ room → Marks Fs t m room (Done count) kept
            marks g = record { sized = λ d. rows_fit; sent = λ d. sent_is Fs t kept m one_device.accepted keeps; fits = λ d. omega (arith, words_sent) }

pub marks_none : (Fs : List Formula) (t : List ℕ) (m room : ℕ) {r : Refusal} {kept : List Bool} → Marks Fs t m room (Err r) kept
marks_none Fs t m room = record { sized = λ d. absurd (false≢true d); sent = λ d. absurd (false≢true d); fits = λ d. absurd (false≢true d) }

-- ---- the output
module _ (Fs : List Formula) (t : List ℕ) (m : ℕ) (out : List ℕ) where
  pub out_kept : {r : Refusal} → Err r ≡ send_answer (Done 0) Fs t m (length out) → out ≡ send_out (Done 0) Fs t m out
  unfolding send_out
  out_kept e = ap (λ (a : Answer). output a (words_of (part_of Fs m (rows t))) out) e

  module _ {n : ℕ} {kept : List Bool} (done : Done n ≡ send_answer (Done 0) Fs t m (length out)) (c : Marks Fs t m (length out) (Done n) kept) where
    pub words_fit : (row_count t ≤ length kept) × (length (words_of (rows_sent t kept 0 (row_count t))) ≤ length out)
    words_fit = (c.sized refl, omega (arith, ap (λ (D : List Row). length (words_of D)) (c.sent refl), c.fits refl))

    pub out_written : {out' : List ℕ} → out' ≡ sets out 0 (words_of (rows_sent t kept 0 (row_count t))) → out' ≡ send_out (Done 0) Fs t m out
    unfolding send_out
    out_written out_is =
        let ws = words_of (rows_sent t kept 0 (row_count t)) in
        let z : 0 + length ws ≡ length ws = omega arith in
        out_is ∙ sets-eq ws out 0 (omega (arith, words_fit.1))
        ∙ ap (λ (j : ℕ). ws ++ drop j out) z
        ∙ ap (λ (D : List Row). words_of D ++ drop (length (words_of D)) out) (c.sent refl)
        ∙ ap (λ (a : Answer). output a (words_of (part_of Fs m (rows t))) out) done

-- ---- behind the checks of the rules
module _ (checked : Answer) (Fs : List Formula) (t : List ℕ) (m : ℕ) where
  pub rules_refused : {r : Refusal} → checked ≡ Err r → (room : ℕ) → Err r ≡ send_answer checked Fs t m room
  unfolding send_answer
  rules_refused e room = sym (ap (λ (a : Answer). send_answer a Fs t m room) e)

  pub refused_out : {r : Refusal} → checked ≡ Err r → (out : List ℕ) → out ≡ send_out checked Fs t m out
  unfolding send_out send_answer
  refused_out e out = sym (ap (λ (a : Answer). send_out a Fs t m out) e)

  pub rules_done : is_done checked ≡ true → (room : ℕ) → send_answer (Done 0) Fs t m room ≡ send_answer checked Fs t m room
  unfolding send_answer
  rules_done e room = go checked e
    where
      go : (a : Answer) → is_done a ≡ true → send_answer (Done 0) Fs t m room ≡ send_answer a Fs t m room
      go (Done n) h = refl
      go (Err r) h = absurd (false≢true h)

  pub done_out : is_done checked ≡ true → (out : List ℕ) → send_out (Done 0) Fs t m out ≡ send_out checked Fs t m out
  unfolding send_out
  done_out e out = ap (λ (a : Answer). output a (words_of (part_of Fs m (rows t))) out) (rules_done e (length out))

-- ---- one rule is a set of one
module _ (rule : List ℕ) {n : ℕ} (done : Done n ≡ check_rule rule) where
  pub rule_ok : accepted_rule rule ≡ true
  rule_ok = ap is_done (sym done)

  entries_are : n ≡ entry_count rule
  entries_are = cc (checked_count to_constant rule rule_ok)

  pub count_few : n ≤ entry_limit
  count_few = omega (arith, entries_are, few_entries to_constant rule rule_ok)

  own : OfOne rule
  own = set_of_one rule (eq-eqb (length rule % entry_words) 0 (omega (arith, whole_entries to_constant rule rule_ok)))

  pub one_accepted : accepted_set rule (n ∷ []) ≡ true
  one_accepted = subst (λ (k : ℕ). accepted_set rule (k ∷ []) ≡ true) (sym entries_are) (ap is_done (own.checked ∙ and_then_passed (check_rule rule) (Done 1) rule_ok))

  formulas_one : formulas_of rule (n ∷ []) ≡ formula rule ∷ []
  formulas_one = ap (λ (k : ℕ). formulas_of rule (k ∷ [])) entries_are ∙ ap (map formula) own.rules_are

  pub one_answer : (t : List ℕ) (m room : ℕ) → send_answer (Done 0) (formulas_of rule (n ∷ [])) t m room ≡ part_answer rule t m room
  one_answer t m room = ap (λ (Gs : List Formula). send_answer (Done 0) Gs t m room) formulas_one ∙ rules_done (check_rule rule) (formula rule ∷ []) t m rule_ok room

  pub one_words : (t : List ℕ) (m : ℕ) (out : List ℕ) → send_out (Done 0) (formulas_of rule (n ∷ [])) t m out ≡ part_out rule t m out
  one_words t m out = ap (λ (Gs : List Formula). send_out (Done 0) Gs t m out) formulas_one ∙ done_out (check_rule rule) (formula rule ∷ []) t m rule_ok out

-- ---- a set that its checks have made
module _ {rules counts rs cs : List ℕ} (rules_are : rs ≡ rules) (counts_are : cs ≡ counts) (ok : accepted_set rs cs ≡ true) where
  set_ok : accepted_set rules counts ≡ true
  set_ok = rw (rules_are, counts_are) at ok

  pub set_answer : (t : List ℕ) (m room : ℕ) → send_answer (Done 0) (formulas_of rs cs) t m room ≡ set_part_answer rules counts t m room
  set_answer t m room = rw (rules_are, counts_are) (rules_done (check_set rules counts) (formulas_of rules counts) t m set_ok room)

  pub set_words : (t : List ℕ) (m : ℕ) (out : List ℕ) → send_out (Done 0) (formulas_of rs cs) t m out ≡ set_part_out rules counts t m out
  set_words t m out = rw (rules_are, counts_are) (done_out (check_set rules counts) (formulas_of rules counts) t m set_ok out)
