-- What a call that lays words in another order answers, and leaves in its output. Assumes nothing.
use Rattle.std.proofs.Common.{◌≡◌, ℕ, ◌+◌, ◌%◌, ◌<◌, ◌≤◌, true, leb, List, ◌++◌, length, drop, sym, ap, ◌∙◌, arith, eq-eqb, ne_eqb, le-leb, leb-true}
use lib.Seq.{sets, sets-eq}
use borrow.Author.Tests.{lt-leb}
use Rattle.base.proofs.Bools.{either}
use Rattle.tables.specs.Answers.{Answer, Done, Refused, is_done, unless, fitting, output}
use Rattle.tables.specs.Words.{whole, row_words}
use Rattle.tables.proofs.Answers.{unless_ok, unless_next}
use Rattle.std.specs.Prelude.{Err}
use Rattle.tables.specs.declared.refusals.Refusal.{Refusal}
use Rattle.tables.proofs.Calls as calls
use Rattle.archive.specs.Archive.{reorder_answer, reorder_out, AcceptedExactly, reordered}
use Rattle.tables.specs.declared.refusals.Fault.TheVariants.{ShortOutput, Rows}

-- ---- the refusals, told by the lengths
abbrev pub by_lengths : List ℕ → ℕ → Answer
by_lengths ws room = unless (whole row_words ws) Rows (fitting ws room)

module _ (ws : List ℕ) (room : ℕ) where
  pub stop_rows : ¬ (length ws % row_words ≡ 0) → Refused Rows 0 ≡ by_lengths ws room
  stop_rows h = sym (rw (ne_eqb (length ws % row_words) 0 h))

  module _ (e : length ws % row_words ≡ 0) where
    pub stop_room : room < length ws → Refused ShortOutput 0 ≡ by_lengths ws room
    stop_room h = sym (rw (eq-eqb (length ws % row_words) 0 e, lt-leb (length ws) room h))

    pub passed : length ws ≤ room → Done (length ws) ≡ by_lengths ws room
    passed h = sym (rw (eq-eqb (length ws % row_words) 0 e, le-leb (length ws) room h))

module _ (ws : List ℕ) (room : ℕ) (ok : is_done (by_lengths ws room) ≡ true) where
  pub whole_rows : whole row_words ws ≡ true
  whole_rows = unless_ok (whole row_words ws) Rows (fitting ws room) ok

  pub fits : length ws ≤ room
  fits = leb-true (length ws) room
      (unless_ok (leb (length ws) room) ShortOutput (Done (length ws)) (unless_next (whole row_words ws) Rows (fitting ws room) ok))

-- ---- a call
-- the order has as many words as it is given
abbrev pub AsLong : (List ℕ → List ℕ) → Type 0
AsLong reorder = (ws : List ℕ) → whole row_words ws ≡ true → length (reorder ws) ≡ length ws

module _ (reorder : List ℕ → List ℕ) (as_long : AsLong reorder) where
  by_lengths_lem : (ws : List ℕ) (room : ℕ) → reorder_answer reorder ws room ≡ by_lengths ws room
  unfolding reorder_answer
  by_lengths_lem ws room = either (whole row_words ws)
      (λ ok. rw (ok, as_long ws ok))
      (λ no. rw no)

  pub accepted : (ws : List ℕ) → whole row_words ws ≡ true → (room : ℕ) → length ws ≤ room → reorder_answer reorder ws room ≡ Done (length ws)
  accepted ws ok room h = by_lengths_lem ws room ∙ rw (ok, le-leb (length ws) room h)

  pub exactly : AcceptedExactly reorder
  exactly ws room = (
    (λ e. let ok : is_done (by_lengths ws room) ≡ true = sym (ap is_done (by_lengths_lem ws room)) ∙ e in (whole_rows ws room ok, fits ws room ok)),
    (λ ok. accepted ws ok room),
  )

  -- what an accepted call has written
  pub left : (ws : List ℕ) → whole row_words ws ≡ true → (out : List ℕ) → length ws ≤ length out → reordered reorder ws out ≡ reorder ws
  unfolding reorder_out
  left ws ok out h = calls.left (reorder_answer reorder ws (length out)) (reorder ws) out (accepted ws ok (length out) h ∙ ap Done (sym (as_long ws ok)))

  module _ (ws out : List ℕ) where
    -- a refused call leaves the output as it came
    pub refused : {r : Refusal} → by_lengths ws (length out) ≡ Err r
        → (Err r ≡ reorder_answer reorder ws (length out)) × (out ≡ reorder_out reorder ws out)
    unfolding reorder_out
    refused e =
        let a = by_lengths_lem ws (length out) ∙ e in
        (sym a, ap (λ (b : Answer). output b (reorder ws) out) (sym a))

    -- an accepted one has laid the words
    pub done : {n : ℕ} → by_lengths ws (length out) ≡ Done n → {o : List ℕ} → o ≡ sets out 0 (reorder ws)
        → (Done n ≡ reorder_answer reorder ws (length out)) × (o ≡ reorder_out reorder ws out)
    unfolding reorder_out
    done e o_is =
        let ok = whole_rows ws (length out) (ap is_done e) in
        let room : length ws ≤ length out = fits ws (length out) (ap is_done e) in
        let a = by_lengths_lem ws (length out) ∙ e in
        let n = length (reorder ws) in
        let z : 0 + n ≡ n = omega arith in (
          sym a,
          o_is ∙ sets-eq (reorder ws) out 0 (omega (arith, as_long ws ok)) ∙ ap (λ (m : ℕ). reorder ws ++ drop m out) z
              ∙ ap (λ (b : Answer). output b (reorder ws) out) (sym a),
        )
