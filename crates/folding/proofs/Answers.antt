-- What the call for folding answers, and leaves in its output. Assumes nothing.
use Prim.Native.Nat.{ℕ, ◌+◌, ◌*◌, ◌≤◌, ◌<◌}
use mathlib.Core.Path.{◌≡◌, refl, sym, ap, ◌∙◌}
use mathlib.Core.Bool.{Bool, true, false, cond}
use mathlib.Core.List.{List, ◌++◌}
use native.Mathlib.Omega.{arith}
use lib.ListN.{length, drop}
use lib.Seq.{sets, sets-eq, take_at}
use lib.Dec.{leb}
use borrow.Author.Tests.{lt-ltb, le-ltb, le-leb, lt-leb, leb-true}
use Rattle.base.specs.Search.{first, some}
use Rattle.tables.specs.Answers.{is_done, value, and_then, unless, unless_any, output}
use Rattle.tables.specs.Words.{row_words, row_count, rows, words_of}
use Rattle.tables.specs.Tables.{check_order, other_device}
use Rattle.tables.specs.declared.Row.{Row}
use Rattle.tables.specs.Answers.{Answer, Done, Refused}
use Rattle.tables.specs.declared.refusals.Refusal.{Refusal}
use Rattle.std.proofs.Common.{Err}
use Rattle.tables.proofs.Ordered.{order_count}
use Rattle.tables.proofs.Answers.{unless_ok, unless_passed, and_then_first, and_then_next, and_then_passed, none_of, unless_any_passed}
use Rattle.tables.proofs.RowWords.{length_words}
use Rattle.folding.specs.Folding.{folded, fold_answer, fold_out, folded_table}
use Rattle.folding.specs.Passing.{Foldable}
use Rattle.tables.specs.declared.Fault.TheVariants.{OtherDevice, ShortOutput}

-- ---- the tests before 17
module _ (t : List ℕ) where
  abbrev pub checked : Answer
  checked = and_then (check_order t) (unless_any (other_device t) OtherDevice (row_count t) (Done (row_count t)))

  pub stop_before : {r : Refusal} → check_order t ≡ Err r → Err r ≡ checked
  stop_before e = sym (rw e)

  module _ {n : ℕ} (passed : check_order t ≡ Done n) {i : ℕ} (i_is : i ≡ first (other_device t) (row_count t)) where
    count : n ≡ row_count t
    count = order_count t (ap is_done passed) n passed

    pub stop_14 : i < n → Refused OtherDevice i ≡ checked
    stop_14 h = sym (rw (passed, ← i_is, lt-ltb i (row_count t) (omega (arith, count))))

    pub foldable_passed : n ≤ i → Done n ≡ checked
    foldable_passed h = ap Done count ∙ sym (rw (passed, ← i_is, le-ltb i (row_count t) (omega (arith, count))))

  pub foldable : is_done checked ≡ true → Foldable t
  foldable e = record {
    ordered = and_then_first (check_order t) _ e;
    one_device = none_of (other_device t) OtherDevice (row_count t) (Done (row_count t)) (and_then_next (check_order t) _ e);
  }

  pub foldable_count : {n : ℕ} → checked ≡ Done n → n ≡ row_count t
  foldable_count e =
      let ok = foldable (ap is_done e) in
      ap value (sym e ∙ and_then_passed (check_order t) _ ok.ordered ∙ unless_any_passed (other_device t) OtherDevice (row_count t) _ ok.one_device)

  -- ---- and 17
  abbrev left : List Row
  left = folded (rows t)

  abbrev fitted : ℕ → Answer
  fitted room = unless (leb (length (words_of left)) room) ShortOutput (Done (length left))

  then_room : (room : ℕ) → fold_answer t room ≡ and_then checked (fitted room)
  unfolding fold_answer
  then_room room = go (check_order t) (some (other_device t) (row_count t))
    where
      go : (a : Answer) (b : Bool)
          → and_then a (cond b (Refused OtherDevice (first (other_device t) (row_count t))) (fitted room))
          ≡ and_then (and_then a (cond b (Refused OtherDevice (first (other_device t) (row_count t))) (Done (row_count t)))) (fitted room)
      go (Done m) true = refl
      go (Done m) false = refl
      go (Err r) b = refl

  module _ (out : List ℕ) where
    -- a refused call leaves the output as it came
    as_it_came : {r : Refusal} → fold_answer t (length out) ≡ Err r → (Err r ≡ fold_answer t (length out)) × (out ≡ fold_out t out)
    unfolding fold_out
    as_it_came e = (sym e, ap (λ (a : Answer). output a (words_of left) out) (sym e))

    pub refused : {r : Refusal} → checked ≡ Err r → (Err r ≡ fold_answer t (length out)) × (out ≡ fold_out t out)
    refused e = as_it_came (then_room (length out) ∙ rw e)

    module _ {m : ℕ} (passed : checked ≡ Done m) {n : ℕ} (n_is : n ≡ length left) where
      words_are : length (words_of left) ≡ row_words * n
      words_are = length_words left ∙ ap (◌*◌ row_words) (sym n_is)

      pub stop_17 : length out < row_words * n → (Refused ShortOutput 0 ≡ fold_answer t (length out)) × (out ≡ fold_out t out)
      stop_17 h =
          let l : length out < length (words_of left) = omega (arith, words_are) in
          as_it_came (then_room (length out) ∙ rw (passed, lt-leb (length (words_of left)) (length out) l))

      module _ (room : row_words * n ≤ length out) where
        fits : length (words_of left) ≤ length out
        fits = omega (arith, words_are)

        answered : fold_answer t (length out) ≡ Done n
        answered = then_room (length out) ∙ rw (passed, le-leb (length (words_of left)) (length out) fits) (ap Done (sym n_is))

        pub done : {out' : List ℕ} → out' ≡ sets out 0 (words_of left) → (Done n ≡ fold_answer t (length out)) × (out' ≡ fold_out t out)
        unfolding fold_out
        done o_is =
            let n = length (words_of left) in
            let z : 0 + n ≡ n = omega arith in (
              sym answered,
              o_is ∙ sets-eq (words_of left) out 0 (omega (arith, fits)) ∙ ap (λ (k : ℕ). words_of left ++ drop k out) z
                  ∙ ap (λ (a : Answer). output a (words_of left) out) (sym answered),
            )

  -- ---- accepted: exactly if the tests let the table pass and the output is long enough
  checked_done : Foldable t → is_done checked ≡ true
  checked_done ok = ap is_done (and_then_passed (check_order t) _ ok.ordered ∙ unless_any_passed (other_device t) OtherDevice (row_count t) _ ok.one_device)

  pub call_done : Foldable t → (room : ℕ) → length (words_of left) ≤ room → fold_answer t room ≡ Done (length left)
  call_done ok room h = then_room room ∙ and_then_passed checked (fitted room) (checked_done ok)
      ∙ unless_passed (leb (length (words_of left)) room) ShortOutput (Done (length left)) (le-leb (length (words_of left)) room h)

  module _ (room : ℕ) (ok : is_done (fold_answer t room) ≡ true) where
    both : is_done (and_then checked (fitted room)) ≡ true
    both = sym (ap is_done (then_room room)) ∙ ok

    pub done_foldable : Foldable t
    done_foldable = foldable (and_then_first checked (fitted room) both)

    pub done_fits : length (words_of left) ≤ room
    done_fits = leb-true (length (words_of left)) room
        (unless_ok (leb (length (words_of left)) room) ShortOutput (Done (length left)) (and_then_next checked (fitted room) both))

  -- the rows that it has written
  pub table_is : (out : List ℕ) → is_done (fold_answer t (length out)) ≡ true → folded_table t out ≡ words_of left
  unfolding fold_out
  table_is out ok =
      let e = call_done (done_foldable (length out) ok) (length out) (done_fits (length out) ok) in
      rw e (take_at (words_of left) (drop (length (words_of left)) out) (row_words * length left) (length_words left))
