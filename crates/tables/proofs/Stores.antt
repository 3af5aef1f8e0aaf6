-- The loop that stores the words of lines that pass: the numbers that it keeps are those of the states that were passed, so that what
-- it stores is what proofs/Fills.antt says. Assumes nothing.
use Prim.Native.Nat.{ℕ, ◌+◌, ◌≤◌, ◌<◌}
use mathlib.Core.Path.{◌≡◌, refl, sym, ap, ap₂, ◌∙◌}
use mathlib.Core.Bool.{true, cond}
use mathlib.Core.List.{List, [], ◌∷◌, ◌++◌}
use native.Mathlib.Numerals.{add-one}
use native.Mathlib.Omega.{arith}
use lib.ListN.{length, get_or, drop}
use lib.Seq.{drop-cons}
use lib.Dec.{ltb, eqb}
use borrow.Author.Tests.{lt-ltb}
use Rattle.base.proofs.Bools.{and_left}
use Rattle.tables.specs.declared.reading.Scan.{Scan}
use Rattle.tables.specs.declared.reading.Pending.{Pending}
use Rattle.tables.specs.Words.{word_limit}
use Rattle.tables.specs.Files.{Format, is_before, minus_byte, digit_of, word_read, step_of, at_start, scan_all, words_from}
use Rattle.tables.specs.Scans.{Sound, first_pending, IsWord, pending_after, stored_from, put_of, Fillable}
use Rattle.tables.proofs.Steps.{View, begins, grows, ends, takes_sign, stops, view, digit_of_lem, after_digit, after_minus_lem}
use Rattle.tables.proofs.Steps.{no_fault, step_sound, ended_word}
use Rattle.tables.proofs.Scans.{scan_begin}
use Rattle.tables.proofs.Fills.{number_at, Filling, fill_begin, fill_room, fill_more, fill_end}

minus_digit : digit_of minus_byte ≡ 10
unfolding digit_of
minus_digit = refl

-- a step that meets no fault keeps the number of the state
agrees : (f : Format) (s : Scan) (b : ℕ) (bs : List ℕ) (r : Scan) → View f s b r → Sound f s → is_before (scan_all f r bs).phase ≡ true → pending_after (number_at s) b ≡ number_at r
unfolding pending_after
agrees f s b bs r (begins d h e p) t q =
    rw (e, digit_of_lem d h, lt-ltb d 10 h) (ap (λ (v : ℕ). record { number = record { minus = s.number.minus; value = v }; place = s.count }) (omega (arith, t.none_yet p)))
agrees f s b bs r (grows d h e p v m) t q = rw (e, digit_of_lem d h, lt-ltb d 10 h)
agrees f s b bs r (ends p e w) t q = rw (e, after_digit f.columns s.column.index, after_minus_lem f.columns s.column.index)
agrees f s b bs r (takes_sign p e) t q = rw (e, minus_digit)
agrees f s b bs r stops t q = absurd (no_fault f s bs q)

-- the words are those of the states
numbers_are : (f : Format) (s : Scan) (bs : List ℕ) → Sound f s → is_before (scan_all f s bs).phase ≡ true → stored_from (number_at s) bs ≡ words_from f s bs
unfolding scan_all words_from stored_from
numbers_are f s [] t q = refl
numbers_are f s (b ∷ bs) t q =
    ap (λ (z : Pending). cond (ltb s.count z.place) (word_read s ∷ stored_from z bs) (stored_from z bs)) (agrees f s b bs (step_of f s b) (view f s b) t q)
    ∙ ap (λ (l : List ℕ). cond (ltb s.count (step_of f s b).count) (word_read s ∷ l) l) (numbers_are f (step_of f s b) bs (step_sound f s b t) q)

ends_well : (bs out : List ℕ) (can : Fillable bs out) → is_before (scan_all can.read_as at_start bs).phase ≡ true
ends_well bs out can =
    let r : Scan = scan_all can.read_as at_start bs in
    and_left (is_before r.phase) (eqb r.column.index 0) can.good_lines

-- the output holds the words of the states passed, of which n is the last one's number
pub record Storing (bs out₀ : List ℕ) (n : Pending) (out : List ℕ) (i : ℕ) : Type 0 where
  pub can : Fillable bs out₀
  pub state : Scan
  pub filling : Filling can.read_as bs out₀ state out i
  pub same : n ≡ number_at state

module _ (bs out₀ : List ℕ) where
  pub store_begin : (n : Pending) → n ≡ first_pending → Fillable bs out₀ → Storing bs out₀ n out₀ 0
  store_begin n e can = record {
    can = can;
    state = at_start;
    filling = fill_begin can.read_as bs out₀ can.room at_start refl can.some_columns;
    same = e;
  }

  -- the words are those of the states
  pub fillable_words : (can : Fillable bs out₀) → stored_from first_pending bs ≡ words_from can.read_as at_start bs
  fillable_words can = numbers_are can.read_as at_start bs (scan_begin can.read_as bs at_start refl can.some_columns).sound (ends_well bs out₀ can)

  module _ (n : Pending) (out : List ℕ) (i : ℕ) (t : Storing bs out₀ n out i) where
    abbrev f : Format
    f = t.can.read_as

    pub store_length : length out ≡ length out₀
    store_length = t.filling.len

    pub store_value : n.number.value ≤ word_limit
    store_value = rw t.same t.filling.scan.sound.value_le

    pub store_place : n.place ≤ i
    store_place = rw t.same t.filling.scan.count_le

    pub store_end : length bs ≤ i → out ≡ stored_from first_pending bs ++ drop (length (stored_from first_pending bs)) out₀
    store_end h = rw (fillable_words t.can) (fill_end f bs out₀ t.can.room t.state out i t.filling h)

    module _ (r : Pending) (h : i < length bs) (d : r ≡ pending_after n (get_or bs i 0)) where
      abbrev next : Scan
      next = step_of f t.state (get_or bs i 0)

      rest : is_before (scan_all f t.state (get_or bs i 0 ∷ drop (i + 1) bs)).phase ≡ true
      rest =
          let e : scan_all f at_start bs ≡ scan_all f t.state (get_or bs i 0 ∷ drop (i + 1) bs)
          = t.filling.scan.rest ∙ ap (scan_all f t.state) (drop-cons bs i 0 h ∙ ap (λ (m : ℕ). get_or bs i 0 ∷ drop m bs) (sym (add-one i))) in
          ap (λ (z : Scan). is_before z.phase) (sym e) ∙ ends_well bs out₀ t.can

      next_same : r ≡ number_at next
      unfolding scan_all
      next_same = d ∙ ap (λ (z : Pending). pending_after z (get_or bs i 0)) t.same
          ∙ agrees f t.state (get_or bs i 0) (drop (i + 1) bs) next (view f t.state (get_or bs i 0)) t.filling.scan.sound rest

      counts : n.place < r.place → t.state.count < next.count
      counts l = rw (t.same, next_same) at l

      pub store_room : n.place < r.place → n.place < length out
      store_room l = rw t.same (fill_room f bs out₀ t.can.room t.state next out i t.filling h refl (counts l))

      pub store_word : n.place < r.place → IsWord n.number.minus n.number.value
      store_word l = rw t.same (ended_word f t.state next (get_or bs i 0) t.filling.scan.sound refl (counts l))

      pub store_more : (out' : List ℕ) → out' ≡ put_of out n r → Storing bs out₀ r out' (i + 1)
      store_more out' e = record {
        can = t.can;
        state = next;
        filling = fill_more f bs out₀ t.can.room t.state next out i t.filling h refl out' (e ∙ ap₂ (put_of out) t.same next_same);
        same = next_same;
      }
