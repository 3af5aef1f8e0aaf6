-- The part of an accepted table from the first row of a device to its end: it is that device's words, an accepted table, and its part is theirs. Assumes nothing.
use Prim.Native.Nat.{ℕ, zero, suc, ◌+◌, ◌-◌, ◌*◌, ◌≤◌, ◌<◌}
use mathlib.Core.Path.{◌≡◌, refl, sym, ap, ap₂, subst, ◌∙◌}
use mathlib.Core.Bool.{Bool, true, false, cond, not}
use mathlib.Core.List.{List, [], ◌∷◌, ◌++◌, append-nil}
use native.Mathlib.Numerals.{add-one}
use native.Mathlib.Omega.{arith}
use lib.ListN.{length, take, drop, take-append-drop, length-drop, replicate, length-replicate}
use lib.Seq.{length-take-le}
use lib.Dec.{eqb, ltb, leb}
use Rattle.std.specs.Prelude.{Option, Some, None}
use Rattle.std.specs.Option.{MatchOption, unwrap_or}
use borrow.Author.Tests.{eq-eqb, ne_eqb, eqb-true, eqb-false, not-true, ltb-true, ltb-false, le-leb, lt-leb}
use Rattle.base.specs.Lists.{◌∈◌, select}
use Rattle.base.proofs.Bools.{either}
use Rattle.base.proofs.Lists.{select_append, select_all, select_none, select_out, length_select}
use Rattle.base.proofs.Search.{Passed, begin, hit, miss, none, first_le}
use Rattle.tables.specs.Answers.{value, unless}
use Rattle.tables.specs.Words.{row_words, row_at, row_count, rows}
use Rattle.tables.specs.Rules.{check_rule, accepted_rule}
use Rattle.tables.specs.Tables.{row_limit, accepted_table}
use Rattle.tables.specs.Devices.{from_device}
use Rattle.tables.specs.declared.Row.{Row}
use Rattle.tables.specs.Answers.{Answer}
use Rattle.tables.specs.Answers.{Done}
use Rattle.tables.proofs.Answers.{unless_passed}
use Rattle.tables.proofs.Words.{row_left, row_right}
use Rattle.tables.proofs.Accepted.{whole_rows, few_rows, rises, in_part, of_device_lem, parent_device}
use Rattle.tables.proofs.RowLists.{length_rows, row_out, rows_append}
use Rattle.logic.specs.Formulas.{Formula, formula}
use Rattle.logic.specs.Parts.{part_by, branch_part, full_part, part_of, words_of, part_answer}
use Rattle.logic.proofs.Words.{is_whole, length_words, rows_words, words_rows}
use Rattle.logic.proofs.Selections.{kept_accepted}
use Rattle.logic.proofs.Calls.{part_is}
use Rattle.std.specs.Result.{result_unwrap_or}
use Rattle.checker.proofs.Values.{value_is}
use Rattle.checker.specs.Report.{device_rows, begins, part_count, count_at}
use Rattle.tables.specs.declared.Fault.TheVariants.{ShortOutput}

-- ---- three runs of whole rows, of which the middle one has the rows of device d
module _ (A M B : List ℕ) (m n : ℕ) (d : ℕ) (la : length A ≡ row_words * m) (lm : length M ≡ row_words * n)
    (before : (i : ℕ) → i < m → ¬ ((row_at (A ++ (M ++ B)) i).device ≡ d))
    (inside : (i : ℕ) → i < n → (row_at (A ++ (M ++ B)) (m + i)).device ≡ d)
    (past : (i : ℕ) → i < row_count B → ¬ ((row_at (A ++ (M ++ B)) (m + n + i)).device ≡ d)) where
  abbrev own : Row → Bool
  own r = eqb r.device d

  abbrev device_at : ℕ → ℕ
  device_at i = (row_at (A ++ (M ++ B)) i).device

  none_before : (r : Row) → r ∈ rows A → own r ≡ false
  none_before r i =
      let w = row_out A i in
      let h : w.0 < m = omega (arith, w.1) in
      ne_eqb r.device d (λ e. before w.0 h (ap (λ (x : Row). x.device) (row_left A (M ++ B) w.0 (omega arith) ∙ sym w.2) ∙ e))

  all_inside : (r : Row) → r ∈ rows M → own r ≡ true
  all_inside r i =
      let w = row_out M i in
      let h : w.0 < n = omega (arith, w.1) in
      eq-eqb r.device d (ap (λ (x : Row). x.device) (w.2 ∙ sym (row_left M B w.0 (omega arith)) ∙ sym (row_right A (M ++ B) m w.0 la)) ∙ inside w.0 h)

  none_past : (r : Row) → r ∈ rows B → own r ≡ false
  none_past r i =
      let w = row_out B i in
      let e : m + n + w.0 ≡ m + (n + w.0) = omega arith in
      ne_eqb r.device d (λ q. past w.0 w.1 (ap (λ (x : Row). x.device) (ap (row_at (A ++ (M ++ B))) e ∙ row_right A (M ++ B) m (n + w.0) la ∙ row_right M B n w.0 lm ∙ sym w.2) ∙ q))

  pub middle : words_of (device_rows (rows (A ++ (M ++ B))) d) ≡ M
  middle =
      ap words_of (
      ap (select own) (rows_append A (M ++ B) (omega arith) ∙ ap (◌++◌ (rows A)) (rows_append M B (omega arith)))
      ∙ select_append own (rows A) (rows M ++ rows B)
      ∙ ap₂ ◌++◌ (select_none own (rows A) none_before) (select_append own (rows M) (rows B) ∙ ap₂ ◌++◌ (select_all own (rows M) all_inside) (select_none own (rows B) none_past) ∙ append-nil (rows M))
      )
      ∙ words_rows M (is_whole M n lm)

-- ---- device e is behind device d
module _ (d e : ℕ) where
  pub is_behind : d < e → leb (d + 1) e ≡ true
  is_behind h = le-leb (d + 1) e (omega arith)

  pub not_behind : e ≤ d → leb (d + 1) e ≡ false
  not_behind h = lt-leb (d + 1) e (omega arith)

-- ---- the device of row i
module _ (t : List ℕ) (ok : accepted_table t ≡ true) (i : ℕ) (h : i < row_count t) where
  abbrev d : ℕ
  d = (row_at t i).device

  abbrev pub behind : ℕ → Bool
  behind k = leb (d + 1) (row_at t k).device

  -- a search for its end from row i on finds it
  passed : (k : ℕ) → k ≤ row_count t → ((j : ℕ) → j < k → behind j ≡ false) → Passed behind (row_count t) k
  passed zero l m = begin _ _
  passed (suc k) l m = subst (Passed behind (row_count t)) (add-one k) (miss behind (row_count t) k (passed k (omega arith) (λ j q. m j (omega arith))) (omega arith) (m k (omega arith)))

  below : (e : ℕ) → ((k : ℕ) → i ≤ k → k < e → behind k ≡ false) → (k : ℕ) → k < e → behind k ≡ false
  below e m k l = either (ltb k i)
      (λ s. not_behind d (row_at t k).device (rises t ok k i (omega (arith, ltb-true k i s)) h))
      (λ s. m k (ltb-false k i s) l)

  pub found_end : (n : ℕ) → n ≡ row_count t → (r : Option ℕ)
      → MatchOption r ((k : ℕ) → i ≤ k → k < n → behind k ≡ false) (λ e. (i ≤ e) × (e < n) × (behind e ≡ true) × ((k : ℕ) → i ≤ k → k < e → behind k ≡ false))
      → (end : ℕ) → end ≡ unwrap_or r n → end ≡ from_device t (d + 1)
  found_end n long None m end e = e ∙ long ∙ none behind (row_count t) (row_count t) (passed (row_count t) (omega arith) (below (row_count t) (λ k g l. m k g (omega arith)))) (omega arith)
  found_end n long (Some x) m end e = e ∙ hit behind (row_count t) x (passed x (omega (arith, m.1)) (below x m.3)) (omega (arith, m.1)) m.2

  module _ (end : ℕ) (is : end ≡ from_device t (d + 1)) where
    pub ends : (i < end) × (row_words * end ≤ length t)
    ends = (omega (arith, (of_device_lem t ok d i h refl).1), omega (arith, first_le behind (row_count t), whole_rows t ok))

    -- where row i begins it, it is the first
    starts : begins t i ≡ true → from_device t d ≡ i
    starts b = either (ltb (from_device t d) i)
        (λ s. let l : from_device t d < i = ltb-true (from_device t d) i s in
        let e : (row_at t (from_device t d)).device ≡ d = in_part t ok d (from_device t d) (omega arith) (omega arith) (omega (arith, ends.0)) in
        let up : d ≤ (row_at t (i - 1)).device = omega (arith, rises t ok (from_device t d) (i - 1) (omega arith) (omega arith)) in
        let z : not (eqb d (row_at t (i - 1)).device) ≡ true = (rw (ne_eqb i 0 (omega arith)) at b) in
        absurd (eqb-false d (row_at t (i - 1)).device (not-true _ z) (omega (arith, rises t ok (i - 1) i (omega arith) h))))
        (λ s. omega (arith, ltb-false (from_device t d) i s, (of_device_lem t ok d i h refl).0))

    -- from there to the end are its rows, and all of them
    pub own_words : begins t i ≡ true → take (row_words * end - row_words * i) (drop (row_words * i) t) ≡ words_of (device_rows (rows t) d)
    own_words b =
        let A = take (row_words * i) t in
        let M = take (row_words * end - row_words * i) (drop (row_words * i) t) in
        let B = drop (row_words * end - row_words * i) (drop (row_words * i) t) in
        let start : from_device t d ≡ i = starts b in
        let later : i < end = ends.0 in
        let within : row_words * end ≤ length t = ends.1 in
        let size : length t ≡ row_words * row_count t = whole_rows t ok in
        let rest : length (drop (row_words * i) t) ≡ length t - row_words * i = length-drop (row_words * i) t in
        let la : length A ≡ row_words * i = length-take-le (row_words * i) t (omega arith) in
        let lm : length M ≡ row_words * (end - i) = length-take-le (row_words * end - row_words * i) (drop (row_words * i) t) (omega arith) ∙ omega arith in
        let lb : length B ≡ length t - row_words * end = length-drop (row_words * end - row_words * i) (drop (row_words * i) t) ∙ omega arith in
        let e : A ++ (M ++ B) ≡ t
        = ap (◌++◌ A) (take-append-drop (row_words * end - row_words * i) (drop (row_words * i) t)) ∙ take-append-drop (row_words * i) t in
        sym (middle A M B i (end - i) d la lm
        (λ k l q. absurd (omega (arith, (of_device_lem t ok d k (omega arith) (ap (λ (l : List ℕ). (row_at l k).device) (sym e) ∙ q)).0)))
        (λ k l. ap (λ (l : List ℕ). (row_at l (i + k)).device) e ∙ in_part t ok d (i + k) (omega arith) (omega arith) (omega arith))
        (λ k l q. absurd (omega (arith, (of_device_lem t ok d (i + (end - i) + k) (omega arith) (ap (λ (l : List ℕ). (row_at l (i + (end - i) + k)).device) (sym e) ∙ q)).1))))
        ∙ ap (λ (l : List ℕ). words_of (device_rows (rows l) d)) e

module _ (t : List ℕ) (ok : accepted_table t ≡ true) (d : ℕ) where
  own_accepted : accepted_table (words_of (device_rows (rows t) d)) ≡ true
  own_accepted = kept_accepted t ok (λ r. eqb r.device d) (λ r p i j k c. eq-eqb p.device d (parent_device r p c ∙ eqb-true r.device d k))

  pub own_few : length (device_rows (rows t) d) ≤ row_limit
  own_few = omega (arith, length_select (λ r. eqb r.device d) (rows t), length_rows t, few_rows t ok)

-- ---- a part has at most all rows
part_few : (Fs : List Formula) (mode : ℕ) (D : List Row) → length (part_of Fs mode D) ≤ length D
unfolding part_of branch_part full_part part_by
part_few Fs mode D = go (eqb mode 1) (eqb mode 2)
  where
    go : (a b : Bool) → length (cond a D (cond b (branch_part Fs D) (full_part Fs D))) ≤ length D
    go true b = omega arith
    go false true = length_select _ D
    go false false = length_select _ D

-- ---- the call for the part of one device of an accepted pool
module _ (rule t : List ℕ) (rule_ok : accepted_rule rule ≡ true) (ok : accepted_table t ≡ true) (d mode : ℕ) (low : 1 ≤ mode) (high : mode ≤ 3) where
  pub count_few : part_count (formula rule) mode t d ≤ row_limit
  count_few = omega (arith, part_few (formula rule ∷ []) mode (device_rows (rows t) d), own_few t ok d)

  pub part_count_lem : (words : List ℕ) (room : ℕ) (a : Answer) → words ≡ words_of (device_rows (rows t) d) → row_limit * row_words ≤ room
      → a ≡ part_answer rule words mode room → (v : ℕ) → v ≡ result_unwrap_or a 0 → (v ≡ part_count (formula rule) mode t d) × (v ≤ row_limit)
  part_count_lem words room a is h q v k =
      let D = device_rows (rows t) d in
      let out : List ℕ = replicate room 0 in
      let long : room ≡ length out = sym (length-replicate {A = ℕ} room 0) in
      let fits : length (words_of (part_of (formula rule ∷ []) mode D)) ≤ length out = omega (arith, length_words (part_of (formula rule ∷ []) mode D), count_few) in
      let w : v ≡ part_count (formula rule) mode t d = k ∙ value_is a ∙ ap value (
      q ∙ ap₂ (λ (l : List ℕ) (n : ℕ). part_answer rule l mode n) is long
      ∙ part_is (check_rule rule) rule_ok (formula rule ∷ []) (words_of D) (own_accepted t ok d) d (λ r m. eqb-true r.device d (select_out (λ x. eqb x.device d) (rows t) (subst (λ (l : List Row). r ∈ l) (rows_words D) m)).1) mode low high out
      ∙ ap (λ (l : List Row). unless (leb (length (words_of (part_of (formula rule ∷ []) mode l))) (length out)) ShortOutput (Done (length (part_of (formula rule ∷ []) mode l)))) (rows_words D)
      ∙ unless_passed (leb (length (words_of (part_of (formula rule ∷ []) mode D))) (length out)) ShortOutput _ (le-leb _ _ fits)
      ) in
      (w, omega (arith, count_few))

-- ---- a device is counted at its first row
pub count_begins : (F : Formula) (mode : ℕ) (t : List ℕ) (i : ℕ) → begins t i ≡ true → count_at F mode t i ≡ part_count F mode t (row_at t i).device
count_begins F mode t i e = rw e

pub count_other : (F : Formula) (mode : ℕ) (t : List ℕ) (i : ℕ) → begins t i ≡ false → count_at F mode t i ≡ 0
count_other F mode t i e = rw e
