-- The rows that are written: their number, their words row by row, and that they are 01's part. Assumes nothing.
use Prim.Native.Nat.{ℕ, zero, suc, ◌+◌, ◌-◌, ◌*◌, ◌<◌, ◌≤◌}
use mathlib.Core.Path.{◌≡◌, refl, sym, ap, ap₂, fun_ext, ◌∙◌}
use mathlib.Core.Bool.{Bool, true, false, not, cond, ◌&&◌, not-not}
use mathlib.Core.List.{List, [], ◌∷◌, ◌++◌}
use native.Mathlib.Numerals.{add-one}
use native.Mathlib.Omega.{arith}
use lib.ListN.{length, get_or, take, drop, length-append}
use lib.Seq.{sets, length-sets, drop-cons}
use lib.Dec.{eqb}
use Rattle.base.proofs.Copies.{sets_append}
use Rattle.base.specs.Lists.{put, select, when, all}
use Rattle.base.proofs.Lists.{concat_map_append, select_all}
use Rattle.std.specs.List.{count_by}
use Rattle.std.proofs.lemmas.List.Sums.{count_by_more_yes, count_by_more_no}
use Rattle.tables.specs.Words.{columns_of, row_words, row_at, row_count, rows_from, rows}
use Rattle.tables.specs.Tables.{accepted_table}
use Rattle.tables.proofs.Accepted.{few_rows}
use Rattle.tables.specs.declared.Row.{Row}
use Rattle.logic.specs.Formulas.{Formula}
use Rattle.logic.specs.Parts.{reached_by_any, spare_for_each, ancestors, part_by, branch_part, full_part, part_of, words_of}
use Rattle.logic.proofs.Walks.{select_halves}
use Rattle.parts.specs.Sending.{row_sent, rows_sent}
use Rattle.parts.specs.Keeping.{stays, Keeps}

-- ---- one row's words
six : (t : List ℕ) (k a b c d e f : ℕ) → suc (suc (suc (suc (suc k)))) < length t
    → a ≡ k → b ≡ suc k → c ≡ suc (suc k) → d ≡ suc (suc (suc k)) → e ≡ suc (suc (suc (suc k))) → f ≡ suc (suc (suc (suc (suc k))))
    → take 6 (drop k t) ≡ get_or t a 0 ∷ get_or t b 0 ∷ get_or t c 0 ∷ get_or t d 0 ∷ get_or t e 0 ∷ get_or t f 0 ∷ []
six t k a b c d e f h ea eb ec ed ee ef =
    rw (ea, eb, ec, ed, ee, ef)
    (ap (take 6) (drop-cons t k 0 (omega arith)
    ∙ ap (◌∷◌ (get_or t k 0)) (drop-cons t (suc k) 0 (omega arith)
    ∙ ap (◌∷◌ (get_or t (suc k) 0)) (drop-cons t (suc (suc k)) 0 (omega arith)
    ∙ ap (◌∷◌ (get_or t (suc (suc k)) 0)) (drop-cons t (suc (suc (suc k))) 0 (omega arith)
    ∙ ap (◌∷◌ (get_or t (suc (suc (suc k))) 0)) (drop-cons t (suc (suc (suc (suc k)))) 0 (omega arith)
    ∙ ap (◌∷◌ (get_or t (suc (suc (suc (suc k)))) 0)) (drop-cons t (suc (suc (suc (suc (suc k))))) 0 (omega arith))))))))

-- they stand in the table one after another
words_at : (t : List ℕ) (i n k : ℕ) → i < row_count t → n ≡ row_words → k ≡ row_words * i → take n (drop k t) ≡ words_of (row_at t i ∷ [])
words_at t i n k h n_is k_is = rw (n_is, k_is) (six t (row_words * i) _ _ _ _ _ _ (omega arith) (omega arith) (omega arith) (omega arith) (omega arith) (omega arith) (omega arith))

-- ---- the loop over the rows
module _ (t : List ℕ) (kept : List Bool) (out₀ : List ℕ) where
  abbrev n : ℕ
  n = row_count t

  -- i rows are passed, their words end at `at`, and what is left to write is that of the rest
  pub record Sends (out : List ℕ) (at i : ℕ) : Type 0 where
    pub within : i ≤ n
    pub len : length out ≡ length out₀
    pub room : at + length (words_of (rows_sent t kept i (n - i))) ≤ length out
    pub rest : sets out₀ 0 (words_of (rows_sent t kept 0 n)) ≡ sets out at (words_of (rows_sent t kept i (n - i)))

  pub send_begin : length (words_of (rows_sent t kept 0 n)) ≤ length out₀ → Sends out₀ 0 0
  send_begin h =
      let z : n ≡ n - 0 = omega arith in
      let e : length (words_of (rows_sent t kept 0 n)) ≡ length (words_of (rows_sent t kept 0 (n - 0))) = ap (λ (k : ℕ). length (words_of (rows_sent t kept 0 k))) z in
      record {
        within = omega arith;
        len = refl;
        room = omega arith;
        rest = ap (λ (k : ℕ). sets out₀ 0 (words_of (rows_sent t kept 0 k))) z;
      }

  module _ {out : List ℕ} {at i : ℕ} (s : Sends out at i) (l : i < n) where
    abbrev here : List ℕ
    here = words_of (row_sent t i (get_or kept i false))

    abbrev later : List ℕ
    later = words_of (rows_sent t kept (i + 1) (n - (i + 1)))

    split : words_of (rows_sent t kept i (n - i)) ≡ here ++ later
    unfolding rows_sent
    split =
        let z : n - i ≡ suc (n - (i + 1)) = omega arith in
        ap (λ (k : ℕ). words_of (rows_sent t kept i k)) z
        ∙ concat_map_append columns_of (row_sent t i (get_or kept i false)) (rows_sent t kept (suc i) (n - (i + 1)))
        ∙ ap (λ (k : ℕ). here ++ words_of (rows_sent t kept k (n - (i + 1)))) (sym (add-one i))

    lengths : length (words_of (rows_sent t kept i (n - i))) ≡ length here + length later
    lengths = ap length split ∙ length-append here later

    send_more : {out' : List ℕ} {at' : ℕ} → out' ≡ sets out at here → at' ≡ at + length here → Sends out' at' (i + 1)
    send_more e a =
        let k = ap length e ∙ length-sets out at here in
        record {
          within = omega arith;
          len = k ∙ s.len;
          room = omega (arith, s.room, lengths, k);
          rest = s.rest ∙ ap (sets out at) split ∙ sets_append out at here later ∙ ap₂ (λ (o : List ℕ) (p : ℕ). sets o p later) (sym e) (sym a);
        }

    pub send_skipped : get_or kept i false ≡ false → Sends out at (i + 1)
    send_skipped e = let z : here ≡ [] = ap (λ (k : Bool). words_of (row_sent t i k)) e in
        send_more (ap (sets out at) (sym z)) (omega (arith, ap length z))

    module _ (e : get_or kept i false ≡ true) {m k : ℕ} (m_is : m ≡ row_words) (k_is : k ≡ row_words * i) where
      here_is : here ≡ take m (drop k t)
      here_is = ap (λ (b : Bool). words_of (row_sent t i b)) e ∙ sym (words_at t i m k (omega arith) m_is k_is)

      here_six : length here ≡ row_words
      here_six = ap (λ (b : Bool). length (words_of (row_sent t i b))) e

      pub row_room : at + length (take m (drop k t)) ≤ length out
      row_room = omega (arith, s.room, lengths, ap length here_is)

      pub row_step : at + row_words ≤ length out
      row_step = omega (arith, s.room, lengths, here_six)

      pub send_taken : {out' : List ℕ} → out' ≡ sets out at (take m (drop k t)) → Sends out' (at + row_words) (i + 1)
      send_taken o = send_more (o ∙ ap (sets out at) (sym here_is)) (omega (arith, here_six))

  pub send_end : {out : List ℕ} {at i : ℕ} → Sends out at i → n ≤ i → out ≡ sets out₀ 0 (words_of (rows_sent t kept 0 n))
  unfolding rows_sent
  send_end {out} {at} {i} s h = let z : n - i ≡ 0 = omega arith in sym (s.rest ∙ ap (λ (k : ℕ). sets out at (words_of (rows_sent t kept i k))) z)

-- ---- the part
pub part_is : (Fs : List Formula) (m : ℕ) (D : List Row) → part_of Fs m D ≡ select (stays m Fs D) D
unfolding part_of branch_part full_part part_by stays
part_is Fs m D = go (eqb m 1) (eqb m 2)
  where
    out : Bool → Row → Bool
    out c r = cond c (not (reached_by_any Fs D r)) (spare_for_each Fs D r)

    by : (Row → Bool) → List Row
    by p = select (λ r. p r && all p (ancestors D r)) D

    go : (b c : Bool) → cond b D (cond c (by (reached_by_any Fs D)) (by (λ r. not (spare_for_each Fs D r)))) ≡ select (λ r. cond b true (not (out c r) && all (λ s. not (out c s)) (ancestors D r))) D
    go true c = sym (select_all (λ r. true) D (λ r i. refl))
    go false true = ap by (fun_ext (λ r. sym (not-not (reached_by_any Fs D r))))
    go false false = refl

-- a list says of each row whether it passes
module _ (P : Row → Bool) (t : List ℕ) (kept : List Bool) (n : ℕ) (l : n ≤ length kept) (says : (i : ℕ) → i < n → get_or kept i false ≡ P (row_at t i)) where
  same_from : (i k : ℕ) → i + k ≤ n → rows_sent t kept i k ≡ select P (rows_from t i k)
  unfolding rows_sent rows_from
  same_from i zero h = refl
  same_from i (suc k) h = ap₂ (λ (b : Bool) (D : List Row). row_sent t i b ++ D) (says i (omega arith)) (same_from (suc i) k (omega arith)) ∙ go (P (row_at t i)) (row_at t i) (select P (rows_from t (suc i) k))
    where
      go : (b : Bool) (r : Row) (D : List Row) → when b (r ∷ []) ++ D ≡ put b r D
      go true r D = refl
      go false r D = refl

  counted : (k : ℕ) → k ≤ n → count_by (λ b. b) (take k kept) ≡ length (select P (rows_from t 0 k))
  unfolding rows_from
  counted zero h = refl
  counted (suc k) h =
      let z : suc k - k ≡ 1 = omega arith in
      let w : 0 + k ≡ k = omega arith in
      ap (λ (j : ℕ). count_by (λ b. b) (take j kept)) (sym (add-one k))
      ∙ more (get_or kept k false) refl
      ∙ ap₂ (λ (m : ℕ) (b : Bool). m + length (put b (row_at t k) [])) (counted k (omega arith)) (says k (omega arith))
      ∙ sym (length-append (select P (rows_from t 0 k)) (put (P (row_at t k)) (row_at t k) []))
      ∙ sym (ap length (select_halves P t 0 (suc k) k (omega arith)
      ∙ ap₂ (λ (j i : ℕ). select P (rows_from t 0 k) ++ select P (rows_from t i j)) z w))
    where
      more : (b : Bool) → get_or kept k false ≡ b → count_by (λ b. b) (take (k + 1) kept) ≡ count_by (λ b. b) (take k kept) + length (put (get_or kept k false) (row_at t k) [])
      more true e = rw e (count_by_more_yes (λ b. b) kept k false (omega arith) e)
      more false e = rw e (count_by_more_no (λ b. b) kept k false (omega arith) e ∙ omega arith)

module _ (Fs : List Formula) (t : List ℕ) (kept : List Bool) (m : ℕ) (accepted : accepted_table t ≡ true) (keeps : Keeps Fs t m kept (row_count t)) where
  pub fits : row_count t ≤ length kept
  fits = omega (arith, few_rows t accepted, keeps.sized)

  pub sent_is : rows_sent t kept 0 (row_count t) ≡ part_of Fs m (rows t)
  sent_is = same_from (stays m Fs (rows t)) t kept (row_count t) fits keeps.kept_is 0 (row_count t) (omega arith) ∙ sym (part_is Fs m (rows t))

  pub count_is : count_by (λ b. b) (take (row_count t) kept) ≡ length (part_of Fs m (rows t))
  count_is = counted (stays m Fs (rows t)) t kept (row_count t) fits keeps.kept_is (row_count t) (omega arith) ∙ sym (ap length (part_is Fs m (rows t)))
