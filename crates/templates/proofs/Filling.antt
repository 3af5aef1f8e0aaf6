-- What the code that fills a template rests on: the words that it writes. Assumes nothing.
use Prim.Native.Nat.{ℕ, zero, suc, ◌+◌, ◌-◌, ◌*◌, ◌≤◌, ◌<◌}
use mathlib.Core.Path.{◌≡◌, refl, sym, ap, ap₂, ◌∙◌}
use mathlib.Core.Bool.{Bool, true, false, cond}
use mathlib.Core.List.{List}
use native.Mathlib.Numerals.{add-one}
use native.Mathlib.Omega.{arith}
use lib.ListN.{length, get_or}
use lib.Seq.{sets, length-sets}
use Rattle.base.proofs.Copies.{sets_append}
use Rattle.tables.specs.Words.{word, entry_words, entry_columns, entry_at, entry_count}
use Rattle.tables.specs.Rules.{to_constant}
use Rattle.tables.specs.declared.Entry.{Entry}
use Rattle.tables.proofs.Words.{word_left, word_right}
use Rattle.templates.specs.Templates.{is_blank, parameter, with_parameter, filled_entry, filled_from, filled}

-- ---- an entry of the filled rule
module _ (ps : List ℕ) (e : Entry) where
  pub filled_other : is_blank e ≡ false → filled_entry ps e ≡ e
  filled_other f = ap (λ (b : Bool). cond b (with_parameter ps e) e) f

  pub filled_blank : is_blank e ≡ true → filled_entry ps e ≡ record { kind = e.kind; a = e.a; b = to_constant; c = parameter ps e.c }
  filled_blank g = ap (λ (b : Bool). cond b (with_parameter ps e) e) g

-- ---- the words of the filled rule
length_from : (t ps : List ℕ) (i n : ℕ) → length (filled_from t ps i n) ≡ entry_words * n
unfolding filled_from
length_from t ps i zero = refl
length_from t ps i (suc n) = let e = length_from t ps (suc i) n in omega (arith, e)

word_from : (t ps : List ℕ) (i n j c : ℕ) → j < n → c < entry_words
    → word entry_words (filled_from t ps i n) j c ≡ get_or (entry_columns (filled_entry ps (entry_at t (i + j)))) c 0
unfolding filled_from
word_from t ps i zero j c h k = absurd (omega arith)
word_from t ps i (suc n) zero c h k =
    let w = entry_columns (filled_entry ps (entry_at t i)) in
    word_left entry_words w (filled_from t ps (suc i) n) 0 c (omega arith)
    ∙ ap (λ (m : ℕ). get_or w m 0) (let z : entry_words * 0 + c ≡ c = omega arith in z)
    ∙ ap (λ (m : ℕ). get_or (entry_columns (filled_entry ps (entry_at t m))) c 0) (omega arith)
word_from t ps i (suc n) (suc j) c h k =
    let s : suc j ≡ 1 + j = omega arith in
    ap (λ (m : ℕ). word entry_words (filled_from t ps i (suc n)) m c) s
    ∙ word_right entry_words (entry_columns (filled_entry ps (entry_at t i))) (filled_from t ps (suc i) n) 1 j c refl
    ∙ word_from t ps (suc i) n j c (omega arith) k
    ∙ ap (λ (m : ℕ). get_or (entry_columns (filled_entry ps (entry_at t m))) c 0) (omega arith)

module _ (t ps : List ℕ) where
  pub filled_length : length (filled t ps) ≡ entry_words * entry_count t
  filled_length = length_from t ps 0 (entry_count t)

  module _ (i : ℕ) (h : i < entry_count t) where
    filled_word : (c : ℕ) → c < entry_words → word entry_words (filled t ps) i c ≡ get_or (entry_columns (filled_entry ps (entry_at t i))) c 0
    filled_word c k = word_from t ps 0 (entry_count t) i c h k ∙ ap (λ (m : ℕ). get_or (entry_columns (filled_entry ps (entry_at t m))) c 0) (omega arith)

    pub filled_entry_lem : entry_at (filled t ps) i ≡ filled_entry ps (entry_at t i)
    filled_entry_lem = λ j. record {
      kind = filled_word 0 (omega arith) j;
      a = filled_word 1 (omega arith) j;
      b = filled_word 2 (omega arith) j;
      c = filled_word 3 (omega arith) j;
    }

-- ---- the loop that writes them, entry by entry
module _ (t ps out₀ : List ℕ) where
  -- i entries are written
  pub record Put (out : List ℕ) (i : ℕ) : Type 0 where
    pub len : length out ≡ length out₀
    pub rest : sets out₀ 0 (filled t ps) ≡ sets out (entry_words * i) (filled_from t ps i (entry_count t - i))

  pub put_begin : Put out₀ 0
  put_begin =
      let z : entry_count t ≡ entry_count t - 0 = omega arith in
      record { len = refl; rest = ap (λ (n : ℕ). sets out₀ 0 (filled_from t ps 0 n)) z }

  pub put_more : {out out' : List ℕ} {i : ℕ} → Put out i → i < entry_count t → out' ≡ sets out (entry_words * i) (entry_columns (filled_entry ps (entry_at t i))) → Put out' (i + 1)
  unfolding filled_from
  put_more {out} {out'} {i} s h e =
      let columns = entry_columns (filled_entry ps (entry_at t i)) in
      let n : entry_count t - i ≡ suc (entry_count t - (i + 1)) = omega arith in
      let z : entry_words * i + entry_words ≡ entry_words * (i + 1) = omega arith in
      record {
        len = ap length e ∙ length-sets out (entry_words * i) columns ∙ s.len;
        rest = s.rest
            ∙ ap (λ (k : ℕ). sets out (entry_words * i) (filled_from t ps i k)) n
            ∙ sets_append out (entry_words * i) columns (filled_from t ps (suc i) (entry_count t - (i + 1)))
            ∙ ap₂ (λ (o : List ℕ) (k : ℕ). sets o k (filled_from t ps (suc i) (entry_count t - (i + 1)))) (sym e) z
            ∙ ap (λ (k : ℕ). sets out' (entry_words * (i + 1)) (filled_from t ps k (entry_count t - (i + 1)))) (sym (add-one i));
      }

  pub put_end : {out : List ℕ} {i : ℕ} → Put out i → entry_count t ≤ i → out ≡ sets out₀ 0 (filled t ps)
  unfolding filled_from
  put_end {out} {i} s h =
      let z : entry_count t - i ≡ 0 = omega arith in
      sym (s.rest ∙ ap (λ (k : ℕ). sets out (entry_words * i) (filled_from t ps i k)) z)
