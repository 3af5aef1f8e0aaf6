-- The loops that write a file. Each invariant says that what is left to do, done, gives the whole. Assumes nothing.
use Prim.Native.Nat.{ℕ, ◌+◌, ◌≤◌, ◌<◌}
use mathlib.Core.Path.{◌≡◌, refl, sym, ap, ◌∙◌}
use mathlib.Core.Bool.{Bool, false, ◌&&◌}
use mathlib.Core.List.{List, [], ◌∷◌, ◌++◌}
use native.Mathlib.Nat.{add-zero}
use native.Mathlib.Numerals.{add-one}
use native.Mathlib.Omega.{arith}
use lib.ListN.{length, get_or, drop, set, length-set, drop_of_length-le}
use lib.Seq.{sets, length-sets}
use Rattle.std.specs.Prelude.{Option, Some, None}
use Rattle.base.proofs.Bools.{either}
use Rattle.base.proofs.Copies.{sets_append}
use Rattle.tables.specs.declared.columns.Column.{Column}
use Rattle.tables.specs.Values.{is_below_zero, opposite}
use Rattle.tables.specs.Files.{Format, byte_after, next_column, told_next, column_after, may_sign, minus_byte, number_text, word_text, text_from, lines_text}
use Rattle.tables.specs.Scans.{size_below}
use Rattle.tables.proofs.Measures.{next_text, next_length}

some_same : {x y : ℕ} → ◌≡◌ {A = Option ℕ} (Some x) (Some y) → x ≡ y
some_same e = cc

some_none : {x : ℕ} → ◌≡◌ {A = Option ℕ} (Some x) None → ⊥
some_none e = let z : ◌≡◌ {A = ℕ} 0 1 = cc in omega arith

-- ---- one word: with its sign, or without
module _ (signed : Bool) (w : ℕ) where
  pub below_text : (size : ℕ) → Some size ≡ size_below signed w → word_text signed w ≡ minus_byte ∷ number_text size
  unfolding word_text
  below_text size e = either (signed && is_below_zero w)
      (λ t. let z : size ≡ opposite w = some_same (rw t at e) in rw (t, z))
      (λ t. absurd (some_none (rw t at e)))

  pub plain_text : None ≡ size_below signed w → word_text signed w ≡ number_text w
  unfolding word_text
  plain_text e = either (signed && is_below_zero w)
      (λ t. absurd (some_none {x = opposite w} (sym (rw t at e))))
      (λ t. rw t)

-- ---- the words
pub record Putting (f : Format) (ws out₀ : List ℕ) (at : ℕ) (out : List ℕ) (p : ℕ) (c : Column) (i : ℕ) : Type 0 where
  pub within : i ≤ length ws
  pub column : c.index < f.columns
  pub len : length out ≡ length out₀
  pub place : p + length (text_from f c.index c.told (drop i ws)) ≡ at + length (lines_text f ws)
  pub rest : sets out₀ at (lines_text f ws) ≡ sets out p (text_from f c.index c.told (drop i ws))

module _ (f : Format) (ws out₀ : List ℕ) (at : ℕ) where
  pub put_begin : (c : Column) → c ≡ record { index = 0; told = false } → 0 < f.columns → Putting f ws out₀ at out₀ at c 0
  put_begin c e h = rw e (record { within = omega arith; column = h; len = refl; place = refl; rest = refl })

  module _ (out : List ℕ) (p : ℕ) (c : Column) (i : ℕ) (t : Putting f ws out₀ at out p c i) (h : i < length ws)
      (signed : Bool) (es : signed ≡ may_sign f.columns c.index c.told) where
    abbrev text : List ℕ
    text = word_text signed (get_or ws i 0)

    abbrev after : List ℕ
    after = byte_after f.columns c.index ∷ text_from f (next_column f.columns c.index) (told_next f c.index (get_or ws i 0) c.told) (drop (i + 1) ws)

    pub put_room : at + length (lines_text f ws) ≤ length out₀ → p + length text + 1 ≤ length out
    put_room l = rw es (omega (arith, t.place, next_length f ws c.index c.told i h, t.len))

    pub put_more : (out' : List ℕ) (q b : ℕ) (d : Column) → q ≡ p + length text → out' ≡ sets out p text → b ≡ byte_after f.columns c.index
        → d ≡ column_after f c (get_or ws i 0) → d.index < f.columns → Putting f ws out₀ at (set out' q b) (q + 1) d (i + 1)
    put_more out' q b d eq eo eb ed dl = record {
      within = omega arith;
      column = dl;
      len = length-set out' q b ∙ ap length eo ∙ length-sets out p text ∙ t.len;
      place = rw (ed, eq, es) (omega (arith, t.place, next_length f ws c.index c.told i h));
      rest = t.rest ∙ ap (sets out p) (next_text f ws c.index c.told i h)
          ∙ ap (λ (b : Bool). sets out p (word_text b (get_or ws i 0) ++ after)) (sym es)
          ∙ sets_append out p text after
          ∙ rw (eb, ed, eo, ← eq, add-one q);
    }

  pub put_end : (out : List ℕ) (p : ℕ) (c : Column) (i : ℕ) → Putting f ws out₀ at out p c i → length ws ≤ i
      → (p ≡ at + length (lines_text f ws)) × (out ≡ sets out₀ at (lines_text f ws))
  unfolding text_from
  put_end out p c i t h =
      let none : drop i ws ≡ [] = drop_of_length-le ws h in (
        sym (ap (λ (l : List ℕ). p + length (text_from f c.index c.told l)) none ∙ add-zero p) ∙ t.place,
        sym (t.rest ∙ ap (λ (l : List ℕ). sets out p (text_from f c.index c.told l)) none),
      )
