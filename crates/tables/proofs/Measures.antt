-- The bytes that the words take: without signs counted power by power, and with signs. Assumes nothing.
use Prim.Native.Nat.{ℕ, suc, ◌+◌, ◌-◌, ◌*◌, ◌^◌, ◌≤◌, ◌<◌, min}
use mathlib.Core.Path.{◌≡◌, refl, sym, ap, ◌∙◌}
use mathlib.Core.Bool.{Bool, true, false, ◌&&◌}
use mathlib.Core.List.{List, [], ◌∷◌, ◌++◌}
use native.Mathlib.Nat.{add-zero}
use native.Mathlib.Numerals.{add-one}
use native.Mathlib.Omega.{arith}
use lib.ListN.{length, get_or, drop, length-append, drop_of_length-le}
use lib.Seq.{drop-cons}
use lib.Dec.{leb}
use mir.Val.{bool_byte}
use borrow.Author.Tests.{le-leb, lt-leb, leb-true, leb-false, ltb-true}
use Rattle.base.proofs.Bools.{either, and_right}
use Rattle.base.proofs.Lists.{length_select}
use Rattle.base.proofs.Counts.{Counted, count_hit, count_miss}
use Rattle.powers.specs.Powers.{word_digits, power_at}
use Rattle.powers.proofs.Powers.{power_is}
use Rattle.tables.specs.Values.{value_limit, is_below_zero, opposite}
use Rattle.tables.specs.declared.columns.Column.{Column}
use Rattle.tables.specs.Files.{Format, byte_after, next_column, told_next, column_after, may_sign, number_text, word_text, text_from, lines_text}
use Rattle.tables.specs.Scans.{plain_length, count_from}
use Rattle.tables.proofs.Digits.{text_le, text_pos, digits_many, narrow_below}

-- ---- counting the words that are n or more
pub byte_le : (b : Bool) → bool_byte b ≤ 1
byte_le true = omega arith
byte_le false = omega arith

pub count_more : (p : ℕ → Bool) (ws : List ℕ) (count i x : ℕ) → Counted p ws count i → i < length ws
    → x ≡ bool_byte (p (get_or ws i 0)) → Counted p ws (count + x) (i + 1)
count_more p ws count i x t h e = either (p (get_or ws i 0))
    (λ y. rw (e ∙ ap bool_byte y) (count_hit p ws count i t h y))
    (λ y. rw (e ∙ ap bool_byte y) (rw (add-zero count) (count_miss p ws count i t h y)))

count_cons : (n w : ℕ) (ws : List ℕ) → count_from n (w ∷ ws) ≡ bool_byte (leb n w) + count_from n ws
count_cons n w ws = either (leb n w) (λ e. rw e (omega arith)) (λ e. rw e (omega arith))

-- ---- the bytes that the words take without signs, of each number n digits at most
unfoldable pub length_up_to : ℕ → List ℕ → ℕ
length_up_to n [] = 0
length_up_to n (w ∷ ws) = min n (length (number_text w)) + 1 + length_up_to n ws

up_one : (ws : List ℕ) → length_up_to 1 ws ≡ 2 * length ws
unfolding length_up_to
up_one [] = refl
up_one (w ∷ ws) = omega (arith, text_pos w, up_one ws)

up_le : (n : ℕ) (ws : List ℕ) → length_up_to n ws ≤ plain_length ws
unfolding length_up_to plain_length
up_le n [] = omega arith
up_le n (w ∷ ws) = omega (arith, up_le n ws)

up_ten : (ws : List ℕ) → length_up_to word_digits ws ≡ plain_length ws
unfolding length_up_to plain_length
up_ten [] = refl
up_ten (w ∷ ws) = omega (arith, text_le w, up_ten ws)

-- the words from a power on are those with more digits
module _ (n x : ℕ) (low : 1 ≤ n) (high : n < word_digits) (power : x ≡ power_at n) where
  ten_to_lem : x ≡ 10 ^ n
  ten_to_lem = power ∙ power_is n high

  wide : (w : ℕ) → leb x w ≡ true → n < length (number_text w)
  wide w e = digits_many 10 n w high (rw ten_to_lem at (leb-true x w e))

  narrow : (w : ℕ) → leb x w ≡ false → length (number_text w) ≤ n
  narrow w e = narrow_below n w low (rw ten_to_lem at (leb-false x w e))

  up_more : (ws : List ℕ) → length_up_to (n + 1) ws ≡ length_up_to n ws + count_from x ws
  unfolding length_up_to
  up_more [] = refl
  up_more (w ∷ ws) = either (leb x w)
      (λ e. let l : n < length (number_text w) = wide w e in rw e (omega (arith, up_more ws)))
      (λ e. let l : length (number_text w) ≤ n = narrow w e in rw e (omega (arith, up_more ws)))

  -- each has at most nine digits more
  up_most : (ws : List ℕ) → plain_length ws ≤ length_up_to n ws + 9 * count_from x ws
  unfolding length_up_to plain_length
  up_most [] = omega arith
  up_most (w ∷ ws) = either (leb x w)
      (λ e. let l : n < length (number_text w) = wide w e in rw e (omega (arith, text_le w, up_most ws)))
      (λ e. let l : length (number_text w) ≤ n = narrow w e in rw e (omega (arith, up_most ws)))

-- each number's digits up to n are counted
pub record Measuring (ws : List ℕ) (bytes n : ℕ) : Type 0 where
  pub low : 1 ≤ n
  pub high : n ≤ word_digits
  pub is : bytes ≡ length_up_to n ws

module _ (ws : List ℕ) where
  pub measure_begin : (bytes : ℕ) → bytes ≡ 2 * length ws → Measuring ws bytes 1
  measure_begin bytes e = record { low = omega arith; high = omega arith; is = e ∙ sym (up_one ws) }

  pub measure_over : (room bytes n : ℕ) → Measuring ws bytes n → room < bytes → false ≡ leb (plain_length ws) room
  measure_over room bytes n t h = sym (lt-leb (plain_length ws) room (omega (arith, t.is, up_le n ws)))

  module _ (bytes n x wider : ℕ) (t : Measuring ws bytes n) (h : n < word_digits) (p : x ≡ power_at n) (e : wider ≡ count_from x ws) where
    pub measure_plenty : (room : ℕ) → bytes ≤ room → 9 * wider ≤ room - bytes → true ≡ leb (plain_length ws) room
    measure_plenty room l m = sym (le-leb (plain_length ws) room (omega (arith, t.is, up_most n x t.low h p ws)))

    pub measure_more : Measuring ws (bytes + wider) (n + 1)
    measure_more = record { low = omega arith; high = omega arith; is = omega (arith, t.is, up_more n x t.low h p ws) }

  pub measure_end : (bytes n : ℕ) → Measuring ws bytes n → word_digits ≤ n → bytes ≡ plain_length ws
  measure_end bytes n t l =
      let ten : n ≡ word_digits = omega (arith, t.high) in
      t.is ∙ ap (λ (m : ℕ). length_up_to m ws) ten ∙ up_ten ws

-- ---- with signs: a word from 2,147,483,648 on has ten digits without one, and with one a sign and ten at most
record Signed (signed : Bool) (w : ℕ) : Type 0 where
  most : length (word_text signed w) ≤ length (number_text w) + bool_byte (leb 2147483648 w)
  least : length (number_text w) ≤ length (word_text signed w) + 9 * bool_byte (leb 2147483648 w)
  pos : 1 ≤ length (word_text signed w)

signed_bytes : (signed : Bool) (w : ℕ) → Signed signed w
unfolding word_text
signed_bytes signed w = either (signed && is_below_zero w)
    (λ e. let l : value_limit < w = ltb-true value_limit w (and_right signed (is_below_zero w) e) in
    let b : leb 2147483648 w ≡ true = le-leb 2147483648 w (omega arith) in
    let many : 9 < length (number_text w) = digits_many 10 9 w (omega arith) (omega arith) in
    record {
      most = rw (e, b) (omega (arith, text_le (opposite w)));
      least = rw (e, b) (omega (arith, text_le w, text_pos (opposite w)));
      pos = rw e (omega arith);
    })
    (λ e. record { most = rw e (omega arith); least = rw e (omega arith); pos = rw e (text_pos w) })

-- a text of the words: two bytes at least for each, a digit and the byte after it
record Taken (ws : List ℕ) (bytes : ℕ) : Type 0 where
  most : bytes ≤ plain_length ws + count_from 2147483648 ws
  least : plain_length ws ≤ bytes + 9 * count_from 2147483648 ws
  two : 2 * length ws ≤ bytes

module _ (f : Format) where
  -- a word's bytes, the byte after it, and the rest
  pub text_length : (c : ℕ) (told : Bool) (w : ℕ) (ws : List ℕ)
      → length (text_from f c told (w ∷ ws))
      ≡ length (word_text (may_sign f.columns c told) w) + 1 + length (text_from f (next_column f.columns c) (told_next f c w told) ws)
  unfolding text_from
  text_length c told w ws =
      length-append (word_text (may_sign f.columns c told) w) (byte_after f.columns c ∷ text_from f (next_column f.columns c) (told_next f c w told) ws) ∙ omega arith

  text_taken : (c : ℕ) (told : Bool) (ws : List ℕ) → Taken ws (length (text_from f c told ws))
  unfolding text_from plain_length
  text_taken c told [] = record { most = omega arith; least = omega arith; two = omega arith }
  text_taken c told (w ∷ ws) =
      let one = signed_bytes (may_sign f.columns c told) w in
      let rest = text_taken (next_column f.columns c) (told_next f c w told) ws in
      record {
        most = omega (arith, text_length c told w ws, one.most, count_cons 2147483648 w ws, rest.most);
        least = omega (arith, text_length c told w ws, one.least, count_cons 2147483648 w ws, rest.least);
        two = omega (arith, text_length c told w ws, one.pos, rest.two);
      }

  -- ---- whether the text fits, from the words that may have a sign
  module _ (ws : List ℕ) (room below : ℕ) (e : below ≡ count_from 2147483648 ws) where
    pub fit_none : room < below → false ≡ leb (length (lines_text f ws)) room
    fit_none h = sym (lt-leb (length (lines_text f ws)) room (omega (arith, (text_taken 0 false ws).two, length_select (λ w. leb 2147483648 w) ws)))

    pub fit_plain : (r : Bool) → below ≤ room → r ≡ leb (plain_length ws) (room - below) → r ≡ true → true ≡ leb (length (lines_text f ws)) room
    fit_plain r h q t =
        let l : plain_length ws ≤ room - below = leb-true (plain_length ws) (room - below) (sym q ∙ t) in
        sym (le-leb (length (lines_text f ws)) room (omega (arith, (text_taken 0 false ws).most)))

    pub fit_over : (r : Bool) → r ≡ leb (plain_length ws) (room - below) → r ≡ false → below ≡ 0 → false ≡ leb (length (lines_text f ws)) room
    fit_over r q t z =
        let l : room - below < plain_length ws = leb-false (plain_length ws) (room - below) (sym q ∙ t) in
        sym (lt-leb (length (lines_text f ws)) room (omega (arith, (text_taken 0 false ws).least)))

-- ---- word by word: what is left of the room is for the rest
pub record Fitting (f : Format) (ws : List ℕ) (room left : ℕ) (c : Column) (i : ℕ) : Type 0 where
  pub within : i ≤ length ws
  pub column : c.index < f.columns
  pub rest : room + length (text_from f c.index c.told (drop i ws)) ≡ left + length (lines_text f ws)

-- the text from the word i on
pub next_text : (f : Format) (ws : List ℕ) (c : ℕ) (told : Bool) (i : ℕ) → i < length ws
    → text_from f c told (drop i ws)
    ≡ word_text (may_sign f.columns c told) (get_or ws i 0)
    ++ (byte_after f.columns c ∷ text_from f (next_column f.columns c) (told_next f c (get_or ws i 0) told) (drop (i + 1) ws))
unfolding text_from
next_text f ws c told i h = rw (add-one i, drop-cons ws i 0 h)

pub next_length : (f : Format) (ws : List ℕ) (c : ℕ) (told : Bool) (i : ℕ) → i < length ws
    → length (text_from f c told (drop i ws))
    ≡ length (word_text (may_sign f.columns c told) (get_or ws i 0)) + 1
    + length (text_from f (next_column f.columns c) (told_next f c (get_or ws i 0) told) (drop (i + 1) ws))
next_length f ws c told i h = ap (λ (l : List ℕ). length (text_from f c told l)) (drop-cons ws i 0 h) ∙ text_length f c told (get_or ws i 0) (drop (suc i) ws) ∙ rw (add-one i)

module _ (f : Format) (ws : List ℕ) (room : ℕ) where
  pub fit_begin : (c : Column) → c ≡ record { index = 0; told = false } → 0 < f.columns → Fitting f ws room room c 0
  fit_begin c e h = rw e (record { within = omega arith; column = h; rest = refl })

  module _ (left : ℕ) (c : Column) (i : ℕ) (t : Fitting f ws room left c i) (h : i < length ws)
      (signed : Bool) (es : signed ≡ may_sign f.columns c.index c.told) (n : ℕ) (e : n ≡ length (word_text signed (get_or ws i 0)) + 1) where
    takes : length (text_from f c.index c.told (drop i ws))
        ≡ n + length (text_from f (next_column f.columns c.index) (told_next f c.index (get_or ws i 0) c.told) (drop (i + 1) ws))
    takes = next_length f ws c.index c.told i h ∙ rw (e, es)

    pub fit_short : left < n → false ≡ leb (length (lines_text f ws)) room
    fit_short l = sym (lt-leb (length (lines_text f ws)) room (omega (arith, t.rest, takes)))

    pub fit_more : (d : Column) → n ≤ left → d ≡ column_after f c (get_or ws i 0) → d.index < f.columns → Fitting f ws room (left - n) d (i + 1)
    fit_more d l ed dl = rw ed (record {
      within = omega arith;
      column = rw ed at dl;
      rest = omega (arith, t.rest, takes);
    })

  pub fit_end : (left : ℕ) (c : Column) (i : ℕ) → Fitting f ws room left c i → length ws ≤ i → true ≡ leb (length (lines_text f ws)) room
  unfolding text_from
  fit_end left c i t h =
      let none : length (text_from f c.index c.told (drop i ws)) ≡ 0 = ap (λ (l : List ℕ). length (text_from f c.index c.told l)) (drop_of_length-le ws h) in
      sym (le-leb (length (lines_text f ws)) room (omega (arith, t.rest)))
