-- The loop that stores a file's words: its invariant, and how a turn keeps it. Assumes nothing.
use Prim.Native.Nat.{ℕ, suc, ◌+◌, ◌≤◌, ◌<◌}
use mathlib.Core.Path.{◌≡◌, refl, sym, ap, ◌∙◌}
use mathlib.Core.Bool.{cond}
use mathlib.Core.List.{List, ◌∷◌, ◌++◌, append-nil}
use native.Mathlib.Numerals.{add-one}
use native.Mathlib.Omega.{arith}
use lib.ListN.{length, get_or, take, drop, set, length-append, length-set, take-append-drop, drop_of_length-le}
use lib.Seq.{drop-cons, take-suc-set, drop-set-lt, append_snoc, drop-drop, length-take-le}
use lib.Dec.{ltb}
use borrow.Author.Tests.{ltb-true, ltb-false, lt-ltb, le-ltb}
use Rattle.base.proofs.Bools.{either}
use Rattle.tables.specs.declared.reading.Scan.{Scan}
use Rattle.tables.specs.declared.reading.Pending.{Pending}
use Rattle.tables.specs.Files.{Format, word_read, step_of, words_from, at_start}
use Rattle.tables.specs.Scans.{put_of}
use Rattle.tables.proofs.Steps.{Counted, step_counted}
use Rattle.tables.proofs.Scans.{Scanning, scan_begin, scan_more}

-- the number of a state
abbrev pub number_at : Scan → Pending
number_at s = record { number = s.number; place = s.count }

pub record Filling (f : Format) (bs out₀ : List ℕ) (s : Scan) (out : List ℕ) (i : ℕ) : Type 0 where
  pub scan : Scanning f bs s i
  pub all : words_from f at_start bs ≡ take s.count out ++ words_from f s (drop i bs)
  pub past : drop s.count out ≡ drop s.count out₀
  pub len : length out ≡ length out₀
  pub cnt : s.count ≤ length out

module _ (f : Format) (bs out₀ : List ℕ) (fits : length (words_from f at_start bs) ≤ length out₀) where
  pub fill_begin : (s : Scan) → s ≡ at_start → 0 < f.columns → Filling f bs out₀ s out₀ 0
  fill_begin s e h = rw e (record { scan = scan_begin f bs at_start refl h; all = refl; past = refl; len = refl; cnt = omega arith })

  module _ (s r : Scan) (out : List ℕ) (i : ℕ) (t : Filling f bs out₀ s out i) (h : i < length bs) (d : r ≡ step_of f s (get_or bs i 0)) where
    counts : Counted s r
    counts = rw d (step_counted f s (get_or bs i 0))

    -- the words of the rest, with the next byte taken off
    rest : words_from f s (drop i bs) ≡ cond (ltb s.count r.count) (word_read s ∷ words_from f r (drop (i + 1) bs)) (words_from f r (drop (i + 1) bs))
    unfolding words_from
    rest = rw (add-one, drop-cons bs i 0 h, d)

    more : s.count < r.count → words_from f at_start bs ≡ take s.count out ++ (word_read s ∷ words_from f r (drop (i + 1) bs))
    more p = t.all ∙ ap (λ (l : List ℕ). take s.count out ++ l) (rest ∙ rw (lt-ltb _ _ p))

    pub fill_room : s.count < r.count → s.count < length out
    fill_room p =
        let e : length (words_from f at_start bs) ≡ s.count + suc (length (words_from f r (drop (i + 1) bs)))
        = ap length (more p) ∙ length-append (take s.count out) (word_read s ∷ words_from f r (drop (i + 1) bs)) ∙ ap (λ (n : ℕ). n + suc (length (words_from f r (drop (i + 1) bs)))) (length-take-le s.count out t.cnt) in
        omega (arith, t.len)

    next : s.count < r.count → r.count ≡ s.count + 1
    next p = omega (arith, counts.le)

    same : r.count ≤ s.count → r.count ≡ s.count
    same p = omega (arith, counts.ge)

    wrote : (p : s.count < r.count) → Filling f bs out₀ r (set out s.count (word_read s)) (i + 1)
    wrote p =
        let w : s.count < length out = fill_room p in
        record {
          scan = scan_more f bs s r i t.scan h d;
          all = more p ∙ sym (append_snoc (take s.count out) (word_read s) (words_from f r (drop (i + 1) bs)))
              ∙ ap (λ (l : List ℕ). l ++ words_from f r (drop (i + 1) bs)) (sym (take-suc-set out s.count (word_read s) w)
              ∙ ap (λ (n : ℕ). take n (set out s.count (word_read s))) (sym (add-one s.count) ∙ sym (next p)));
          past = ap (λ (n : ℕ). drop n (set out s.count (word_read s))) (next p)
              ∙ drop-set-lt (s.count + 1) out s.count (word_read s) (omega arith) ∙ sym (drop-drop 1 s.count out) ∙ ap (drop 1) t.past
              ∙ drop-drop 1 s.count out₀ ∙ ap (λ (n : ℕ). drop n out₀) (sym (next p));
          len = length-set out s.count (word_read s) ∙ t.len;
          cnt = rw length-set (omega (arith, next p));
        }

    kept : r.count ≤ s.count → Filling f bs out₀ r out (i + 1)
    kept p = record {
      scan = scan_more f bs s r i t.scan h d;
      all = t.all ∙ ap (λ (l : List ℕ). take s.count out ++ l) (rest ∙ rw (le-ltb _ _ p)) ∙ ap (λ (n : ℕ). take n out ++ words_from f r (drop (i + 1) bs)) (sym (same p));
      past = ap (λ (n : ℕ). drop n out) (same p) ∙ t.past ∙ ap (λ (n : ℕ). drop n out₀) (sym (same p));
      len = t.len;
      cnt = omega (arith, same p, t.cnt);
    }

    pub fill_more : (out' : List ℕ) → out' ≡ put_of out (number_at s) (number_at r) → Filling f bs out₀ r out' (i + 1)
    unfolding put_of
    fill_more out' e = either (ltb s.count r.count)
        (λ q. rw (e, q) (wrote (ltb-true _ _ q)))
        (λ q. rw (e, q) (kept (ltb-false _ _ q)))

  pub fill_end : (s : Scan) (out : List ℕ) (i : ℕ) → Filling f bs out₀ s out i → length bs ≤ i → out ≡ words_from f at_start bs ++ drop (length (words_from f at_start bs)) out₀
  unfolding words_from
  fill_end s out i t h =
      let a : words_from f at_start bs ≡ take s.count out = t.all ∙ rw (drop_of_length-le bs h) (append-nil _) in
      let n : length (words_from f at_start bs) ≡ s.count = ap length a ∙ length-take-le s.count out t.cnt in
      sym (take-append-drop s.count out) ∙ rw (n, a, ← t.past)
