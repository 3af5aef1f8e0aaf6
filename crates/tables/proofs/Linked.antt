-- Rows linked by hash: what the two loops keep, for any hash, test and fault. Assumes nothing.
use Prim.Native.Nat.{ℕ, zero, suc, ◌+◌, ◌-◌, ◌<◌, ◌≤◌}
use mathlib.Core.Path.{◌≡◌, refl, sym, ap, ◌∙◌}
use mathlib.Core.Bool.{Bool, true, false, cond, true≢false}
use mathlib.Core.List.{List}
use native.Mathlib.Numerals.{add-one}
use native.Mathlib.Decide.{dec_lt}
use native.Mathlib.Omega.{arith}
use lib.ListN.{get_or, set, length-set, replicate}
use lib.Seq.{get_or-set_same, get_or-set_other}
use lib.Dec.{eqb}
use borrow.Author.Tests.{eqb-true, eq-eqb, ltb-true}
use Rattle.base.specs.Search.{first, some}
use Rattle.base.proofs.Bools.{either}
use Rattle.base.proofs.Search.{at_first, none_at, some_at, some_none}
use Rattle.tables.specs.Tables.{row_limit}
use Rattle.tables.specs.Links.{hashes, last_of, Linked, Heads, Chained}
use Rattle.tables.specs.declared.links.Chains.{Chains}

-- ---- the last number at which a test holds
module _ (p : ℕ → Bool) where
  last_le : (n : ℕ) → last_of p n ≤ n
  unfolding last_of
  last_le zero = omega arith
  last_le (suc n) = pick (p n) (last_le n)
    where
      pick : (b : Bool) → last_of p n ≤ n → cond b (suc n) (last_of p n) ≤ suc n
      pick true h = omega arith
      pick false h = omega arith

  last_none : (n j : ℕ) → last_of p n ≤ j → j < n → p j ≡ false
  unfolding last_of
  last_none zero j h l = absurd (omega arith)
  last_none (suc n) j h l = either (p n)
      (λ e. let m : suc n ≤ j = (rw e at h) in absurd (omega arith))
      (λ e. let m : last_of p n ≤ j = (rw e at h) in elim (dec_lt j n) [
        | yes y ↦ last_none n j m y
        | no z ↦ let q : j ≡ n = omega arith in ap p q ∙ e
      ])

  last_at : (n : ℕ) → 0 < last_of p n → p (last_of p n - 1) ≡ true
  unfolding last_of
  last_at zero l = absurd (omega arith)
  last_at (suc n) l = either (p n)
      (λ e. let q : suc n - 1 ≡ n = omega arith in rw (e, q) e)
      (λ e. let m : 0 < last_of p n = (rw e at l) in rw e (last_at n m))

-- ---- a walk along a chain: it looks for a number at which p holds, and such numbers have hash h
pub record Seeks (hash : ℕ → ℕ) (p : ℕ → Bool) (h i k : ℕ) : Type 0 where
  pub agrees : (j : ℕ) → p j ≡ true → hash j ≡ h
  pub within : k ≤ i
  pub passed : (j : ℕ) → k ≤ j → j < i → p j ≡ false
  pub hashed : 0 < k → hash (k - 1) ≡ h

module _ {hash : ℕ → ℕ} {p : ℕ → Bool} {h i : ℕ} where
  last_seeks : ((j : ℕ) → p j ≡ true → hash j ≡ h) → (n : ℕ) → n ≤ i → ((j : ℕ) → n ≤ j → j < i → p j ≡ false)
      → (k : ℕ) → k ≡ last_of (λ m. eqb (hash m) h) n → Seeks hash p h i k
  last_seeks agrees n l f k e =
      let q : ℕ → Bool = λ m. eqb (hash m) h in
      let b : last_of q n ≤ n = last_le q n in
      record {
        agrees = agrees;
        within = omega arith;
        passed = λ j a c. elim (dec_lt j n) [
          | yes y ↦ not_there j (last_none q n j (omega arith) y)
          | no z ↦ f j (omega arith) c
        ];
        hashed = λ a. eqb-true _ _ (ap (λ (x : ℕ). eqb (hash (x - 1)) h) e ∙ last_at q n (rw e at a));
      }
    where
      not_there : (j : ℕ) → eqb (hash j) h ≡ false → p j ≡ false
      not_there j e = either (p j) (λ s. absurd (true≢false (sym (eq-eqb _ _ (agrees j s)) ∙ e))) (λ s. s)

  pub seek_begin : ((j : ℕ) → p j ≡ true → hash j ≡ h) → (k : ℕ) → k ≡ last_of (λ m. eqb (hash m) h) i → Seeks hash p h i k
  seek_begin agrees k e = last_seeks agrees i (omega arith) (λ j a c. absurd (omega arith)) k e

  module _ {k : ℕ} (s : Seeks hash p h i k) where
    pub seek_next : {next : List ℕ} → Linked hash next i → 0 < k → p (k - 1) ≡ false
        → Seeks hash p h i (get_or next (k - 1) 0)
    seek_next {next} l z e =
        let w : k ≤ i = s.within in
        last_seeks s.agrees (k - 1) (omega arith)
        (λ j a c. elim (dec_lt j k) [
          | yes y ↦ let q : j ≡ k - 1 = omega arith in ap p q ∙ e
          | no n ↦ s.passed j (omega arith) c
        ])
        (get_or next (k - 1) 0)
        (l.links (k - 1) (omega arith) ∙ ap (λ (x : ℕ). last_of (λ m. eqb (hash m) x) (k - 1)) (s.hashed z))

    pub seek_falls : {next : List ℕ} → Linked hash next i → 0 < k → get_or next (k - 1) 0 < k
    seek_falls {next} l z =
        let q : ℕ → Bool = λ m. eqb (hash m) (hash (k - 1)) in
        let w : k ≤ i = s.within in
        let b : last_of q (k - 1) ≤ k - 1 = last_le q (k - 1) in
        let e : get_or next (k - 1) 0 ≡ last_of q (k - 1) = l.links (k - 1) (omega arith) in
        omega arith

    pub seek_hit : 0 < k → p (k - 1) ≡ true → true ≡ some p i
    seek_hit z e = sym (some_at p i (k - 1) (omega (arith, s.within)) e)

    -- where the chain is left, the rest of the rows tells
    pub seek_rest : some p k ≡ some p i
    seek_rest = either (some p k)
        (λ e. let l : first p k < k = ltb-true _ _ e in
        e ∙ sym (some_at p i (first p k) (omega (arith, s.within)) (at_first p k l)))
        (λ e. e ∙ sym (some_none p i (λ j l. elim (dec_lt j k) [
          | yes y ↦ none_at p k j e y
          | no z ↦ s.passed j (omega arith) l
        ])))

    pub seek_end : k ≤ 0 → false ≡ some p i
    seek_end z = sym (some_none p i (λ j l. s.passed j (omega arith) l))

-- ---- one row more
module _ (hash : ℕ → ℕ) (i k : ℕ) (k_is : k ≡ last_of (λ m. eqb (hash m) (hash i)) i) (room : i < row_limit) where
  pub linked_more : (next : List ℕ) → Linked hash next i → Linked hash (set next i k) (i + 1)
  linked_more next l = record { long = length-set next i k ∙ l.long; fits = omega arith; links = links }
    where
      links : (j : ℕ) → j < i + 1 → get_or (set next i k) j 0 ≡ last_of (λ m. eqb (hash m) (hash j)) j
      links j h = elim (dec_lt j i) [
        | yes y ↦ get_or-set_other next i j k 0 (λ e. omega arith) ∙ l.links j y
        | no n ↦ let q : j ≡ i = omega arith in rw q (get_or-set_same next i k 0 (omega (arith, l.long)) ∙ k_is)
      ]

  pub heads_more : (head : List ℕ) (h : ℕ) → h ≡ hash i → h < hashes → Heads hash head i → Heads hash (set head h (i + 1)) (i + 1)
  unfolding last_of
  heads_more head h h-is b s = record { long = length-set head h (i + 1) ∙ s.long; lasts = lasts }
    where
      lasts : (x : ℕ) → x < hashes → get_or (set head h (i + 1)) x 0 ≡ last_of (λ m. eqb (hash m) x) (i + 1)
      lasts x l = either (eqb (hash i) x)
          (λ e. let q : x ≡ h = sym (h-is ∙ eqb-true _ _ e) in
          rw (add-one i, e, q) (get_or-set_same head h (suc i) 0 (omega (arith, s.long))))
          (λ e. rw (add-one i, e)
          (get_or-set_other head h x (suc i) 0 (λ y. absurd (true≢false (sym (eq-eqb _ _ (sym h-is ∙ sym y)) ∙ e))) ∙ s.lasts x l))

pub head_le : (hash : ℕ → ℕ) (head : List ℕ) (i : ℕ) → Heads hash head i → (h : ℕ) → h < hashes → get_or head h 0 ≤ i
head_le hash head i s h l = omega (arith, s.lasts h l, last_le (λ m. eqb (hash m) h) i)

-- where a chain begins
pub last_is : (hash : ℕ → ℕ) (head : List ℕ) (i : ℕ) → Heads hash head i → {h x : ℕ} → h ≡ x → x < hashes
    → get_or head h 0 ≡ last_of (λ m. eqb (hash m) x) i
last_is hash head i s e l = s.lasts _ (omega arith) ∙ ap (λ (y : ℕ). last_of (λ m. eqb (hash m) y) i) e

-- ---- nothing yet
get_d_same : (z n j : ℕ) → get_or (replicate n z) j z ≡ z
get_d_same z zero j = refl
get_d_same z (suc n) zero = refl
get_d_same z (suc n) (suc j) = get_d_same z n j

pub none_yet : (n j k : ℕ) → get_or (replicate n 0) j 0 ≤ k
none_yet n j k = omega (arith, get_d_same 0 n j)

pub heads_none : (hash : ℕ → ℕ) → Heads hash (replicate hashes 0) 0
unfolding last_of
heads_none hash = record { long = refl; lasts = λ h l. get_d_same 0 hashes h }

pub linked_none : (hash : ℕ → ℕ) → Linked hash (replicate row_limit 0) 0
linked_none hash = record { long = refl; fits = omega arith; links = λ j l. absurd (omega arith) }

-- ---- the chains of the first rows, and one row more
pub chained_none : (hash : ℕ → ℕ) (c : Chains) → c.head ≡ replicate hashes 0 → c.next ≡ replicate row_limit 0 → c.rows ≡ 0 → Chained hash c
chained_none hash c h n r = record {
  heads = rw (h, r) (heads_none hash);
  linked = rw (n, r) (linked_none hash);
}

module _ (hash : ℕ → ℕ) {h : ℕ} {c : Chains} where
  pub chained_more : h ≡ hash c.rows → c.rows < row_limit → h < hashes → Chained hash c → {d : Chains}
      → d.head ≡ set c.head h (c.rows + 1) → d.next ≡ set c.next c.rows (get_or c.head h 0) → d.rows ≡ c.rows + 1 → Chained hash d
  chained_more h_is room below ch {d} head_is next_is rows_is =
      let k_is : get_or c.head h 0 ≡ last_of (λ m. eqb (hash m) (hash c.rows)) c.rows = last_is hash c.head c.rows ch.heads h_is (rw h_is at below) in
      record {
        heads = rw (head_is, rows_is) (heads_more hash c.rows (get_or c.head h 0) k_is room c.head h h_is below ch.heads);
        linked = rw (next_is, rows_is) (linked_more hash c.rows (get_or c.head h 0) k_is room c.next ch.linked);
      }
