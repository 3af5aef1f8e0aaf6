-- The pass over a table: what each turn keeps. Assumes nothing.
use Prim.Native.Nat.{ℕ, zero, suc, ◌+◌, ◌≤◌, ◌<◌}
use mathlib.Core.Path.{◌≡◌, refl, sym, ap, ap₂, subst, ◌∙◌}
use mathlib.Core.Bool.{Bool, true, false, cond, true≢false}
use mathlib.Core.List.{List}
use native.Mathlib.Decide.{dec_lt}
use native.Mathlib.Omega.{arith}
use lib.ListN.{length, get_or, set, length-set, replicate, get_or-map}
use lib.Seq.{get_or-set_same, get_or-set_other}
use lib.Dec.{eqb}
use borrow.Author.Tests.{eqb-true, eq-eqb}
use Rattle.base.specs.Search.{first}
use Rattle.base.proofs.Bools.{either}
use Rattle.base.proofs.Search.{first_le, first_same, none_before, at_first}
use Rattle.tables.specs.Words.{row_at, row_count}
use Rattle.tables.specs.Links.{hashes, twin_hash}
use Rattle.tables.specs.Tables.{row_limit, root, is_parent, is_twin}
use Rattle.tables.specs.Links.{last_of, Linked, Heads}
use Rattle.tables.specs.declared.Row.{Row}
use Rattle.tables.proofs.Linked.{linked_more, heads_more, linked_none, heads_none, last_is}
use Rattle.tables.proofs.Ordered.{one_parent, parent_no_root}
use Rattle.folding.specs.Folding.{with_up}
use Rattle.folding.specs.Passing.{Foldable, intos, UpIs, moved_at, Passing, Backward, IsMoved, hash_at}
use Rattle.folding.specs.declared.passing.Move.{Move}
use Rattle.folding.proofs.Images.{Equal, twin_equal}
use Rattle.folding.proofs.ParentSearch.{in_place, same_device}

-- ---- what the pass has written of a row
pub into_at : (moves : List Move) (j : ℕ) → (get_or moves j (record { into = 0; up = 0 })).into ≡ get_or (intos moves) j 0
into_at moves j = sym (get_or-map (λ (m : Move). m.into) moves j (record { into = 0; up = 0 }))

-- ---- the first number at which a test holds
pub first_is : (p : ℕ → Bool) (n m : ℕ) → m < n → p m ≡ true → ((j : ℕ) → j < m → p j ≡ false) → first p n ≡ m
first_is p n m l e h = either (eqb (first p n) m)
    (λ q. eqb-true _ _ q)
    (λ q. absurd (elim (dec_lt (first p n) m) [
      | yes y ↦ true≢false (sym (at_first p n (omega arith)) ∙ h (first p n) y)
      | no z ↦ let w : m < first p n = other (first p n) q z in true≢false (sym e ∙ none_before p n m w)
    ]))
  where
    other : (k : ℕ) → eqb k m ≡ false → ¬ (k < m) → m < k
    other k q z = elim (dec_lt m k) [
      | yes y ↦ y
      | no w ↦ let s : k ≡ m = omega arith in absurd (true≢false (sym (eq-eqb k m s) ∙ q))
    ]

pub first_none : (p : ℕ → Bool) (n : ℕ) → ((j : ℕ) → j < n → p j ≡ false) → first p n ≡ n
first_none p n h = elim (dec_lt (first p n) n) [
  | yes y ↦ absurd (true≢false (sym (at_first p n y) ∙ h (first p n) y))
  | no z ↦ omega (arith, first_le p n)
]

-- ---- rows with equal words but at and deep have the same equal siblings
pub twins_of : (r s b : Row) → r.device ≡ s.device → Equal r s → is_twin s b ≡ is_twin r b
twins_of r s b d e = rw (e.up, ← d, e.name, e.value)

-- ---- a row with its new up
module _ (t into : List ℕ) (ok : Foldable t) (i : ℕ) (h : i < row_count t) where
  pub moved_root : (r : Row) → r ≡ row_at t i → r.up ≡ 0 → IsMoved t into i r
  moved_root r r_is z =
      let e : root (row_at t i) ≡ true = eq-eqb _ _ (sym (ap (λ (x : Row). x.up) r_is) ∙ z) in
      record {
        row = row_up r (row_at t i) r_is;
        up_is = record {
          at_root = λ _. z;
          below = λ p l c. absurd (true≢false (sym e ∙ parent_no_root t (in_place t ok) p i (omega arith) c));
        };
      }
    where
      row_up : (r s : Row) → r ≡ s → r ≡ with_up r.up s
      row_up r s e = λ j. record { device = (e j).device; at = (e j).at; up = r.up; deep = (e j).deep; name = (e j).name; value = (e j).value }

  pub is_child_lem : (r : Row) → r ≡ row_at t i → (r.up ≡ 0 → ⊥) → root (row_at t i) ≡ false
  is_child_lem r r_is z = either (root (row_at t i))
      (λ e. absurd (z (ap (λ (x : Row). x.up) r_is ∙ eqb-true _ _ e)))
      (λ e. e)

  pub moved_child : (r : Row) → r ≡ row_at t i → root (row_at t i) ≡ false → (p : ℕ) → p < i → is_parent (row_at t i) (row_at t p) ≡ true
      → IsMoved t into i (with_up (row_at t (get_or into p 0)).at r)
  moved_child r r_is e p l c = record {
    row = ap (with_up (row_at t (get_or into p 0)).at) r_is;
    up_is = record {
      at_root = λ z. absurd (true≢false (sym z ∙ e));
      below = λ q k d. ap (λ (x : ℕ). (row_at t (get_or into x 0)).at) (one_parent t (in_place t ok) p q i (omega arith) (omega arith) c d);
    };
  }

-- ---- links by hashes that agree so far
last_same : (p q : ℕ → Bool) (n : ℕ) → ((m : ℕ) → m < n → p m ≡ q m) → last_of p n ≡ last_of q n
unfolding last_of
last_same p q zero h = refl
last_same p q (suc n) h = ap₂ (λ (b : Bool) (x : ℕ). cond b (suc n) x) (h n (omega arith)) (last_same p q n (λ m l. h m (omega arith)))

module _ (f g : ℕ → ℕ) (i : ℕ) (same : (m : ℕ) → m < i → f m ≡ g m) where
  linked_same : {next : List ℕ} → Linked f next i → Linked g next i
  linked_same l = record {
    long = l.long;
    fits = l.fits;
    links = λ j h. l.links j h
        ∙ last_same _ _ j (λ m k. ap₂ eqb (same m (omega arith)) (same j h));
  }

  heads_same : {head : List ℕ} → Heads f head i → Heads g head i
  heads_same l = record {
    long = l.long;
    lasts = λ h k. l.lasts h k ∙ last_same _ _ i (λ m k. ap (λ (x : ℕ). eqb x h) (same m k));
  }

-- ---- the loop
pub record Going (t : List ℕ) (n : ℕ) (into ups head next : List ℕ) (i : ℕ) : Type 0 where
  pub within : i ≤ n
  pub passing : Passing t into ups i
  pub linked : Linked (hash_at t ups) next i
  pub heads : Heads (hash_at t ups) head i

pub go_begin : (t : List ℕ) (n : ℕ) (into ups : List ℕ) → length into ≡ row_limit → length ups ≡ row_limit
    → Going t n into ups (replicate hashes 0) (replicate row_limit 0) 0
go_begin t n into ups a b = record {
  within = omega arith;
  passing = record { into_long = a; ups_long = b; ups_are = λ j h. absurd (omega arith); into_are = λ j h. absurd (omega arith) };
  linked = linked_none (hash_at t ups);
  heads = heads_none (hash_at t ups);
}

pub backward : {t into ups : List ℕ} {i : ℕ} → Passing t into ups i → Backward into i
backward {t} {into} {ups} s = record {
  long = s.into_long;
  not_later = λ j h. omega (arith, s.into_are j h, first_le (λ k. is_twin (moved_at t ups j) (moved_at t ups k)) j);
}

module _ {t : List ℕ} (ok : Foldable t) (few : row_count t ≤ row_limit) {into ups head next : List ℕ} {i : ℕ}
    (s : Going t (row_count t) into ups head next i) (l : i < row_count t)
    {r : Row} (moved : IsMoved t into i r) where
  -- ---- the row that row i goes into
  -- that of an equal sibling
  pub through : (k : ℕ) → k < i → is_twin r (moved_at t ups k) ≡ true → get_or into k 0 ≡ first (λ j. is_twin r (moved_at t ups j)) i
  through k h e =
      let b = moved_at t ups k in
      let eq : Equal r b = twin_equal r b e in
      let d : r.device ≡ b.device = ap (λ (x : Row). x.device) moved.row ∙ same_device t ok i k l (omega arith) in
      let same : (j : ℕ) → is_twin b (moved_at t ups j) ≡ is_twin r (moved_at t ups j) = λ j. twins_of r b (moved_at t ups j) d eq in
      let p : ℕ → Bool = λ j. is_twin b (moved_at t ups j) in
      let f : first p k ≤ k = first_le p k in
      s.passing.into_are k h
      ∙ sym (first_is (λ j. is_twin r (moved_at t ups j)) i (first p k) (omega arith)
      (elim (dec_lt (first p k) k) [
        | yes y ↦ sym (same (first p k)) ∙ at_first p k y
        | no n ↦ let g : first p k ≡ k = omega arith in ap (λ (m : ℕ). is_twin r (moved_at t ups m)) g ∙ e
      ])
      (λ j m. sym (same j) ∙ none_before p k j m))

  -- its own
  pub alone : ((j : ℕ) → j < i → is_twin r (moved_at t ups j) ≡ false) → i ≡ first (λ j. is_twin r (moved_at t ups j)) i
  alone h = sym (first_none _ i h)

module _ {t : List ℕ} (ok : Foldable t) (few : row_count t ≤ row_limit) {into ups head next : List ℕ} {i : ℕ}
    (s : Going t (row_count t) into ups head next i) (l : i < row_count t)
    {r : Row} (moved : IsMoved t into i r) {q : ℕ} (goes : q ≡ first (λ j. is_twin r (moved_at t ups j)) i) where
  old_up : (m : ℕ) → m < i → get_or (set ups i r.up) m 0 ≡ get_or ups m 0
  old_up m h = get_or-set_other ups i m r.up 0 (λ e. omega arith)

  new_up : get_or (set ups i r.up) i 0 ≡ r.up
  new_up = get_or-set_same ups i r.up 0 (omega (arith, s.passing.ups_long))

  old_into : (m : ℕ) → m < i → get_or (set into i q) m 0 ≡ get_or into m 0
  old_into m h = get_or-set_other into i m q 0 (λ e. omega arith)

  old_row : (m : ℕ) → m < i → moved_at t (set ups i r.up) m ≡ moved_at t ups m
  old_row m h = ap (λ (u : ℕ). with_up u (row_at t m)) (old_up m h)

  new_row : moved_at t (set ups i r.up) i ≡ r
  new_row = ap (λ (u : ℕ). with_up u (row_at t i)) new_up ∙ sym moved.row

  -- ---- one row more
  up_more : (j u : ℕ) → j < i + 1 → UpIs t into j u → UpIs t (set into i q) j u
  up_more j u h w = record {
    at_root = w.at_root;
    below = λ p m c. w.below p m c ∙ ap (λ (x : ℕ). (row_at t x).at) (sym (old_into p (omega arith)));
  }

  pass_more : Passing t (set into i q) (set ups i r.up) (i + 1)
  pass_more = record {
    into_long = length-set into i q ∙ s.passing.into_long;
    ups_long = length-set ups i r.up ∙ s.passing.ups_long;
    ups_are = λ j h. elim (dec_lt j i) [
      | yes y ↦ up_more j _ h (subst (UpIs t into j) (sym (old_up j y)) (s.passing.ups_are j y))
      | no n ↦ let e : j ≡ i = omega arith in
          up_more j _ h (subst (λ (x : ℕ). UpIs t into x (get_or (set ups i r.up) x 0)) (sym e) (subst (UpIs t into i) (sym new_up) moved.up_is))
    ];
    into_are = λ j h. elim (dec_lt j i) [
      | yes y ↦ old_into j y ∙ s.passing.into_are j y
          ∙ first_same _ _ j (λ m k. ap₂ is_twin (sym (old_row j y)) (sym (old_row m (omega arith))))
      | no n ↦ let e : j ≡ i = omega arith in
          subst (λ (x : ℕ). get_or (set into i q) x 0 ≡ first (λ m. is_twin (moved_at t (set ups i r.up) x) (moved_at t (set ups i r.up) m)) x) (sym e)
          (get_or-set_same into i q 0 (omega (arith, s.passing.into_long)) ∙ goes
          ∙ first_same _ _ i (λ m k. ap₂ is_twin (sym new_row) (sym (old_row m k))))
    ];
  }

  pub go_more : {h : ℕ} → h ≡ twin_hash r → h < hashes
      → Going t (row_count t) (set into i q) (set ups i r.up) (set head h (i + 1)) (set next i (get_or head h 0)) (i + 1)
  go_more {h} h-is below =
      let f = hash_at t ups in
      let g = hash_at t (set ups i r.up) in
      let same : (m : ℕ) → m < i → f m ≡ g m = λ m h. ap twin_hash (sym (old_row m h)) in
      let at_i : h ≡ g i = h-is ∙ ap twin_hash (sym new_row) in
      let heads : Heads g head i = heads_same f g i same s.heads in
      let k_is : get_or head h 0 ≡ last_of (λ m. eqb (g m) (g i)) i = last_is g head i heads at_i (omega (arith, at_i)) in
      record {
        within = omega arith;
        passing = pass_more;
        linked = linked_more g i (get_or head h 0) k_is (omega arith) next (linked_same f g i same s.linked);
        heads = heads_more g i (get_or head h 0) k_is (omega arith) head h at_i below heads;
      }
