-- An ordered table as a list of rows: what its checks say without numbers of rows, and that any selection closed under parents is ordered too.
-- Assumes nothing.
use Prim.Native.Nat.{ℕ, zero, suc, ◌+◌, ◌-◌, ◌≤◌, ◌<◌}
use mathlib.Core.Path.{◌≡◌, sym, ap, subst, ◌∙◌}
use mathlib.Core.Logic.{◌⊎◌, inl, inr, ⊎_elim}
use mathlib.Core.Bool.{Bool, true, false, ◌&&◌, ◌||◌}
use mathlib.Core.List.Memᴰ
use mathlib.Core.List.{List, [], ◌∷◌, ◌++◌}
use native.Mathlib.Nat.{eq-or-lt_of_le}
use native.Mathlib.Omega.{arith}
use lib.Dec.{eqb, ltb}
use borrow.Author.Tests.{eqb-true, eq-eqb, ltb-true, ltb-false, lt-ltb}
use Rattle.base.specs.Lists.{◌∈◌, put, select}
use Rattle.base.proofs.Bools.{either, and_left, and_right, and_both, or_left, or_right, or_cases, or_first, or_second}
use Rattle.base.proofs.Lists.{select_in, select_out}
use Rattle.tables.specs.Words.{not_identifier, row_at, row_count, rows_from, rows}
use Rattle.tables.specs.Tables.{root, is_parent, is_above, out_of_range, not_above, no_parent, wrong_depth, row_fault, table_length, order_checks, ordered_table}
use Rattle.tables.specs.declared.Row.{Row}
use Rattle.tables.proofs.Ordered.{order, Placed, placed, has_parent, root_depth, child_depth, fits_depth, rises, strictly, parent_at, parent_device}
use Rattle.tables.proofs.ParentFaults.{depth_parent}
use Rattle.tables.proofs.RowLists.{from_in, from_out, row_in, row_out}
use Rattle.tables.specs.declared.refusals.Fault.{Fault}

-- ---- order
abbrev pub Above : Row → Row → Type 0
Above p r = (p.device < r.device) ⊎ ((p.device ≡ r.device) × (p.at < r.at))

pub above_is : (p r : Row) → is_above r p ≡ true → Above p r
above_is p r e = go (or_cases (ltb p.device r.device) _ e)
  where
    go : (ltb p.device r.device ≡ true) ⊎ ((eqb p.device r.device && ltb p.at r.at) ≡ true) → Above p r
    go (inl h) = inl (ltb-true _ _ h)
    go (inr h) = inr (eqb-true _ _ (and_left _ (ltb p.at r.at) h), ltb-true _ _ (and_right (eqb p.device r.device) _ h))

pub is_above_lem : (p r : Row) → Above p r → is_above r p ≡ true
is_above_lem p r (inl h) = or_first (ltb p.device r.device) _ (lt-ltb p.device r.device h)
is_above_lem p r (inr h) =
    or_second (ltb p.device r.device) _ (and_both _ _ (eq-eqb p.device r.device h.0) (lt-ltb p.at r.at h.1))

-- (device, at) agree
pub record Key (p r : Row) : Type 0 where
  pub device : p.device ≡ r.device
  pub at : p.at ≡ r.at

pub above_key : (p r : Row) → Above p r → Key p r → ⊥
above_key p r (inl h) k = omega arith
above_key p r (inr h) k = omega arith

above_not : (p r : Row) → Above p r → Above r p → ⊥
above_not p r (inl h) (inl k) = omega arith
above_not p r (inl h) (inr k) = omega arith
above_not p r (inr h) (inl k) = omega arith
above_not p r (inr h) (inr k) = omega arith

-- each row is above all those before it
pub data Rising : List Row → Type 0 where
  none_rise : Rising []
  more_rise : {x : Row} {xs : List Row} → ((y : Row) → y ∈ xs → Above x y) → Rising xs → Rising (x ∷ xs)

-- (device, at) identifies a row
pub rising_key : {T : List Row} → Rising T → (p r : Row) → p ∈ T → r ∈ T → Key p r → p ≡ r
rising_key none_rise p r x7 _ i = elim x7 [ ]
rising_key (more_rise h t) p r (Memᴰ.head e) (Memᴰ.head k) i = e ∙ sym k
rising_key (more_rise h t) p r (Memᴰ.head e) (Memᴰ.tail k) i = absurd (above_key p r (subst (λ (z : Row). Above z r) (sym e) (h r k)) i)
rising_key (more_rise h t) p r (Memᴰ.tail e) (Memᴰ.head k) i =
    absurd (above_key r p (subst (λ (z : Row). Above z p) (sym k) (h p e)) (record { device = sym i.device; at = sym i.at }))
rising_key (more_rise h t) p r (Memᴰ.tail e) (Memᴰ.tail k) i = rising_key t p r e k i

pub rising_across : (A B : List Row) → Rising (A ++ B) → (r s : Row) → r ∈ A → s ∈ B → Above r s
rising_across [] B _ r s x4 m = elim x4 [ ]
rising_across (x ∷ A) B (more_rise h w) r s (Memᴰ.head e) m = subst (λ (z : Row). Above z s) (sym e) (h s (Memᴰ.append_right A m))
rising_across (x ∷ A) B (more_rise h w) r s (Memᴰ.tail i) m = rising_across A B w r s i m

pub rising_select : (keep : Row → Bool) {xs : List Row} → Rising xs → Rising (select keep xs)
rising_select keep none_rise = none_rise
rising_select keep (more_rise {x = x} {xs = xs} l w) = go (keep x) (rising_select keep w)
  where
    go : (b : Bool) → Rising (select keep xs) → Rising (put b x (select keep xs))
    go true k = more_rise (λ y m. l y (select_out keep xs m).0) k
    go false k = k

-- ---- what checks 9 to 11 say
pub record Parented (T : List Row) : Type 0 where
  pub ranged : (r : Row) → r ∈ T → out_of_range r ≡ false
  pub rise : Rising T
  pub parents : (r : Row) → r ∈ T → root r ≡ false → (p : Row) × (p ∈ T) × (is_parent r p ≡ true) × Above p r

-- ---- and 26
pub record Ordered (T : List Row) : Type 0 where
  pub parented : Parented T
  pub top : (r : Row) → r ∈ T → root r ≡ true → r.deep ≡ 0
  pub deeper : (r p : Row) → r ∈ T → p ∈ T → is_parent r p ≡ true → r.deep ≡ p.deep + 1

pub at_low : (r : Row) → out_of_range r ≡ false → 1 ≤ r.at
at_low r e =
    let d = not_identifier r.device in
    let a = not_identifier r.at in
    let n = not_identifier r.name in
    ltb-false r.at 1 (or_left (ltb r.at 1) (ltb 65535 r.at) (or_right d a (or_left (d || a) n e)))

module _ {T : List Row} (ok : Parented T) where
  -- no row has at 0, so a root has no parent
  pub root_alone : (r p : Row) → p ∈ T → is_parent r p ≡ true → root r ≡ true → ⊥
  root_alone r p m c e =
      let low : 1 ≤ p.at = at_low p (ok.ranged p m) in
      let up : p.at ≡ r.up = parent_at r p c in
      let none : r.up ≡ 0 = eqb-true r.up 0 e in
      omega arith

  pub up_low : (r : Row) → r ∈ T → r.up < r.at
  up_low r m = either (root r)
      (λ e. let none : r.up ≡ 0 = eqb-true r.up 0 e in let low : 1 ≤ r.at = at_low r (ok.ranged r m) in omega arith)
      (λ e. let w = ok.parents r m e in
      let up : w.0.at ≡ r.up = parent_at r w.0 w.2 in
      let same : w.0.device ≡ r.device = parent_device r w.0 w.2 in
      go w.0 up same w.3)
    where
      go : (p : Row) → p.at ≡ r.up → p.device ≡ r.device → Above p r → r.up < r.at
      go p u d (inl h) = absurd (omega arith)
      go p u d (inr h) = omega arith

-- a selection that has the parent of each of its rows
pub ordered_select : {T : List Row} → Ordered T → (keep : Row → Bool)
    → ((r p : Row) → r ∈ T → p ∈ T → keep r ≡ true → is_parent r p ≡ true → keep p ≡ true) → Ordered (select keep T)
ordered_select {T} ok keep closed = record {
  parented = record {
    ranged = λ r m. ok.parented.ranged r (select_out keep T m).0;
    rise = rising_select keep ok.parented.rise;
    parents = λ r m e.
        let i = select_out keep T m in
        let w = ok.parented.parents r i.0 e in
        (w.0, select_in keep w.1 (closed r w.0 i.0 w.1 i.1 w.2), w.2, w.3);
  };
  top = λ r m. ok.top r (select_out keep T m).0;
  deeper = λ r p m n. ok.deeper r p (select_out keep T m).0 (select_out keep T n).0;
}

-- ---- where rows rise by their numbers, a row below another one stands before it
pub before : (t : List ℕ) → ((j k : ℕ) → j < k → k < row_count t → Above (row_at t j) (row_at t k))
    → (j k : ℕ) → j < row_count t → Above (row_at t j) (row_at t k) → j < k
before t rise j k h a = either (ltb j k)
    (λ e. ltb-true j k e)
    (λ e. absurd (⊎_elim
    (λ q. above_key (row_at t j) (row_at t k) a (record { device = ap (λ (m : ℕ). (row_at t m).device) (sym q); at = ap (λ (m : ℕ). (row_at t m).at) (sym q) }))
    (λ q. above_not (row_at t j) (row_at t k) a (rise k j q h))
    (eq-or-lt_of_le (ltb-false j k e))))

-- ---- the rows of an ordered table
rising_from : (t : List ℕ) (i n : ℕ) → ((j k : ℕ) → i ≤ j → j < k → k < i + n → Above (row_at t j) (row_at t k)) → Rising (rows_from t i n)
unfolding rows_from
rising_from t i zero h = none_rise
rising_from t i (suc n) h = more_rise later (rising_from t (suc i) n (λ j k a b c. h j k (omega arith) b (omega arith)))
  where
    later : (y : Row) → y ∈ rows_from t (suc i) n → Above (row_at t i) y
    later y m = let w = from_out t (suc i) n m in subst (Above (row_at t i)) (sym w.3) (h i w.0 (omega arith) (omega (arith, w.1)) (omega (arith, w.2)))

module _ (t : List ℕ) (ok : Placed t) where
  pub rows_above : (j k : ℕ) → j < k → k < row_count t → Above (row_at t j) (row_at t k)
  rows_above j k l h = either (ltb (row_at t j).device (row_at t k).device)
      (λ e. inl (ltb-true _ _ e))
      (λ e. let u : (row_at t j).device ≤ (row_at t k).device = rises t ok j k (omega arith) h in
      let d : (row_at t k).device ≤ (row_at t j).device = ltb-false _ _ e in
      let same : (row_at t j).device ≡ (row_at t k).device = omega arith in
      inr (same, strictly t ok j k l h same))

  pub rows_parented : Parented (rows t)
  rows_parented = record {
    ranged = λ r m. let i = row_out t m in subst (λ (z : Row). out_of_range z ≡ false) (sym i.2) (ok.no_9 i.0 i.1);
    rise = rising_from t 0 (row_count t) (λ j k a b c. rows_above j k b (omega arith));
    parents = λ r m e. found r (row_out t m) e;
  }
    where
      found : (r : Row) → (j : ℕ) × (j < row_count t) × (r ≡ row_at t j) → root r ≡ false → (p : Row) × (p ∈ rows t) × (is_parent r p ≡ true) × Above p r
      found r i e =
          let w = has_parent t ok i.0 i.1 (subst (λ (z : Row). root z ≡ false) i.2 e) in
          let l : w.0 < row_count t = omega (arith, w.1, i.1) in
          (row_at t w.0, row_in t w.0 l, subst (λ (z : Row). is_parent z (row_at t w.0) ≡ true) (sym i.2) w.2, subst (Above (row_at t w.0)) (sym i.2) (rows_above w.0 i.0 w.1 i.1))

module _ (t : List ℕ) (ok : ordered_table t ≡ true) where
  pub rows_ordered : Ordered (rows t)
  rows_ordered = record {
    parented = rows_parented t (placed t ok);
    top = λ r m e. at_root r (row_out t m) e;
    deeper = λ r p m n e. below r p (row_out t m) (row_out t n) e;
  }
    where
      at_root : (r : Row) → (j : ℕ) × (j < row_count t) × (r ≡ row_at t j) → root r ≡ true → r.deep ≡ 0
      at_root r i e = ap (λ (z : Row). z.deep) i.2 ∙ root_depth t ok i.0 i.1 (subst (λ (z : Row). root z ≡ true) i.2 e)

      below : (r p : Row) → (j : ℕ) × (j < row_count t) × (r ≡ row_at t j) → (j : ℕ) × (j < row_count t) × (p ≡ row_at t j)
          → is_parent r p ≡ true → r.deep ≡ p.deep + 1
      below r p i j e =
          ap (λ (z : Row). z.deep) i.2
          ∙ child_depth t ok j.0 i.0 j.1 i.1
          (subst (λ (z : Row). is_parent (row_at t i.0) z ≡ true) j.2 (subst (λ (z : Row). is_parent z p ≡ true) i.2 e))
          ∙ ap (λ (z : Row). z.deep + 1) (sym j.2)

-- ---- ordered rows of a table short enough
rising_at : (t : List ℕ) (i n : ℕ) → Rising (rows_from t i n) → (j k : ℕ) → i ≤ j → j < k → k < i + n → Above (row_at t j) (row_at t k)
unfolding rows_from
rising_at t i zero w j k a b c = absurd (omega arith)
rising_at t i (suc n) (more_rise l w) j k a b c = ⊎_elim
    (λ e. subst (λ (m : ℕ). Above (row_at t m) (row_at t k)) e (l (row_at t k) (from_in t (suc i) n k (omega arith) (omega arith))))
    (λ m. rising_at t (suc i) n w j k m b (omega arith))
    (eq-or-lt_of_le a)

module _ (t : List ℕ) (short : table_length t ≡ true) (ok : Ordered (rows t)) where
  pub above_at : (j k : ℕ) → j < k → k < row_count t → Above (row_at t j) (row_at t k)
  above_at j k l h = rising_at t 0 (row_count t) ok.parented.rise j k (omega arith) l (omega arith)

  ordered : (i : ℕ) → i < row_count t → not_above t i ≡ false
  ordered i h = either (ltb 0 i)
      (λ e. let p : 0 < i = ltb-true 0 i e in rw (e, is_above_lem (row_at t (i - 1)) (row_at t i) (above_at (i - 1) i (omega arith) h)))
      (λ e. rw e)

  deep_right : (i : ℕ) → i < row_count t → wrong_depth t i ≡ false
  deep_right i h = either (root (row_at t i))
      (λ e. rw (e, eq-eqb (row_at t i).deep 0 (ok.top (row_at t i) (row_in t i h) e)))
      (λ e. let w = ok.parented.parents (row_at t i) (row_in t i h) e in let j = row_out t w.1 in
      let l : j.0 < i = before t above_at j.0 i j.1 (subst (λ (z : Row). Above z (row_at t i)) j.2 w.3) in
      let c : is_parent (row_at t i) (row_at t j.0) ≡ true = subst (λ (z : Row). is_parent (row_at t i) z ≡ true) j.2 w.2 in
      fits_depth t i e j.0 l c (ok.deeper (row_at t i) (row_at t j.0) (row_in t i h) (row_in t j.0 j.1) c))

  parented : (i : ℕ) → i < row_count t → no_parent t i ≡ false
  parented i h = depth_parent t i (deep_right i h)

  pub rows_faultless : (k : Fault) → k ∈ order_checks → (i : ℕ) → i < row_count t → row_fault t k i ≡ false
  unfolding row_fault
  rows_faultless k (Memᴰ.tail (Memᴰ.tail (Memᴰ.tail (Memᴰ.tail x17)))) i h = elim x17 [ ]
  rows_faultless k (Memᴰ.head e) i h = rw e (ok.parented.ranged (row_at t i) (row_in t i h))
  rows_faultless k (Memᴰ.tail (Memᴰ.head e)) i h = rw e (ordered i h)
  rows_faultless k (Memᴰ.tail (Memᴰ.tail (Memᴰ.head e))) i h = rw e (parented i h)
  rows_faultless k (Memᴰ.tail (Memᴰ.tail (Memᴰ.tail (Memᴰ.head e)))) i h = rw e (deep_right i h)

  pub rows_order : ordered_table t ≡ true
  rows_order = order t short rows_faultless
