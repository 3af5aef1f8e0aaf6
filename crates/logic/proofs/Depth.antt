-- In an accepted table deep is the number of rows that the row hangs under, and 26 is given at the first row where it is not. Assumes nothing.
use Prim.Native.Nat.{ℕ, zero, suc, ◌+◌, ◌<◌}
use native.Mathlib.Omega.{arith}
use mathlib.Core.Path.{◌≡◌, refl, sym, ap, subst, ◌∙◌}
use mathlib.Core.HLevel.{⊥_prop}
use mathlib.Core.Logic.{∥∥₁_elim}
use mathlib.Core.Bool.{true, false, true≢false}
use mathlib.Core.List.Pairwise
use mathlib.Core.List.{List, [], ◌∷◌, Mem, Nodup}
use lib.ListN.{length}
use borrow.Author.Tests.{eqb-true, eq-eqb, not-false}
use Rattle.base.specs.Lists.{◌∈◌}
use Rattle.base.proofs.Bools.{either}
use Rattle.tables.specs.Words.{row_at, row_count, rows}
use Rattle.tables.specs.Tables.{root, is_parent, wrong_depth, check_table, accepted_table}
use Rattle.tables.specs.declared.Row.{Row}
use Rattle.tables.specs.Answers.{Refused}
use Rattle.tables.proofs.Ordered.{Placed, has_parent, parent_fits, fits_depth, refused_26}
use Rattle.tables.proofs.OrderedRows.{rows_parented}
use Rattle.tables.proofs.Accepted.{behind, depth_le}
use Rattle.tables.proofs.Proper.{Proper, rows_proper}
use Rattle.tables.proofs.RowLists.{row_in, row_out}
use Rattle.logic.specs.Parts.{ancestors}
use Rattle.logic.specs.Demand.{Under, under_parent, under_above}
use Rattle.logic.specs.Depth.{RightDepth, DeepAt, FirstWrong, DepthCounts}
use Rattle.logic.proofs.Ancestors.{ancestor_under, under_ancestor, ancestors_child, ancestors_root}
use Rattle.tables.specs.declared.Fault.TheVariants.{Depth}

module _ (D : List Row) (ok : Proper D) where
  -- what a row hangs under is less deep
  under_less : {r s : Row} → r ∈ D → Under D r s → s.deep < r.deep
  under_less {r} {s} m (under_parent n c) = let e : r.deep ≡ s.deep + 1 = ok.order.deeper r s m n c in omega arith
  under_less {r} {s} m (under_above {p = p} n c u) =
      let e : r.deep ≡ p.deep + 1 = ok.order.deeper r p m n c in
      let l : s.deep < p.deep = under_less n u in
      omega arith

  -- so it is none of the rows that its parent hangs under
  not_above_lem : (p : Row) → p ∈ D → (s : Row) → Mem s (ancestors D p) → ¬ (p ≡ s)
  not_above_lem p m s k e = ∥∥₁_elim k ⊥_prop (λ i.
      let l : s.deep < p.deep = under_less m (ancestor_under D ok.order.parented p s i) in
      let z : p.deep ≡ s.deep = ap (λ (r : Row). r.deep) e in
      omega arith)

  -- deep counts the ancestors, and none stands twice among them
  pub record Counted (r : Row) : Type 0 where
    pub count : r.deep ≡ length (ancestors D r)
    pub each_once : Nodup (ancestors D r)

  module _ (r : Row) (m : r ∈ D) where
    counted_root : root r ≡ true → Counted r
    counted_root e =
        let none : ancestors D r ≡ [] = ancestors_root D ok.order.parented r e in
        record { count = ok.order.top r m e ∙ ap length (sym none); each_once = subst Nodup (sym none) Pairwise.nil }

    counted_child : (p : Row) → p ∈ D → is_parent r p ≡ true → Counted p → Counted r
    counted_child p i e c =
        let more : ancestors D r ≡ p ∷ ancestors D p = ancestors_child D ok.order.parented r p i e in
        let d : r.deep ≡ p.deep + 1 = ok.order.deeper r p m i e in
        let k : p.deep ≡ length (ancestors D p) = c.count in
        let z : r.deep ≡ suc (length (ancestors D p)) = omega arith in
        record {
          count = z ∙ ap length (sym more);
          each_once = subst Nodup (sym more) (Pairwise.cons (not_above_lem p i) c.each_once);
        }

  counted : (n : ℕ) (r : Row) → r ∈ D → r.deep < n → Counted r
  counted zero r m l = absurd (omega arith)
  counted (suc n) r m l = either (root r) (counted_root r m) (λ e.
      let w = ok.order.parented.parents r m e in
      let d : r.deep ≡ w.0.deep + 1 = ok.order.deeper r w.0 m w.1 w.2 in
      counted_child r m w.0 w.1 w.2 (counted n w.0 w.1 (omega arith)))

  pub deep_counts : (r : Row) → r ∈ D → Counted r
  deep_counts r m = counted (suc r.deep) r m (omega arith)

-- what a row hangs under stands before it
module _ (t : List ℕ) (ok : accepted_table t ≡ true) where
  parent_before : {r p : Row} → p ∈ rows t → is_parent r p ≡ true → (i : ℕ) → i < row_count t → r ≡ row_at t i → (j : ℕ) × (j < i) × (p ≡ row_at t j)
  parent_before {r} {p} m c i h e =
      let w = row_out t m in
      let parent = subst (λ (z : Row). is_parent (row_at t i) z ≡ true) w.2 (subst (λ (z : Row). is_parent z p ≡ true) e c) in
      (w.0, behind t ok w.0 i w.1 h parent, w.2)

  stands_before : {r s : Row} → Under (rows t) r s → (i : ℕ) → i < row_count t → r ≡ row_at t i → (j : ℕ) × (j < i) × (s ≡ row_at t j)
  stands_before (under_parent m c) i h e = parent_before m c i h e
  stands_before (under_above m c u) i h e =
      let p = parent_before m c i h e in
      let s = stands_before u p.0 (omega (arith, p.1, h)) p.2 in
      (s.0, omega (arith, s.1, p.1), s.2)

deep_at : (t : List ℕ) → accepted_table t ≡ true → (i : ℕ) → i < row_count t → DeepAt t i
deep_at t ok i h =
    let D = rows t in
    let p = rows_proper t ok in
    let c = deep_counts D p (row_at t i) (row_in t i h) in
    record {
      above = record {
        each_once = c.each_once;
        hangs = ancestor_under D p.order.parented (row_at t i);
        all_of_them = under_ancestor D p.order.parented (row_at t i);
      };
      counted = c.count;
      before = λ s u. stands_before t ok u i h refl;
      at_most = depth_le t ok i h;
    }

-- ---- a table whose rows have no fault of 9 to 11, and no wrong depth before row i
module _ (t : List ℕ) (ok : Placed t) where
  ancestors_of : (p j : ℕ) → p < row_count t → is_parent (row_at t j) (row_at t p) ≡ true
      → length (ancestors (rows t) (row_at t j)) ≡ suc (length (ancestors (rows t) (row_at t p)))
  ancestors_of p j h e = ap length (ancestors_child (rows t) (rows_parented t ok) (row_at t j) (row_at t p) (row_in t p h) e)

  no_ancestors : (j : ℕ) → root (row_at t j) ≡ true → length (ancestors (rows t) (row_at t j)) ≡ 0
  no_ancestors j e = ap length (ancestors_root (rows t) (rows_parented t ok) (row_at t j) e)

  -- a depth that fits the parent's is right if the parent's is, and the other way round
  module _ (p j : ℕ) (h : p < row_count t) (e : is_parent (row_at t j) (row_at t p) ≡ true) (right : RightDepth t p) where
    fits_right : (row_at t j).deep ≡ (row_at t p).deep + 1 → RightDepth t j
    fits_right d = let a = ancestors_of p j h e in omega (arith, d, a, right)

    right_fits : RightDepth t j → (row_at t j).deep ≡ (row_at t p).deep + 1
    right_fits d = let a = ancestors_of p j h e in omega (arith, d, a, right)

  module _ (i : ℕ) (inside : i < row_count t) (none : (j : ℕ) → j < i → wrong_depth t j ≡ false) where
    right_below : (n j : ℕ) → j < n → j < i → RightDepth t j
    right_below zero j l m = absurd (omega arith)
    right_below (suc n) j l m = either (root (row_at t j))
        (λ e. eqb-true (row_at t j).deep 0 (not-false _ (rw e at (none j m))) ∙ sym (no_ancestors j e))
        (λ e. let w = parent_fits t j e (none j m) in
        fits_right w.0 j (omega (arith, w.1)) w.2 (right_below n w.0 (omega (arith, w.1)) (omega (arith, w.1))) w.3)

    wrong_at : wrong_depth t i ≡ true → ¬ (RightDepth t i)
    wrong_at f right = either (root (row_at t i))
        (λ e. let z : (row_at t i).deep ≡ 0 = right ∙ no_ancestors i e in true≢false (sym f ∙ rw (e, eq-eqb (row_at t i).deep 0 z)))
        (λ e. let w = has_parent t ok i inside e in
        let d = right_fits w.0 i (omega (arith, w.1)) w.2 (right_below i w.0 w.1 w.1) right in
        true≢false (sym f ∙ fits_depth t i e w.0 w.1 w.2 d))

first_wrong : (t : List ℕ) (i : ℕ) → check_table t ≡ Refused Depth i → FirstWrong t i
first_wrong t i e =
    let f = refused_26 t i e in
    record {
      inside = f.inside;
      wrong = wrong_at t f.placed_rows i f.inside f.none_earlier f.at_fault_lem;
      right_before = λ j l. right_below t f.placed_rows i f.inside f.none_earlier (suc j) j (omega arith) l;
    }

pub depth_counts : DepthCounts
depth_counts = record { accepted = deep_at; refused = first_wrong }
