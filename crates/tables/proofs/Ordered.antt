-- What a table tells that has no fault but, maybe, 12: whole rows, rows that rise, parents before, depths, devices in one piece. Assumes
-- nothing.
use Prim.Native.Nat.{ℕ, zero, suc, ◌+◌, ◌-◌, ◌*◌, ◌≤◌, ◌<◌}
use mathlib.Core.Path.{◌≡◌, refl, sym, ap, ◌∙◌}
use mathlib.Core.Logic.{⊎_elim}
use mathlib.Core.Bool.{Bool, true, false, not, ◌&&◌, ◌||◌, true≢false}
use mathlib.Core.List.{List}
use native.Mathlib.Nat.{eq-or-lt_of_le}
use native.Mathlib.Omega.{arith}
use lib.ListN.{length}
use lib.Dec.{ltb, leb, eqb}
use borrow.Author.Tests.{eq-eqb, lt-ltb, ltb-true, ltb-false, leb-true, leb-false, eqb-true, not-false}
use Rattle.base.specs.Lists.{◌∈◌}
use Rattle.base.specs.Search.{first, some}
use Rattle.base.proofs.Bools.{either, and_left, and_right, and_both, or_left, or_right}
use Rattle.base.proofs.Search.{at_first, none_before, some_at}
use Rattle.tables.specs.Answers.{value, Done, is_done, in_order}
use Rattle.tables.specs.Words.{not_identifier, row_words, row_at, row_count}
use Rattle.tables.specs.Tables.{root, is_parent, is_deeper, is_above, out_of_range, not_above, no_parent, wrong_depth, row_fault, row_limit, table_length, table_checks, check_table, order_checks, check_order, ordered_table}
use Rattle.tables.specs.Devices.{from_device}
use Rattle.tables.specs.Answers.{Refused}
use Rattle.tables.specs.declared.Row.{Row}
use Rattle.tables.proofs.Answers.{before, unless_ok, unless_next, unless_passed, unless_past, listed, no_fault, in_order_passed, FirstAtFault, first_at_fault, passed_earlier}
use Rattle.tables.proofs.Whole.{whole_lines, table_whole, table_few}
use Rattle.tables.specs.declared.refusals.Fault.TheVariants.{TableLength, Range, Order, Parent, Depth}
use Rattle.tables.specs.declared.refusals.Fault.{Fault}
use Rattle.tables.specs.Refusals.{number_of}

identifier : (x : ℕ) → not_identifier x ≡ false → (1 ≤ x) × (x ≤ 65535)
identifier x e =
    (ltb-false x 1 (or_left (ltb x 1) (ltb 65535 x) e), ltb-false 65535 x (or_right (ltb x 1) (ltb 65535 x) e))

-- a parent is of the same device, and up names its at
pub parent_device : (r p : Row) → is_parent r p ≡ true → p.device ≡ r.device
parent_device r p e = eqb-true p.device r.device (and_left (eqb p.device r.device) (eqb p.at r.up) e)

pub parent_at : (r p : Row) → is_parent r p ≡ true → p.at ≡ r.up
parent_at r p e = eqb-true p.at r.up (and_right (eqb p.device r.device) (eqb p.at r.up) e)

module _ (t : List ℕ) where
  -- without faults but 12 it is ordered
  pub order : table_length t ≡ true → ((k : Fault) → k ∈ order_checks → (i : ℕ) → i < row_count t → row_fault t k i ≡ false) → ordered_table t ≡ true
  unfolding check_order
  order l h =
      ap is_done
      (unless_passed (table_length t) TableLength (in_order (row_fault t) (row_count t) order_checks) l ∙ in_order_passed (row_fault t) (row_count t) order_checks h)

-- ---- no row has a fault of 9 to 11
pub record Placed (t : List ℕ) : Type 0 where
  pub no_9 : (i : ℕ) → i < row_count t → out_of_range (row_at t i) ≡ false
  pub no_10 : (i : ℕ) → i < row_count t → not_above t i ≡ false
  pub no_11 : (i : ℕ) → i < row_count t → no_parent t i ≡ false

-- by the list of the checks: a table whose rows have no fault of these numbers
pub placed_by : (t : List ℕ) → ((k : Fault) → before k Depth table_checks ≡ true → (i : ℕ) → i < row_count t → row_fault t k i ≡ false) → Placed t
unfolding row_fault
placed_by t h = record { no_9 = h Range refl; no_10 = h Order refl; no_11 = h Parent refl }

module _ (t : List ℕ) (ok : Placed t) where
  -- ---- ranges
  module _ (i : ℕ) (h : i < row_count t) where
    but_name : (not_identifier (row_at t i).device || not_identifier (row_at t i).at) ≡ false
    but_name = or_left _ (not_identifier (row_at t i).name) (ok.no_9 i h)

    pub device_range : (1 ≤ (row_at t i).device) × ((row_at t i).device ≤ 65535)
    device_range = identifier (row_at t i).device (or_left _ (not_identifier (row_at t i).at) but_name)

    pub at_range : (1 ≤ (row_at t i).at) × ((row_at t i).at ≤ 65535)
    at_range = identifier (row_at t i).at (or_right (not_identifier (row_at t i).device) _ but_name)

    pub name_range : (1 ≤ (row_at t i).name) × ((row_at t i).name ≤ 65535)
    name_range = identifier (row_at t i).name (or_right (not_identifier (row_at t i).device || not_identifier (row_at t i).at) _ (ok.no_9 i h))

  -- ---- order
  -- the device and the at of a row
  abbrev device_at : ℕ → ℕ
  device_at i = (row_at t i).device

  abbrev at_at : ℕ → ℕ
  at_at i = (row_at t i).at

  -- a row stands above the row before
  pub above : (i : ℕ) → suc i < row_count t → is_above (row_at t (suc i)) (row_at t i) ≡ true
  above i h =
      let p : 0 < suc i = omega arith in
      let q : suc i - 1 ≡ i = omega arith in
      let e : not_above t (suc i) ≡ false = ok.no_10 (suc i) h in
      not-false _ (rw (lt-ltb 0 (suc i) p, q) at e)

  rise : (i : ℕ) → suc i < row_count t → device_at i ≤ device_at (suc i)
  rise i h = either (ltb (device_at i) (device_at (suc i)))
      (λ s. omega (arith, ltb-true (device_at i) (device_at (suc i)) s))
      (λ s. let e : (eqb (device_at i) (device_at (suc i)) && ltb (at_at i) (at_at (suc i))) ≡ true = (rw s at (above i h)) in
      omega (arith, eqb-true (device_at i) (device_at (suc i)) (and_left _ _ e)))

  -- rows rise by device
  pub rises : (i j : ℕ) → i ≤ j → j < row_count t → (row_at t i).device ≤ (row_at t j).device
  rises i zero h l = let e : i ≡ 0 = omega arith in omega (arith, ap device_at e)
  rises i (suc j) h l = ⊎_elim
      (λ e. omega (arith, ap device_at e))
      (λ m. let m' : i ≤ j = omega arith in let l' : j < row_count t = omega arith in omega (arith, rises i j m' l', rise j l))
      (eq-or-lt_of_le h)

  -- rows of one device rise by at
  pub strictly : (i j : ℕ) → i < j → j < row_count t → (row_at t i).device ≡ (row_at t j).device → (row_at t i).at < (row_at t j).at
  strictly i zero h l e = absurd (omega arith)
  strictly i (suc j) h l e =
      let m : i ≤ j = omega arith in
      let l' : j < row_count t = omega arith in
      let up : device_at i ≤ device_at j = rises i j m l' in
      let one : device_at j ≤ device_at (suc j) = rise j l in
      let step : at_at j < at_at (suc j) = either (ltb (device_at j) (device_at (suc j)))
      (λ s. let q : device_at j < device_at (suc j) = ltb-true (device_at j) (device_at (suc j)) s in absurd (omega arith))
      (λ s. ltb-true (at_at j) (at_at (suc j)) (and_right (eqb (device_at j) (device_at (suc j))) (ltb (at_at j) (at_at (suc j))) (rw s at (above j l)))) in
      ⊎_elim
      (λ q. let z : at_at i ≡ at_at j = ap at_at q in omega arith)
      (λ q. let z : at_at i < at_at j = strictly i j q l' (omega arith) in omega arith)
      (eq-or-lt_of_le m)

  -- (device, at) identifies a row
  pub same_place : (i j : ℕ) → i < row_count t → j < row_count t → (row_at t i).device ≡ (row_at t j).device → (row_at t i).at ≡ (row_at t j).at → i ≡ j
  same_place i j hi hj e f = either (ltb i j)
      (λ s. absurd (omega (arith, strictly i j (ltb-true i j s) hj e)))
      (λ s. either (ltb j i)
      (λ u. absurd (omega (arith, strictly j i (ltb-true j i u) hi (sym e))))
      (λ u. omega (arith, ltb-false i j s, ltb-false j i u)))

  -- ---- parents
  -- a row that is no root has its parent among the rows before
  pub has_parent : (i : ℕ) → i < row_count t → root (row_at t i) ≡ false → (p : ℕ) × (p < i) × (is_parent (row_at t i) (row_at t p) ≡ true)
  has_parent i h e =
      let s : some (λ j. is_parent (row_at t i) (row_at t j)) i ≡ true = found (root (row_at t i)) _ e (ok.no_11 i h) in
      let m : first (λ j. is_parent (row_at t i) (row_at t j)) i < i = ltb-true _ _ s in
      (first (λ j. is_parent (row_at t i) (row_at t j)) i, m, at_first (λ j. is_parent (row_at t i) (row_at t j)) i m)
    where
      found : (a b : Bool) → a ≡ false → (not a && not b) ≡ false → b ≡ true
      found a true e f = refl
      found true false e f = absurd (true≢false e)
      found false false e f = sym f

  -- a row with a parent is no root: no row has at 0
  pub parent_no_root : (p i : ℕ) → p < row_count t → is_parent (row_at t i) (row_at t p) ≡ true → root (row_at t i) ≡ false
  parent_no_root p i hp e = either (root (row_at t i))
      (λ s. absurd (omega (arith, (at_range p hp).0, parent_at (row_at t i) (row_at t p) e, eqb-true (row_at t i).up 0 s)))
      (λ s. s)

  -- it has one parent
  pub one_parent : (p q i : ℕ) → p < row_count t → q < row_count t → is_parent (row_at t i) (row_at t p) ≡ true → is_parent (row_at t i) (row_at t q) ≡ true → p ≡ q
  one_parent p q i hp hq e f = same_place p q hp hq
      (parent_device (row_at t i) (row_at t p) e ∙ sym (parent_device (row_at t i) (row_at t q) f))
      (parent_at (row_at t i) (row_at t p) e ∙ sym (parent_at (row_at t i) (row_at t q) f))

  -- a row stands behind its parent
  pub behind : (p i : ℕ) → p < row_count t → i < row_count t → is_parent (row_at t i) (row_at t p) ≡ true → p < i
  behind p i hp hi e =
      let q = has_parent i hi (parent_no_root p i hp e) in
      let g : q.0 ≡ p = one_parent q.0 p i (omega (arith, q.1)) hp q.2 e in
      omega (arith, q.1)

  -- ---- the rows of device d are those from from_device d up to from_device (d + 1)
  module _ (d i : ℕ) (h : i < row_count t) where
    pub in_part : from_device t d ≤ i → i < from_device t (d + 1) → (row_at t i).device ≡ d
    in_part a b =
        let u : device_at i ≤ d = omega (arith, leb-false (d + 1) (device_at i) (none_before (λ k. leb (d + 1) (device_at k)) (row_count t) i b)) in
        let w : d ≤ device_at (from_device t d) = leb-true d (device_at (from_device t d)) (at_first (λ k. leb d (device_at k)) (row_count t) (omega arith)) in
        omega (arith, rises (from_device t d) i a h)

    pub of_device_lem : (row_at t i).device ≡ d → (from_device t d ≤ i) × (i < from_device t (d + 1))
    of_device_lem e = (
      either (ltb i (from_device t d))
          (λ s. absurd (omega (arith, leb-false d (device_at i) (none_before (λ k. leb d (device_at k)) (row_count t) i (ltb-true i (from_device t d) s)))))
          (λ s. ltb-false i (from_device t d) s),
      either (ltb i (from_device t (d + 1)))
          (λ s. ltb-true i (from_device t (d + 1)) s)
          (λ s. let g : from_device t (d + 1) ≤ i = ltb-false i (from_device t (d + 1)) s in
          let w : d + 1 ≤ device_at (from_device t (d + 1))
          = leb-true (d + 1) (device_at (from_device t (d + 1))) (at_first (λ k. leb (d + 1) (device_at k)) (row_count t) (omega arith)) in
          absurd (omega (arith, rises (from_device t (d + 1)) i g h))),
    )

-- ---- the depth of row i by its parent's
module _ (t : List ℕ) (i : ℕ) (e : root (row_at t i) ≡ false) where
  -- a right one: some earlier row is its parent, and it is one deeper
  pub parent_fits : wrong_depth t i ≡ false
      → (p : ℕ) × (p < i) × (is_parent (row_at t i) (row_at t p) ≡ true) × ((row_at t i).deep ≡ (row_at t p).deep + 1)
  parent_fits d =
      let fits : ℕ → Bool = λ j. is_parent (row_at t i) (row_at t j) && is_deeper (row_at t i) (row_at t j) in
      let s : some fits i ≡ true = not-false _ (rw e at d) in
      let m : first fits i < i = ltb-true _ _ s in
      let f = at_first fits i m in
      let c = and_left (is_parent (row_at t i) (row_at t (first fits i))) _ f in
      (first fits i, m, c, eqb-true _ _ (and_right (is_parent (row_at t i) (row_at t (first fits i))) _ f))

  pub fits_depth : (p : ℕ) → p < i → is_parent (row_at t i) (row_at t p) ≡ true → (row_at t i).deep ≡ (row_at t p).deep + 1 → wrong_depth t i ≡ false
  fits_depth p l c d =
      let fits : ℕ → Bool = λ j. is_parent (row_at t i) (row_at t j) && is_deeper (row_at t i) (row_at t j) in
      rw (e, some_at fits i p l (and_both _ _ c (eq-eqb _ _ d)))

-- ---- what an ordered table tells besides: its length, and depths
module _ (t : List ℕ) (ok : ordered_table t ≡ true) where
  pub length_ok : table_length t ≡ true
  unfolding check_order
  length_ok = unless_ok (table_length t) TableLength (in_order (row_fault t) (row_count t) order_checks) ok

  -- the words are those of whole rows
  pub whole_rows : length t ≡ row_words * row_count t
  whole_rows = whole_lines row_words t (table_whole t length_ok)

  pub few_rows : row_count t ≤ row_limit
  few_rows = table_few t length_ok

  -- no row has a fault but 12
  faultless : (k : Fault) → k ∈ order_checks → (i : ℕ) → i < row_count t → row_fault t k i ≡ false
  unfolding check_order
  faultless = no_fault (row_fault t) (row_count t) order_checks (unless_next (table_length t) TableLength (in_order (row_fault t) (row_count t) order_checks) ok)

  -- the checks answer the number of rows
  pub order_count : (n : ℕ) → check_order t ≡ Done n → n ≡ row_count t
  unfolding check_order
  order_count n e =
      let all = unless_passed (table_length t) TableLength (in_order (row_fault t) (row_count t) order_checks) length_ok
      ∙ in_order_passed (row_fault t) (row_count t) order_checks faultless in
      ap value (sym e ∙ all)

  pub placed : Placed t
  unfolding row_fault
  placed = record {
    no_9 = faultless Range (listed order_checks Range refl);
    no_10 = faultless Order (listed order_checks Order refl);
    no_11 = faultless Parent (listed order_checks Parent refl);
  }

  no_26 : (i : ℕ) → i < row_count t → wrong_depth t i ≡ false
  unfolding row_fault
  no_26 = faultless Depth (listed order_checks Depth refl)

  -- ---- depths: 0 at a root, one more than the parent's elsewhere
  pub root_depth : (i : ℕ) → i < row_count t → root (row_at t i) ≡ true → (row_at t i).deep ≡ 0
  root_depth i h e = eqb-true (row_at t i).deep 0 (not-false _ (rw e at (no_26 i h)))

  pub child_depth : (p i : ℕ) → p < row_count t → i < row_count t → is_parent (row_at t i) (row_at t p) ≡ true → (row_at t i).deep ≡ (row_at t p).deep + 1
  child_depth p i hp hi e =
      let w = parent_fits t i (parent_no_root t placed p i hp e) (no_26 i hi) in
      w.3 ∙ ap (λ (j : ℕ). (row_at t j).deep + 1) (one_parent t placed w.0 p i (omega (arith, w.1)) hp w.2 e)

  -- fewer rows stand above a row than before it
  depth_below : (n i : ℕ) → i < n → i < row_count t → (row_at t i).deep ≤ i
  depth_below zero i l h = absurd (omega arith)
  depth_below (suc n) i l h = either (root (row_at t i))
      (λ e. omega (arith, root_depth i h e))
      (λ e. let w = has_parent t placed i h e in
      let hp : w.0 < row_count t = omega (arith, w.1) in
      omega (arith, w.1, child_depth w.0 i hp h w.2, depth_below n w.0 (omega (arith, w.1)) hp))

  pub depth_le : (i : ℕ) → i < row_count t → (row_at t i).deep ≤ i
  depth_le i h = depth_below (suc i) i (omega arith) h

-- ---- a refused table: but for 8, the place is the first row with the fault of that number, and no row has an earlier one
module _ (t : List ℕ) (k : Fault) (p : ℕ) (h : TableLength ≡ k → ⊥) (refused : check_table t ≡ Refused k p) where
  in_rows : in_order (row_fault t) (row_count t) table_checks ≡ Refused k p
  unfolding check_table
  in_rows = unless_past (table_length t) TableLength _ k p h refused

  pub refused_row : FirstAtFault (row_fault t) (row_count t) k p
  refused_row = first_at_fault (row_fault t) (row_count t) k p table_checks in_rows

  pub passed_rows : (x : Fault) → before x k table_checks ≡ true → (i : ℕ) → i < row_count t → row_fault t x i ≡ false
  passed_rows = passed_earlier (row_fault t) (row_count t) k p table_checks in_rows

-- with 26: rows before it have right depths, and no row has a fault of 9 to 11
pub record FirstDepth (t : List ℕ) (i : ℕ) : Type 0 where
  pub inside : i < row_count t
  pub at_fault_lem : wrong_depth t i ≡ true
  pub none_earlier : (j : ℕ) → j < i → wrong_depth t j ≡ false
  pub placed_rows : Placed t

not_length : TableLength ≡ Depth → ⊥
not_length e = let z : number_of TableLength ≡ number_of Depth = ap number_of e in omega arith

pub refused_26 : (t : List ℕ) (i : ℕ) → check_table t ≡ Refused Depth i → FirstDepth t i
unfolding row_fault
refused_26 t i e =
    let r = refused_row t Depth i not_length e in
    record {
      inside = r.inside;
      at_fault_lem = r.at_fault_lem;
      none_earlier = r.none_earlier;
      placed_rows = placed_by t (passed_rows t Depth i not_length e);
    }
