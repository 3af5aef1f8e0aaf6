-- The pass over the parents: what it finds, row by row, are the first faults 11 and 26, and what its answer tells. Assumes nothing.
use Prim.Native.Nat.{ℕ, ◌<◌}
use mathlib.Core.Path.{◌≡◌, sym, ap, ap₂, fun_ext, ◌∙◌}
use mathlib.Core.Bool.{Bool, true, false, cond, not, ◌&&◌, ◌||◌, and-true}
use mathlib.Core.List.{List}
use native.Mathlib.Omega.{arith}
use lib.Dec.{eqb}
use borrow.Author.Tests.{eqb-true, ltb-true, lt-ltb, le-ltb, not-false}
use Rattle.base.specs.Search.{first, some, found}
use Rattle.base.proofs.Bools.{either, and_left, and_right}
use Rattle.base.proofs.Search.{at_first, some_at}
use Rattle.tables.specs.Words.{row_at}
use Rattle.tables.specs.Tables.{root, is_parent, is_deeper, no_parent, wrong_depth}
use Rattle.tables.specs.declared.Row.{Row}
use Rattle.tables.specs.Links.{place_hash, fits_parent, parent_fault, check_parents}
use Rattle.tables.specs.Refusals.{refusal_at}
use Rattle.tables.specs.declared.refusals.Refusal.{Refusal}
use Rattle.tables.specs.declared.refusals.Fault.{Fault}
use Rattle.tables.specs.declared.refusals.Fault.TheVariants.{Parent, Depth}
use Rattle.std.specs.Prelude.{Some, None, Result, Err}
use Rattle.tables.proofs.Searches.{found_some, found_none}

-- ---- a parent has the hash of device and up
pub parent_hash : (deep : Bool) (r p : Row) → fits_parent deep r p ≡ true
    → place_hash p.device p.at ≡ place_hash r.device r.up
unfolding fits_parent
parent_hash deep r p e =
    let d : Bool = eqb p.device r.device in
    let a : Bool = eqb p.at r.up in
    let f : d && a ≡ true = and_left (d && a) (not deep || is_deeper r p) e in
    ap₂ place_hash (eqb-true _ _ (and_left d a f)) (eqb-true _ _ (and_right d a f))

-- ---- the faults of row i, read as r
module _ (t : List ℕ) (i : ℕ) (r : Row) (r_is : r ≡ row_at t i) where
  pub wrong_is : wrong_depth t i ≡ not (cond (root r) (eqb r.deep 0) (some (λ j. fits_parent true r (row_at t j)) i))
  unfolding fits_parent
  wrong_is = sym (ap (λ (x : Row). not (cond (root x) (eqb x.deep 0) (some (λ j. fits_parent true x (row_at t j)) i))) r_is)

  pub parent_is : no_parent t i ≡ (not (root r) && not (some (λ j. fits_parent false r (row_at t j)) i))
  unfolding fits_parent
  parent_is =
      sym (ap (λ (x : Row). not (root x) && not (some (λ j. fits_parent false x (row_at t j)) i)) r_is
      ∙ ap (λ (p : ℕ → Bool). not (root (row_at t i)) && not (some p i)) (fun_ext (λ j. and-true (is_parent (row_at t i) (row_at t j)))))

-- a row without its parent has no right depth
pub depth_parent : (t : List ℕ) (i : ℕ) → wrong_depth t i ≡ false → no_parent t i ≡ false
depth_parent t i e = either (root (row_at t i))
    (λ o. rw o)
    (λ o.
    let fits : ℕ → Bool = λ j. is_parent (row_at t i) (row_at t j) && is_deeper (row_at t i) (row_at t j) in
    let s : some fits i ≡ true = not-false _ (rw o at e) in
    let l : first fits i < i = ltb-true _ _ s in
    let p = and_left (is_parent (row_at t i) (row_at t (first fits i))) _ (at_first fits i l) in
    rw (o, some_at (λ j. is_parent (row_at t i) (row_at t j)) i (first fits i) l p))

-- what its fault tells of row i
module _ (t : List ℕ) (i : ℕ) where
  pub no_fault : None ≡ parent_fault t i → (no_parent t i ≡ false) × (wrong_depth t i ≡ false)
  unfolding parent_fault
  no_fault e = either (wrong_depth t i)
      (λ p. let q : None ≡ Some (cond (no_parent t i) Parent Depth) = (rw p at e) in absurd cc)
      (λ p. (depth_parent t i p, p))

  pub is_fault : (f : Fault) → Some f ≡ parent_fault t i → (f ≡ cond (no_parent t i) Parent Depth) × (wrong_depth t i ≡ true)
  unfolding parent_fault
  is_fault f e = either (wrong_depth t i)
      (λ p. let q : Some f ≡ Some (cond (no_parent t i) Parent Depth) = (rw p at e) in let z : f ≡ cond (no_parent t i) Parent Depth = cc in (z, p))
      (λ p. let q : Some f ≡ None = (rw p at e) in absurd cc)

  pub is_parent_fault : (f : Fault) → Some f ≡ parent_fault t i → f ≡ Parent → no_parent t i ≡ true
  is_parent_fault f e h = either (no_parent t i)
      (λ p. p)
      (λ p. let q : Parent ≡ Depth = sym h ∙ (rw p at (is_fault f e).0) in absurd cc)

  pub is_other_fault : (f : Fault) → Some f ≡ parent_fault t i → (f ≡ Parent → ⊥) → (no_parent t i ≡ false) × (wrong_depth t i ≡ true)
  is_other_fault f e h = (either (no_parent t i) (λ p. absurd (h (rw p at (is_fault f e).0))) (λ p. p), (is_fault f e).1)

-- ---- what the pass answers
module _ (t : List ℕ) (n : ℕ) where
  pub missing_first : (i : ℕ) → found (no_parent t) n ≡ Some i → Err (record { fault = Parent; place = i }) ≡ check_parents t n
  missing_first i e =
      let f = found_some (no_parent t) n i e in
      let l : first (no_parent t) n < n = omega (arith, f.0, f.1) in
      sym (rw (lt-ltb _ _ l, ← f.0))

  pub none_missing : found (no_parent t) n ≡ None → (r : Result (Unit {0}) Refusal) → r ≡ refusal_at Depth (found (wrong_depth t) n) → r ≡ check_parents t n
  none_missing e r r_is = r_is ∙ sym (rw (le-ltb _ _ (found_none (no_parent t) n e)))
