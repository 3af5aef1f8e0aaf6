-- The code's bindings and those that they stand for: none bound, and one more. Assumes nothing.
use Prim.Native.Nat.{ℕ, zero, suc, ◌+◌, ◌<◌, ◌≤◌}
use mathlib.Core.Path.{◌≡◌, refl, sym, ap, fun_ext, ◌∙◌}
use mathlib.Core.Bool.{Bool, true, false, cond, true≢false}
use mathlib.Core.List.{List}
use native.Mathlib.Numerals.{add-one}
use native.Mathlib.Omega.{arith}
use lib.ListN.{length, get_or, set, replicate, length-set}
use lib.Seq.{get_or-set_same, get_or-set_other}
use lib.Dec.{eqb}
use borrow.Author.Tests.{eqb-true, eqb-false, lt-ltb, le-leb}
use Rattle.base.proofs.Bools.{either}
use Rattle.tables.specs.Words.{row_at, row_count}
use Rattle.tables.specs.Rules.{nesting_limit}
use Rattle.tables.specs.Tables.{row_limit}
use Rattle.logic.specs.Verdict as meaning
use Rattle.std.specs.Prelude.{Option, Some, None}
use Rattle.std.specs.Option.{is_some}
use Rattle.engine.specs.Places.{fresh, bind_at, row_of_place, place_of, bindings_of}
use Rattle.engine.specs.Ready.{Placed, meant}
use Rattle.engine.specs.declared.bindings.Bindings.{Bindings}

zeros : (n v : ℕ) → get_or {A = ℕ} (replicate n 0) v 0 ≡ 0
zeros zero v = refl
zeros (suc n) zero = refl
zeros (suc n) (suc v) = zeros n v

pub meant_fresh : (pool : List ℕ) → meant pool fresh ≡ meaning.none_bound
unfolding bindings_of
meant_fresh pool = fun_ext (λ v. ap (place_of pool) (zeros nesting_limit v))

pub placed_fresh : (pool : List ℕ) → Placed pool fresh
placed_fresh pool = record { sized = refl; shallow = omega arith; kept = λ v. omega (arith, zeros nesting_limit v) }

module _ (pool : List ℕ) (b : Bindings) (placed : Placed pool b) (room : b.depth < nesting_limit) (p : ℕ) (low : p ≤ row_limit) where
  bound_is : bind_at b p ≡ record { row = set b.row b.depth p; depth = b.depth + 1 }
  bound_is = rw (lt-ltb b.depth nesting_limit room, le-leb p row_limit low)

  pub row_bind : (bind_at b p).row ≡ set b.row b.depth p
  row_bind = ap (λ (x : Bindings). x.row) bound_is

  pub depth_bind : (bind_at b p).depth ≡ suc b.depth
  depth_bind = ap (λ (x : Bindings). x.depth) bound_is ∙ add-one b.depth

  inside : b.depth < length b.row
  inside = omega (arith, placed.sized)

  pub placed_bind : p ≤ row_count pool → Placed pool (bind_at b p)
  placed_bind h = rw bound_is (record {
    sized = length-set b.row b.depth p ∙ placed.sized;
    shallow = omega arith;
    kept = λ v. either (eqb v b.depth)
        (λ e. rw (eqb-true v b.depth e, get_or-set_same b.row b.depth p 0 inside) h)
        (λ e. rw (get_or-set_other b.row b.depth v p 0 (eqb-false v b.depth e)) (placed.kept v));
  })

  pub meant_bind : meant pool (bind_at b p) ≡ meaning.bind b.depth (place_of pool p) (meant pool b)
  unfolding bindings_of
  meant_bind = ap (λ (x : Bindings). meant pool x) bound_is ∙ fun_ext (λ v. go v (eqb v b.depth) refl)
    where
      go : (v : ℕ) (c : Bool) → eqb v b.depth ≡ c → place_of pool (get_or (set b.row b.depth p) v 0) ≡ cond c (place_of pool p) (place_of pool (get_or b.row v 0))
      go v true e = ap (place_of pool) (ap (λ (w : ℕ). get_or (set b.row b.depth p) w 0) (eqb-true v b.depth e) ∙ get_or-set_same b.row b.depth p 0 inside)
      go v false e = ap (place_of pool) (get_or-set_other b.row b.depth v p 0 (eqb-false v b.depth e))

-- a row's place
pub place_row : (pool : List ℕ) (i : ℕ) → place_of pool (i + 1) ≡ meaning.bound (row_at pool i)
place_row pool i = ap (place_of pool) (add-one i)

-- the row of a place
pub row_none : (p : ℕ) {r : Option ℕ} → r ≡ row_of_place p → r ≡ None → p ≡ 0
row_none zero e h = refl
row_none (suc i) e h = let z : Some i ≡ None = sym e ∙ h in cc

pub row_some : (p : ℕ) {r : Option ℕ} {i : ℕ} → r ≡ row_of_place p → r ≡ Some i → p ≡ suc i
row_some zero {i = i} e h = let z : None ≡ Some i = sym e ∙ h in cc
row_some (suc j) {i = i} e h = let z : Some j ≡ Some i = sym e ∙ h in cc

pub row_there : (p : ℕ) {r : Option ℕ} → r ≡ row_of_place p → is_some r ≡ true → p ≡ 0 → ⊥
row_there zero e h z = true≢false (sym h ∙ ap is_some e)
row_there (suc j) e h z = absurd (omega arith)
