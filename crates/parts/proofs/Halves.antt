-- A quantifier's body over rows, by halves of those from the first one on that it ranges over. Assumes nothing.
use Prim.Native.Nat.{ℕ, ◌+◌, ◌-◌, ◌<◌, ◌≤◌}
use mathlib.Core.Path.{◌≡◌, sym, ap, ap₂, ◌∙◌}
use mathlib.Core.Bool.{Bool, true, false, beq}
use mathlib.Core.List.{List}
use native.Mathlib.Omega.{arith}
use Rattle.std.specs.Prelude.{Option, Some, None}
use borrow.Author.Tests.{ltb-true}
use Rattle.base.specs.Lists.{select}
use Rattle.base.specs.Search.{first, some, found}
use Rattle.base.proofs.Bools.{either}
use Rattle.base.proofs.Search.{none_before, at_first, none_at}
use Rattle.tables.specs.Words.{row_at, rows, rows_from}
use Rattle.tables.specs.Tables.{row_limit}
use Rattle.tables.specs.declared.Row.{Row}
use Rattle.tables.proofs.Accepted.{few_rows}
use Rattle.logic.specs.Formulas.{formula_at}
use Rattle.logic.specs.Verdict.{Place, bound, bind}
use Rattle.logic.specs.Reading as meaning
use Rattle.logic.proofs.Walks.{select_halves, select_none, select_one, select_from}
use Rattle.engine.specs.Places.{bind_at}
use Rattle.engine.specs.Ready.{meant}
use Rattle.engine.specs.declared.bindings.Bindings.{Bindings}
use Rattle.engine.proofs.Bound.{depth_bind, meant_bind, place_row}
use Rattle.parts.specs.Ranges.{ranged}
use Rattle.parts.specs.Device.{reads_at, body_at, sweeps_at, ReadySweep}
use Rattle.parts.proofs.Asking.{together, goes_on, stops, rows_read, read_none, read_append, read_one}

-- ---- what a search for the first number has found
record First (p : ℕ → Bool) (n k : ℕ) : Type 0 where
  below : k < n
  passes : p k ≡ true
  none : (j : ℕ) → j < k → p j ≡ false

found_first : (p : ℕ → Bool) (n k : ℕ) → Some k ≡ found p n → First p n k
found_first p n k e = either (some p n)
    (λ s. let k_is : k ≡ first p n = (let h : Some k ≡ Some (first p n) = (rw s at e) in cc) in
    rw k_is (record { below = ltb-true _ _ s; passes = at_first p n (ltb-true _ _ s); none = λ j l. none_before p n j l }))
    (λ s. let h : Some k ≡ None = (rw s at e) in absurd (cc))

found_none : (p : ℕ → Bool) (n : ℕ) → None ≡ found p n → (j : ℕ) → j < n → p j ≡ false
found_none p n e j l = either (some p n)
    (λ s. let h : None ≡ Some (first p n) = (rw s at e) in absurd (cc))
    (λ s. none_at p n j s l)

module _ {rule t : List ℕ} {b : Bindings} {parent : Option ℕ} {body i n : ℕ} (ready : ReadySweep rule t b parent body i n) (name : ℕ) (w whole : Bool) where
  abbrev child : Row → Bool
  child r = ranged t parent name r

  abbrev f : Row → Bool
  f r = meaning.reads w (body_at rule t b body (bound r))

  abbrev read : ℕ → ℕ → Bool
  read j k = sweeps_at rule t b parent name body w whole j k

  abbrev test : ℕ → Bool
  test j = ranged t parent name (row_at t (i + j))

  by_number : (j : ℕ) → i ≤ j → test (j - i) ≡ child (row_at t j)
  by_number j h = let z : i + (j - i) ≡ j = omega arith in ap (λ (k : ℕ). child (row_at t k)) z

  pub sweep_none : None ≡ found test n → whole ≡ read i n
  sweep_none e =
      sym (read_none whole f)
      ∙ ap (rows_read whole f) (sym (select_none child t i n (λ j a c. sym (by_number j a) ∙ found_none test n e (j - i) (omega arith))))

  module _ {k : ℕ} (e : Some k ≡ found test n) where
    pub before : k < n
    before = (found_first test n k e).below

    skip : select child (rows_from t (i + k) (n - k)) ≡ select child (rows_from t i n)
    skip =
        let z : i + n - (i + k) ≡ n - k = omega arith in
        ap (λ (m : ℕ). select child (rows_from t (i + k) m)) (sym z)
        ∙ select_from child t i n (i + k) (omega arith) (omega (arith, before)) (λ j a c. sym (by_number j a) ∙ (found_first test n k e).none (j - i) (omega arith))

    module _ (j : ℕ) (h : j ≤ n - k) {near : Bool} (near_is : near ≡ read (i + k) j) where
      halves : together whole near (read (i + k + j) (n - k - j)) ≡ read i n
      halves =
          ap (λ (z : Bool). together whole z (read (i + k + j) (n - k - j))) near_is
          ∙ sym (read_append whole f (select child (rows_from t (i + k) j)) (select child (rows_from t (i + k + j) (n - k - j))))
          ∙ ap (rows_read whole f) (sym (select_halves child t (i + k) (n - k) j h) ∙ skip)

      pub sweep_near : beq near whole ≡ false → near ≡ read i n
      sweep_near g = stops whole near _ g ∙ halves

      pub sweep_far : beq near whole ≡ true → {far : Bool} → far ≡ read (i + k + j) (n - k - j) → far ≡ read i n
      sweep_far g far_is = far_is ∙ goes_on whole near _ g ∙ halves

    pub sweep_one : n - k ≡ 1 → {b' : Bindings} → b' ≡ bind_at b (i + k + 1) → {r : Bool} → r ≡ reads_at rule t b' body w → r ≡ read i n
    sweep_one l b_is r_is =
        let m : i + k + 1 ≤ row_limit = omega (arith, before, ready.rows_inside, few_rows t (ready.ready 0 (omega arith)).pool_accepted) in
        r_is
        ∙ rw b_is (ap₂ (λ (d : ℕ) (β : ℕ → Place). meaning.reads w (meaning.reading (formula_at rule body) (rows t) d β))
        (depth_bind t b ready.placed ready.room (i + k + 1) m)
        (meant_bind t b ready.placed ready.room (i + k + 1) m ∙ ap (λ (p : Place). bind b.depth p (meant t b)) (place_row t (i + k))))
        ∙ sym (read_one whole f (row_at t (i + k)))
        ∙ ap (rows_read whole f) (sym (select_one child t (i + k) (found_first test n k e).passes) ∙ ap (λ (z : ℕ). select child (rows_from t (i + k) z)) (sym l) ∙ skip)
