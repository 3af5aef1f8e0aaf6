-- The fault of a word, and that equal siblings are looked for after all other faults. Assumes nothing.
use Prim.Native.Nat.{ℕ, ◌≤◌, ◌<◌}
use mathlib.Core.Path.{◌≡◌, refl, sym, ap, ap₂, ◌∙◌}
use mathlib.Core.Bool.{Bool, true, false, cond, not, ◌&&◌, ◌||◌}
use mathlib.Core.List.{List, [], ◌∷◌, ◌++◌, append-nil}
use native.Mathlib.Omega.{arith}
use lib.Dec.{eqb, ltb}
use borrow.Author.Tests.{lt-ltb, le-ltb}
use Rattle.base.specs.Search.{first, some}
use Rattle.base.proofs.Bools.{or_left, or_right}
use Rattle.tables.specs.Words.{not_identifier, row_count}
use Rattle.tables.specs.Rules.{is_not, is_connective, is_quantifier, is_comparison, any_name}
use Rattle.tables.specs.Rules.{bad_word}
use Rattle.tables.specs.Answers.{and_then, unless, unless_any, in_order}
use Rattle.tables.specs.Tables.{has_twin, row_fault, table_length, check_table, order_checks, check_order}
use Rattle.tables.specs.declared.Entry.{Entry}
use Rattle.tables.specs.Answers.{Done, Refused}
use Rattle.tables.specs.declared.refusals.Fault.TheVariants.{TableLength, Sibling}
use Rattle.std.specs.Prelude.{Err}
use Rattle.tables.specs.declared.refusals.Fault.{Fault}
use Rattle.tables.specs.declared.refusals.Refusal.{Refusal}

-- ---- 3 asks for the most that b may be in comparisons, and there alone
module _ (e : Entry) where
  abbrev b_due : Bool
  b_due = is_not e && not (eqb e.b 0)

  abbrev c_due : Bool
  c_due = (is_not e || is_connective e) && not (eqb e.c 0)

  abbrev bad_name : Bool
  bad_name = is_quantifier e && not (eqb e.c any_name) && not_identifier e.c

  abbrev too_high : ℕ → Bool
  too_high most = is_comparison e && ltb most e.b

  pub not_too_high : (most : ℕ) → bad_word most e ≡ false → (is_comparison e && ltb most e.b) ≡ false
  not_too_high most h = or_right (b_due || c_due) (too_high most) (or_left (b_due || c_due || too_high most) bad_name h)

  pub words_same : (m n : ℕ) → (is_comparison e && ltb m e.b) ≡ (is_comparison e && ltb n e.b) → bad_word m e ≡ bad_word n e
  words_same m n h = ap (λ (x : Bool). b_due || c_due || x || bad_name) h

-- ---- siblings come after all others
in_order_append : (fault : Fault → ℕ → Bool) (n : ℕ) (ks js : List Fault)
    → in_order fault n (ks ++ js) ≡ and_then (in_order fault n ks) (in_order fault n js)
in_order_append fault n [] js = refl
in_order_append fault n (k ∷ ks) js = go (some (fault k) n) (in_order_append fault n ks js)
  where
    go : (b : Bool) → in_order fault n (ks ++ js) ≡ and_then (in_order fault n ks) (in_order fault n js)
        → cond b (Refused k (first (fault k) n)) (in_order fault n (ks ++ js))
        ≡ and_then (cond b (Refused k (first (fault k) n)) (in_order fault n ks)) (in_order fault n js)
    go true ih = refl
    go false ih = ih

module _ (t : List ℕ) where
  siblings_last : check_table t ≡ and_then (check_order t) (unless_any (row_fault t Sibling) Sibling (row_count t) (Done (row_count t)))
  unfolding check_table check_order
  siblings_last = go (table_length t)
    where
      go : (b : Bool) → unless b TableLength (in_order (row_fault t) (row_count t) (order_checks ++ Sibling ∷ []))
          ≡ and_then (unless b TableLength (in_order (row_fault t) (row_count t) order_checks)) (in_order (row_fault t) (row_count t) (Sibling ∷ []))
      go true = in_order_append (row_fault t) (row_count t) order_checks (Sibling ∷ [])
      go false = refl

  pub stop_before : {r : Refusal} → check_order t ≡ Err r → Err r ≡ check_table t
  stop_before e = sym (siblings_last ∙ rw e)

  module _ {m : ℕ} (passed : check_order t ≡ Done m) {n : ℕ} (n_is : n ≡ row_count t) {u : List ℕ} (u_is : u ≡ [])
      {twin : ℕ} (twin_is : twin ≡ first (has_twin (t ++ u)) n) where
    sibling_fault : first (row_fault t Sibling) (row_count t) ≡ twin
    unfolding row_fault
    sibling_fault = sym (twin_is ∙ ap₂ (λ (x : List ℕ) (y : ℕ). first (has_twin x) y) (ap (◌++◌ t) u_is ∙ append-nil t) n_is)

    pub stop_at_twin : twin < n → Refused Sibling twin ≡ check_table t
    stop_at_twin h = let l : twin < row_count t = omega arith in sym (siblings_last ∙ rw (passed, sibling_fault, lt-ltb twin (row_count t) l))

    pub all_passed : n ≤ twin → Done n ≡ check_table t
    all_passed h = let l : row_count t ≤ twin = omega arith in ap Done n_is ∙ sym (siblings_last ∙ rw (passed, sibling_fault, le-ltb twin (row_count t) l))
