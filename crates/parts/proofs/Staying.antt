-- A row stays where it passes its mode's test and it is a root or its parent stays. Assumes nothing.
use Prim.Native.Nat.{ℕ, ◌+◌, ◌<◌}
use mathlib.Core.Path.{◌≡◌, refl, sym, ap, ◌∙◌}
use mathlib.Core.Bool.{Bool, true, false, not, cond, ◌&&◌, ◌||◌, and-true, true≢false}
use mathlib.Core.List.{List}
use native.Mathlib.Omega.{arith}
use lib.ListN.{length, get_or, set, length-set}
use lib.Seq.{get_or-set_same, get_or-set_other}
use mathlib.Core.Logic.{⊎_elim}
use native.Mathlib.Nat.{eq-or-lt_of_le}
use lib.Dec.{eqb}
use borrow.Author.Tests.{eqb-true, eqb-false}
use Rattle.base.specs.Lists.{all}
use Rattle.base.proofs.Bools.{either}
use Rattle.base.proofs.Search.{none_before}
use Rattle.tables.specs.Words.{row_at, rows}
use Rattle.tables.specs.Tables.{root, is_parent, row_limit, accepted_table}
use Rattle.tables.specs.declared.Row.{Row}
use Rattle.tables.proofs.Accepted.{few_rows, has_parent}
use Rattle.tables.proofs.RowLists.{row_in}
use Rattle.tables.proofs.Proper.{rows_proper}
use Rattle.logic.specs.Formulas.{Formula}
use Rattle.logic.specs.Parts.{ancestors}
use Rattle.logic.proofs.Ancestors.{stays_child, stays_root}
use denote.Enum.Bare.{sameb}
use Rattle.parts.specs.declared.modes.Mode.{Mode}
use Rattle.parts.specs.declared.modes.Mode.TheVariants.{All, Branch, Full}
use Rattle.parts.specs.contracts.modes.Mode as modes
use Rattle.parts.specs.Modes.{word_of}
use Rattle.parts.specs.Families.{parent_of, family_at, Families}
use Rattle.parts.specs.declared.families.Family.{Family}
use Rattle.parts.specs.Omitting.{omitted}
use Rattle.parts.specs.Keeping.{left_out, passes, stays, Keeps, ReadyRow}
use Rattle.parts.proofs.Parentage.{parent_le, parent_before, parent_is}

pub is_all : (m : Mode) → sameb modes.the_type m All ≡ eqb (word_of m) 1
is_all All = refl
is_all Branch = refl
is_all Full = refl

module _ {Fs : List Formula} {t : List ℕ} {kept : List Bool} {m i : ℕ} (ok : accepted_table t ≡ true) {fs : List Family} (has : Families t fs) (ready : ReadyRow Fs t kept m i) where
  abbrev D : List Row
  D = rows t

  abbrev stay : ℕ → Bool
  stay j = stays m Fs D (row_at t j)

  parent_at : (family_at fs i).parent ≡ parent_of t i
  parent_at = has.parent i ready.row_inside

  pub parent_inside : (family_at fs i).parent < length kept
  parent_inside = omega (arith, few_rows t ok, ready.row_inside, ready.kept_before.sized, parent_at, parent_le t ok i ready.row_inside)

  -- without a parent it is a root
  is_root : parent_of t i ≡ i → root (row_at t i) ≡ true
  unfolding parent_of
  is_root e = either (root (row_at t i)) (λ f. f)
      (λ f. let q = has_parent t ok i ready.row_inside f in
      absurd (true≢false (sym q.2 ∙ none_before (λ j. is_parent (row_at t i) (row_at t j)) i q.0 (omega (arith, q.1)))))

  -- what is left to its own test, once its parent stays
  abbrev own : Bool
  own = eqb m 1 || passes m Fs D (row_at t i)

  go_root : (b : Bool) (r : Bool) → cond b true (passes m Fs D (row_at t i) && r) ≡ ((b || passes m Fs D (row_at t i)) && cond b true r)
  go_root true r = refl
  go_root false r = refl

  stay_root : parent_of t i ≡ i → stay i ≡ own
  unfolding stays
  stay_root e =
      ap (λ (b : Bool). cond (eqb m 1) true b) (stays_root D (rows_proper t ok).order.parented (passes m Fs D) (row_at t i) (is_root e))
      ∙ go_root (eqb m 1) true ∙ go (eqb m 1)
    where
      go : (b : Bool) → ((b || passes m Fs D (row_at t i)) && cond b true true) ≡ (b || passes m Fs D (row_at t i))
      go true = refl
      go false = and-true (passes m Fs D (row_at t i))

  stay_child : (parent_of t i ≡ i → ⊥) → stay i ≡ (own && stay (parent_of t i))
  unfolding stays
  stay_child n =
      ap (λ (b : Bool). cond (eqb m 1) true b)
      (stays_child D (rows_proper t ok).order.parented (passes m Fs D) (row_at t i) (row_at t (parent_of t i))
      (row_in t (parent_of t i) (omega (arith, parent_before t ok i ready.row_inside n, ready.row_inside)))
      (parent_is t ok i ready.row_inside n))
      ∙ go_root (eqb m 1) (passes m Fs D (row_at t (parent_of t i)) && all (passes m Fs D) (ancestors D (row_at t (parent_of t i))))

  stay_is : stay i ≡ (not (left_out fs kept i) && own)
  stay_is = either (eqb (family_at fs i).parent i)
      (λ e. rw e (stay_root (sym parent_at ∙ eqb-true (family_at fs i).parent i e)))
      (λ e. let n : parent_of t i ≡ i → ⊥ = λ q. eqb-false (family_at fs i).parent i e (parent_at ∙ q) in
      let k : get_or kept (family_at fs i).parent false ≡ stay (parent_of t i) =
      ap (λ (p : ℕ). get_or kept p false) parent_at ∙ ready.kept_before.kept_is (parent_of t i) (parent_before t ok i ready.row_inside n) in
      rw (e, k) (stay_child n ∙ turned own (stay (parent_of t i))))
    where
      turned : (a b : Bool) → (a && b) ≡ (not (not b) && a)
      turned true true = refl
      turned true false = refl
      turned false true = refl
      turned false false = refl

  module _ {l : Bool} (l_is : l ≡ left_out fs kept i) where
    pub parent_lost : l ≡ true → false ≡ stay i
    parent_lost h = sym (stay_is ∙ ap (λ (z : Bool). not z && own) (sym l_is ∙ h))

    own_test : l ≡ false → stay i ≡ own
    own_test h = stay_is ∙ ap (λ (z : Bool). not z && own) (sym l_is ∙ h)

    module _ (h : l ≡ false) {a : Bool} (a_is : a ≡ eqb m 1) where
      pub stays_all : a ≡ true → a ≡ stay i
      stays_all e = e ∙ sym (own_test h ∙ ap (λ (z : Bool). z || passes m Fs D (row_at t i)) (sym a_is ∙ e))

      pub stays_by : a ≡ false → {x : Bool} → x ≡ omitted m Fs D (row_at t i) → not x ≡ stay i
      stays_by e x_is = ap not x_is ∙ sym (own_test h ∙ ap (λ (z : Bool). z || passes m Fs D (row_at t i)) (sym a_is ∙ e))

-- ---- one more row that is known
pub keeps_more : {Fs : List Formula} {t : List ℕ} {m : ℕ} {kept : List Bool} {i : ℕ} {k : Bool} → Keeps Fs t m kept i → i < row_limit → k ≡ stays m Fs (rows t) (row_at t i) → Keeps Fs t m (set kept i k) (i + 1)
keeps_more {Fs} {t} {m} {kept} {i} {k} s l e = record {
  sized = length-set kept i k ∙ s.sized;
  kept_is = λ j h. ⊎_elim
      (λ q. let z : j ≡ i = omega arith in ap (λ (n : ℕ). get_or (set kept i k) n false) z ∙ get_or-set_same kept i k false (omega (arith, s.sized)) ∙ e ∙ ap (λ (n : ℕ). stays m Fs (rows t) (row_at t n)) (sym z))
      (λ q. let z : j < i = omega arith in get_or-set_other kept i j k false (λ w. omega arith) ∙ s.kept_is j z)
      (eq-or-lt_of_le h);
}
