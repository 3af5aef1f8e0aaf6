-- An accepted joining leaves an accepted table: what is not tested of the result, 9, 10, 11 and 26, can't come up in it. Assumes nothing.
use Prim.Native.Nat.{ℕ, ◌+◌, ◌-◌, ◌≤◌, ◌<◌}
use mathlib.Core.Path.{◌≡◌, refl, sym, ap, subst}
use mathlib.Core.Logic.{◌⊎◌, inl, inr}
use mathlib.Core.Bool.{true, false}
use mathlib.Core.List.Memᴰ
use mathlib.Core.List.{List, [], ◌∷◌, ◌++◌}
use native.Mathlib.Omega.{arith}
use lib.Dec.{eqb}
use borrow.Author.Tests.{ne_eqb, ltb-true}
use Rattle.base.specs.Lists.{◌∈◌}
use Rattle.tables.specs.Answers.{is_done}
use Rattle.tables.specs.Words.{row_at, row_count, rows}
use Rattle.tables.specs.Tables.{is_parent, row_fault, table_length, check_table, accepted_table}
use Rattle.tables.specs.Joining.{follows, join_tables, JoinedAccepted}
use Rattle.tables.specs.declared.Row.{Row}
use Rattle.tables.proofs.Answers.{and_then_first, and_then_next, unless_ok, unless_next, none_of}
use Rattle.tables.proofs.Ordered.{parent_device}
use Rattle.tables.proofs.OrderedRows.{Above, Rising, more_rise, Ordered, rows_ordered, rows_faultless}
use Rattle.tables.proofs.Accepted.{accept, ordered, rises, whole_rows}
use Rattle.tables.proofs.RowLists.{rows_append, row_out}
use Rattle.tables.specs.declared.refusals.Fault.TheVariants.{TableLength, Sibling, Join}
use Rattle.tables.specs.declared.refusals.Fault.{Fault}
use Rattle.tables.proofs.Answers.{first_or_last}
use mathlib.Core.Logic.{⊎_elim}
use Rattle.tables.specs.Tables.{order_checks}

-- ---- rows of two lists, of which the second has larger devices
abbrev Below : List Row → List Row → Type 0
Below A B = (r s : Row) → r ∈ A → s ∈ B → r.device < s.device

rising_append : (A B : List Row) → Below A B → Rising A → Rising B → Rising (A ++ B)
rising_append [] B h v w = w
rising_append (x ∷ A) B h (more_rise l v) w =
    more_rise (λ y m. later y (Memᴰ.append_cases A m)) (rising_append A B (λ r s m n. h r s (Memᴰ.tail m) n) v w)
  where
    later : (y : Row) → (y ∈ A) ⊎ (y ∈ B) → Above x y
    later y (inl k) = l y k
    later y (inr k) = inl (h x y (Memᴰ.head refl) k)

module _ (A B : List Row) (below : Below A B) (a : Ordered A) (b : Ordered B) where
  cases : {r : Row} {P : Type 0} → r ∈ (A ++ B) → (r ∈ A → P) → (r ∈ B → P) → P
  cases m f g = elim (Memᴰ.append_cases A m) [ inl k ↦ f k | inr k ↦ g k ]

  -- a parent is of the same device, so of the same list
  deeper : (r p : Row) → (r ∈ A) ⊎ (r ∈ B) → (p ∈ A) ⊎ (p ∈ B) → is_parent r p ≡ true → r.deep ≡ p.deep + 1
  deeper r p (inl m) (inl n) e = a.deeper r p m n e
  deeper r p (inr m) (inr n) e = b.deeper r p m n e
  deeper r p (inl m) (inr n) e = absurd (omega (arith, below r p m n, parent_device r p e))
  deeper r p (inr m) (inl n) e = absurd (omega (arith, below p r n m, parent_device r p e))

  ordered_append : Ordered (A ++ B)
  ordered_append = record {
    parented = record {
      ranged = λ r m. cases m (a.parented.ranged r) (b.parented.ranged r);
      rise = rising_append A B below a.parented.rise b.parented.rise;
      parents = λ r m e. cases m
          (λ k. let w = a.parented.parents r k e in (w.0, Memᴰ.append_left B w.1, w.2, w.3))
          (λ k. let w = b.parented.parents r k e in (w.0, Memᴰ.append_right A w.1, w.2, w.3));
    };
    top = λ r m e. cases m (λ k. a.top r k e) (λ k. b.top r k e);
    deeper = λ r p m n e. deeper r p (Memᴰ.append_cases A m) (Memᴰ.append_cases A n) e;
  }

-- ---- the tables
module _ (s t : List ℕ) (ok_s : accepted_table s ≡ true) (ok_t : accepted_table t ≡ true) (fits : follows s t ≡ true) where
  some_rows : (u : List ℕ) (i : ℕ) → i < row_count u → eqb (row_count u) 0 ≡ false
  some_rows u i h = ne_eqb (row_count u) 0 (λ e. omega arith)

  below : Below (rows s) (rows t)
  below r q m n =
      let i = row_out s m in
      let j = row_out t n in
      let last : (row_at s (row_count s - 1)).device < (row_at t 0).device
      = ltb-true _ _ (rw (some_rows s i.0 i.1, some_rows t j.0 j.1) at fits) in
      let from : (row_at s i.0).device ≤ (row_at s (row_count s - 1)).device
      = rises s ok_s i.0 (row_count s - 1) (omega (arith, i.1)) (omega (arith, i.1)) in
      let to : (row_at t 0).device ≤ (row_at t j.0).device = rises t ok_t 0 j.0 (omega arith) j.1 in
      omega (arith, last, from, to, ap (λ (x : Row). x.device) i.2, ap (λ (x : Row). x.device) j.2)

  joined_ordered : Ordered (rows (s ++ t))
  joined_ordered =
      subst Ordered (sym (rows_append s t (whole_rows s ok_s)))
      (ordered_append (rows s) (rows t) below (rows_ordered s (ordered s ok_s)) (rows_ordered t (ordered t ok_t)))

  joined : table_length (s ++ t) ≡ true → ((i : ℕ) → i < row_count (s ++ t) → row_fault (s ++ t) Sibling i ≡ false)
      → accepted_table (s ++ t) ≡ true
  joined short apart = ap is_done (accept (s ++ t) short (λ k m i h. ⊎_elim
      (λ f. rows_faultless (s ++ t) short joined_ordered k f i h)
      (λ e. subst (λ (x : Fault). row_fault (s ++ t) x i ≡ false) (sym e) (apart i h))
      (first_or_last order_checks m)))

pub joined_accepted : JoinedAccepted
unfolding join_tables
joined_accepted s t room e =
    let c₀ = and_then_next (check_table s) _ e in
    let c₁ = and_then_next (check_table t) _ c₀ in
    let c₂ = unless_next (follows s t) Join _ c₁ in
    let c₃ = unless_next (table_length (s ++ t)) TableLength _ c₂ in
    joined s t (and_then_first (check_table s) _ e) (and_then_first (check_table t) _ c₀) (unless_ok (follows s t) Join _ c₁)
    (unless_ok (table_length (s ++ t)) TableLength _ c₂) (none_of (row_fault (s ++ t) Sibling) Sibling (row_count (s ++ t)) _ c₃)
