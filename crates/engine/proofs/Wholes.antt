-- What is marked whole stays so, and need not be marked again. Assumes nothing.
use Prim.Native.Nat.{ℕ, ◌<◌}
use mathlib.Core.Path.{◌≡◌, sym, ap, subst, fun_ext, ◌∙◌}
use mathlib.Core.Bool.{Bool, true, false≢true}
use mathlib.Core.List.{List, [], ◌∷◌}
use lib.ListN.{set}
use lib.Dec.{eqb}
use borrow.Author.Tests.{eqb-true}
use Rattle.std.specs.Prelude.{Option, Some, None}
use Rattle.std.specs.Option.{option_eq}
use Rattle.base.specs.Lists.{any, select}
use Rattle.tables.specs.Words.{row_at, row_count, rows, rows_from}
use Rattle.tables.specs.Tables.{accepted_table}
use Rattle.tables.specs.declared.Row.{Row}
use Rattle.tables.specs.declared.Over.{Over}
use Rattle.tables.specs.declared.Over.TheVariants.{Roots}
use Rattle.logic.specs.Verdict.{ranges}
use Rattle.engine.specs.Ready.{meant, ranges_by, Covers}
use Rattle.engine.specs.Marked.{mark_in, root_named, MarkedWhole}
use Rattle.engine.specs.declared.bindings.Bindings.{Bindings}
use Rattle.engine.specs.declared.ranges.Quantified.{Quantified}
use Rattle.engine.proofs.Marking.{mark_twice, mark_turned, mark_row, any_selected}

pub same_name : (w : Option ℕ) (n : ℕ) → option_eq eqb w (Some n) ≡ true → w ≡ Some n
same_name None n h = absurd (false≢true h)
same_name (Some m) n h = ap Some (eqb-true m n h)

module _ (pool : List ℕ) where
  pub nothing_whole : (m : List ℕ) → MarkedWhole pool None m
  nothing_whole m n e = cc

  module _ (w : Option ℕ) (m : List ℕ) (whole : MarkedWhole pool w m) where
    -- other rows are marked, too
    pub whole_stays : (R : List Row) (m' : List ℕ) → m' ≡ mark_in pool R m → MarkedWhole pool w m'
    whole_stays R m' m_is n e = (
      (whole n e).0,
      ap (mark_in pool (select (root_named n) (rows pool))) m_is
          ∙ mark_turned (rows pool) m (select (root_named n) (rows pool)) R
          ∙ ap (mark_in pool R) (whole n e).1
          ∙ sym m_is,
    )

    pub whole_with_row : accepted_table pool ≡ true → (j : ℕ) → j < row_count pool → MarkedWhole pool w (set m j 1)
    whole_with_row ok j l = whole_stays (row_at pool j ∷ []) (set m j 1) (mark_row pool ok j m l)

  -- a quantifier over roots
  module _ (b : Bindings) (q : Quantified) (i k : ℕ) (covers : Covers pool b q i k) (over_roots : q.over ≡ Roots) where
    of_name : ranges_by pool b q ≡ root_named q.name
    of_name = fun_ext (λ r. ap (λ (o : Over). ranges o q.name (meant pool b) r) over_roots)

    same_rows : select (ranges_by pool b q) (rows_from pool i k) ≡ select (root_named q.name) (rows pool)
    same_rows = covers.whole ∙ ap (λ (p : Row → Bool). select p (rows pool)) of_name

    same_found : any (ranges_by pool b q) (rows_from pool i k) ≡ any (root_named q.name) (rows pool)
    same_found =
        sym (any_selected (ranges_by pool b q) (rows_from pool i k))
        ∙ ap (any (ranges_by pool b q)) covers.whole
        ∙ any_selected (ranges_by pool b q) (rows pool)
        ∙ ap (λ (p : Row → Bool). any p (rows pool)) of_name

    -- its rows are marked
    module _ (w : Option ℕ) (m : List ℕ) (whole : MarkedWhole pool w m) (own : w ≡ Some q.name) where
      pub whole_found : true ≡ any (ranges_by pool b q) (rows_from pool i k)
      whole_found = sym (same_found ∙ (whole q.name own).0)

      pub whole_as_it_is : m ≡ mark_in pool (select (ranges_by pool b q) (rows_from pool i k)) m
      whole_as_it_is = sym (ap (λ (R : List Row). mark_in pool R m) same_rows ∙ (whole q.name own).1)

    -- they are marked now
    pub whole_now : (found : Bool) → found ≡ any (ranges_by pool b q) (rows_from pool i k) → found ≡ true
        → (m m' : List ℕ) → m' ≡ mark_in pool (select (ranges_by pool b q) (rows_from pool i k)) m → MarkedWhole pool (Some q.name) m'
    whole_now found found_is h m m' m_is n e_is = subst (λ (x : ℕ). (any (root_named x) (rows pool) ≡ true) × (mark_in pool (select (root_named x) (rows pool)) m' ≡ m')) (let z : q.name ≡ n = cc in z) (
      sym same_found ∙ sym found_is ∙ h,
      ap (mark_in pool (select (root_named q.name) (rows pool))) now
          ∙ mark_twice (rows pool) m (select (root_named q.name) (rows pool))
          ∙ sym now,
    )
      where
        now : m' ≡ mark_in pool (select (root_named q.name) (rows pool)) m
        now = m_is ∙ ap (λ (R : List Row). mark_in pool R m) same_rows
