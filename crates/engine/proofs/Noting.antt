-- The runs of rows in which children stand, as rows are noted one after the other. Assumes nothing.
use Prim.Native.Nat.{ℕ, zero, suc, ◌+◌, ◌<◌, ◌≤◌}
use mathlib.Core.Path.{◌≡◌, refl, sym, ap, subst, ◌∙◌}
use mathlib.Core.Logic.{◌⊎◌, inl, inr, ⊎_elim}
use mathlib.Core.Bool.{true, true≢false}
use mathlib.Core.List.{List}
use native.Mathlib.Omega.{arith}
use lib.ListN.{length, get_or, set, replicate, length-set, length-replicate}
use lib.Seq.{get_or-set_same, get_or-set_other}
use lib.Dec.{eqb, ltb}
use borrow.Author.Tests.{eqb-true, eqb-false, ltb-true, ltb-false}
use Rattle.base.proofs.Bools.{either}
use Rattle.tables.specs.Words.{row_at, row_count}
use Rattle.tables.specs.Tables.{row_limit, root, is_parent, accepted_table}
use Rattle.tables.proofs.Accepted.{few_rows, ordered}
use Rattle.tables.proofs.Ordered as tables
use Rattle.engine.specs.Runs.{no_children, NoneNoted, run_at, with_child, RunsWithin}
use Rattle.engine.specs.declared.children.Children.{Children}

nothing_at : (n i : ℕ) → get_or (replicate n no_children) i no_children ≡ no_children
nothing_at zero i = refl
nothing_at (suc n) zero = refl
nothing_at (suc n) (suc i) = nothing_at n i

pub noted_none : (t : List ℕ) (cs : List Children) → accepted_table t ≡ true → NoneNoted cs → RunsWithin t cs 0
noted_none t cs ok none = record {
  sized = ap (λ (l : List Children). length l) none ∙ length-replicate {A = Children} row_limit no_children;
  few = few_rows t ok;
  ordered = λ p. omega (arith, ap (λ (c : Children). c.start) (none_at p), ap (λ (c : Children). c.end) (none_at p));
  within = λ p. omega (arith, ap (λ (c : Children). c.end) (none_at p));
  covers = λ p j l m. absurd (omega arith);
}
  where
    none_at : (p : ℕ) → run_at cs p ≡ no_children
    none_at p = ap (λ (l : List Children). run_at l p) none ∙ nothing_at row_limit p

module _ (t : List ℕ) (ok : accepted_table t ≡ true) (cs : List Children) (i : ℕ) (s : RunsWithin t cs i) (h : i < row_count t) where
  -- a root is no row's child
  pub noted_root : root (row_at t i) ≡ true → RunsWithin t cs (i + 1)
  noted_root e = record {
    sized = s.sized;
    few = s.few;
    ordered = s.ordered;
    within = λ p. omega (arith, s.within p);
    covers = λ p j l m c. either (ltb j i)
        (λ q. s.covers p j l (ltb-true j i q) c)
        (λ q. let z : j ≡ i = omega (arith, ltb-false j i q) in
        absurd (true≢false (sym e ∙ tables.parent_no_root t (tables.placed t (ordered t ok)) p i l
        (subst (λ (k : ℕ). is_parent (row_at t k) (row_at t p) ≡ true) z c))));
  }

  -- row i is noted as a child of row p
  module _ (p : ℕ) (l : p < i) (c : is_parent (row_at t i) (row_at t p) ≡ true) where
    own : Children
    own = with_child (run_at cs p) i

    -- nothing was noted, and it starts here; or it starts where it did
    start_cases : (((run_at cs p).end ≡ 0) × (own.start ≡ i)) ⊎ (own.start ≡ (run_at cs p).start)
    unfolding own
    start_cases = either (eqb (run_at cs p).end 0)
        (λ q. inl (eqb-true (run_at cs p).end 0 q, rw q refl))
        (λ q. inr (rw q refl))

    own_start : (own.start ≤ i) × ((j : ℕ) → j < i → is_parent (row_at t j) (row_at t p) ≡ true → own.start ≤ j)
    own_start = ⊎_elim
        (λ q. (omega (arith, q.1), λ j m d. absurd (omega (arith, q.0, (s.covers p j (omega arith) m d).1))))
        (λ q. (omega (arith, q, s.ordered p, s.within p), λ j m d. omega (arith, q, (s.covers p j (omega arith) m d).0)))
        start_cases

    -- the children of a row are the new ones of row p, or those that it had
    cases : (P : ℕ → Children → Type 0) → P p own → ((q : ℕ) → (q ≡ p → ⊥) → P q (run_at cs q)) → (q : ℕ) → P q (run_at (set cs p own) q)
    cases P new old q = either (eqb q p)
        (λ e. rw (eqb-true q p e, get_or-set_same cs p own no_children (omega (arith, s.sized, s.few))) new)
        (λ e. let n : (q ≡ p → ⊥) = eqb-false q p e in rw (get_or-set_other cs p q own no_children n) (old q n))

    pub noted_child : (cs' : List Children) → cs' ≡ set cs p (with_child (run_at cs p) i) → RunsWithin t cs' (i + 1)
    unfolding own
    noted_child cs' cs_is = rw cs_is (record {
      sized = length-set cs p own ∙ s.sized;
      few = s.few;
      ordered = cases (λ q x. x.start ≤ x.end) (omega (arith, own_start.0)) (λ q n. s.ordered q);
      within = cases (λ q x. x.end ≤ i + 1) (omega arith) (λ q n. omega (arith, s.within q));
      covers = λ q j m k d. cases (λ q x. q < row_count t → is_parent (row_at t j) (row_at t q) ≡ true → (x.start ≤ j) × (j < x.end))
          (λ m d. (
            either (ltb j i)
                (λ e. own_start.1 j (ltb-true j i e) d)
                (λ e. omega (arith, ltb-false j i e, own_start.0)),
            k,
          ))
          (λ q n m d. either (ltb j i)
          (λ e. s.covers q j m (ltb-true j i e) d)
          (λ e. let z : j ≡ i = omega (arith, ltb-false j i e) in
          absurd (n (tables.one_parent t (tables.placed t (ordered t ok)) q p i m (omega arith)
          (subst (λ (x : ℕ). is_parent (row_at t x) (row_at t q) ≡ true) z d) c))))
          q m d;
    })
