-- One law for each way through the evaluator and the walk of a quantifier's rows, over plain variables. Assumes nothing.
use Prim.Native.Nat.{ℕ, ◌+◌, ◌-◌, ◌<◌, ◌≤◌, suc}
use mathlib.Core.Path.{◌≡◌, refl, sym, ap, ap₂, ◌∙◌}
use mathlib.Core.Bool.{Bool, true, false, not, beq, true≢false, false≢true}
use mathlib.Core.List.{List, [], ◌∷◌, ◌++◌}
use native.Mathlib.Omega.{arith}
use lib.ListN.{set}
use lib.Dec.{ltb}
use borrow.Author.Tests.{ltb-true, ltb-false}
use Rattle.std.specs.Prelude.{Option, Some, None}
use Rattle.std.specs.Option.{IsSome}
use Rattle.base.specs.Search.{first, some, found}
use Rattle.base.proofs.Bools.{either}
use Rattle.base.proofs.Search.{first_le, none_before, at_first}
use Rattle.tables.specs.Words.{row_at, row_count, rows, rows_from}
use Rattle.tables.specs.Tables.{row_limit}
use Rattle.tables.proofs.Accepted.{few_rows}
use Rattle.tables.specs.declared.Connective.{Connective}
use Rattle.tables.specs.declared.Connective.TheVariants.{And, Or, Implies}
use Rattle.tables.specs.declared.Comparison.{Comparison}
use Rattle.tables.specs.declared.Operand.{Operand}
use Rattle.logic.specs.Formulas.{negation, joined, compared, formula_at}
use Rattle.logic.specs.Verdict as meaning
use Rattle.logic.specs.Marks.{left_decides}
use Rattle.logic.proofs.Walks.{select_halves, select_one, select_from, both_settled, both_decided, fold_append, fold_one}
use Rattle.engine.specs.Places.{bind_at, place_of}
use Rattle.engine.specs.Ready.{meant, compared_by, ranges_by, Covers, Ready, verdict_at, ReadyRun, formula_by, ranged_by, body_by, verdict_by}
use Rattle.engine.specs.Marked.{undecided}
use Rattle.engine.specs.declared.bindings.Bindings.{Bindings}
use Rattle.engine.specs.declared.ranges.Quantified.{Quantified}
use Rattle.engine.proofs.Bound.{row_bind, depth_bind, placed_bind, meant_bind, place_row}
use Rattle.engine.proofs.Compared.{same_true, same_false}

-- ---- what a search of a run has found
module _ (p : ℕ → Bool) (n : ℕ) where
  pub found_some : (j : ℕ) → found p n ≡ Some j → (j ≡ first p n) × (j < n)
  found_some j h = either (ltb (first p n) n)
      (λ t. let e : first p n ≡ j = (let z : Some (first p n) ≡ Some j = rw t at h in cc) in (sym e, omega (arith, ltb-true (first p n) n t, e)))
      (λ f. let z : None ≡ Some j = rw f at h in cc)

  pub found_none : found p n ≡ None → first p n ≡ n
  found_none h = either (ltb (first p n) n)
      (λ t. let z : Some (first p n) ≡ None = rw t at h in cc)
      (λ f. omega (arith, ltb-false (first p n) n f, first_le p n))

  pub found_there : {r : Option ℕ} → r ≡ found p n → some p n ≡ true → r ≡ Some (first p n)
  found_there h e = h ∙ rw e refl

  pub is_found : {r : Option ℕ} → r ≡ found p n → some p n ≡ true → IsSome r
  is_found h e = rw (found_there h e) refl

-- ---- connectives
pub connect_open : (c : Connective) (x y : Bool) → left_decides c x ≡ false → y ≡ meaning.connect c x y
connect_open And true y h = refl
connect_open And false y h = absurd (true≢false h)
connect_open Or true y h = absurd (true≢false h)
connect_open Or false y h = refl
connect_open Implies true y h = refl
connect_open Implies false y h = absurd (true≢false h)

connect_decided : (c : Connective) (x y : Bool) → left_decides c x ≡ true → not (undecided c) ≡ meaning.connect c x y
connect_decided And true y h = absurd (false≢true h)
connect_decided And false y h = refl
connect_decided Or true y h = refl
connect_decided Or false y h = absurd (false≢true h)
connect_decided Implies true y h = absurd (false≢true h)
connect_decided Implies false y h = refl

-- ---- an entry, by its formula
module _ (rule pool : List ℕ) (b : Bindings) (e : ℕ) where
  pub not_verdict : (a : ℕ) → formula_at rule e ≡ negation (formula_at rule a) → (r : Bool) → r ≡ verdict_at rule pool b a → not r ≡ verdict_at rule pool b e
  unfolding meaning.holds
  not_verdict a f r g = rw f (ap not g)

  module _ (c : Connective) (l r : ℕ) (f : formula_at rule e ≡ joined c (formula_at rule l) (formula_at rule r)) where
    pub joined_verdict : verdict_at rule pool b e ≡ meaning.connect c (verdict_at rule pool b l) (verdict_at rule pool b r)
    unfolding meaning.holds
    joined_verdict = rw f refl

    module _ (x d : Bool) (x_is : x ≡ verdict_at rule pool b l) (d_is : d ≡ left_decides c x) where
      pub left_verdict : d ≡ true → not (undecided c) ≡ verdict_at rule pool b e
      left_verdict h = connect_decided c x (verdict_at rule pool b r) (sym d_is ∙ h) ∙ ap (λ (z : Bool). meaning.connect c z (verdict_at rule pool b r)) x_is ∙ sym joined_verdict

      pub right_verdict : d ≡ false → (y : Bool) → y ≡ verdict_at rule pool b r → y ≡ verdict_at rule pool b e
      right_verdict h y y_is = connect_open c x y (sym d_is ∙ h) ∙ ap₂ (meaning.connect c) x_is y_is ∙ sym joined_verdict

  pub compared_verdict : (c : Comparison) (v : ℕ) (o : Operand) → formula_at rule e ≡ compared c v o → (r : Bool) → r ≡ compared_by pool b c v o → r ≡ verdict_at rule pool b e
  unfolding meaning.holds
  compared_verdict c v o f r h = rw f h

  module _ (q : Quantified) (f : formula_at rule e ≡ formula_by rule q) where
    pub all_verdict : verdict_at rule pool b e ≡ verdict_by rule pool b q 0 (row_count pool)
    unfolding meaning.holds
    all_verdict = rw f refl

    -- it ranges over no row but those of a run
    pub run_verdict : {i k : ℕ} → Covers pool b q i k → (r : Bool) → r ≡ verdict_by rule pool b q i k → r ≡ verdict_at rule pool b e
    run_verdict c r h = h ∙ ap (meaning.fold q.by (body_by rule pool b q)) c.whole ∙ sym all_verdict

-- ---- a quantifier, over k rows from row i on
module _ (rule pool : List ℕ) (b : Bindings) (q : Quantified) (i k : ℕ) (ready : ReadyRun rule pool b q i k) where
  pub part_ready : (i' k' : ℕ) → i' + k' ≤ row_count pool → ReadyRun rule pool b q i' k'
  part_ready i' k' h = record {
    rule_accepted = ready.rule_accepted;
    pool_accepted = ready.pool_accepted;
    placed = ready.placed;
    inside = ready.inside;
    body_depth = ready.body_depth;
    room = ready.room;
    parent = ready.parent;
    place = h;
  }

  -- one more variable bound, to any place of the pool
  module _ (p : ℕ) (h : p ≤ row_count pool) where
    low : p ≤ row_limit
    low = omega (arith, few_rows pool ready.pool_accepted)

    pub row_bound : (bind_at b p).row ≡ set b.row b.depth p
    row_bound = row_bind pool b ready.placed ready.room p low

    pub depth_bound : (bind_at b p).depth ≡ suc b.depth
    depth_bound = depth_bind pool b ready.placed ready.room p low

    meant_bound : meant pool (bind_at b p) ≡ meaning.bind b.depth (place_of pool p) (meant pool b)
    meant_bound = meant_bind pool b ready.placed ready.room p low

    pub bound_ready : (b' : Bindings) → b' ≡ bind_at b p → Ready rule pool b' q.body
    bound_ready b' b_is =
        rw b_is
        (record {
          rule_accepted = ready.rule_accepted;
          pool_accepted = ready.pool_accepted;
          inside = ready.inside;
          depth_is = omega (arith, depth_bound, ready.body_depth);
          placed = placed_bind pool b ready.placed ready.room p low h;
        })

  -- and to a row
  pub meant_row : (j : ℕ) → j + 1 ≤ row_count pool → meant pool (bind_at b (j + 1)) ≡ meaning.bind b.depth (meaning.bound (row_at pool j)) (meant pool b)
  meant_row j h = meant_bound (j + 1) h ∙ ap (λ (p : meaning.Place). meaning.bind b.depth p (meant pool b)) (place_row pool j)

  pub body_verdict : (j : ℕ) → j + 1 ≤ row_count pool → (b' : Bindings) → b' ≡ bind_at b (j + 1) → verdict_at rule pool b' q.body ≡ body_by rule pool b q (row_at pool j)
  body_verdict j h b' b_is = rw b_is (ap₂ (meaning.holds (formula_at rule q.body) (rows pool)) (depth_bound (j + 1) h) (meant_row j h))

  -- over n rows from row m on: the first j of them decide, or those behind them do
  module _ (m n j : ℕ) (h : j ≤ n) (l : Bool) (l_is : l ≡ verdict_by rule pool b q m j) where
    halves : verdict_by rule pool b q m n ≡ meaning.both q.by l (verdict_by rule pool b q (m + j) (n - j))
    halves =
        ap (meaning.fold q.by (body_by rule pool b q)) (select_halves (ranges_by pool b q) pool m n j h)
        ∙ fold_append q.by (body_by rule pool b q) (ranged_by pool b q m j) (ranged_by pool b q (m + j) (n - j))
        ∙ ap (λ (z : Bool). meaning.both q.by z (verdict_by rule pool b q (m + j) (n - j))) (sym l_is)

    part_decides : beq l (meaning.settled q.by) ≡ false → l ≡ verdict_by rule pool b q m n
    part_decides f = sym (halves ∙ both_decided q.by l _ (same_false l (meaning.settled q.by) f))

    part_open : beq l (meaning.settled q.by) ≡ true → (v : Bool) → v ≡ verdict_by rule pool b q (m + j) (n - j) → v ≡ verdict_by rule pool b q m n
    part_open f v v_is = v_is ∙ sym (halves ∙ both_settled q.by l (verdict_by rule pool b q (m + j) (n - j)) (same_true l (meaning.settled q.by) f))

  abbrev test : ℕ → Bool
  test j = ranges_by pool b q (row_at pool (i + j))

  -- it ranges over none of them
  module _ (none : found test k ≡ None) where
    pub ranged_none : ranged_by pool b q i k ≡ []
    unfolding rows_from
    ranged_none =
        let all : first test k ≡ k = found_none test k none in
        sym (select_from (ranges_by pool b q) pool i k (i + k) (omega arith) (omega arith)
        (λ j a c. let z : i + (j - i) ≡ j = omega arith in
        ap (λ (n : ℕ). ranges_by pool b q (row_at pool n)) (sym z) ∙ none_before test k (j - i) (omega (arith, all))))
        ∙ ap (ranged_by pool b q (i + k)) (let z : i + k - (i + k) ≡ 0 = omega arith in z)

    pub walk_none : meaning.settled q.by ≡ verdict_by rule pool b q i k
    walk_none = sym (ap (meaning.fold q.by (body_by rule pool b q)) ranged_none)

  -- the first one that it ranges over is the one behind s of them
  module _ (s : ℕ) (found_is : found test k ≡ Some s) where
    pub skips : s < k
    skips = (found_some test k s found_is).1

    pub skip : ranged_by pool b q (i + s) (k - s) ≡ ranged_by pool b q i k
    skip =
        let here : s ≡ first test k = (found_some test k s found_is).0 in
        ap (ranged_by pool b q (i + s)) (let z : k - s ≡ i + k - (i + s) = omega arith in z)
        ∙ select_from (ranges_by pool b q) pool i k (i + s) (omega arith) (omega (arith, skips))
        (λ j a c. let z : i + (j - i) ≡ j = omega arith in
        ap (λ (n : ℕ). ranges_by pool b q (row_at pool n)) (sym z) ∙ none_before test k (j - i) (omega (arith, here)))

    pub ranged_row : ranged_by pool b q (i + s) 1 ≡ row_at pool (i + s) ∷ []
    ranged_row =
        let here : s ≡ first test k = (found_some test k s found_is).0 in
        select_one (ranges_by pool b q) pool (i + s) (ap test here ∙ at_first test k (omega (arith, here, skips)))

    pub row_inside : i + s + 1 ≤ row_count pool
    row_inside = omega (arith, skips, ready.place)

    pub ranged_halves : (j : ℕ) → j ≤ k - s → ranged_by pool b q i k ≡ ranged_by pool b q (i + s) j ++ ranged_by pool b q (i + s + j) (k - s - j)
    ranged_halves j h = sym skip ∙ select_halves (ranges_by pool b q) pool (i + s) (k - s) j h

    pub ranged_one : k - s ≡ 1 → ranged_by pool b q i k ≡ row_at pool (i + s) ∷ []
    ranged_one h = sym skip ∙ ap (ranged_by pool b q (i + s)) h ∙ ranged_row

    skipped : verdict_by rule pool b q (i + s) (k - s) ≡ verdict_by rule pool b q i k
    skipped = ap (meaning.fold q.by (body_by rule pool b q)) skip

    -- the body's verdict at that row is that over it alone
    module _ (b' : Bindings) (b_is : b' ≡ bind_at b (i + s + 1)) (v : Bool) (v_is : v ≡ verdict_at rule pool b' q.body) where
      one : v ≡ verdict_by rule pool b q (i + s) 1
      one =
          v_is ∙ body_verdict (i + s) row_inside b' b_is
          ∙ sym (ap (meaning.fold q.by (body_by rule pool b q)) ranged_row ∙ fold_one q.by (body_by rule pool b q) (row_at pool (i + s)))

      pub walk_first : beq v (meaning.settled q.by) ≡ false → v ≡ verdict_by rule pool b q i k
      walk_first f = part_decides (i + s) (k - s) 1 (omega (arith, skips)) v one f ∙ skipped

      -- where it does not decide, the rows behind it do
      module _ (g : beq v (meaning.settled q.by) ≡ true) where
        behind : (w : Bool) → w ≡ verdict_by rule pool b q (i + s + 1) (k - s - 1) → w ≡ verdict_by rule pool b q i k
        behind w w_is = part_open (i + s) (k - s) 1 (omega (arith, skips)) v one g w w_is ∙ skipped

        pub walk_last : k - s - 1 ≡ 0 → meaning.settled q.by ≡ verdict_by rule pool b q i k
        unfolding rows_from
        walk_last l = behind (meaning.settled q.by) (sym (ap (verdict_by rule pool b q (i + s + 1)) l))

        module _ (j : ℕ) (l : j ≤ k - s - 1) (u : Bool) (u_is : u ≡ verdict_by rule pool b q (i + s + 1) j) where
          pub walk_near : beq u (meaning.settled q.by) ≡ false → u ≡ verdict_by rule pool b q i k
          walk_near f = behind u (part_decides (i + s + 1) (k - s - 1) j l u u_is f)

          pub walk_rest : beq u (meaning.settled q.by) ≡ true → (w : Bool) → w ≡ verdict_by rule pool b q (i + s + 1 + j) (k - s - 1 - j) → w ≡ verdict_by rule pool b q i k
          walk_rest f w w_is = behind w (part_open (i + s + 1) (k - s - 1) j l u u_is f w w_is)
