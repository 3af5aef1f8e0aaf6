-- One law for each way through the marking of a reason, over plain variables. Assumes nothing.
use Prim.Native.Nat.{ℕ, suc, ◌+◌, ◌-◌, ◌<◌, ◌≤◌}
use mathlib.Core.Path.{◌≡◌, refl, sym, ap, ap₂, fun_ext, ◌∙◌}
use mathlib.Core.Bool.{Bool, true, false, not, cond, ◌&&◌, beq, true≢false, false≢true}
use mathlib.Core.List.{List, [], ◌∷◌, ◌++◌, append-nil}
use native.Mathlib.Omega.{arith}
use lib.ListN.{get_or, set}
use lib.Dec.{ltb}
use borrow.Author.Tests.{ltb-true, ltb-false}
use Rattle.std.specs.Prelude.{Some, None}
use Rattle.base.specs.Lists.{any, concat_map, select}
use Rattle.base.specs.Search.{first, some, found}
use Rattle.base.proofs.Bools.{either, and_right}
use Rattle.base.proofs.Lists.{concat_map_append}
use Rattle.base.proofs.Search.{none_before, at_first}
use Rattle.tables.specs.Words.{row_at, row_count, rows, rows_from, entry_at, entry_count}
use Rattle.tables.specs.Rules.{accepted_rule}
use Rattle.tables.specs.Tables.{accepted_table}
use Rattle.tables.specs.declared.Row.{Row}
use Rattle.tables.specs.declared.Entry.{Entry}
use Rattle.tables.specs.declared.Connective.{Connective}
use Rattle.tables.specs.declared.Connective.TheVariants.{And, Or, Implies}
use Rattle.tables.specs.declared.Quantifier.{Quantifier}
use Rattle.tables.specs.declared.Quantifier.TheVariants.{Every, Exists}
use Rattle.tables.specs.declared.Comparison.{Comparison}
use Rattle.tables.specs.declared.Operand.{Operand}
use Rattle.tables.specs.declared.Operand.TheVariants.{Variable, Constant}
use Rattle.logic.specs.Formulas.{Formula, negation, joined, compared, formula_at}
use Rattle.logic.specs.Verdict as meaning
use Rattle.logic.specs.Marks.{row_of, rows_of, left_decides, right_decides, because, decides, witnesses, reason}
use Rattle.logic.proofs.Walks.{select_halves, settled_left, settled_right, fold_append, fold_one}
use Rattle.logic.proofs.Reasons.{unsettled_decides, witnesses_all, none_decides, witness_first}
use Rattle.engine.specs.Places.{bind_at, bindings_of}
use Rattle.engine.specs.Ready.{Placed, meant, ranges_by, Covers, Ready, verdict_at, ReadyRun, formula_by, ranged_by, body_by, verdict_by}
use Rattle.engine.specs.Marked.{Under, mark_in, mark_at, mark_compared, reason_at, side_for, undecided, with_body, reason_by, decides_by}
use Rattle.engine.specs.declared.bindings.Bindings.{Bindings}
use Rattle.engine.specs.declared.ranges.Quantified.{Quantified}
use Rattle.engine.proofs.Opened.{Opened, opened, not_formula}
use Rattle.engine.proofs.Marking.{mark_append, mark_none, mark_place, mark_first, mark_each, mark_none_selected}
use Rattle.engine.proofs.Compared.{same_true, same_false}
use Rattle.engine.proofs.Rows.{connect_open, joined_verdict, run_verdict, depth_bound, meant_row, body_verdict, ranged_none, skips, skip, ranged_row, row_inside}

-- ---- a variable's row
pub mark_none_there : (p : ℕ) (m : List ℕ) → p ≡ 0 → m ≡ mark_at p m
mark_none_there p m h = rw h refl

pub mark_there : (p j : ℕ) (m : List ℕ) → p ≡ suc j → set m j 1 ≡ mark_at p m
mark_there p j m h = rw h refl

-- ---- connectives
-- the verdict that no side decides by itself
module _ (c : Connective) (l r v : Bool) (v_is : v ≡ meaning.connect c l r) where
  module _ (open_is : v ≡ undecided c) where
    undecided_is : meaning.connect c l r ≡ undecided c
    undecided_is = sym v_is ∙ open_is

    pub both_left : side_for c v ≡ l
    both_left = ap (side_for c) open_is ∙ go c l r undecided_is
      where
        go : (c : Connective) (l r : Bool) → meaning.connect c l r ≡ undecided c → side_for c (undecided c) ≡ l
        go And true r h = refl
        go And false r h = sym h
        go Or true r h = sym h
        go Or false r h = refl
        go Implies true r h = refl
        go Implies false r h = h

    pub both_right : v ≡ r
    both_right = open_is ∙ go c l r undecided_is
      where
        go : (c : Connective) (l r : Bool) → meaning.connect c l r ≡ undecided c → undecided c ≡ r
        go And true r h = sym h
        go And false r h = absurd (false≢true h)
        go Or true r h = absurd (true≢false h)
        go Or false r h = sym h
        go Implies true r h = sym h
        go Implies false r h = absurd (true≢false h)

    pub both_sides : (x y : List Row) → because c l r x y ≡ x ++ y
    both_sides x y = go c l r undecided_is
      where
        go : (c : Connective) (l r : Bool) → meaning.connect c l r ≡ undecided c → because c l r x y ≡ x ++ y
        go And true true h = refl
        go And true false h = absurd (false≢true h)
        go And false r h = absurd (false≢true h)
        go Or true r h = absurd (true≢false h)
        go Or false true h = absurd (true≢false h)
        go Or false false h = refl
        go Implies true true h = absurd (true≢false h)
        go Implies true false h = refl
        go Implies false r h = absurd (true≢false h)

  pub only_left : left_decides c l ≡ true → (x y : List Row) → because c l r x y ≡ x
  only_left h x y = rw h refl

  module _ (passed : left_decides c l ≡ false) where
    pub last_right : v ≡ r
    last_right = v_is ∙ sym (connect_open c l r passed)

    pub only_right : (v ≡ undecided c → ⊥) → (x y : List Row) → because c l r x y ≡ y
    only_right h x y = rw passed (go c r (λ e. h (last_right ∙ e)))
      where
        go : (c : Connective) (r : Bool) → (r ≡ undecided c → ⊥) → cond (right_decides c r) y (x ++ y) ≡ y
        go And true h = absurd (h refl)
        go And false h = refl
        go Or true h = refl
        go Or false h = absurd (h refl)
        go Implies true h = refl
        go Implies false h = absurd (h refl)

-- ---- the entry under nots
module _ (rule : List ℕ) (e : ℕ) (v : Bool) where
  pub under_begin : e < entry_count rule → Under rule e v e v
  under_begin h = record { inside = h; later = omega arith; same_depth = refl; verdict_is = λ T d β k. k; reason_is = λ T d β. refl }

  module _ (f : ℕ) (w : Bool) (u : Under rule e v f w) where
    module _ (ok : accepted_rule rule ≡ true) (x : Entry) (x_is : x ≡ entry_at rule f) (one : x.kind ≡ 1) where
      o : Opened rule f x
      o = opened rule ok f u.inside x x_is

      pub under_later : (f < x.a) × (x.a < entry_count rule)
      under_later = o.child (omega arith)

      is_not_lem : formula_at rule f ≡ negation (formula_at rule x.a)
      is_not_lem = not_formula rule f x o one

      pub under_not : Under rule e v x.a (not w)
      unfolding meaning.holds reason
      under_not = record {
        inside = under_later.1;
        later = omega (arith, u.later, under_later.0);
        same_depth = o.child_depth (omega arith) ∙ u.same_depth;
        verdict_is = λ T d β k. ap not (u.verdict_is T d β k ∙ ap (λ (F : Formula). meaning.holds F T d β) is_not_lem) ∙ twice (meaning.holds (formula_at rule x.a) T d β);
        reason_is = λ T d β. sym (ap (λ (F : Formula). reason F T d β) is_not_lem) ∙ u.reason_is T d β;
      }
        where
          twice : (z : Bool) → not (not z) ≡ z
          twice true = refl
          twice false = refl

    module _ (pool : List ℕ) (b : Bindings) where
      pub under_ready : Ready rule pool b e → Ready rule pool b f
      under_ready ready = record {
        rule_accepted = ready.rule_accepted;
        pool_accepted = ready.pool_accepted;
        inside = u.inside;
        depth_is = ready.depth_is ∙ sym u.same_depth;
        placed = ready.placed;
      }

      pub under_verdict : v ≡ verdict_at rule pool b e → w ≡ verdict_at rule pool b f
      under_verdict = u.verdict_is (rows pool) b.depth (meant pool b)

      pub under_marked : (m m' : List ℕ) → m' ≡ mark_in pool (reason_at rule pool b f) m → m' ≡ mark_in pool (reason_at rule pool b e) m
      under_marked m m' h = h ∙ ap (λ (R : List Row). mark_in pool R m) (u.reason_is (rows pool) b.depth (meant pool b))

-- ---- an entry with its verdict, by its formula
module _ (rule pool : List ℕ) (b : Bindings) (e : ℕ) (v : Bool) (v_is : v ≡ verdict_at rule pool b e) where
  module _ (c : Connective) (a a' : ℕ) (is : formula_at rule e ≡ joined c (formula_at rule a) (formula_at rule a')) where
    connected : v ≡ meaning.connect c (verdict_at rule pool b a) (verdict_at rule pool b a')
    connected = v_is ∙ joined_verdict rule pool b e c a a' is

    joined_reason : reason_at rule pool b e ≡ because c (verdict_at rule pool b a) (verdict_at rule pool b a') (reason_at rule pool b a) (reason_at rule pool b a')
    unfolding reason
    joined_reason = ap (λ (f : Formula). reason f (rows pool) b.depth (meant pool b)) is

    -- both sides
    module _ (open_is : beq v (undecided c) ≡ true) where
      settled_open : v ≡ undecided c
      settled_open = same_true v (undecided c) open_is

      pub both_left_verdict : (s : Bool) → s ≡ side_for c v → s ≡ verdict_at rule pool b a
      both_left_verdict s h = h ∙ both_left c _ (verdict_at rule pool b a') v connected settled_open

      pub both_right_verdict : v ≡ verdict_at rule pool b a'
      both_right_verdict = both_right c (verdict_at rule pool b a) _ v connected settled_open

      pub both_marked : (m m' m'' : List ℕ) → m' ≡ mark_in pool (reason_at rule pool b a) m → m'' ≡ mark_in pool (reason_at rule pool b a') m' → m'' ≡ mark_in pool (reason_at rule pool b e) m
      both_marked m m' m'' h g =
          g ∙ ap (mark_in pool (reason_at rule pool b a')) h
          ∙ sym (mark_append (rows pool) (reason_at rule pool b a) (reason_at rule pool b a') m)
          ∙ ap (λ (R : List Row). mark_in pool R m) (sym (joined_reason ∙ both_sides c (verdict_at rule pool b a) (verdict_at rule pool b a') v connected settled_open _ _))

    -- one side
    module _ (closed : beq v (undecided c) ≡ false) (l d : Bool) (l_is : l ≡ verdict_at rule pool b a) (d_is : d ≡ left_decides c l) where
      decided : (z : Bool) → d ≡ z → left_decides c (verdict_at rule pool b a) ≡ z
      decided z h = ap (left_decides c) (sym l_is) ∙ sym d_is ∙ h

      pub left_marked_only : d ≡ true → (m m' : List ℕ) → m' ≡ mark_in pool (reason_at rule pool b a) m → m' ≡ mark_in pool (reason_at rule pool b e) m
      left_marked_only h m m' g =
          g ∙ ap (λ (R : List Row). mark_in pool R m)
          (sym (joined_reason ∙ only_left c (verdict_at rule pool b a) (verdict_at rule pool b a') v connected (decided true h) _ _))

      pub last_verdict : d ≡ false → v ≡ verdict_at rule pool b a'
      last_verdict h = last_right c (verdict_at rule pool b a) _ v connected (decided false h)

      pub right_marked_only : d ≡ false → (m m' : List ℕ) → m' ≡ mark_in pool (reason_at rule pool b a') m → m' ≡ mark_in pool (reason_at rule pool b e) m
      right_marked_only h m m' g =
          g ∙ ap (λ (R : List Row). mark_in pool R m)
          (sym (joined_reason ∙ only_right c (verdict_at rule pool b a) (verdict_at rule pool b a') v connected (decided false h) (same_false v (undecided c) closed) _ _))

  module _ (ok : accepted_table pool ≡ true) (placed : Placed pool b) (c : Comparison) (u : ℕ) (o : Operand) (is : formula_at rule e ≡ compared c u o) where
    compared_reason : reason_at rule pool b e ≡ row_of (meant pool b u) ++ rows_of (meant pool b) o
    unfolding reason
    compared_reason = ap (λ (f : Formula). reason f (rows pool) b.depth (meant pool b)) is

    marked_place : (w : ℕ) (m : List ℕ) → mark_at (get_or b.row w 0) m ≡ mark_in pool (row_of (meant pool b w)) m
    unfolding bindings_of
    marked_place w m = mark_place pool ok (get_or b.row w 0) m (placed.kept w)

    pub compared_marked : (m m' : List ℕ) → m' ≡ mark_compared b u o m → m' ≡ mark_in pool (reason_at rule pool b e) m
    compared_marked m m' h =
        h ∙ go o
        ∙ sym (mark_append (rows pool) (row_of (meant pool b u)) (rows_of (meant pool b) o) m)
        ∙ ap (λ (R : List Row). mark_in pool R m) (sym compared_reason)
      where
        go : (z : Operand) → mark_compared b u z m ≡ mark_in pool (rows_of (meant pool b) z) (mark_in pool (row_of (meant pool b u)) m)
        go (Variable w) = marked_place w (mark_at (get_or b.row u 0) m) ∙ ap (mark_in pool (row_of (meant pool b w))) (marked_place u m)
        go (Constant w) = marked_place u m ∙ sym (mark_none (rows pool) (mark_in pool (row_of (meant pool b u)) m))

-- ---- a quantifier
unsettled : (c : Quantifier) (v : Bool) → not (beq v (meaning.settled c)) ≡ decides c v
unsettled Every true = refl
unsettled Every false = refl
unsettled Exists true = refl
unsettled Exists false = refl

both_decide : (c : Quantifier) (x y : Bool) → decides c x ≡ true → decides c y ≡ true → x ≡ y
both_decide Every true y h g = absurd (false≢true h)
both_decide Every false true h g = absurd (false≢true g)
both_decide Every false false h g = refl
both_decide Exists x y h g = h ∙ sym g

module _ (rule pool : List ℕ) (b : Bindings) (q : Quantified) (i k : ℕ) (ready : ReadyRun rule pool b q i k) where
  body_reason : (j : ℕ) → j + 1 ≤ row_count pool → (b' : Bindings) → b' ≡ bind_at b (j + 1)
      → row_at pool j ∷ reason_at rule pool b' q.body ≡ with_body rule pool b q (row_at pool j)
  body_reason j h b' b_is =
      rw b_is
      (ap₂ (λ (d : ℕ) (β : meaning.Bindings). row_at pool j ∷ reason (formula_at rule q.body) (rows pool) d β)
      (depth_bound rule pool b q i k ready (j + 1) h) (meant_row rule pool b q i k ready j h))

  -- marking a row and then its body's reason
  row_marked : (j : ℕ) → j < row_count pool → (b' : Bindings) → b' ≡ bind_at b (j + 1) → (m : List ℕ)
      → mark_in pool (reason_at rule pool b' q.body) (set m j 1) ≡ mark_in pool (concat_map (with_body rule pool b q) (row_at pool j ∷ [])) m
  row_marked j h b' b_is m =
      mark_first pool ready.pool_accepted j (reason_at rule pool b' q.body) m h
      ∙ ap (λ (R : List Row). mark_in pool R m) (body_reason j (omega arith) b' b_is ∙ sym (append-nil (with_body rule pool b q (row_at pool j))))

  -- a row decides
  pub decides_row : i + 1 ≤ row_count pool → (z : Bool) → z ≡ ranges_by pool b q (row_at pool i) → z ≡ true
      → (b' : Bindings) → b' ≡ bind_at b (i + 1) → (v : Bool) → v ≡ verdict_at rule pool b' q.body
      → not (beq v (meaning.settled q.by)) ≡ decides_by rule pool b q i
  decides_row inside z z_is h b' b_is v v_is =
      unsettled q.by v
      ∙ ap (decides q.by) (v_is ∙ body_verdict rule pool b q i k ready i inside b' b_is)
      ∙ ap (λ (c : Bool). c && decides q.by (body_by rule pool b q (row_at pool i))) (sym (sym z_is ∙ h))

  pub decides_not : (z : Bool) → z ≡ ranges_by pool b q (row_at pool i) → z ≡ false → false ≡ decides_by rule pool b q i
  decides_not z z_is h =
      ap (λ (c : Bool). c && decides q.by (body_by rule pool b q (row_at pool i))) (sym (sym z_is ∙ h))

  -- the reason of the entry, where the quantifier ranges over no other rows
  module _ (e : ℕ) (is : formula_at rule e ≡ formula_by rule q) (v : Bool) (v_is : v ≡ verdict_at rule pool b e) (span : Covers pool b q i k) where
    quantified_reason : reason_at rule pool b e ≡ concat_map (with_body rule pool b q) (witnesses q.by (body_by rule pool b q) (ranged_by pool b q i k))
    unfolding reason
    quantified_reason =
        ap (λ (f : Formula). reason f (rows pool) b.depth (meant pool b)) is
        ∙ ap (λ (R : List Row). concat_map (with_body rule pool b q) (witnesses q.by (body_by rule pool b q) R)) (sym span.whole)

    over_rows : v ≡ verdict_by rule pool b q i k
    over_rows = v_is ∙ sym (run_verdict rule pool b e q is span (verdict_by rule pool b q i k) refl)

    module _ (all : beq v (meaning.settled q.by) ≡ true) where
      pub all_settled : verdict_by rule pool b q i k ≡ meaning.settled q.by
      all_settled = sym over_rows ∙ same_true v (meaning.settled q.by) all

      pub once_verdict : meaning.settled q.by ≡ verdict_at rule pool (bind_at b 0) q.body → (b' : Bindings) → b' ≡ bind_at b 0 → v ≡ verdict_at rule pool b' q.body
      once_verdict h b' b_is =
          same_true v (meaning.settled q.by) all ∙ h ∙ sym (ap (λ (z : Bindings). verdict_at rule pool z q.body) b_is)

      -- the body's reason is the same at all rows
      module _ (b' : Bindings) (b_is : b' ≡ bind_at b 0) (alike : (y : Row) → with_body rule pool b q y ≡ y ∷ reason_at rule pool (bind_at b 0) q.body)
          (found : Bool) (found_is : found ≡ any (ranges_by pool b q) (rows_from pool i k)) (m m' : List ℕ) (m_is : m' ≡ mark_in pool (select (ranges_by pool b q) (rows_from pool i k)) m) where
        one_reason : concat_map (λ y. y ∷ reason_at rule pool b' q.body) (select (ranges_by pool b q) (rows_from pool i k)) ≡ reason_at rule pool b e
        one_reason =
            ap (λ (z : Bindings). concat_map (λ y. y ∷ reason_at rule pool z q.body) (select (ranges_by pool b q) (rows_from pool i k))) b_is
            ∙ ap (λ (F : Row → List Row). concat_map F (ranged_by pool b q i k)) (sym (fun_ext alike))
            ∙ sym (quantified_reason ∙ ap (concat_map (with_body rule pool b q)) (witnesses_all q.by (body_by rule pool b q) (ranged_by pool b q i k) all_settled))

        pub once_marked : found ≡ true → (m'' : List ℕ) → m'' ≡ mark_in pool (reason_at rule pool b' q.body) m' → m'' ≡ mark_in pool (reason_at rule pool b e) m
        once_marked h m'' n_is =
            n_is ∙ ap (mark_in pool (reason_at rule pool b' q.body)) m_is
            ∙ mark_each (ranges_by pool b q) (rows pool) (rows_from pool i k) (reason_at rule pool b' q.body) m (sym found_is ∙ h)
            ∙ ap (λ (R : List Row). mark_in pool R m) one_reason

        pub nowhere_marked : found ≡ false → m' ≡ mark_in pool (reason_at rule pool b e) m
        nowhere_marked h =
            m_is ∙ mark_none_selected (ranges_by pool b q) (rows pool) (rows_from pool i k) (reason_at rule pool b' q.body) m (sym found_is ∙ h)
            ∙ ap (λ (R : List Row). mark_in pool R m) one_reason

      pub all_marked : (m m' : List ℕ) → m' ≡ mark_in pool (reason_by rule pool b q i k) m → m' ≡ mark_in pool (reason_at rule pool b e) m
      all_marked m m' h =
          h ∙ ap (λ (R : List Row). mark_in pool R m)
          (sym (quantified_reason ∙ ap (concat_map (with_body rule pool b q)) (witnesses_all q.by (body_by rule pool b q) (ranged_by pool b q i k) all_settled)))

    module _ (decided : beq v (meaning.settled q.by) ≡ false) where
      abbrev test : ℕ → Bool
      test j = decides_by rule pool b q (i + j)

      verdict_decides : decides q.by v ≡ true
      verdict_decides = unsettled_decides q.by v (same_false v (meaning.settled q.by) decided)

      none_at : (n : ℕ) → n ≤ first test k → (j : ℕ) → i ≤ j → j < i + n → decides_by rule pool b q j ≡ false
      none_at n h j a c = let z : i + (j - i) ≡ j = omega arith in ap (decides_by rule pool b q) (sym z) ∙ none_before test k (j - i) (omega arith)

      pub some_decides : some test k ≡ true
      some_decides = either (ltb (first test k) k)
          (λ s. s)
          (λ s. absurd (same_false v (meaning.settled q.by) decided
          (over_rows ∙ none_decides q.by (body_by rule pool b q) (ranges_by pool b q) pool i k (none_at k (ltb-false (first test k) k s)))))

      module _ (r : ℕ) (r_is : r ≡ i + first test k) where
        pub deciding_place : r < i + k
        deciding_place = omega (arith, r_is, ltb-true (first test k) k some_decides)

        row_decides : decides_by rule pool b q r ≡ true
        row_decides = ap (decides_by rule pool b q) r_is ∙ at_first test k (ltb-true (first test k) k some_decides)

        pub deciding_verdict : (b' : Bindings) → b' ≡ bind_at b (r + 1) → v ≡ verdict_at rule pool b' q.body
        deciding_verdict b' b_is =
            both_decide q.by v (body_by rule pool b q (row_at pool r)) verdict_decides (and_right (ranges_by pool b q (row_at pool r)) _ row_decides)
            ∙ sym (body_verdict rule pool b q i k ready r (omega (arith, deciding_place, ready.place)) b' b_is)

        pub first_marked : (b' : Bindings) → b' ≡ bind_at b (r + 1) → (m m' : List ℕ) → m' ≡ mark_in pool (reason_at rule pool b' q.body) (set m r 1) → m' ≡ mark_in pool (reason_at rule pool b e) m
        first_marked b' b_is m m' h =
            h ∙ row_marked r (omega (arith, deciding_place, ready.place)) b' b_is m
            ∙ ap (λ (R : List Row). mark_in pool R m)
            (sym (quantified_reason ∙ ap (concat_map (with_body rule pool b q))
            (witness_first q.by (body_by rule pool b q) (ranges_by pool b q) pool i k r (omega (arith, r_is)) deciding_place
            (λ j a c. none_at (r - i) (omega (arith, r_is)) j a (omega (arith, r_is))) row_decides (ap (decides q.by) (sym over_rows) ∙ verdict_decides))))

  -- over n rows from row f on: the first j of them, and those behind
  module _ (f n j : ℕ) (h : j ≤ n) where
    parts : ranged_by pool b q f n ≡ ranged_by pool b q f j ++ ranged_by pool b q (f + j) (n - j)
    parts = select_halves (ranges_by pool b q) pool f n j h

    module _ (none : verdict_by rule pool b q f n ≡ meaning.settled q.by) where
      both_settled : meaning.both q.by (verdict_by rule pool b q f j) (verdict_by rule pool b q (f + j) (n - j)) ≡ meaning.settled q.by
      both_settled =
          sym (fold_append q.by (body_by rule pool b q) (ranged_by pool b q f j) (ranged_by pool b q (f + j) (n - j)))
          ∙ ap (meaning.fold q.by (body_by rule pool b q)) (sym parts) ∙ none

      front_settled : verdict_by rule pool b q f j ≡ meaning.settled q.by
      front_settled = settled_left q.by (verdict_by rule pool b q f j) (verdict_by rule pool b q (f + j) (n - j)) both_settled

      back_settled : verdict_by rule pool b q (f + j) (n - j) ≡ meaning.settled q.by
      back_settled = settled_right q.by (verdict_by rule pool b q f j) (verdict_by rule pool b q (f + j) (n - j)) both_settled

    parts_marked : (m m' m'' : List ℕ) → m' ≡ mark_in pool (reason_by rule pool b q f j) m → m'' ≡ mark_in pool (reason_by rule pool b q (f + j) (n - j)) m'
        → m'' ≡ mark_in pool (reason_by rule pool b q f n) m
    parts_marked m m' m'' g g' =
        g' ∙ ap (mark_in pool (reason_by rule pool b q (f + j) (n - j))) g
        ∙ sym (mark_append (rows pool) (reason_by rule pool b q f j) (reason_by rule pool b q (f + j) (n - j)) m)
        ∙ ap (λ (R : List Row). mark_in pool R m)
        (sym (ap (concat_map (with_body rule pool b q)) parts
        ∙ concat_map_append (with_body rule pool b q) (ranged_by pool b q f j) (ranged_by pool b q (f + j) (n - j))))

  -- the rows of a quantifier that none of them decides, from the first one on
  module _ (none : verdict_by rule pool b q i k ≡ meaning.settled q.by) where
    pub no_row_marked : found (λ (j : ℕ). ranges_by pool b q (row_at pool (i + j))) k ≡ None → (m : List ℕ) → m ≡ mark_in pool (reason_by rule pool b q i k) m
    no_row_marked h m =
        sym (ap (λ (R : List Row). mark_in pool (concat_map (with_body rule pool b q) R) m) (ranged_none rule pool b q i k ready h) ∙ mark_none (rows pool) m)

    module _ (s : ℕ) (found_is : found (λ (j : ℕ). ranges_by pool b q (row_at pool (i + j))) k ≡ Some s) where
      all_of_them : verdict_by rule pool b q (i + s) (k - s) ≡ meaning.settled q.by
      all_of_them = ap (meaning.fold q.by (body_by rule pool b q)) (skip rule pool b q i k ready s found_is) ∙ none

      behind_it : verdict_by rule pool b q (i + s + 1) (k - s - 1) ≡ meaning.settled q.by
      behind_it = back_settled (i + s) (k - s) 1 (omega (arith, skips rule pool b q i k ready s found_is)) all_of_them

      module _ (b' : Bindings) (b_is : b' ≡ bind_at b (i + s + 1)) where
        pub first_verdict : meaning.settled q.by ≡ verdict_at rule pool b' q.body
        first_verdict =
            sym (body_verdict rule pool b q i k ready (i + s) (row_inside rule pool b q i k ready s found_is) b' b_is
            ∙ sym (fold_one q.by (body_by rule pool b q) (row_at pool (i + s)))
            ∙ ap (meaning.fold q.by (body_by rule pool b q)) (sym (ranged_row rule pool b q i k ready s found_is))
            ∙ front_settled (i + s) (k - s) 1 (omega (arith, skips rule pool b q i k ready s found_is)) all_of_them)

        first_row_marked : (m m' : List ℕ) → m' ≡ mark_in pool (reason_at rule pool b' q.body) (set m (i + s) 1) → m' ≡ mark_in pool (reason_by rule pool b q (i + s) 1) m
        first_row_marked m m' h =
            h ∙ row_marked (i + s) (omega (arith, row_inside rule pool b q i k ready s found_is)) b' b_is m
            ∙ ap (λ (R : List Row). mark_in pool (concat_map (with_body rule pool b q) R) m) (sym (ranged_row rule pool b q i k ready s found_is))

        pub last_marked : k - s - 1 ≡ 0 → (m m' : List ℕ) → m' ≡ mark_in pool (reason_at rule pool b' q.body) (set m (i + s) 1) → m' ≡ mark_in pool (reason_by rule pool b q i k) m
        unfolding rows_from
        last_marked l m m' h =
            parts_marked (i + s) (k - s) 1 (omega (arith, skips rule pool b q i k ready s found_is)) m m' m' (first_row_marked m m' h)
            (sym (ap (λ (n : ℕ). mark_in pool (reason_by rule pool b q (i + s + 1) n) m') l ∙ mark_none (rows pool) m'))
            ∙ ap (λ (R : List Row). mark_in pool (concat_map (with_body rule pool b q) R) m) (skip rule pool b q i k ready s found_is)

      module _ (j : ℕ) (l : j ≤ k - s - 1) where
        pub near_settled : verdict_by rule pool b q (i + s + 1) j ≡ meaning.settled q.by
        near_settled = front_settled (i + s + 1) (k - s - 1) j l behind_it

        pub far_settled : verdict_by rule pool b q (i + s + 1 + j) (k - s - 1 - j) ≡ meaning.settled q.by
        far_settled = back_settled (i + s + 1) (k - s - 1) j l behind_it

        pub rows_marked : (b' : Bindings) → b' ≡ bind_at b (i + s + 1) → (m m' m'' m''' : List ℕ)
            → m' ≡ mark_in pool (reason_at rule pool b' q.body) (set m (i + s) 1)
            → m'' ≡ mark_in pool (reason_by rule pool b q (i + s + 1) j) m'
            → m''' ≡ mark_in pool (reason_by rule pool b q (i + s + 1 + j) (k - s - 1 - j)) m''
            → m''' ≡ mark_in pool (reason_by rule pool b q i k) m
        rows_marked b' b_is m m' m'' m''' f g h =
            parts_marked (i + s) (k - s) 1 (omega (arith, skips rule pool b q i k ready s found_is)) m m' m''' (first_row_marked b' b_is m m' f)
            (parts_marked (i + s + 1) (k - s - 1) j l m' m'' m''' g h)
            ∙ ap (λ (R : List Row). mark_in pool (concat_map (with_body rule pool b q) R) m) (skip rule pool b q i k ready s found_is)
