-- One law for each way through the reading of an entry. Assumes nothing.
use Prim.Native.Nat.{ℕ, ◌+◌, ◌-◌, ◌<◌, ◌≤◌}
use mathlib.Core.Path.{◌≡◌, refl, sym, ap, ap₂, fun_ext, ◌∙◌}
use mathlib.Core.Bool.{Bool, true, false, not, ◌&&◌, beq, not-not, and-true, true≢false}
use mathlib.Core.List.{List}
use native.Mathlib.Omega.{arith}
use lib.ListN.{get_or}
use Rattle.std.specs.Prelude.{Option, Some, None, IfSome}
use Rattle.base.specs.Lists.{select}
use Rattle.base.proofs.Bools.{either, and_left}
use Rattle.tables.specs.Words.{row_at, row_count, rows, rows_from, entry_at, entry_count}
use Rattle.tables.specs.Rules.{nesting_limit, around}
use Rattle.tables.specs.Tables.{is_parent, row_limit}
use Rattle.tables.specs.Nodes.{Parts}
use Rattle.tables.specs.declared.Row.{Row}
use Rattle.tables.specs.declared.Entry.{Entry}
use Rattle.tables.specs.declared.nodes.Node.TheVariants as node
use Rattle.tables.specs.declared.nodes.Connective.{Connective}
use Rattle.tables.specs.declared.nodes.Quantifier.{Quantifier}
use Rattle.tables.specs.declared.nodes.Comparison.{Comparison}
use Rattle.tables.specs.declared.nodes.Over.{Over}
use Rattle.tables.specs.declared.nodes.Over.TheVariants.{Roots, Under}
use Rattle.tables.specs.declared.nodes.Operand.{Operand}
use Rattle.tables.proofs.Accepted.{behind, few_rows}
use Rattle.logic.specs.Formulas.{formula_at}
use Rattle.logic.specs.Verdict.{Place, nothing, named, ranges, hangs, settled}
use Rattle.logic.specs.Reading as meaning
use Rattle.logic.proofs.Walks.{select_span}
use Rattle.logic.proofs.Monotone.{one_way, roots_settled, roots_decided, elsewhere_settled, elsewhere_decided}
use Rattle.engine.specs.Places.{bind_at}
use Rattle.engine.specs.Ready.{Ready, meant}
use Rattle.engine.specs.declared.bindings.Bindings.{Bindings}
use Rattle.engine.proofs.Bound.{depth_bind, placed_bind, meant_bind}
use Rattle.engine.proofs.Falls.{entry_measure, below, falls_child, falls_rows, falls_later}
use Rattle.parts.specs.Ranges.{parent_under, OverBound}
use Rattle.parts.specs.Families.{family_at, Families}
use Rattle.parts.specs.declared.families.Family.{Family}
use Rattle.parts.specs.Device.{Bound, compared_at, reads_at, body_at, ranged_rows, sweeps_at, ReadySweep}
use Rattle.parts.proofs.Asking.{together, goes_on, stops, reads_not, is_and, is_implies, reads_connect, under_read, first_test_read}
use Rattle.parts.proofs.Opened.{Inner, not_is, not_body, joined_is, left_side, right_side, quantified_is, body_inside, room, over_bound, compared_is, variable_bound, operand_bound}
use Rattle.parts.proofs.Spans.{at_nothing, at_row, place_is}

-- ---- what a call within the cycle rests on: its falling number is below m, and what it is called for can be read
abbrev pub ReadsCall : List ℕ → List ℕ → Bindings → ℕ → ℕ → Type 0
ReadsCall rule t b e m = (entry_measure rule t e < m) × Ready rule t b e

abbrev pub SweepCall : List ℕ → List ℕ → Bindings → Option ℕ → ℕ → ℕ → ℕ → ℕ → Type 0
SweepCall rule t b parent body i n m = (entry_measure rule t body + n + 1 < m) × ReadySweep rule t b parent body i n

other_value : (x y : Bool) → beq x y ≡ false → x ≡ not y
other_value true true h = absurd (true≢false h)
other_value true false h = refl
other_value false true h = refl
other_value false false h = absurd (true≢false h)

same_true : (x y : Bool) → beq x y ≡ true → x ≡ y
same_true true true h = refl
same_true true false h = sym h
same_true false true h = h
same_true false false h = refl

-- ---- an entry that has been read
module _ {rule t : List ℕ} {b : Bindings} {e : ℕ} (ready : Ready rule t b e) {x : Entry} (x_is : x ≡ entry_at rule e) where
  call : {a : ℕ} → Inner rule e (around rule e) a → {m : ℕ} → entry_measure rule t e ≡ m → ReadsCall rule t b a m
  call {a} n m_is = (
    below m_is (falls_child (entry_count rule) (row_count t) e a n.later n.inside),
    record {
      rule_accepted = ready.rule_accepted;
      pool_accepted = ready.pool_accepted;
      inside = n.inside;
      depth_is = ready.depth_is ∙ sym n.depth;
      placed = ready.placed;
    },
  )

  module _ {body : ℕ} (p : Parts x (node.Not body)) where
    pub not_call : {m : ℕ} → entry_measure rule t e ≡ m → ReadsCall rule t b body m
    not_call m_is = call (not_body rule ready.rule_accepted ready.inside x_is p) m_is

    pub not_reads : (w : Bool) {r : Bool} → r ≡ reads_at rule t b body (not w) → r ≡ reads_at rule t b e w
    unfolding meaning.reading
    not_reads w r_is = r_is ∙ rw (not_is rule ready.rule_accepted ready.inside x_is p) (sym (reads_not w _))

  module _ {by : Connective} {left right : ℕ} (p : Parts x (node.Connective by left right)) where
    pub left_call : {m : ℕ} → entry_measure rule t e ≡ m → ReadsCall rule t b left m
    left_call m_is = call (left_side rule ready.rule_accepted ready.inside x_is p) m_is

    pub right_call : {m : ℕ} → entry_measure rule t e ≡ m → ReadsCall rule t b right m
    right_call m_is = call (right_side rule ready.rule_accepted ready.inside x_is p) m_is

    module _ (w : Bool) {n i : Bool} (n_is : n ≡ is_and by) (i_is : i ≡ not (is_implies by)) where
      joined_reads : reads_at rule t b e w ≡ together (beq w n) (reads_at rule t b left (beq w i)) (reads_at rule t b right w)
      unfolding meaning.reading
      joined_reads = rw (joined_is rule ready.rule_accepted ready.inside x_is p, n_is, i_is) (reads_connect by w _ _)

      module _ {l : Bool} (l_is : l ≡ reads_at rule t b left (beq w i)) where
        joined_left : together (beq w n) l (reads_at rule t b right w) ≡ reads_at rule t b e w
        joined_left = ap (λ (z : Bool). together (beq w n) z (reads_at rule t b right w)) l_is ∙ sym joined_reads

        pub right_reads : beq l (beq w n) ≡ true → {r : Bool} → r ≡ reads_at rule t b right w → r ≡ reads_at rule t b e w
        right_reads h r_is = r_is ∙ goes_on (beq w n) l (reads_at rule t b right w) h ∙ joined_left

        pub left_reads : beq l (beq w n) ≡ false → l ≡ reads_at rule t b e w
        left_reads h = stops (beq w n) l (reads_at rule t b right w) h ∙ joined_left

  module _ {by : Comparison} {variable : ℕ} {operand : Operand} (p : Parts x (node.Comparison by variable operand)) where
    pub left_bound : variable < nesting_limit
    left_bound = variable_bound rule ready.rule_accepted ready.inside x_is p ready.depth_is ready.placed.shallow

    pub right_bound : Bound operand
    right_bound = operand_bound rule ready.rule_accepted ready.inside x_is p ready.depth_is ready.placed.shallow

    pub compared_reads : (w : Bool) {r : Bool} → r ≡ meaning.reads w (compared_at t b by variable operand) → r ≡ reads_at rule t b e w
    unfolding meaning.reading
    compared_reads w r_is = rw (compared_is rule ready.rule_accepted ready.inside x_is p) r_is

  module _ {by : Quantifier} {over : Over} {name body : ℕ} (p : Parts x (node.Quantifier by over name body)) where
    pub bound_over : OverBound over
    bound_over = over_bound rule ready.rule_accepted ready.inside x_is p

    inner : Inner rule e (around rule e + 1) body
    inner = body_inside rule ready.rule_accepted ready.inside x_is p

    free : b.depth < nesting_limit
    free = omega (arith, room rule ready.rule_accepted ready.inside x_is p, ready.depth_is)

    few : row_count t ≤ row_limit
    few = few_rows t ready.pool_accepted

    body_ready : (k : ℕ) → k ≤ row_count t → Ready rule t (bind_at b k) body
    body_ready k h = record {
      rule_accepted = ready.rule_accepted;
      pool_accepted = ready.pool_accepted;
      inside = inner.inside;
      depth_is = omega (arith, depth_bind t b ready.placed free k (omega (arith, few)), inner.depth, ready.depth_is);
      placed = placed_bind t b ready.placed free k (omega (arith, few)) h;
    }

    -- called with the variable elsewhere
    pub elsewhere_call : {b' : Bindings} → b' ≡ bind_at b 0 → {m : ℕ} → entry_measure rule t e ≡ m → ReadsCall rule t b' body m
    elsewhere_call b_is m_is = (below m_is (falls_child (entry_count rule) (row_count t) e body inner.later inner.inside), rw b_is (body_ready 0 (omega arith)))

    sweep_call : (parent : Option ℕ) (i n : ℕ) → IfSome parent (λ p. p < row_count t) → i + n ≤ row_count t → {m : ℕ} → entry_measure rule t e ≡ m → SweepCall rule t b parent body i n m
    sweep_call parent i n h l m_is = (
      omega (arith, m_is, falls_rows (entry_count rule) (row_count t) e 0 n ready.inside (omega arith), falls_later (entry_count rule) (row_count t) (e + 1) body (omega (arith, inner.later))),
      record { room = free; placed = ready.placed; ready = body_ready; parent_inside = h; rows_inside = l },
    )

    abbrev f : Place → meaning.Reading
    f = body_at rule t b body

    abbrev own : List Row
    own = select (λ r. ranges over name (meant t b) r) (rows t)

    abbrev over_reading : Over → List Row → meaning.Reading
    over_reading o rs = meaning.quantify by o (meant t b) f rs

    quantified_reads : (w : Bool) → meaning.reads w (over_reading over own) ≡ reads_at rule t b e w
    unfolding meaning.reading
    quantified_reads w = rw (quantified_is rule ready.rule_accepted ready.inside x_is p) refl

    body_reads : (v : Bool) {b' : Bindings} → b' ≡ bind_at b 0 → reads_at rule t b' body v ≡ meaning.reads v (f nothing)
    body_reads v b_is = rw b_is (ap₂ (λ (d : ℕ) (β : ℕ → Place). meaning.reads v (meaning.reading (formula_at rule body) (rows t) d β))
        (depth_bind t b ready.placed free 0 (omega arith)) (meant_bind t b ready.placed free 0 (omega arith)))

    -- ---- its rows may be elsewhere: they are roots, or their parent is
    module _ (w : Bool) {every : Bool} (every_is : every ≡ settled by) where
      module _ {parent : Option ℕ} (parent_is : parent ≡ parent_under b.row over) (none : parent ≡ None) where
        pub elsewhere_reads : beq w every ≡ true → {b' : Bindings} → b' ≡ bind_at b 0 → {r : Bool} → r ≡ reads_at rule t b' body w → r ≡ reads_at rule t b e w
        elsewhere_reads h b_is r_is =
            let w_is : w ≡ settled by = same_true w every h ∙ every_is in
            r_is ∙ body_reads w b_is
            ∙ ap (λ (v : Bool). meaning.reads v (f nothing)) w_is
            ∙ sym (go over (sym parent_is ∙ none))
            ∙ ap (λ (v : Bool). meaning.reads v (over_reading over own)) (sym w_is)
            ∙ quantified_reads w
          where
            go : (o : Over) → parent_under b.row o ≡ None → meaning.reads (settled by) (over_reading o own) ≡ meaning.second_test by f
            go Roots z = roots_settled by (formula_at rule body) (rows t) b.depth (meant t b) own
            go (Under v) z =
                ap (λ (P : Place). meaning.reads (settled by) (meaning.under_place by P f own)) (at_nothing t b.row v z)
                ∙ elsewhere_settled by f

        module _ (h : beq w every ≡ false) where
          deciding : w ≡ not (settled by)
          deciding = other_value w every h ∙ ap not every_is

          pub none_reads : {v : ℕ} → over ≡ Under v → false ≡ reads_at rule t b e w
          none_reads {v} u =
              sym (ap (λ (P : Place). meaning.reads (not (settled by)) (meaning.under_place by P f own))
              (at_nothing t b.row v (ap (parent_under b.row) (sym u) ∙ sym parent_is ∙ none))
              ∙ elsewhere_decided by f)
              ∙ ap₂ (λ (k : Bool) (o : Over). meaning.reads k (over_reading o own)) (sym deciding) (sym u)
              ∙ quantified_reads w

          -- what settles it elsewhere leaves nothing for an own root to decide
          pub spared_reads : over ≡ Roots → {b' : Bindings} → b' ≡ bind_at b 0 → {r : Bool} → r ≡ reads_at rule t b' body (not w) → r ≡ true → false ≡ reads_at rule t b e w
          spared_reads z b_is r_is g =
              let settles_elsewhere : meaning.second_test by f ≡ true
              = ap (λ (v : Bool). meaning.reads v (f nothing)) (sym (ap not deciding ∙ not-not (settled by)))
              ∙ sym (body_reads (not w) b_is) ∙ sym r_is ∙ g in
              sym (roots_decided by f own ∙ no_first settles_elsewhere)
              ∙ ap₂ (λ (v : Bool) (o : Over). meaning.reads v (over_reading o own)) (sym deciding) (sym z)
              ∙ quantified_reads w
            where
              no_first : meaning.second_test by f ≡ true → meaning.first_test by f own ≡ false
              no_first g =
                  sym (and-true (meaning.first_test by f own)) ∙ ap (λ (y : Bool). meaning.first_test by f own && y) (sym g)
                  ∙ (one_way (formula_at rule body) (rows t) b.depth (meant t b)).not_both by own

          pub own_reads : over ≡ Roots → {m : ℕ} → m ≡ row_count t → {s : Bool} → s ≡ sweeps_at rule t b parent name body w (beq w every) 0 m → s ≡ reads_at rule t b e w
          own_reads z {m} m_is s_is =
              s_is
              ∙ ap₂ (λ (k : ℕ) (p : Option ℕ). sweeps_at rule t b p name body w (beq w every) 0 k) m_is none
              ∙ ap₂ (λ (v u : Bool). sweeps_at rule t b None name body v (beq v u) 0 (row_count t)) deciding every_is
              ∙ sym (first_test_read by f (ranged_rows t None name 0 (row_count t)))
              ∙ ap (λ (o : Over). meaning.first_test by f (select (λ r. ranges o name (meant t b) r) (rows t))) (sym z)
              ∙ sym (roots_decided by f own)
              ∙ ap₂ (λ (v : Bool) (o : Over). meaning.reads v (over_reading o own)) (sym deciding) (sym z)
              ∙ quantified_reads w

      -- ---- under a bound row: the rows up to it are none of its children, nor is one from their end on
      module _ {parent : Option ℕ} (parent_is : parent ≡ parent_under b.row over) {p₀ : ℕ} (known : parent ≡ Some p₀) {fs : List Family} (has : Families t fs) where
        under : parent_under b.row over ≡ Some p₀
        under = sym parent_is ∙ known

        pub parent_inside : p₀ < row_count t
        parent_inside = go over under
          where
            go : (o : Over) → parent_under b.row o ≡ Some p₀ → p₀ < row_count t
            go Roots z = absurd (cc)
            go (Under v) z = omega (arith, place_is (get_or b.row v 0) p₀ z, ready.placed.kept v)

        child : Row → Bool
        child r = is_parent r (row_at t p₀) && named name r

        -- its rows are that row's children
        ranges_is : (o : Over) → parent_under b.row o ≡ Some p₀ → (r : Row) → ranges o name (meant t b) r ≡ child r
        unfolding child
        ranges_is Roots z r = absurd (cc)
        ranges_is (Under v) z r = ap (λ (P : Place). hangs P r && named name r) (at_row t b.row v z)

        pub parent_few : p₀ < row_limit
        parent_few = omega (arith, parent_inside, few)

        pub end_behind : p₀ + 1 ≤ (family_at fs p₀).end
        end_behind = omega (arith, has.behind p₀ parent_inside)

        end_inside : (family_at fs p₀).end ≤ row_count t
        end_inside = has.within p₀ parent_inside

        pub under_call : {z : ℕ} → z ≡ (family_at fs p₀).end → {m : ℕ} → entry_measure rule t e ≡ m → SweepCall rule t b parent body (p₀ + 1) (z - (p₀ + 1)) m
        under_call {z} z_is m_is = sweep_call parent (p₀ + 1) (z - (p₀ + 1)) (rw known parent_inside) (omega (arith, end_inside, end_behind)) m_is

        not_child : (j : ℕ) → (is_parent (row_at t j) (row_at t p₀) ≡ true → ⊥) → child (row_at t j) ≡ false
        unfolding child
        not_child j h = either (is_parent (row_at t j) (row_at t p₀) && named name (row_at t j))
            (λ g. absurd (h (and_left (is_parent (row_at t j) (row_at t p₀)) (named name (row_at t j)) g)))
            (λ g. g)

        pub under_reads : {z : ℕ} → z ≡ (family_at fs p₀).end → {r : Bool} → r ≡ sweeps_at rule t b parent name body w (beq w every) (p₀ + 1) (z - (p₀ + 1)) → r ≡ reads_at rule t b e w
        unfolding child
        under_reads {z} z_is r_is =
            let k : p₀ + 1 + (z - (p₀ + 1)) ≡ z = omega (arith, end_behind) in
            r_is
            ∙ ap₂ (λ (o : Option ℕ) (v : Bool). sweeps_at rule t b o name body w (beq w v) (p₀ + 1) (z - (p₀ + 1))) known every_is
            ∙ sym (under_read by f w (select child (rows_from t (p₀ + 1) (z - (p₀ + 1)))))
            ∙ ap (λ (l : List Row). meaning.reads w (meaning.under_bound by f l))
            (select_span child t (row_count t) (p₀ + 1) (z - (p₀ + 1)) (omega (arith, k, end_inside, z_is))
            (λ j l. not_child j (λ g. omega (arith, behind t ready.pool_accepted p₀ j parent_inside (omega (arith, parent_inside)) g)))
            (λ j a c. not_child j (λ g. true≢false (sym g ∙ has.none_later p₀ j parent_inside (omega (arith, k, z_is)) c))))
            ∙ ap (λ (P : Row → Bool). meaning.reads w (meaning.under_bound by f (select P (rows t)))) (fun_ext (λ r. sym (ranges_is over under r)))
            ∙ go over under
            ∙ quantified_reads w
          where
            go : (o : Over) → parent_under b.row o ≡ Some p₀ → meaning.reads w (meaning.under_bound by f own) ≡ meaning.reads w (over_reading o own)
            go Roots q = absurd (cc)
            go (Under v) q = ap (λ (P : Place). meaning.reads w (meaning.under_place by P f own)) (sym (at_row t b.row v q))

      pub roots_call : {parent : Option ℕ} → parent ≡ None → {k : ℕ} → k ≡ row_count t → {m : ℕ} → entry_measure rule t e ≡ m → SweepCall rule t b parent body 0 k m
      roots_call {parent} none {k} k_is m_is = sweep_call parent 0 k (rw none tt) (omega arith) m_is
