-- Whether a rule has a quantifier that reaches a row: one law for each way through the code's question. Assumes nothing.
use Prim.Native.Nat.{ℕ, suc, ◌+◌, ◌<◌, ◌≤◌}
use Rattle.std.specs.Prelude.{Option, Some, None}
use mathlib.Core.Path.{◌≡◌, refl, sym, ap, ap₂, subst, ◌∙◌}
use mathlib.Core.Bool.{Bool, true, false, ◌&&◌, true≢false}
use mathlib.Core.List.{List, [], ◌∷◌, map}
use native.Mathlib.Numerals.{add-one}
use native.Mathlib.Omega.{arith}
use lib.ListN.{length, get_or, set}
use lib.Seq.{get_or-set_same, get_or-set_other}
use lib.Dec.{eqb}
use borrow.Author.Tests.{eqb-true, eqb-false}
use Rattle.base.specs.Lists.{any, when, select, concat_map}
use Rattle.base.proofs.Bools.{either, and_left, and_right}
use Rattle.base.proofs.Lists.{any_at, any_hit, concat_map_out, select_out}
use Rattle.tables.specs.Words.{row_at, row_count, rows}
use Rattle.tables.specs.Rules.{nesting_limit}
use Rattle.tables.specs.Tables.{root, is_parent, accepted_table}
use Rattle.tables.specs.declared.Row.{Row}
use Rattle.tables.specs.declared.Connective.{Connective}
use Rattle.tables.specs.declared.Comparison.{Comparison}
use Rattle.tables.specs.declared.Operand.{Operand}
use Rattle.tables.specs.declared.Over.{Over}
use Rattle.tables.specs.declared.Over.TheVariants.{Roots, Under}
use Rattle.tables.proofs.Accepted.{ordered}
use Rattle.tables.proofs.RowLists.{row_out}
use Rattle.tables.proofs.Ordered as tables
use Rattle.logic.specs.Formulas.{negation, joined, compared, formula_at}
use Rattle.logic.specs.Verdict.{named}
use Rattle.logic.specs.Parts.{Chains, chains_with, reach, reached_in}
use Rattle.engine.specs.Places.{bind_at}
use Rattle.engine.specs.Ready.{ReadyRun, formula_by}
use Rattle.engine.specs.Touching.{OnWay, own, up, depth_under, depth_of, Lands, Known, Misses}
use Rattle.engine.specs.declared.bindings.Bindings.{Bindings}
use Rattle.engine.specs.declared.ranges.Quantified.{Quantified}
use Rattle.engine.proofs.Rows.{row_bound, depth_bound}

-- ---- the way goes on above each row on it
pub further : {t : List ℕ} {i j : ℕ} → OnWay t i j → {p : ℕ} → p < row_count t → is_parent (row_at t j) (row_at t p) ≡ true → OnWay t i p
further own h e = up h e own
further (up g q on) h e = up g q (further on h e)

-- ---- chains that are there
abbrev there : {A : Type 0} → List A → Bool
there xs = any (λ x. true) xs

there_when : {A : Type 0} (c : Bool) (xs : List A) → there (when c xs) ≡ true → (c ≡ true) × (there xs ≡ true)
there_when true xs e = (refl, e)
there_when false xs e = absurd (true≢false (sym e))

there_map : {A B : Type 0} (f : A → B) (xs : List A) → there (map f xs) ≡ there xs
there_map f [] = refl
there_map f (x ∷ xs) = refl

-- ---- the place of a row, if it is found
abbrev pub place_found : Option ℕ → ℕ
place_found None = 0
place_found (Some i) = i + 1

-- ---- a quantifier reaches a row on the way
module _ (t : List ℕ) (ok : accepted_table t ≡ true) (row : ℕ) (b : Bindings) (K : Chains) (known : Known t row K b) (over : Over) (name : ℕ) (found : Option ℕ)
    (l : Lands t row b.row over name found) (low : (v : ℕ) → over ≡ Under v → v < b.depth) (room : b.depth < nesting_limit) where
  abbrev Reaches : Over → Type 0
  Reaches o = (i : ℕ) → OnWay t row i → i < row_count t
      → there (reach (rows t) o name b.depth K (row_at t i)) ≡ true
      → (depth_of t b.row o ≡ Some (row_at t i).deep) × ((row_at t i).deep ≤ b.depth) × (named name (row_at t i) ≡ true)

  reaches_root : Reaches Roots
  reaches_root i on h e =
      let both = (there_when (root (row_at t i) && named name (row_at t i)) _ e).0 in
      let top : (row_at t i).deep ≡ 0 = tables.root_depth t (ordered t ok) i h (and_left (root (row_at t i)) _ both) in
      (ap Some (sym top), omega (arith, top), and_right (root (row_at t i)) _ both)

  reaches_under : (v : ℕ) → v < b.depth → Reaches (Under v)
  reaches_under v low i on h e =
      let split = there_when (named name (row_at t i)) _ e in
      let ps = select (is_parent (row_at t i)) (rows t) in
      let some = any_at (λ y. true) (concat_map (K v) ps) (sym (there_map _ (concat_map (K v) ps)) ∙ split.1) in
      let from = concat_map_out (K v) ps some.1 in
      let parent = select_out (is_parent (row_at t i)) (rows t) from.1 in
      let at = row_out t parent.0 in
      let is_parent_lem : is_parent (row_at t i) (row_at t at.0) ≡ true = ap (is_parent (row_at t i)) (sym at.2) ∙ parent.1 in
      let chain : there (K v (row_at t at.0)) ≡ true = subst (λ (p : Row). there (K v p) ≡ true) at.2 (any_hit (λ y. true) from.2 refl) in
      let k = known v at.0 low (further on at.1 is_parent_lem) at.1 chain in
      let deeper : (row_at t i).deep ≡ (row_at t at.0).deep + 1 = tables.child_depth t (ordered t ok) at.0 i at.1 h is_parent_lem in
      (ap (depth_under t) k.0 ∙ ap Some (sym deeper), omega (arith, deeper, k.1), split.0)

  reaches : (o : Over) → ((v : ℕ) → o ≡ Under v → v < b.depth) → Reaches o
  reaches Roots h = reaches_root
  reaches (Under v) h = reaches_under v (h v refl)

  pub reached_row : (i : ℕ) → OnWay t row i → i < row_count t
      → there (reach (rows t) over name b.depth K (row_at t i)) ≡ true
      → (found ≡ Some i) × ((row_at t i).deep ≤ b.depth)
  reached_row i on h e =
      let r = reaches over low i on h e in
      (l.lands i on r.0 (omega (arith, r.1)) r.2, r.1)

  -- its variable is known in its body
  pub body_known : length b.row ≡ nesting_limit → {b' : Bindings} → b'.row ≡ set b.row b.depth (place_found found) → b'.depth ≡ suc b.depth
      → Known t row (chains_with b.depth (reach (rows t) over name b.depth K) K) b'
  body_known sized {b'} row_is depth_is v i low on h e = either (eqb v b.depth)
      (λ q.
      let r = reached_row i on h (rw q at e) in
      let at : v ≡ b.depth = eqb-true v b.depth q in (
        ap₂ (λ (ps : List ℕ) (k : ℕ). get_or ps k 0) row_is at ∙ get_or-set_same b.row b.depth (place_found found) 0 (omega (arith, sized))
            ∙ ap place_found r.0 ∙ add-one i,
        omega (arith, at, r.1),
      ))
      (λ q.
      let apart : ¬ (v ≡ b.depth) = eqb-false v b.depth q in
      let k = known v i (omega (arith, depth_is)) on h (rw q at e) in
      (ap (λ (ps : List ℕ). get_or ps v 0) row_is ∙ get_or-set_other b.row b.depth v (place_found found) 0 apart ∙ k.0, k.1))

-- ---- an entry that has been read
module _ (rule t : List ℕ) (row : ℕ) (b : Bindings) (e : ℕ) where
  pub misses_not : (a : ℕ) → formula_at rule e ≡ negation (formula_at rule a) → Misses rule t row b a → Misses rule t row b e
  unfolding reached_in
  misses_not a is m K known = rw is (m K known)

  pub misses_joined : (c : Connective) (l r : ℕ) → formula_at rule e ≡ joined c (formula_at rule l) (formula_at rule r)
      → Misses rule t row b l → Misses rule t row b r → Misses rule t row b e
  unfolding reached_in
  misses_joined c l r is m n K known = rw (is, m K known) (n K known)

  pub misses_compared : (c : Comparison) (v : ℕ) (o : Operand) → formula_at rule e ≡ compared c v o → Misses rule t row b e
  unfolding reached_in
  misses_compared c v o is K known = rw is

  module _ (q : Quantified) (is : formula_at rule e ≡ formula_by rule q) (run : ReadyRun rule t b q 0 0)
      (low : (v : ℕ) → q.over ≡ Under v → v < b.depth) {found : Option ℕ} (l : Lands t row b.row q.over q.name found) where
    pub place_within : place_found found ≤ row_count t
    place_within = go found l.within
      where
        go : (f : Option ℕ) → ((i : ℕ) → f ≡ Some i → i < row_count t) → place_found f ≤ row_count t
        go None h = omega arith
        go (Some i) h = omega (arith, h i refl)

    pub misses_body : row < row_count t → (found ≡ Some row → ⊥) → {b' : Bindings} → b' ≡ bind_at b (place_found found) → Misses rule t row b' q.body → Misses rule t row b e
    unfolding reached_in
    misses_body inside apart {b'} b_is m K known =
        rw (is, own_no)
        (subst (λ (d : ℕ). reached_in (formula_at rule q.body) (rows t) d K' (row_at t row) ≡ false) deep
        (m K' (body_known t run.pool_accepted row b K known q.over q.name found l low run.room run.placed.sized places deep)))
      where
        K' : Chains
        K' = chains_with b.depth (reach (rows t) q.over q.name b.depth K) K

        places : b'.row ≡ set b.row b.depth (place_found found)
        places = ap (λ (z : Bindings). z.row) b_is ∙ row_bound rule t b q 0 0 run (place_found found) place_within

        deep : b'.depth ≡ suc b.depth
        deep = ap (λ (z : Bindings). z.depth) b_is ∙ depth_bound rule t b q 0 0 run (place_found found) place_within

        own_no : there (reach (rows t) q.over q.name b.depth K (row_at t row)) ≡ false
        own_no = either (there (reach (rows t) q.over q.name b.depth K (row_at t row)))
            (λ z. absurd (apart (reached_row t run.pool_accepted row b K known q.over q.name found l low run.room row own inside z).0))
            (λ z. z)
