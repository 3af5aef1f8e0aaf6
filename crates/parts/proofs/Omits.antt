-- One law for each way through the test whether a row is left out by itself, over plain variables. Assumes nothing.
use Prim.Native.Nat.{ℕ, suc, ◌+◌, ◌-◌, ◌<◌, ◌≤◌}
use mathlib.Core.Path.{◌≡◌, refl, sym, ap, ap₂, subst, fun_ext, ◌∙◌}
use mathlib.Core.Logic.{⊎_elim}
use mathlib.Core.Bool.{Bool, true, false, not, cond, ◌&&◌, ◌||◌}
use mathlib.Core.List.{List, [], ◌∷◌}
use native.Mathlib.Nat.{eq-or-lt_of_le}
use native.Mathlib.Numerals.{add-one}
use native.Mathlib.Omega.{arith}
use lib.ListN.{length, get_or, set, length-set}
use lib.Seq.{get_or-set_same, get_or-set_other}
use lib.Dec.{eqb}
use Rattle.base.specs.Lists.{all, any}
use Rattle.tables.specs.Words.{row_at, rows, entry_at, entry_count}
use Rattle.tables.specs.Rules.{entry_limit, nesting_limit, to_constant, around, accepted_rule}
use Rattle.tables.specs.Tables.{accepted_table}
use Rattle.tables.specs.declared.Row.{Row}
use Rattle.tables.specs.declared.Entry.{Entry}
use Rattle.tables.proofs.AcceptedRule.{few_entries}
use Rattle.logic.specs.Formulas.{Formula, negation, joined, quantified, compared, over_of, formula_at}
use Rattle.tables.specs.declared.Quantifier.{Quantifier}
use Rattle.tables.specs.declared.Connective.{Connective}
use Rattle.tables.specs.declared.Comparison.{Comparison}
use Rattle.tables.specs.declared.Over.{Over}
use Rattle.tables.specs.declared.Operand.{Operand}
use Rattle.logic.specs.Verdict.{Bindings, settled}
use Rattle.logic.specs.Reading.{reading, reads}
use Rattle.logic.specs.Parts.{Chains, chains_with, reach, reached_in, spare_in}
use Rattle.engine.specs.Ready.{meant}
use Rattle.tables.specs.Nodes.{Parts}
use Rattle.tables.specs.declared.nodes.Node.TheVariants as node
use Rattle.engine.specs.declared.bindings.Bindings as engine
use Rattle.parts.specs.Reaching.{with_binder, chains_below, reach_at, Binds, Around, chain_of, ReadyClimb, Deep, Climbed}
use Rattle.parts.specs.Omitting.{omitted_in, lets_out, ReadyBody, depth_of, omitted_at, ReadyOmit}
use Rattle.parts.specs.declared.chains.Binders.{Binders}
use Rattle.parts.proofs.Opened.{Inner, not_is, not_body, joined_is, left_side, right_side, quantified_is, body_inside, room, over_depth, compared_is}
use Rattle.parts.proofs.Climbs.{chains_same, reach_is}
use Rattle.std.specs.Prelude.{Option, Some, None}

-- ---- formulas
module _ (m : ℕ) (D : List Row) (d : ℕ) (K : Chains) (r : Row) where
  omitted_not : (φ : Formula) → omitted_in m (negation φ) D d K r ≡ omitted_in m φ D d K r
  unfolding reached_in spare_in
  omitted_not φ = refl

  omitted_joined : (c : Connective) (φ ψ : Formula) → omitted_in m (joined c φ ψ) D d K r ≡ (omitted_in m φ D d K r && omitted_in m ψ D d K r)
  unfolding reached_in spare_in
  omitted_joined c φ ψ = go (eqb m 2) (reached_in φ D d K r)
    where
      go : (b a : Bool) → cond b (not (a || reached_in ψ D d K r)) (spare_in φ D d K r && spare_in ψ D d K r) ≡ (cond b (not a) (spare_in φ D d K r) && cond b (not (reached_in ψ D d K r)) (spare_in ψ D d K r))
      go true true = refl
      go true false = refl
      go false a = refl

  omitted_compared : (c : Comparison) (v : ℕ) (w : Operand) → omitted_in m (compared c v w) D d K r ≡ true
  unfolding reached_in spare_in
  omitted_compared c v w = go (eqb m 2)
    where
      go : (b : Bool) → cond b true true ≡ true
      go true = refl
      go false = refl

  omitted_quantified : (q : Quantifier) (o : Over) (n : ℕ) (φ : Formula)
      → omitted_in m (quantified q o n φ) D d K r ≡ (all (lets_out m q φ D (suc d)) (reach D o n d K r) && omitted_in m φ D (suc d) (chains_with d (reach D o n d K) K) r)
  unfolding reached_in spare_in
  omitted_quantified q o n φ = go (eqb m 2) (reach D o n d K r)
    where
      K' : Chains
      K' = chains_with d (reach D o n d K) K

      go : (b : Bool) (L : List Bindings) → cond b (not (any (λ β. true) L || reached_in φ D (suc d) K' r)) (all (λ β. reads (settled q) (reading φ D (suc d) β)) L && spare_in φ D (suc d) K' r)
          ≡ (all (λ β. cond b false (reads (settled q) (reading φ D (suc d) β))) L && cond b (not (reached_in φ D (suc d) K' r)) (spare_in φ D (suc d) K' r))
      go true [] = refl
      go true (β ∷ L) = refl
      go false L = refl

-- ---- and
side_false : (x y : Bool) → x ≡ false → false ≡ (x && y)
side_false x y e = sym (ap (λ (z : Bool). z && y) e)

side_true : (x y : Bool) → x ≡ true → y ≡ (x && y)
side_true x y e = sym (ap (λ (z : Bool). z && y) e)

-- ---- an entry that has been read; a call for another rests on the falling number, below n, and that it can be read
abbrev pub OmitCall : List ℕ → List ℕ → Binders → ℕ → ℕ → ℕ → Type 0
OmitCall rule t by e i n = (entry_count rule - e < n) × ReadyOmit rule t by e i

module _ (rule : List ℕ) (ok : accepted_rule rule ≡ true) {t : List ℕ} {by : Binders} {e i : ℕ} (ready : ReadyOmit rule t by e i) (m : ℕ) {x : Entry} (x_is : x ≡ entry_at rule e) where
  call : {a : ℕ} → Inner rule e (around rule e) a → {n : ℕ} → entry_count rule - e ≡ n → OmitCall rule t by a i n
  call a n_is = (
    omega (arith, a.later, a.inside),
    record {
      sized = ready.sized;
      binders = ready.binders;
      inside = a.inside;
      depth_is = ready.depth_is ∙ sym a.depth;
      row_inside = ready.row_inside;
    },
  )

  abbrev chains : Chains
  chains = chains_below rule t by.entry by.depth

  abbrev omitted_as : Formula → Bool
  omitted_as F = omitted_in m F (rows t) by.depth chains (row_at t i)

  module _ {body : ℕ} (p : Parts x (node.Not body)) where
    pub not_call : {n : ℕ} → entry_count rule - e ≡ n → OmitCall rule t by body i n
    not_call n_is = call (not_body rule ok ready.inside x_is p) n_is

    pub omit_not : {o : Bool} → o ≡ omitted_at m rule t by body i → o ≡ omitted_at m rule t by e i
    omit_not o_is = o_is ∙ sym (ap omitted_as (not_is rule ok ready.inside x_is p) ∙ omitted_not m (rows t) by.depth chains (row_at t i) (formula_at rule body))

  module _ {c : Connective} {left right : ℕ} (p : Parts x (node.Connective c left right)) where
    pub left_call : {n : ℕ} → entry_count rule - e ≡ n → OmitCall rule t by left i n
    left_call n_is = call (left_side rule ok ready.inside x_is p) n_is

    pub right_call : {n : ℕ} → entry_count rule - e ≡ n → OmitCall rule t by right i n
    right_call n_is = call (right_side rule ok ready.inside x_is p) n_is

    both_sides : omitted_at m rule t by e i ≡ (omitted_at m rule t by left i && omitted_at m rule t by right i)
    both_sides = ap omitted_as (joined_is rule ok ready.inside x_is p) ∙ omitted_joined m (rows t) by.depth chains (row_at t i) c (formula_at rule left) (formula_at rule right)

    module _ {s : Bool} (s_is : s ≡ omitted_at m rule t by left i) where
      pub omit_left : s ≡ false → s ≡ omitted_at m rule t by e i
      omit_left h = h ∙ side_false _ (omitted_at m rule t by right i) (sym s_is ∙ h) ∙ sym both_sides

      pub omit_right : s ≡ true → {o : Bool} → o ≡ omitted_at m rule t by right i → o ≡ omitted_at m rule t by e i
      omit_right h o_is = o_is ∙ side_true _ (omitted_at m rule t by right i) (sym s_is ∙ h) ∙ sym both_sides

  module _ {c : Comparison} {variable : ℕ} {operand : Operand} (p : Parts x (node.Comparison c variable operand)) where
    pub omit_compared : true ≡ omitted_at m rule t by e i
    omit_compared = sym (ap omitted_as (compared_is rule ok ready.inside x_is p) ∙ omitted_compared m (rows t) by.depth chains (row_at t i) c variable operand)

  module _ {q : Quantifier} {over : Over} {name body : ℕ} (p : Parts x (node.Quantifier q over name body)) where
    free : by.depth < nesting_limit
    free = omega (arith, room rule ok ready.inside x_is p, ready.depth_is)

    pub with_room : (by.depth < nesting_limit) × (e < entry_limit)
    with_room = (free, omega (arith, ready.inside, few_entries to_constant rule ok))

    inner : Inner rule e (around rule e + 1) body
    inner = body_inside rule ok ready.inside x_is p

    binds : Binds rule by.depth e
    binds = record {
      inside = ready.inside;
      high = subst (λ (z : Entry). 5 ≤ z.kind) x_is p.0;
      low = subst (λ (z : Entry). z.kind ≤ 6) x_is p.1;
      over = subst (λ (z : Entry). z.b ≤ by.depth) x_is (omega (arith, over_depth rule ok ready.inside x_is p, ready.depth_is));
    }

    pub climb_ready : ReadyClimb rule t by.entry by.depth e i
    climb_ready = record { sized = ready.sized; limit = free; around = ready.binders; binds = binds; row_inside = ready.row_inside }

    -- how the quantifier reaches the row
    module _ {c : Option engine.Bindings} (climbed : Climbed rule t by.entry by.depth e i c) where
      pub body_ready : accepted_table t ≡ true → ReadyBody rule t c body
      body_ready table b c_is =
          let deep = climbed.deep b c_is in
          record {
            rule_accepted = ok;
            pool_accepted = table;
            inside = inner.inside;
            depth_is = omega (arith, deep.1, inner.depth, ready.depth_is);
            placed = deep.0;
          }

      abbrev lets_at : ℕ → Bindings → Bool
      lets_at d = lets_out m q (formula_at rule body) (rows t) d

      abbrev reach_from : Chains
      reach_from = chains_with by.depth (reach_at rule t by.entry by.depth e) chains

      -- the quantifier's own test, and its body's
      own_test : all (lets_at (depth_of c)) (chain_of t c) ≡ all (lets_at (suc by.depth)) (reach_at rule t by.entry by.depth e (row_at t i))
      own_test = go c climbed.deep ∙ ap (all (lets_at (suc by.depth))) climbed.reaches
        where
          go : (c : Option engine.Bindings) → Deep t by.depth c → all (lets_at (depth_of c)) (chain_of t c) ≡ all (lets_at (suc by.depth)) (chain_of t c)
          go None h = refl
          go (Some b) h = ap (λ (d : ℕ). all (lets_at d) (meant t b ∷ [])) (h b refl).1

      abbrev in_body : Bool
      in_body = omitted_in m (formula_at rule body) (rows t) (suc by.depth) reach_from (row_at t i)

      own_then_body : omitted_at m rule t by e i ≡ (all (lets_at (depth_of c)) (chain_of t c) && in_body)
      own_then_body =
          ap omitted_as (quantified_is rule ok ready.inside x_is p)
          ∙ omitted_quantified m (rows t) by.depth chains (row_at t i) q over name (formula_at rule body)
          ∙ ap (λ (f : Row → List Bindings). all (lets_at (suc by.depth)) (f (row_at t i)) && omitted_in m (formula_at rule body) (rows t) (suc by.depth) (chains_with by.depth f chains) (row_at t i))
          (fun_ext (λ r. sym (reach_is rule t by.entry by.depth e x_is p r)))
          ∙ ap (λ (z : Bool). z && in_body) (sym own_test)

      module _ {s : Bool} (s_is : s ≡ all (lets_at (depth_of c)) (chain_of t c)) where
        pub omit_own : s ≡ false → s ≡ omitted_at m rule t by e i
        omit_own h = h ∙ side_false _ in_body (sym s_is ∙ h) ∙ sym own_then_body

        module _ {by' : Binders} (by_is : by' ≡ with_binder by e) where
          within : by.depth < length by.entry
          within = omega (arith, free, ready.sized)

          same_below : (v : ℕ) → v < by.depth → get_or by.entry v 0 ≡ get_or (set by.entry by.depth e) v 0
          same_below v l = sym (get_or-set_other by.entry by.depth v e 0 (λ q. omega arith))

          binders : Around rule (set by.entry by.depth e) (by.depth + 1)
          binders v l = ⊎_elim
              (λ z. let k : by.depth ≡ v = omega arith in subst (λ (u : ℕ). Binds rule u (get_or (set by.entry by.depth e) u 0)) k (rw (get_or-set_same by.entry by.depth e 0 within) binds))
              (λ z. let k : v < by.depth = omega arith in subst (Binds rule v) (same_below v k) (ready.binders v k))
              (eq-or-lt_of_le l)

          pub body_call : {n : ℕ} → entry_count rule - e ≡ n → OmitCall rule t by' body i n
          body_call n_is = (
            omega (arith, inner.later, inner.inside),
            rw by_is (record {
              sized = length-set by.entry by.depth e ∙ ready.sized;
              binders = binders;
              inside = inner.inside;
              depth_is = omega (arith, inner.depth, ready.depth_is);
              row_inside = ready.row_inside;
            }),
          )

          chains_with_lem : chains_below rule t (set by.entry by.depth e) (suc by.depth) ≡ reach_from
          unfolding chains_below
          chains_with_lem = ap₂ (λ (f : ℕ) (K : Chains). chains_with by.depth (reach (rows t) (over_of (entry_at rule f).b) (entry_at rule f).c by.depth K) K)
              (get_or-set_same by.entry by.depth e 0 within)
              (sym (chains_same rule t by.entry (set by.entry by.depth e) by.depth same_below))

          pub omit_body : s ≡ true → {o : Bool} → o ≡ omitted_at m rule t by' body i → o ≡ omitted_at m rule t by e i
          omit_body h o_is =
              o_is ∙ ap (λ (z : Binders). omitted_at m rule t z body i) by_is
              ∙ ap (λ (n : ℕ). omitted_in m (formula_at rule body) (rows t) n (chains_below rule t (set by.entry by.depth e) n) (row_at t i)) (add-one by.depth)
              ∙ ap (λ (K : Chains). omitted_in m (formula_at rule body) (rows t) (suc by.depth) K (row_at t i)) chains_with_lem
              ∙ side_true _ in_body (sym s_is ∙ h)
              ∙ sym own_then_body
