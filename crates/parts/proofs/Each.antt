-- A set's rules asked for one row, one after the other. Assumes nothing.
use Prim.Native.Nat.{ℕ, ◌<◌}
use mathlib.Core.Path.{◌≡◌, refl, sym, ap, subst, ◌∙◌}
use mathlib.Core.Bool.{Bool, true, false, not, cond, ◌&&◌, ◌||◌}
use mathlib.Core.List.{List, [], ◌∷◌, map, Memᴰ}
use native.Mathlib.Omega.{arith}
use lib.Dec.{eqb}
use Rattle.base.specs.Lists.{◌∈◌, all, any}
use Rattle.tables.specs.Words.{row_at, row_count, rows}
use Rattle.tables.specs.Rules.{to_constant, around_from, accepted_rule}
use Rattle.tables.specs.declared.Row.{Row}
use Rattle.tables.proofs.AcceptedRule.{some_entry}
use Rattle.sets.specs.Sets.{accepted_set, rules_of}
use Rattle.sets.proofs.Sets.{rule_accepted}
use Rattle.logic.specs.Formulas.{Formula, formula, formulas_of}
use Rattle.logic.specs.Parts.{reached, spare, reached_by_any, spare_for_each}
use Rattle.parts.specs.Reaching.{no_binders, chains_below}
use Rattle.parts.specs.Omitting.{omitted_at, ReadyOmit, omitted}
use Rattle.parts.specs.declared.chains.Binders.{Binders}

-- ---- one rule, from its first entry on
abbrev omitted_by : ℕ → List Row → Row → List ℕ → Bool
omitted_by m D r rule = cond (eqb m 2) (not (reached (formula rule) D r)) (spare (formula rule) D r)

omitted_is : (m : ℕ) (rule t : List ℕ) (i : ℕ) {by : Binders} → by ≡ no_binders → omitted_at m rule t by 0 i ≡ omitted_by m (rows t) (row_at t i) rule
unfolding reached spare chains_below
omitted_is m rule t i by_is = ap (λ (z : Binders). omitted_at m rule t z 0 i) by_is

-- ---- all rules
omitted_by_all : (m : ℕ) (D : List Row) (r : Row) (rs : List (List ℕ)) → omitted m (map formula rs) D r ≡ all (omitted_by m D r) rs
unfolding reached_by_any spare_for_each
omitted_by_all m D r rs = go (eqb m 2) rs
  where
    turned : (a b : Bool) → not (a || b) ≡ (not a && not b)
    turned true b = refl
    turned false b = refl

    go : (b : Bool) (xs : List (List ℕ))
        → cond b (not (any (λ F. reached F D r) (map formula xs))) (all (λ F. spare F D r) (map formula xs))
        ≡ all (λ x. cond b (not (reached (formula x) D r)) (spare (formula x) D r)) xs
    go true [] = refl
    go false [] = refl
    go true (x ∷ xs) = turned (reached (formula x) D r) (any (λ F. reached F D r) (map formula xs)) ∙ ap (◌&&◌ (not (reached (formula x) D r))) (go true xs)
    go false (x ∷ xs) = ap (◌&&◌ (spare (formula x) D r)) (go false xs)

module _ (Fs : List Formula) (t : List ℕ) (m row : ℕ) where
  -- the rules left are accepted, and what is left to ask is theirs
  pub record Asks (left : List (List ℕ)) : Type 0 where
    pub accepted : (rule : List ℕ) → rule ∈ left → accepted_rule rule ≡ true
    pub answer : omitted m Fs (rows t) (row_at t row) ≡ all (omitted_by m (rows t) (row_at t row)) left

  module _ {rule : List ℕ} {left all_left : List (List ℕ)} (asks : Asks all_left) (left_is : all_left ≡ rule ∷ left) where
    these : Asks (rule ∷ left)
    these = subst Asks left_is asks

    pub rule_ok : accepted_rule rule ≡ true
    rule_ok = these.accepted rule (Memᴰ.head refl)

    module _ {by : Binders} (by_is : by ≡ no_binders) where
      pub ask_ready : row < row_count t → ReadyOmit rule t by 0 row
      unfolding around_from
      ask_ready h = subst (λ (z : Binders). ReadyOmit rule t z 0 row) (sym by_is) (record {
        sized = refl;
        binders = λ v l. absurd (omega arith);
        inside = some_entry to_constant rule rule_ok;
        depth_is = refl;
        row_inside = h;
      })

      module _ {x : Bool} (x_is : x ≡ omitted_at m rule t by 0 row) where
        next_is : omitted m Fs (rows t) (row_at t row) ≡ (x && all (omitted_by m (rows t) (row_at t row)) left)
        next_is = these.answer ∙ ap (λ (b : Bool). b && all (omitted_by m (rows t) (row_at t row)) left) (sym (x_is ∙ omitted_is m rule t row by_is))

        pub ask_needed : x ≡ false → false ≡ omitted m Fs (rows t) (row_at t row)
        ask_needed e = sym (next_is ∙ ap (λ (b : Bool). b && all (omitted_by m (rows t) (row_at t row)) left) e)

        pub ask_more : x ≡ true → Asks left
        ask_more e = record {
          accepted = λ r i. these.accepted r (Memᴰ.tail i);
          answer = next_is ∙ ap (λ (b : Bool). b && all (omitted_by m (rows t) (row_at t row)) left) e;
        }

  pub ask_end : {left : List (List ℕ)} → Asks left → left ≡ [] → true ≡ omitted m Fs (rows t) (row_at t row)
  ask_end asks e = sym (asks.answer ∙ ap (all (omitted_by m (rows t) (row_at t row))) e)

pub ask_begin : (rules counts t : List ℕ) (m row : ℕ) → accepted_set rules counts ≡ true → {left : List (List ℕ)} → left ≡ rules_of rules counts → Asks (formulas_of rules counts) t m row left
ask_begin rules counts t m row ok e = rw e (record {
  accepted = λ r i. rule_accepted rules counts ok i;
  answer = omitted_by_all m (rows t) (row_at t row) (rules_of rules counts);
})
