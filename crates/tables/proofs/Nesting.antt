-- The loop that counts the quantifiers around an entry: what each turn adds. Assumes nothing.
use Prim.Native.Nat.{ℕ, suc, ◌+◌, ◌-◌, ◌≤◌, ◌<◌}
use mathlib.Core.Path.{◌≡◌, sym, ap, ◌∙◌}
use mathlib.Core.Bool.{Bool, true, false, cond}
use mathlib.Core.List.{List}
use native.Mathlib.Nat.{add_assoc}
use native.Mathlib.Omega.{arith}
use Rattle.tables.specs.Words.{entry_at}
use Rattle.tables.specs.Rules.{is_child, is_quantifier, one, around_from, around}
use Rattle.tables.specs.declared.Entry.{Entry}

-- the quantifiers counted so far, and those around the entry that is looked for below i
pub record Climbs (r : List ℕ) (j count inner i : ℕ) : Type 0 where
  pub rest : around r j ≡ count + around_from r i inner
  pub within : count + i ≤ j

pub climb_begin : (r : List ℕ) (j : ℕ) → Climbs r j 0 j j
climb_begin r j = record { rest = omega arith; within = omega arith }

step : (r : List ℕ) (i j : ℕ) → 0 < i
    → around_from r i j ≡ cond (is_child (entry_at r (i - 1)) j) (one (is_quantifier (entry_at r (i - 1))) + around_from r (i - 1) (i - 1)) (around_from r (i - 1) j)
unfolding around_from
step r i j h = let e : i ≡ suc (i - 1) = omega arith in ap (λ (n : ℕ). around_from r n j) e

module _ (r : List ℕ) (j count inner i : ℕ) (s : Climbs r j count inner i) (h : 0 < i) (x : Entry) (x_is : x ≡ entry_at r (i - 1)) (b : Bool) (b_is : b ≡ is_child x inner) where
  chosen : (c : Bool) → b ≡ c → is_child (entry_at r (i - 1)) inner ≡ c
  chosen c e = ap (λ (z : Entry). is_child z inner) (sym x_is) ∙ sym b_is ∙ e

  pub climb_child : b ≡ true → (q : ℕ) → q ≡ one (is_quantifier x) → q ≤ 1 → Climbs r j (count + q) (i - 1) (i - 1)
  climb_child e q q_is q-le =
      let w : count + i ≤ j = s.within in
      record {
        rest = s.rest
            ∙ ap (λ (n : ℕ). count + n) (step r i inner h
            ∙ ap (λ (z : Bool). cond z (one (is_quantifier (entry_at r (i - 1))) + around_from r (i - 1) (i - 1)) (around_from r (i - 1) inner)) (chosen true e)
            ∙ ap (λ (n : ℕ). n + around_from r (i - 1) (i - 1)) (sym (q_is ∙ ap (λ (z : Entry). one (is_quantifier z)) x_is)))
            ∙ sym (add_assoc count q (around_from r (i - 1) (i - 1)));
        within = omega arith;
      }

  pub climb_other : b ≡ false → Climbs r j count inner (i - 1)
  climb_other e =
      let w : count + i ≤ j = s.within in
      record {
        rest = s.rest ∙ ap (λ (n : ℕ). count + n) (step r i inner h
            ∙ ap (λ (z : Bool). cond z (one (is_quantifier (entry_at r (i - 1))) + around_from r (i - 1) (i - 1)) (around_from r (i - 1) inner)) (chosen false e));
        within = omega arith;
      }

pub climb_end : (r : List ℕ) (j count inner i : ℕ) → Climbs r j count inner i → i ≤ 0 → (count ≡ around r j) × (count ≤ j)
unfolding around_from
climb_end r j count inner i s h =
    let z : i ≡ 0 = omega arith in
    let w : count + i ≤ j = s.within in
    let e : count + around_from r i inner ≡ count = ap (λ (n : ℕ). count + around_from r n inner) z ∙ omega arith in
    (sym (s.rest ∙ e), omega arith)
