-- The loop that writes a byte for each rule of a set: what is left to write is that of the rules left. Assumes nothing.
use Prim.Native.Nat.{ℕ, ◌+◌, ◌≤◌}
use native.Mathlib.Numerals.{add-one}
use native.Mathlib.Omega.{arith}
use mathlib.Core.Path.{◌≡◌, refl, sym, ap, ap₂, subst, ◌∙◌}
use mathlib.Core.Bool.{Bool, true, false}
use mathlib.Core.List.{List, [], ◌∷◌, map}
use lib.ListN.{length, get_or, set, length-set}
use lib.Seq.{sets, get_or-set_other, set-get_or}
use Rattle.std.specs.Int.{from_bool}
use Rattle.tables.specs.Words.{rows}
use Rattle.tables.specs.Rules.{one, accepted_rule}
use Rattle.tables.specs.Tables.{accepted_table}
use Rattle.sets.specs.Sets.{rules_of, accepted_set}
use Rattle.sets.proofs.Sets.{each_accepted}
use Rattle.sets.proofs.EachRule.{Passed, Turn, pass_begin, pass_turn}
use Rattle.logic.specs.Formulas.{formula, formulas_of}
use Rattle.logic.specs.Verdict.{verdict, verdict_bytes}
use Rattle.engine.specs.Places.{fresh}
use Rattle.engine.specs.Ready.{verdict_at}
use Rattle.engine.specs.declared.bindings.Bindings.{Bindings}
use Rattle.engine.proofs.Answered.{start_number}

pub one_small : (b : Bool) → one b ≤ 1
one_small true = omega arith
one_small false = omega arith

pub one_bool : (b : Bool) → from_bool b ≡ one b
one_bool true = refl
one_bool false = refl

-- ---- a rule's byte
module _ (rule pool : List ℕ) (rule_ok : accepted_rule rule ≡ true) (pool_ok : accepted_table pool ≡ true) {b : Bindings} (b_is : b ≡ fresh) where
  pub asked_byte : {v : Bool} → v ≡ verdict_at rule pool b 0 → {n : ℕ} → n ≡ one v → n ≡ one (verdict (formula rule) (rows pool))
  asked_byte v_is n_is = start_number rule pool rule_ok pool_ok b_is v_is n_is

module _ (rules counts pool out₀ : List ℕ) where
  abbrev byte_of : List ℕ → ℕ
  byte_of rule = one (verdict (formula rule) (rows pool))

  abbrev bytes_of : List (List ℕ) → List ℕ
  bytes_of left = verdict_bytes (map formula left) (rows pool)

  pub record Writes (out : List ℕ) (i : ℕ) (left : List (List ℕ)) : Type 0 where
    pub passed : Passed rules counts i left
    pub len : length out ≡ length out₀
    pub rest : sets out₀ 0 (verdict_bytes (formulas_of rules counts) (rows pool)) ≡ sets out i (bytes_of left)
    -- the bytes of the rules left are as they were
    pub ahead : (j : ℕ) → i ≤ j → get_or out j 0 ≡ get_or out₀ j 0

  pub write_begin : {left : List (List ℕ)} → left ≡ rules_of rules counts → Writes out₀ 0 left
  write_begin e = record {
    passed = pass_begin rules counts e;
    len = refl;
    rest = ap (λ (l : List (List ℕ)). sets out₀ 0 (bytes_of l)) (sym e);
    ahead = λ j h. refl;
  }

  module _ {out : List ℕ} {i : ℕ} {all : List (List ℕ)} (w : Writes out i all) {rule : List ℕ} {left : List (List ℕ)} (e : all ≡ rule ∷ left) where
    pub turn : Turn rules counts i rule left
    turn = pass_turn rules counts w.passed e

    pub write_more : {n : ℕ} → n ≡ byte_of rule → Writes (set out i n) (i + 1) left
    write_more {n} n_is = record {
      passed = turn.next;
      len = length-set out i n ∙ w.len;
      rest = w.rest
          ∙ ap (λ (l : List (List ℕ)). sets out i (bytes_of l)) e
          ∙ ap₂ (λ (x j : ℕ). sets (set out i x) j (bytes_of left)) (sym n_is) (sym (add-one i));
      ahead = λ j l. get_or-set_other out i j n 0 (λ q. omega (arith, q)) ∙ w.ahead j (omega arith);
    }

    module _ (set_ok : accepted_set rules counts ≡ true) where
      pub turn_accepted : accepted_rule rule ≡ true
      turn_accepted = subst (λ (r : List ℕ). accepted_rule r ≡ true) (sym turn.rule_is) (each_accepted rules counts set_ok i turn.below)

    -- a byte that stays
    pub write_kept : get_or out i 0 ≡ byte_of rule → Writes out (i + 1) left
    write_kept is = subst (λ (o : List ℕ). Writes o (i + 1) left) (set-get_or out i 0) (write_more is)

  pub write_end : {out : List ℕ} {i : ℕ} {all : List (List ℕ)} → Writes out i all → all ≡ [] → out ≡ sets out₀ 0 (verdict_bytes (formulas_of rules counts) (rows pool))
  write_end {out} {i} w e = sym (w.rest ∙ ap (λ (l : List (List ℕ)). sets out i (bytes_of l)) e)
