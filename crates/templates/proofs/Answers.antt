-- What filling answers at each way out. Assumes nothing.
use Prim.Native.Nat.{ℕ, ◌+◌, ◌*◌, ◌≤◌, ◌<◌}
use mathlib.Core.Path.{◌≡◌, sym, ap, ◌∙◌}
use mathlib.Core.Bool.{Bool, true, false, ◌&&◌}
use mathlib.Core.List.{List, ◌++◌}
use native.Mathlib.Omega.{arith}
use lib.ListN.{length, drop}
use lib.Seq.{sets, sets-eq}
use borrow.Author.Tests.{le-leb, lt-leb}
use Rattle.std.specs.Prelude.{Option, Ok, Err}
use Rattle.base.specs.Search.{some, found}
use Rattle.base.proofs.Bools.{either}
use Rattle.tables.specs.Answers.{Answer, Done, Refused, is_done, unless, unless_any, fitting, output}
use Rattle.tables.specs.Words.{entry_words, entry_count}
use Rattle.tables.specs.Rules.{to_parameter, check_template}
use Rattle.tables.specs.Refusals.{refusal_at}
use Rattle.tables.specs.declared.refusals.Refusal.{Refusal}
use Rattle.tables.proofs.AcceptedRule.{whole_entries}
use Rattle.templates.specs.Templates.{parameter_limit, lacks_parameter, all_used, parameters_fit, filled, fill_answer, fill_out, Fillable}
use Rattle.templates.proofs.Filling.{filled_length}
use Rattle.templates.proofs.Exactly.{fillable}
use Rattle.tables.specs.declared.refusals.Fault.TheVariants.{ShortOutput, Blank, Parameters}

-- ---- whether the parameters fit
module _ (t : List ℕ) (count : ℕ) where
  pub too_many : parameter_limit < count → false ≡ parameters_fit t count
  too_many h = sym (ap (λ (b : Bool). b && all_used t count) (lt-leb count parameter_limit h))

  pub few_used : count ≤ parameter_limit → {b : Bool} → b ≡ all_used t count → b ≡ parameters_fit t count
  few_used h e = e ∙ sym (ap (λ (b : Bool). b && all_used t count) (le-leb count parameter_limit h))

-- ---- the refusals in their order
module _ (t ps : List ℕ) (room : ℕ) where
  abbrev answer : Answer
  answer = fill_answer t ps room

  abbrev lacking : Option ℕ
  lacking = found (lacks_parameter t (length ps)) (entry_count t)

  pub stop_template : {r : Refusal} → check_template t ≡ Err r → Err r ≡ answer
  unfolding fill_answer
  stop_template e = sym (rw e)

  module _ {n : ℕ} (e : check_template t ≡ Done n) where
    after_template : answer ≡ unless_any (lacks_parameter t (length ps)) Blank (entry_count t) (unless (parameters_fit t (length ps)) Parameters (fitting (filled t ps) room))
    unfolding fill_answer
    after_template = rw e

    pub stop_blank : {r : Refusal} → refusal_at Blank lacking ≡ Err r → Err r ≡ answer
    stop_blank h = sym (after_template ∙ either (some (lacks_parameter t (length ps)) (entry_count t))
        (λ q. rw q (cc (rw q at h)))
        (λ q. absurd (cc (rw q at h))))

    module _ (h : refusal_at Blank lacking ≡ Ok tt) where
      none_lacks : some (lacks_parameter t (length ps)) (entry_count t) ≡ false
      none_lacks = either (some (lacks_parameter t (length ps)) (entry_count t)) (λ q. absurd (cc (rw q at h))) (λ q. q)

      after_blank : answer ≡ unless (parameters_fit t (length ps)) Parameters (fitting (filled t ps) room)
      after_blank = after_template ∙ rw none_lacks

      pub stop_parameters : parameters_fit t (length ps) ≡ false → Refused Parameters 0 ≡ answer
      stop_parameters f = sym (after_blank ∙ rw f)

      module _ (g : parameters_fit t (length ps) ≡ true) where
        whole : length (filled t ps) ≡ length t
        whole = filled_length t ps ∙ sym (whole_entries to_parameter t (ap is_done e))

        pub stop_room : room < length t → Refused ShortOutput 0 ≡ answer
        stop_room l = sym (after_blank ∙ rw (g, whole, lt-leb (length t) room l))

        pub passed : length t ≤ room → Done (length t) ≡ answer
        passed l = sym (after_blank ∙ rw (g, whole, le-leb (length t) room l))

-- ---- the call
module _ (t ps out : List ℕ) where
  -- a refused call leaves the output as it came
  pub as_it_came : {r : Refusal} → Err r ≡ answer t ps (length out) → out ≡ fill_out t ps out
  unfolding fill_out
  as_it_came e = ap (λ (a : Answer). output a (filled t ps) out) e

  module _ {n : ℕ} (e : Done n ≡ answer t ps (length out)) where
    pub fits : Fillable t ps (length out)
    fits = fillable t ps (length out) (sym (ap is_done e))

    pub template_whole : length t ≡ entry_words * entry_count t
    template_whole = whole_entries to_parameter t fits.checked

    pub put_out : {o : List ℕ} → o ≡ sets out 0 (filled t ps) → o ≡ fill_out t ps out
    unfolding fill_out
    put_out o_is =
        let n = length (filled t ps) in
        let z : 0 + n ≡ n = omega arith in
        o_is ∙ sets-eq (filled t ps) out 0 (omega (arith, filled_length t ps, template_whole, fits.fits)) ∙ ap (λ (m : ℕ). filled t ps ++ drop m out) z
        ∙ ap (λ (a : Answer). output a (filled t ps) out) e
