-- The words that filling writes are an ordinary rule (specs/Templates). Assumes nothing.
use Prim.Native.Nat.{ℕ, ◌%◌}
use mathlib.Core.Path.{◌≡◌, sym, ap, subst, ◌∙◌}
use mathlib.Core.Bool.{true}
use mathlib.Core.List.{List}
use lib.ListN.{length, take, drop}
use lib.Seq.{take-append_seam}
use native.Mathlib.Omega.{arith}
use lib.Dec.{leb}
use borrow.Author.Tests.{leb-true, eqb-true, eq-eqb}
use Rattle.base.proofs.Bools.{either, and_left, and_right}
use Rattle.tables.specs.Answers.{Answer, value, is_done, output}
use Rattle.tables.specs.Words.{whole, entry_words, entry_at}
use Rattle.tables.specs.Rules.{is_comparison, to_constant, to_parameter, check_rule, check_template, accepted_rule}
use Rattle.tables.proofs.AcceptedRule.{whole_entries, checked_count, b_limited}
use Rattle.tables.proofs.Whole.{whole_lines}
use Rattle.templates.specs.Templates.{filled, fill_answer, fill_out, CheckedAlike, written, Ordinary, FillsToRules, BlanksRefused}
use Rattle.templates.proofs.Filling.{filled_length, filled_entry_lem}
use Rattle.templates.proofs.Exactly.{template_ok, fill_done}
use Rattle.templates.proofs.Alike.{Alike, filled_alike, checks_same}

-- ---- 1 to 7 can't tell a template of whole entries and the filled rule apart
module _ (t ps : List ℕ) (lines : whole entry_words t ≡ true) where
  pub as_long : length (filled t ps) ≡ length t
  as_long = filled_length t ps ∙ sym (whole_lines entry_words t lines)

  same_checks : check_rule (filled t ps) ≡ check_template t
  same_checks =
      checks_same t (filled t ps) as_long
      (λ i h. subst (Alike (entry_at t i)) (sym (filled_entry_lem t ps i h)) (filled_alike ps (entry_at t i)))

pub checked_alike : CheckedAlike
checked_alike = same_checks

template_whole : (t : List ℕ) → is_done (check_template t) ≡ true → whole entry_words t ≡ true
template_whole t ok = eq-eqb (length t % entry_words) 0 (omega (arith, whole_entries to_parameter t ok))

-- ---- the words that it writes
pub written_is : (t ps out : List ℕ) → is_done (fill_answer t ps (length out)) ≡ true → written t ps out ≡ filled t ps
unfolding fill_out
written_is t ps out ok =
    ap (λ (a : Answer). take (value a) (output a (filled t ps) out)) (fill_done t ps (length out) ok)
    ∙ take-append_seam (filled t ps) (drop (length (filled t ps)) out)

pub fills_to_rules : FillsToRules
fills_to_rules t ps out ok =
    subst (Ordinary t ps) (sym (written_is t ps out ok))
    (record {
      accepted = checked_alike t ps (template_whole t (template_ok t ps (length out) ok)) ∙ checked_count to_parameter t (template_ok t ps (length out) ok);
      but_for_blanks = filled_entry_lem t ps;
    })

-- ---- ordinary rules have no blanks
pub blanks_refused : BlanksRefused
blanks_refused rule i h blank = either (accepted_rule rule)
    (λ ok. let e = entry_at rule i in
    let compares = and_left (is_comparison e) _ blank in
    let high = leb-true 7 e.kind (and_left (leb 7 e.kind) _ compares) in
    let two = eqb-true e.b to_parameter (and_right (is_comparison e) _ blank) in
    absurd (omega (arith, two, b_limited to_constant rule ok i h high)))
    (λ ok. ok)
