-- A call of filling is accepted exactly if the template and its parameters fit each other (specs/Templates). Assumes nothing.
use Prim.Native.Nat.{ℕ, ◌<◌}
use mathlib.Core.Path.{◌≡◌, sym, ap, ◌∙◌}
use mathlib.Core.Bool.{true, false, not}
use mathlib.Core.List.{List}
use native.Mathlib.Omega.{arith}
use lib.ListN.{length}
use lib.Dec.{leb}
use borrow.Author.Tests.{leb-true, leb-false, le-leb, lt-leb, ltb-true, eqb-true, eq-eqb, not-true, not-false}
use Rattle.base.specs.Search.{first}
use Rattle.base.proofs.Bools.{either, and_left, and_right, and_both, and_rest}
use Rattle.base.proofs.Search.{at_first, some_at, some_none, none_at}
use Rattle.tables.specs.Answers.{Answer, Done, is_done, unless, unless_any, fitting}
use Rattle.tables.specs.Words.{entry_at, entry_count}
use Rattle.tables.specs.Rules.{to_parameter, check_template}
use Rattle.tables.proofs.Answers.{unless_ok, unless_next, unless_passed, none_of, unless_any_next, unless_any_passed}
use Rattle.tables.proofs.Answers.{and_then_first, and_then_next, and_then_passed}
use Rattle.tables.proofs.AcceptedRule.{whole_entries}
use Rattle.templates.specs.Templates.{is_blank, parameter_limit, lacks_parameter, has_number, is_used, all_used, parameters_fit, filled, fill_answer}
use Rattle.templates.specs.Templates.{EachHasParameter, EachHasBlank, Fillable, FilledExactly}
use Rattle.templates.proofs.Filling.{filled_length}
use Rattle.tables.specs.declared.refusals.Fault.TheVariants.{ShortOutput, Blank, Parameters}

module _ (t : List ℕ) where
  -- ---- each blank has a parameter
  lacks_none : {count : ℕ} → EachHasParameter t count → (i : ℕ) → i < entry_count t → lacks_parameter t count i ≡ false
  lacks_none {count} has i h = either (is_blank (entry_at t i))
      (λ g. rw g (lt-leb count (entry_at t i).c (has i h g)))
      (λ g. rw g)

  has_parameter : {count : ℕ} → ((i : ℕ) → i < entry_count t → lacks_parameter t count i ≡ false) → EachHasParameter t count
  has_parameter {count} none i h g = leb-false count (entry_at t i).c (and_rest (is_blank (entry_at t i)) _ (none i h) g)

  -- ---- each parameter has a blank
  used : (p : ℕ) → is_used t p ≡ true
      → (i : ℕ) × (i < entry_count t) × (is_blank (entry_at t i) ≡ true) × ((entry_at t i).c ≡ p)
  used p e =
      let n = entry_count t in
      let l = ltb-true (first (has_number t p) n) n e in
      let i = first (has_number t p) n in
      let found = at_first (has_number t p) n l in
      (i, l, and_left (is_blank (entry_at t i)) _ found, eqb-true (entry_at t i).c p (and_right (is_blank (entry_at t i)) _ found))

  has_blank : (count : ℕ) → all_used t count ≡ true → EachHasBlank t count
  has_blank count e p h = used p (not-false _ (none_at (λ q. not (is_used t q)) count p (not-true _ e) h))

  is_used_lem : (p i : ℕ) → i < entry_count t → is_blank (entry_at t i) ≡ true → (entry_at t i).c ≡ p → is_used t p ≡ true
  is_used_lem p i h g e = some_at (has_number t p) (entry_count t) i h (and_both (is_blank (entry_at t i)) _ g (eq-eqb (entry_at t i).c p e))

  all_used_lem : (count : ℕ) → EachHasBlank t count → all_used t count ≡ true
  all_used_lem count has =
      ap not (some_none (λ p. not (is_used t p)) count (λ p h. let w = has p h in ap not (is_used_lem p w.0 w.1 w.2 w.3)))

-- ---- the checks in their order
module _ (t ps : List ℕ) (room : ℕ) where
  abbrev fit : Answer
  fit = fitting (filled t ps) room

  abbrev after_21 : Answer
  after_21 = unless (parameters_fit t (length ps)) Parameters fit

  abbrev after_7 : Answer
  after_7 = unless_any (lacks_parameter t (length ps)) Blank (entry_count t) after_21

  -- passed, the value is the number of the filled rule's words
  passed : is_done (check_template t) ≡ true → ((i : ℕ) → i < entry_count t → lacks_parameter t (length ps) i ≡ false)
      → parameters_fit t (length ps) ≡ true → leb (length (filled t ps)) room ≡ true → fill_answer t ps room ≡ Done (length (filled t ps))
  unfolding fill_answer
  passed checked none parameters fits =
      and_then_passed (check_template t) after_7 checked
      ∙ unless_any_passed (lacks_parameter t (length ps)) Blank (entry_count t) after_21 none
      ∙ unless_passed (parameters_fit t (length ps)) Parameters fit parameters
      ∙ unless_passed (leb (length (filled t ps)) room) ShortOutput (Done (length (filled t ps))) fits

  module _ (ok : is_done (fill_answer t ps room) ≡ true) where
    pub template_ok : is_done (check_template t) ≡ true
    unfolding fill_answer
    template_ok = and_then_first (check_template t) after_7 ok

    rest_ok : is_done after_7 ≡ true
    unfolding fill_answer
    rest_ok = and_then_next (check_template t) after_7 ok

    none_lacks : (i : ℕ) → i < entry_count t → lacks_parameter t (length ps) i ≡ false
    none_lacks = none_of (lacks_parameter t (length ps)) Blank (entry_count t) after_21 rest_ok

    last_ok : is_done after_21 ≡ true
    last_ok = unless_any_next (lacks_parameter t (length ps)) Blank (entry_count t) after_21 rest_ok

    parameters_ok : parameters_fit t (length ps) ≡ true
    parameters_ok = unless_ok (parameters_fit t (length ps)) Parameters fit last_ok

    room_ok : leb (length (filled t ps)) room ≡ true
    room_ok =
        unless_ok (leb (length (filled t ps)) room) ShortOutput (Done (length (filled t ps)))
        (unless_next (parameters_fit t (length ps)) Parameters fit last_ok)

    pub fill_done : fill_answer t ps room ≡ Done (length (filled t ps))
    fill_done = passed template_ok none_lacks parameters_ok room_ok

  template_words : is_done (check_template t) ≡ true → length (filled t ps) ≡ length t
  template_words ok = filled_length t ps ∙ sym (whole_entries to_parameter t ok)

  pub fillable : is_done (fill_answer t ps room) ≡ true → Fillable t ps room
  fillable ok = record {
    checked = template_ok ok;
    each_has_parameter = has_parameter t (none_lacks ok);
    few = leb-true (length ps) parameter_limit (and_left (leb (length ps) parameter_limit) _ (parameters_ok ok));
    each_has_blank = has_blank t (length ps) (and_right (leb (length ps) parameter_limit) _ (parameters_ok ok));
    fits = omega (arith, template_words (template_ok ok), leb-true (length (filled t ps)) room (room_ok ok));
  }

  accepted : Fillable t ps room → is_done (fill_answer t ps room) ≡ true
  accepted f = ap is_done (passed f.checked (lacks_none t f.each_has_parameter)
      (and_both (leb (length ps) parameter_limit) _ (le-leb (length ps) parameter_limit f.few) (all_used_lem t (length ps) f.each_has_blank))
      (le-leb (length (filled t ps)) room (omega (arith, template_words f.checked, f.fits))))

pub filled_exactly : FilledExactly
filled_exactly t ps room = (fillable t ps room, accepted t ps room)
