-- Refusal 15, retired: the part call answers what it answered while it tested for it. The former condition and the former answer live here
-- alone. Assumes nothing.
use Prim.Native.Nat.{ℕ, suc}
use mathlib.Core.Path.{◌≡◌, refl, sym, ap}
use mathlib.Core.Path.{◌∙◌}
use mathlib.Core.Bool.{Bool, true, false, not, cond, ◌&&◌, ◌||◌}
use mathlib.Core.List.{List, [], ◌∷◌, ◌++◌, map}
use native.Mathlib.Omega.{arith}
use lib.ListN.{length, drop}
use lib.Dec.{eqb, leb}
use borrow.Author.Tests.{ne_eqb}
use Rattle.std.specs.Prelude.{Err}
use Rattle.base.specs.Search.{some, first}
use Rattle.tables.specs.Refusals.{number_of}
use Rattle.tables.specs.Answers.{number, place, value, is_done, Refused}
use Rattle.tables.proofs.FaultNumbers.{none_is_15, none_is_0}
use Rattle.base.specs.Lists.{select, any}
use Rattle.base.proofs.Lists.{any_none}
use Rattle.tables.specs.Answers.{and_then, unless, unless_any, output}
use Rattle.tables.specs.Words.{rows, row_count}
use Rattle.tables.specs.Rules.{check_rule}
use Rattle.tables.specs.Tables.{check_table}
use Rattle.tables.specs.declared.Row.{Row}
use Rattle.tables.specs.Answers.{Answer}
use Rattle.tables.specs.Answers.{Done}
use Rattle.logic.specs.Formulas.{Formula, negation, joined, quantified, compared, formula}
use Rattle.tables.specs.declared.Quantifier.{Quantifier}
use Rattle.tables.specs.declared.Over.{Over}
use Rattle.tables.specs.declared.Over.TheVariants.{Roots, Under}
use Rattle.logic.specs.Verdict.{Place, nothing, bound, Bindings, bind, ranges}
use Rattle.logic.specs.Reading.{Reading, first_test, second_test}
use Rattle.logic.specs.Elsewhere.{body_reading}
use Rattle.logic.specs.Parts.{Chains, no_chains, chains_with, reach, part_of, words_of, other_device, send_answer, send_out, part_answer, part_out}
use Rattle.logic.proofs.Monotone.{one_way}
use Rattle.tables.specs.declared.Fault.TheVariants.{Mode, OtherDevice, ShortOutput}
use Rattle.tables.specs.declared.Fault.{Fault}

-- ---- the former condition: in a body read for spare rows, one quantifier over roots meets both its first and its second test
-- the places at which a quantifier's body is read
abbrev places_under : Place → List Row → List Place
places_under nothing own = nothing ∷ []
places_under (bound p) own = map bound own

abbrev places_read : Over → Bindings → List Row → List Place
places_read Roots b own = nothing ∷ map bound own
places_read (Under v) b own = places_under (b v) own

abbrev both_tests : Over → Quantifier → (Place → Reading) → List Row → Bool
both_tests Roots q body own = first_test q body own && second_test q body
both_tests (Under v) q body own = false

contradicts : Formula → List Row → ℕ → Bindings → Bool
contradicts (negation φ) D d b = contradicts φ D d b
contradicts (joined c φ ψ) D d b = contradicts φ D d b || contradicts ψ D d b
contradicts (quantified q o n φ) D d b =
    both_tests o q (body_reading φ D d b) (select (ranges o n b) D)
    || any (λ p. contradicts φ D (suc d) (bind d p b)) (places_read o b (select (ranges o n b) D))
contradicts (compared c v w) D d b = false

contradicts_in : Formula → List Row → ℕ → Chains → Row → Bool
contradicts_in (negation φ) D d K r = contradicts_in φ D d K r
contradicts_in (joined c φ ψ) D d K r = contradicts_in φ D d K r || contradicts_in ψ D d K r
contradicts_in (quantified q o n φ) D d K r =
    any (contradicts φ D (suc d)) (reach D o n d K r)
    || contradicts_in φ D (suc d) (chains_with d (reach D o n d K) K) r
contradicts_in (compared c v w) D d K r = false

contradiction : Formula → List Row → Bool
contradiction F D = any (contradicts_in F D 0 no_chains) D

-- ---- it never holds
neither : (a b : Bool) → a ≡ false → b ≡ false → (a || b) ≡ false
neither a b e h = rw (e, h)

not_both_tests : (o : Over) (q : Quantifier) (φ : Formula) (D : List Row) (d : ℕ) (b : Bindings) (own : List Row) → both_tests o q (body_reading φ D d b) own ≡ false
not_both_tests Roots q φ D d b own = (one_way φ D d b).not_both q own
not_both_tests (Under v) q φ D d b own = refl

never_contradicts : (φ : Formula) (D : List Row) (d : ℕ) (b : Bindings) → contradicts φ D d b ≡ false
unfolding contradicts
never_contradicts (negation φ) D d b = never_contradicts φ D d b
never_contradicts (joined c φ ψ) D d b = neither _ _ (never_contradicts φ D d b) (never_contradicts ψ D d b)
never_contradicts (quantified q o n φ) D d b =
    neither _ _ (not_both_tests o q φ D d b (select (ranges o n b) D))
    (any_none (λ p. contradicts φ D (suc d) (bind d p b)) (places_read o b (select (ranges o n b) D)) (λ p m. never_contradicts φ D (suc d) (bind d p b)))
never_contradicts (compared c v w) D d b = refl

never_in : (φ : Formula) (D : List Row) (d : ℕ) (K : Chains) (r : Row) → contradicts_in φ D d K r ≡ false
unfolding contradicts_in
never_in (negation φ) D d K r = never_in φ D d K r
never_in (joined c φ ψ) D d K r = neither _ _ (never_in φ D d K r) (never_in ψ D d K r)
never_in (quantified q o n φ) D d K r =
    neither _ _ (any_none (contradicts φ D (suc d)) (reach D o n d K r) (λ b m. never_contradicts φ D (suc d) b))
    (never_in φ D (suc d) (chains_with d (reach D o n d K) K) r)
never_in (compared c v w) D d K r = refl

never_met : (F : Formula) (D : List Row) → contradiction F D ≡ false
unfolding contradiction
never_met F D = any_none (contradicts_in F D 0 no_chains) D (λ r m. never_in F D 0 no_chains r)

-- ---- the former answer, and the output after it
module _ (retired : Fault) (rule table : List ℕ) (mode : ℕ) where
  abbrev sent : List Row
  sent = part_of (formula rule ∷ []) mode (rows table)

  abbrev fits : ℕ → Answer
  fits room = unless (leb (length (words_of sent)) room) ShortOutput (Done (length sent))

  pub former_answer : ℕ → Answer
  former_answer room =
      and_then (check_rule rule) (and_then (check_table table)
      (unless (leb 1 mode && leb mode 3) Mode
      (unless_any (other_device table) OtherDevice (row_count table)
      (unless (not (eqb mode 3 && contradiction (formula rule) (rows table))) retired (fits room)))))

  pub former_out : List ℕ → List ℕ
  former_out out = output (former_answer (length out)) (words_of sent) out

  no_refusal : (m : Bool) (next : Answer) → unless (not (m && contradiction (formula rule) (rows table))) retired next ≡ next
  no_refusal true next = rw (never_met (formula rule) (rows table))
  no_refusal false next = refl

  -- on all inputs, in every mode
  pub answer_as_before : (room : ℕ) → part_answer rule table mode room ≡ former_answer room
  unfolding send_answer former_answer
  answer_as_before room =
      ap (λ (z : Answer). and_then (check_rule rule) (and_then (check_table table) (unless (leb 1 mode && leb mode 3) Mode (unless_any (other_device table) OtherDevice (row_count table) z))))
      (sym (no_refusal (eqb mode 3) (fits room)))

  pub output_as_before : (out : List ℕ) → part_out rule table mode out ≡ former_out out
  unfolding send_out former_out
  output_as_before out = ap (λ (a : Answer). output a (words_of sent) out) (answer_as_before (length out))

-- ---- the same of an answer as it is told, by number, place and value: so 15 can be said, which is no fault's number any more
abbrev pub Told : Type 0
Told = ℕ × ℕ × ℕ

abbrev pub told : Answer → Told
told a = (number a, place a, value a)

-- the output of an answer so told
abbrev pub told_output : Told → List ℕ → List ℕ → List ℕ
told_output a result out = cond (eqb a.0 0) (result ++ drop (length result) out) out

told_next : (a next : Answer) → told (and_then a next) ≡ cond (is_done a) (told next) (told a)
told_next (Done n) next = refl
told_next (Err r) next = refl

told_out : (a : Answer) (result out : List ℕ) → output a result out ≡ told_output (told a) result out
told_out (Done n) result out = refl
told_out (Err r) result out = rw (ne_eqb (number_of r.fault) 0 (none_is_0 r.fault))

and_then_seq : (a b next : Answer) → and_then a (and_then b next) ≡ and_then (and_then a b) next
and_then_seq (Done n) b next = refl
and_then_seq (Err r) b next = refl

unless_seq : (ok : Bool) (k : Fault) (b next : Answer) → unless ok k (and_then b next) ≡ and_then (unless ok k b) next
unless_seq true k b next = refl
unless_seq false k b next = refl

unless_any_seq : (fault : ℕ → Bool) (k : Fault) (n : ℕ) (b next : Answer)
    → unless_any fault k n (and_then b next) ≡ and_then (unless_any fault k n b) next
unless_any_seq fault k n b next = go (some fault n)
  where
    go : (s : Bool) → cond s (Refused k (first fault n)) (and_then b next) ≡ and_then (cond s (Refused k (first fault n)) b) next
    go true = refl
    go false = refl

module _ (rule table : List ℕ) (mode : ℕ) where
  -- what was tested before 15
  abbrev before_15 : Answer
  before_15 =
      and_then (check_rule rule) (and_then (check_table table)
      (unless (leb 1 mode && leb mode 3) Mode (unless_any (other_device table) OtherDevice (row_count table) (Done 0))))

  -- then 15, place 0, and 17 last
  pub former_told : ℕ → Told
  former_told room =
      cond (is_done before_15)
      (cond (eqb mode 3 && contradiction (formula rule) (rows table)) (15, 0, 0) (told (fits Mode rule table mode room)))
      (told before_15)

  pub former_told_out : List ℕ → List ℕ
  former_told_out out = told_output (former_told (length out)) (words_of (sent Mode rule table mode)) out

  never : (m : Bool) (t u : Told) → cond (m && contradiction (formula rule) (rows table)) t u ≡ u
  never true t u = rw (never_met (formula rule) (rows table))
  never false t u = refl

  in_turn : (room : ℕ) → part_answer rule table mode room ≡ and_then before_15 (fits Mode rule table mode room)
  unfolding send_answer
  in_turn room =
      ap (λ (z : Answer). and_then (check_rule rule) (and_then (check_table table) (unless (leb 1 mode && leb mode 3) Mode z)))
      (unless_any_seq (other_device table) OtherDevice (row_count table) (Done 0) (fits Mode rule table mode room))
      ∙ ap (λ (z : Answer). and_then (check_rule rule) (and_then (check_table table) z))
      (unless_seq (leb 1 mode && leb mode 3) Mode _ (fits Mode rule table mode room))
      ∙ ap (and_then (check_rule rule)) (and_then_seq (check_table table) _ (fits Mode rule table mode room))
      ∙ and_then_seq (check_rule rule) _ (fits Mode rule table mode room)

  -- on all inputs, in every mode: number, place and value are those of before, and so is the output
  pub told_as_before : (room : ℕ) → told (part_answer rule table mode room) ≡ former_told room
  unfolding former_told
  told_as_before room =
      ap told (in_turn room)
      ∙ told_next before_15 (fits Mode rule table mode room)
      ∙ ap (λ (t : Told). cond (is_done before_15) t (told before_15)) (sym (never (eqb mode 3) (15, 0, 0) (told (fits Mode rule table mode room))))

  pub output_told_as_before : (out : List ℕ) → part_out rule table mode out ≡ former_told_out out
  unfolding send_out former_told_out
  output_told_as_before out =
      told_out (part_answer rule table mode (length out)) (words_of (sent Mode rule table mode)) out
      ∙ ap (λ (a : Told). told_output a (words_of (sent Mode rule table mode)) out) (told_as_before (length out))

-- and no call gives 15
pub never_told_15 : (a : Answer) → (told a).0 ≡ 15 → ⊥
never_told_15 (Done n) e = omega (arith, e)
never_told_15 (Err r) e = none_is_15 r.fault e
