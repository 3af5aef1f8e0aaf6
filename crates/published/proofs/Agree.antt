-- The published truth of a rule on an accepted table is the verdict on its rows. Assumes nothing.
use Prim.Native.Nat.{ℕ, suc, ◌≤◌, ◌<◌}
use native.Mathlib.Omega.{arith}
use mathlib.Core.Path.{◌≡◌, refl, sym, ap, ap₂, fun_ext, ◌∙◌}
use mathlib.Core.Bool.{Bool, true, false, not, cond, ◌&&◌}
use mathlib.Core.List.Memᴰ
use mathlib.Core.List.{List, [], ◌∷◌, ◌++◌, map, map-map, append-nil, append_assoc}
use lib.ListN.{length, drop, replicate, length-replicate, drop_of_length-le}
use lib.Dec.{eqb, ltb, leb}
use borrow.Author.Tests.{eqb-true, eqb-false, eq-eqb, ltb-true, le-leb}
use Rattle.base.specs.Lists.{◌∈◌, select, all, any}
use Rattle.base.proofs.Bools.{and_left, and_right, and_both, or_second}
use Rattle.base.proofs.Lists.{select_out, select_both, select_all, select_map}
use Rattle.tables.specs.Answers.{is_done, and_then, fitting, output}
use Rattle.tables.specs.Words.{rows}
use Rattle.tables.specs.Rules.{one, any_name, check_rule, accepted_rule}
use Rattle.tables.specs.Tables.{root, check_table, accepted_table}
use Rattle.tables.specs.declared.Row.{Row}
use Rattle.tables.specs.Answers.{Answer}
use Rattle.tables.specs.Answers.{Done}
use Rattle.tables.proofs.Answers.{and_then_passed, unless_passed}
use Rattle.tables.proofs.Accepted.{parent_device, parent_at}
use Rattle.sets.specs.Sets.{rules_of, accepted_set}
use Rattle.sets.proofs.Sets.{rule_accepted}
use Rattle.templates.specs.Templates.{written}
use Rattle.templates.proofs.Ordinary.{fills_to_rules}
use Rattle.logic.specs.Formulas.{Formula, negation, joined, quantified, compared, formula, formulas_of}
use Rattle.tables.specs.declared.Quantifier.{Quantifier}
use Rattle.tables.specs.declared.Quantifier.TheVariants.{Every, Exists}
use Rattle.tables.specs.declared.Connective.{Connective}
use Rattle.tables.specs.declared.Connective.TheVariants.{And, Or, Implies}
use Rattle.tables.specs.declared.Comparison.{Comparison}
use Rattle.tables.specs.declared.Comparison.TheVariants.{Equal, Less, AtMost}
use Rattle.tables.specs.declared.Over.{Over}
use Rattle.tables.specs.declared.Over.TheVariants.{Roots, Under}
use Rattle.tables.specs.declared.Operand.{Operand}
use Rattle.tables.specs.declared.Operand.TheVariants.{Variable, Constant}
use Rattle.logic.specs.Verdict.{connect, compare, Place, bound, Bindings, none_bound, bind, named, hangs, ranges, settled, both, fold}
use Rattle.logic.specs.Verdict.{value_at, value_of, holds, verdict, verdict_answer, verdict_bytes, set_verdicts_answer, set_verdicts_out}
use Rattle.logic.specs.Trial.{trial_outcome, state_at, bytes_of}
use Rattle.logic.proofs.Names.{any_name_lem, own_name}
use Rattle.logic.proofs.Calls.{verdict_count, verdicts_are, bytes_are}
use Rattle.logic.proofs.Templates.{written_formula}
use Rattle.logic.proofs.Trials.{begun_set, trials}
use Rattle.published.specs.Published.{Tree, CL, Pair, Path, ◌is◌, pairs, v, ◌⊨◌}
use Rattle.published.specs.Stated.{Standing, Standings, no_standing, stand, path_to, term, connective, over_named, over_any, quantifier, comparison}
use Rattle.published.specs.Stated.{stated, tree_of, tree, truth_of, published, Agreed, Answered, TemplateAnswered, SetAnswered, TrialAnswered}
use Rattle.published.proofs.Rows.{Fit, fit}
use Rattle.published.proofs.Table.{v_is}
use Rattle.published.proofs.Descent.{child, pair_of, at_top, Siblings, step}
use Rattle.published.proofs.Scoped.{scoped, over_bound, operand_bound, rule_scoped}
use Rattle.tables.specs.declared.Fault.TheVariants.{ShortOutput}

root_siblings : Siblings root
root_siblings r s e h n k =
    let same : s.up ≡ r.up = eqb-true s.up 0 h ∙ sym (eqb-true r.up 0 e) in
    rw (eq-eqb s.name r.name (sym n), eq-eqb s.value r.value (sym k), eq-eqb s.up r.up same, e)

child_siblings : (p : Row) → Siblings (child p)
child_siblings p r s e h n k =
    and_both _ _ (and_both _ _ (and_both _ _
    (eq-eqb s.up r.up (sym (parent_at s p h) ∙ parent_at r p e))
    (or_second (root r) _ (eq-eqb s.device r.device (sym (parent_device s p h) ∙ parent_device r p e))))
    (eq-eqb s.name r.name (sym n)))
    (eq-eqb s.value r.value (sym k))

-- ---- each kind of formula, on pairs and on rows
-- a quantifier's truth from its body's
abbrev truth : {A : Type 0} → Quantifier → (A → Bool) → List A → Bool
truth Every f xs = all f xs
truth Exists f xs = any f xs

truth_none : {A : Type 0} (q : Quantifier) (f : A → Bool) → truth q f [] ≡ settled q
truth_none Every f = refl
truth_none Exists f = refl

truth_more : {A : Type 0} (q : Quantifier) (f : A → Bool) (x : A) (xs : List A) → truth q f (x ∷ xs) ≡ both q (f x) (truth q f xs)
truth_more Every f x xs = refl
truth_more Exists f x xs = refl

-- of elements that rows have, by what the body is at each row
truth_is : {A : Type 0} (q : Quantifier) (h : Row → A) (f : A → Bool) (g : Row → Bool) (rs : List Row) → ((r : Row) → r ∈ rs → f (h r) ≡ g r)
    → truth q f (map h rs) ≡ fold q g rs
truth_is q h f g [] k = truth_none q f
truth_is q h f g (r ∷ rs) k =
    truth_more q f (h r) (map h rs)
    ∙ ap₂ (both q) (k r (Memᴰ.head refl)) (truth_is q h f g rs (λ s m. k s (Memᴰ.tail m)))

named_is : (q : Quantifier) (T : Tree) (path : Path) (p : ℕ) (φ : ℕ → CL) → (T ⊨ over_named q path p φ) ≡ truth q (λ k. T ⊨ φ k) (v T path p)
unfolding ◌⊨◌
named_is Every T path p φ = refl
named_is Exists T path p φ = refl

any_name_is : (q : Quantifier) (T : Tree) (path : Path) (φ : Pair → CL) → (T ⊨ over_any q path φ) ≡ truth q (λ x. T ⊨ φ x) (pairs T path)
unfolding ◌⊨◌
any_name_is Every T path φ = refl
any_name_is Exists T path φ = refl

-- the values under a name are those of the rows that have it
values_are : (T : Tree) (path : Path) (n : ℕ) (rs : List Row) → pairs T path ≡ map pair_of rs
    → v T path n ≡ map (λ r. r.value) (select (λ r. eqb r.name n) rs)
values_are T path n rs e =
    v_is T path n ∙ ap (λ (xs : List Pair). map (λ (x : Pair). x.value) (select (λ (x : Pair). eqb x.name n) xs)) e
    ∙ ap (map (λ (x : Pair). x.value)) (select_map pair_of (λ (x : Pair). eqb x.name n) rs)
    ∙ map-map (λ (x : Pair). x.value) pair_of (select (λ (r : Row). eqb r.name n) rs)

-- with a name or with any, it ranges over the rows at the end of the path that pass its name test
quantifier_is : (q : Quantifier) (T : Tree) (path : Path) (n : ℕ) (φ : Pair → CL) (g : Row → Bool) (rs : List Row)
    → pairs T path ≡ map pair_of rs → ((r : Row) → r ∈ select (named n) rs → (T ⊨ φ (pair_of r)) ≡ g r)
    → (T ⊨ quantifier q path n φ) ≡ fold q g (select (named n) rs)
quantifier_is q T path n φ g rs e h = go (eqb n any_name) refl
  where
    go : (b : Bool) → eqb n any_name ≡ b
        → (T ⊨ cond b (over_any q path φ) (over_named q path n (λ k. φ (n is k)))) ≡ fold q g (select (named n) rs)
    go true k =
        let whole = select_all (named n) rs (λ r m. any_name_lem n r k) in
        any_name_is q T path φ ∙ ap (truth q (λ x. T ⊨ φ x)) (e ∙ ap (map pair_of) (sym whole))
        ∙ truth_is q pair_of (λ x. T ⊨ φ x) g _ h
    go false k =
        let own = fun_ext (λ r. own_name n r k) in
        let its_name : (r : Row) → r ∈ select (named n) rs → r.name ≡ n =
        λ r m. eqb-true r.name n (sym (own_name n r k) ∙ (select_out (named n) rs m).1) in
        named_is q T path n (λ z. φ (n is z))
        ∙ ap (truth q (λ z. T ⊨ φ (n is z)))
        (values_are T path n rs e ∙ ap (λ (t : Row → Bool). map (λ (r : Row). r.value) (select t rs)) (sym own))
        ∙ truth_is q (λ r. r.value) (λ z. T ⊨ φ (n is z)) g _ (λ r m. ap (λ p. T ⊨ φ (p is r.value)) (sym (its_name r m)) ∙ h r m)

connective_is : (c : Connective) (T : Tree) (φ ψ : CL) → (T ⊨ connective c φ ψ) ≡ connect c (T ⊨ φ) (T ⊨ ψ)
unfolding ◌⊨◌
connective_is And T φ ψ = refl
connective_is Or T φ ψ = refl
connective_is Implies T φ ψ = refl

comparison_is : (c : Comparison) (T : Tree) (k₁ k₂ : ℕ) → (T ⊨ comparison c k₁ k₂) ≡ compare c k₁ k₂
unfolding ◌⊨◌
comparison_is Equal T k₁ k₂ = refl
comparison_is Less T k₁ k₂ = refl
comparison_is AtMost T k₁ k₂ = refl

module _ (T : List Row) (f : Fit T) where
  -- the path leads to the rows that pass the test
  abbrev Leads : Path → (Row → Bool) → Type 0
  Leads path t = (on : Path) → pairs (tree T) (path ++ on) ≡ pairs (tree_of t T) on

  -- a variable's row has its value, and its path leads to the rows that hang under it
  record Stands (s : Standing) (at : Place) : Type 0 where
    row : Row
    binds : at ≡ bound row
    value : s.value ≡ row.value
    leads : Leads s.path (child row)

  abbrev Agreeing : ℕ → Standings → Bindings → Type 0
  Agreeing d e b = (x : ℕ) → x < d → Stands (e x) (b x)

  -- what a quantifier ranges over
  record Range (o : Over) (e : Standings) (b : Bindings) : Type 0 where
    test : Row → Bool
    leads : Leads (path_to o e) test
    ranged : (n : ℕ) → ranges o n b ≡ (λ r. test r && named n r)
    siblings : Siblings test

  range : (o : Over) (d : ℕ) (e : Standings) (b : Bindings) → over_bound o d ≡ true → Agreeing d e b → Range o e b
  unfolding tree
  range Roots d e b s g = record { test = root; leads = λ on. refl; ranged = λ n. refl; siblings = root_siblings }
  range (Under x) d e b s g =
      let w = g x (ltb-true x d s) in
      record { test = child w.row; leads = w.leads; ranged = λ n. ap {B = Row → Bool} (λ (at : Place) (r : Row). hangs at r && named n r) w.binds; siblings = child_siblings w.row }

  found : (o : Over) (e : Standings) (b : Bindings) (w : Range o e b) → pairs (tree T) (path_to o e) ≡ map pair_of (select w.test T)
  found o e b w = ap (pairs (tree T)) (sym (append-nil (path_to o e))) ∙ w.leads [] ∙ at_top w.test T

  -- its rows: those at the end of its path that pass the name test
  ranged_rows : (o : Over) (n : ℕ) (e : Standings) (b : Bindings) (w : Range o e b) → select (ranges o n b) T ≡ select (named n) (select w.test T)
  ranged_rows o n e b w = ap (λ (t : Row → Bool). select t T) (w.ranged n) ∙ sym (select_both (named n) w.test T)

  stands : (o : Over) (d : ℕ) (e : Standings) (b : Bindings) (w : Range o e b) → Agreeing d e b
      → (r : Row) → r ∈ select w.test T → Agreeing (suc d) (stand d (path_to o e) (pair_of r) e) (bind d (bound r) b)
  stands o d e b w g r m x l = go (eqb x d) refl
    where
      path : Path
      path = path_to o e ++ pair_of r ∷ []

      leads : Leads path (child r)
      leads on =
          let i = select_out w.test T m in
          ap (pairs (tree T)) (append_assoc (path_to o e) (pair_of r ∷ []) on)
          ∙ w.leads (pair_of r ∷ on)
          ∙ step T f w.test w.siblings r i.0 i.1 on

      go : (c : Bool) → eqb x d ≡ c → Stands (cond c (record { path = path; value = r.value }) (e x)) (cond c (bound r) (b x))
      go true k = record { row = r; binds = refl; value = refl; leads = leads }
      go false k = let k' = eqb-false x d k in g x (omega arith)

  -- ---- comparisons
  value_is : {s : Standing} {at : Place} → Stands s at → value_at at ≡ s.value
  value_is w = ap value_at w.binds ∙ sym w.value

  term_is : (y : Operand) (d : ℕ) (e : Standings) (b : Bindings) → operand_bound y d ≡ true → Agreeing d e b → value_of b y ≡ term e y
  term_is (Variable x) d e b s g = value_is (g x (ltb-true x d s))
  term_is (Constant k) d e b s g = refl

  agree : (φ : Formula) (d : ℕ) (e : Standings) (b : Bindings) → scoped φ d ≡ true → Agreeing d e b → (tree T ⊨ stated φ d e) ≡ holds φ T d b
  unfolding ◌⊨◌ stated scoped holds
  agree (negation φ) d e b s g = ap not (agree φ d e b s g)
  agree (joined c φ ψ) d e b s g =
      connective_is c (tree T) (stated φ d e) (stated ψ d e)
      ∙ ap₂ (connect c) (agree φ d e b (and_left _ (scoped ψ d) s) g) (agree ψ d e b (and_right (scoped φ d) _ s) g)
  agree (quantified q o n φ) d e b s g =
      let w = range o d e b (and_left (over_bound o d) (scoped φ (suc d)) s) g in
      quantifier_is q (tree T) (path_to o e) n _ _ (select w.test T) (found o e b w)
      (λ r m. agree φ (suc d) (stand d (path_to o e) (pair_of r) e) (bind d (bound r) b) (and_right (over_bound o d) _ s)
      (stands o d e b w g r (select_out (named n) _ m).0))
      ∙ ap (fold q (λ r. holds φ T (suc d) (bind d (bound r) b))) (sym (ranged_rows o n e b w))
  agree (compared c x y) d e b s g =
      comparison_is c (tree T) (e x).value (term e y)
      ∙ ap₂ (compare c) (sym (value_is (g x (ltb-true x d (and_left _ (operand_bound y d) s))))) (sym (term_is y d e b (and_right (ltb x d) _ s) g))

pub agreed : Agreed
unfolding truth_of verdict
agreed rule pool r t = agree (rows pool) (fit pool t) (formula rule) 0 no_standing none_bound (rule_scoped rule r) (λ x l. absurd (omega arith))

pub answered : Answered
unfolding verdict_answer
answered rule pool r t =
    and_then_passed (check_rule rule) (and_then (check_table pool) (Done (one (verdict (formula rule) (rows pool))))) r
    ∙ and_then_passed (check_table pool) (Done (one (verdict (formula rule) (rows pool)))) t
    ∙ ap (λ (b : Bool). Done (one b)) (sym (agreed rule pool r t))

pub template_answered : TemplateAnswered
template_answered template parameters out pool ok t =
    answered (written template parameters out) pool (ap is_done (fills_to_rules template parameters out ok).accepted) t
    ∙ ap (λ (F : Formula). Done (one (truth_of F pool))) (written_formula template parameters out ok)

-- a set's bytes, rule by rule
module _ (rules counts pool : List ℕ) (s : accepted_set rules counts ≡ true) (t : accepted_table pool ≡ true) where
  abbrev bytes : List ℕ
  bytes = verdict_bytes (formulas_of rules counts) (rows pool)

  truths : (rs : List (List ℕ)) → ((r : List ℕ) → r ∈ rs → accepted_rule r ≡ true)
      → verdict_bytes (map formula rs) (rows pool) ≡ map (λ rule. one (published rule pool)) rs
  truths [] h = refl
  truths (r ∷ rs) h = ap₂ ◌∷◌ (ap one (sym (agreed r pool (h r (Memᴰ.head refl)) t))) (truths rs (λ x m. h x (Memᴰ.tail m)))

  byte_count : length bytes ≡ length counts
  byte_count = verdict_count rules counts (rows pool)

  module _ (out : List ℕ) (l : length counts ≤ length out) where
    fits : fitting bytes (length out) ≡ Done (length bytes)
    fits = unless_passed (leb (length bytes) (length out)) ShortOutput _ (le-leb (length bytes) (length out) (omega (arith, byte_count)))

    pub set_bytes : (set_verdicts_answer rules counts pool (length out) ≡ Done (length counts))
        × (set_verdicts_out rules counts pool out ≡ map (λ rule. one (published rule pool)) (rules_of rules counts) ++ drop (length counts) out)
    set_bytes = (
      verdicts_are rules counts pool s t (length out) ∙ fits ∙ ap Done byte_count,
      bytes_are rules counts pool s t out
          ∙ ap (λ (a : Answer). output a bytes out) fits
          ∙ ap₂ (λ (b : List ℕ) (n : ℕ). b ++ drop n out) (truths (rules_of rules counts) (λ r m. rule_accepted rules counts s m)) byte_count,
    )

pub set_answered : SetAnswered
set_answered rules counts pool out s t l = set_bytes rules counts pool s t out l

-- the bytes of a step, which the set's verdict call writes into as many bytes
pub trial_answered : TrialAnswered
trial_answered rules counts pool steps words bytes begun k h =
    let tried = trials rules counts pool steps words bytes begun in
    let table = (state_at (formulas_of rules counts) pool steps (suc k)).table in
    let out : List ℕ = replicate (length counts) 0 in
    let long : length out ≡ length counts = length-replicate {A = ℕ} (length counts) 0 in
    let ok = tried.accepted (suc k) (omega (arith, h)) in
    let s = begun_set rules counts pool words begun in
    let room : length counts ≤ length out = omega (arith, long) in
    let full : length out ≤ length counts = omega (arith, long) in
    let none : drop (length counts) out ≡ [] = drop_of_length-le out full in
    sym (append-nil _) ∙ ap (λ (zs : List ℕ). bytes_of (length counts) k (trial_outcome rules counts pool steps words bytes) ++ zs) (sym none)
    ∙ sym (tried.as_dumped k h out room).1 ∙ (set_answered rules counts table out s ok room).1
    ∙ ap (λ (zs : List ℕ). map (λ rule. one (published rule table)) (rules_of rules counts) ++ zs) none ∙ append-nil _
