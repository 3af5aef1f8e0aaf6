-- A rule as a published formula, a table as a published tree, and the claim that the published meaning gives the verdict.
-- Assumes nothing.
use Rattle.std.specs.Prelude.{ℕ, suc, ◌≤◌, ◌<◌, ◌≡◌, Bool, true, false, cond, length, drop, eqb}
use mathlib.Core.List.{List, [], ◌∷◌, ◌++◌, map, Nodup}
use Rattle.base.specs.Lists.{◌∈◌, concat_map}
use Rattle.tables.specs.Answers.{is_done}
use Rattle.tables.specs.Words.{rows}
use Rattle.tables.specs.Rules.{one, any_name, accepted_rule}
use Rattle.tables.specs.Tables.{root, is_parent, accepted_table}
use Rattle.tables.specs.declared.Row.{Row}
use Rattle.tables.specs.Answers.{Done}
use Rattle.sets.specs.Sets.{rules_of, accepted_set}
use Rattle.templates.specs.Templates.{fill_answer, written}
use Rattle.folding.specs.Folding.{fold_answer, folded_table}
use Rattle.logic.specs.Formulas.{Formula, negation, joined, quantified, compared, formula, formulas_of}
use Rattle.tables.specs.declared.Quantifier.{Quantifier}
use Rattle.tables.specs.declared.Quantifier.TheVariants.{Every, Exists}
use Rattle.tables.specs.declared.Connective.{Connective}
use Rattle.tables.specs.declared.Connective.TheVariants.{And, Or, Implies}
use Rattle.tables.specs.declared.Comparison.{Comparison}
use Rattle.tables.specs.declared.Comparison.TheVariants.{Equal, Less, AtMost}
use Rattle.tables.specs.declared.Over.{Over}
use Rattle.tables.specs.declared.Over.TheVariants.{Roots, Under}
use Rattle.tables.specs.declared.Operand.{Operand}
use Rattle.tables.specs.declared.Operand.TheVariants.{Variable, Constant}
use Rattle.logic.specs.Verdict.{verdict, verdict_answer, set_verdicts_answer, set_verdicts_out}
use Rattle.logic.specs.Templates.{template_formula}
use Rattle.logic.specs.Demand.{dump}
use Rattle.logic.specs.Folded.{Listing, after_folding, Listed}
use Rattle.logic.specs.Trial.{begin_answer, trial_outcome, state_at, bytes_of}
use Rattle.published.specs.Published.{Tree, no_node, node, Pair, Path, ◌is◌, ◌⊨◌}
use Rattle.published.specs.Published.{CL, NOT, OR, AND, IMPLIES, SOME, EACH, EQUAL, LESS, ATMOST, SOMEPAIR, EACHPAIR}

-- ---- a rule's formula in the document's form
-- a variable stands for a value; its path leads to that value and ends in it
pub record Standing : Type 0 where
  pub path : Path
  pub value : ℕ

abbrev pub Standings : Type 0
Standings = ℕ → Standing

-- no variable stands for anything yet; an accepted rule never looks at what is given here
abbrev pub no_standing : Standings
no_standing x = record { path = []; value = 0 }

-- variable x stands for the pair's value at the end of the path; its own path goes on with the pair
abbrev pub stand : ℕ → Path → Pair → Standings → Standings
stand x path pair e y = cond (eqb y x) (record { path = path ++ pair ∷ []; value = pair.value }) (e y)

-- "a quantifier in CL always carries the path leading to a subtree (if any) that may refer to previously quantified variables":
-- none over roots, else the path of the variable of the parent
abbrev pub path_to : Over → Standings → Path
path_to Roots e = []
path_to (Under x) e = (e x).path

abbrev pub term : Standings → Operand → ℕ
term e (Variable x) = (e x).value
term e (Constant k) = k

abbrev pub connective : Connective → CL → CL → CL
connective And = AND
connective Or = OR
connective Implies = IMPLIES

abbrev pub over_named : Quantifier → Path → ℕ → (ℕ → CL) → CL
over_named Every = EACH
over_named Exists = SOME

abbrev pub over_any : Quantifier → Path → (Pair → CL) → CL
over_any Every = EACHPAIR
over_any Exists = SOMEPAIR

-- over any name where the name word says so, else Table 1's with that name; the body is given the pair
abbrev pub quantifier : Quantifier → Path → ℕ → (Pair → CL) → CL
quantifier q path p φ = cond (eqb p any_name) (over_any q path φ) (over_named q path p (λ k. φ (p is k)))

abbrev pub comparison : Comparison → ℕ → ℕ → CL
comparison Equal = EQUAL
comparison Less = LESS
comparison AtMost = ATMOST

-- d quantifiers stand around
unfoldable pub stated : Formula → ℕ → Standings → CL
stated (negation φ) d e = NOT (stated φ d e)
stated (joined c φ ψ) d e = connective c (stated φ d e) (stated ψ d e)
stated (quantified q o p φ) d e = quantifier q (path_to o e) p (λ pair. stated φ (suc d) (stand d (path_to o e) pair e))
stated (compared c x y) d e = comparison c (e x).value (term e y)

-- ---- a table's tree
-- the nodes of the rows that pass the test, and below each those of the rows whose parent it is, which all stand after it
unfoldable pub tree_of : (Row → Bool) → List Row → Tree
tree_of t [] = no_node
tree_of t (r ∷ rs) = elim (t r) [
  | true ↦ node r.name r.value (tree_of (λ s. is_parent s r) rs) (tree_of t rs)
  | false ↦ tree_of t rs
]

-- its roots and what hangs below them
unfoldable pub tree : List Row → Tree
tree T = tree_of root T

-- ---- the published truth of a formula on a table that is given in words
unfoldable pub truth_of : Formula → List ℕ → Bool
truth_of F pool = tree (rows pool) ⊨ stated F 0 no_standing

-- of a rule, and of a template whose parameters are read directly (02, wish 5)
abbrev pub published : List ℕ → List ℕ → Bool
published rule pool = truth_of (formula rule) pool

abbrev pub published_template : List ℕ → List ℕ → List ℕ → Bool
published_template template parameters pool = truth_of (template_formula template parameters) pool

-- ---- the claims, proved in proofs/Agree
-- it is the verdict on the rows
abbrev pub Agreed : Type 0
Agreed = (rule pool : List ℕ) → accepted_rule rule ≡ true → accepted_table pool ≡ true
    → published rule pool ≡ verdict (formula rule) (rows pool)

-- and what the call for the verdict answers
abbrev pub Answered : Type 0
Answered = (rule pool : List ℕ) → accepted_rule rule ≡ true → accepted_table pool ≡ true
    → verdict_answer rule pool ≡ Done (one (published rule pool))

-- what it answers for the rule that filling writes is the published truth of the template
abbrev pub TemplateAnswered : Type 0
TemplateAnswered =
    (template parameters out pool : List ℕ) → is_done (fill_answer template parameters (length out)) ≡ true → accepted_table pool ≡ true
    → verdict_answer (written template parameters out) pool ≡ Done (one (published_template template parameters pool))

-- each byte of a set's verdicts is its rule's published truth, in a buffer that is long enough; what stands past them stays
abbrev pub SetAnswered : Type 0
SetAnswered =
    (rules counts pool out : List ℕ) → accepted_set rules counts ≡ true → accepted_table pool ≡ true → length counts ≤ length out
    → (set_verdicts_answer rules counts pool (length out) ≡ Done (length counts))
    × (set_verdicts_out rules counts pool out ≡ map (λ rule. one (published rule pool)) (rules_of rules counts) ++ drop (length counts) out)

-- and so is each byte of a plan's verdicts, on the table after its step
abbrev pub TrialAnswered : Type 0
TrialAnswered =
    (rules counts pool steps : List ℕ) (words bytes : ℕ) → is_done (begin_answer rules counts pool words) ≡ true
    → (k : ℕ) → k < (trial_outcome rules counts pool steps words bytes).steps
    → bytes_of (length counts) k (trial_outcome rules counts pool steps words bytes)
    ≡ map (λ rule. one (published rule (state_at (formulas_of rules counts) pool steps (suc k)).table)) (rules_of rules counts)

-- ---- 02, wish 12: "004 reads a path by names and values, so both belong together"
-- the published truth on all rows of a pool, as the devices list them, is what the call for the verdict answers on their folded tables
abbrev pub ListedAnswered : Type 0
ListedAnswered =
    (rule : List ℕ) (ls : List Listing) → accepted_rule rule ≡ true → Nodup (map (λ (l : Listing). l.number) ls)
    → ((l : Listing) → l ∈ ls → Listed l) → accepted_table (dump (map after_folding ls)) ≡ true
    → verdict_answer rule (dump (map after_folding ls)) ≡ Done (one (published rule (concat_map (λ l. l.listed) ls)))

-- and that on one device's table, on what folding it has written
abbrev pub FoldedAnswered : Type 0
FoldedAnswered =
    (rule table out : List ℕ) → accepted_rule rule ≡ true → is_done (fold_answer table (length out)) ≡ true
    → verdict_answer rule (folded_table table out) ≡ Done (one (published rule table))
