-- 01, Spare rows, and Parts and joining: which rows a device may keep to itself, and the three kinds of part; 02, wish 1, for a set of
-- rules. Assumes nothing.
use Rattle.std.specs.Prelude.{ℕ, suc, Bool, true, false, not, cond, ◌&&◌, ◌||◌, List, [], ◌∷◌, reverse, map, length, eqb, leb}
use Rattle.base.specs.Lists.{select, when, concat_map, all, any}
use Rattle.tables.specs.Answers.{and_then, unless, unless_any, output}
use Rattle.tables.specs.Words.{columns_of, rows, row_at, row_count}
use Rattle.tables.specs.Rules.{check_rule}
use Rattle.tables.specs.Tables.{root, is_parent, check_table}
use Rattle.tables.specs.declared.Row.{Row}
use Rattle.tables.specs.Answers.{Answer}
use Rattle.tables.specs.Answers.{Done}
use Rattle.sets.specs.Sets.{check_set}
use Rattle.logic.specs.Formulas.{Formula, negation, joined, quantified, compared, formula, formulas_of}
use Rattle.tables.specs.declared.Over.{Over}
use Rattle.tables.specs.declared.Over.TheVariants.{Roots, Under}
use Rattle.logic.specs.Verdict.{Bindings, bind, bound, none_bound, named, settled}
use Rattle.logic.specs.Reading.{reading, reads}
use Rattle.tables.specs.declared.Fault.TheVariants.{Mode, OtherDevice, ShortOutput}

-- ---- reaching: for each variable bound so far and each row, the bindings along the chain by which the variable's quantifier
-- reaches the row; none where it does not
abbrev pub Chains : Type 0
Chains = ℕ → Row → List Bindings

abbrev pub no_chains : Chains
no_chains v r = []

abbrev pub chains_with : ℕ → (Row → List Bindings) → Chains → Chains
chains_with x f K v = cond (eqb v x) f (K v)

-- a quantifier reaches a row that passes its name test and is a root, or whose parent is reached by the quantifier that binds the variable
-- named in b. The variables along that chain are bound to the row and its ancestors, and all others are elsewhere.
abbrev pub reach : List Row → Over → ℕ → ℕ → Chains → Row → List Bindings
reach D Roots n d K r = when (root r && named n r) (bind d (bound r) none_bound ∷ [])
reach D (Under v) n d K r = when (named n r) (map (bind d (bound r)) (concat_map (K v) (select (is_parent r) D)))

-- some quantifier reaches the row
unfoldable pub reached_in : Formula → List Row → ℕ → Chains → Row → Bool
reached_in (negation φ) D d K r = reached_in φ D d K r
reached_in (joined c φ ψ) D d K r = reached_in φ D d K r || reached_in ψ D d K r
reached_in (quantified q o n φ) D d K r =
    any (λ b. true) (reach D o n d K r) || reached_in φ D (suc d) (chains_with d (reach D o n d K) K) r
reached_in (compared c v w) D d K r = false

unfoldable pub reached : Formula → List Row → Row → Bool
reached F D r = reached_in F D 0 no_chains r

-- for every quantifier that reaches the row, the body so read is true (kind 5) or false (kind 6)
unfoldable pub spare_in : Formula → List Row → ℕ → Chains → Row → Bool
spare_in (negation φ) D d K r = spare_in φ D d K r
spare_in (joined c φ ψ) D d K r = spare_in φ D d K r && spare_in ψ D d K r
spare_in (quantified q o n φ) D d K r =
    all (λ b. reads (settled q) (reading φ D (suc d) b)) (reach D o n d K r)
    && spare_in φ D (suc d) (chains_with d (reach D o n d K) K) r
spare_in (compared c v w) D d K r = true

unfoldable pub spare : Formula → List Row → Row → Bool
spare F D r = spare_in F D 0 no_chains r

-- ---- for a set of rules (02, wish 1); one rule is a set of one
-- a row is reached by the set if any rule reaches it
unfoldable pub reached_by_any : List Formula → List Row → Row → Bool
reached_by_any Fs D r = any (λ F. reached F D r) Fs

-- a row is spare for the set if it is spare for each rule in it
unfoldable pub spare_for_each : List Formula → List Row → Row → Bool
spare_for_each Fs D r = all (λ F. spare F D r) Fs

-- ---- parts
-- the rows above r, nearest first: one walk back through the rows before it, which hold its parent
unfoldable pub lineage : List Row → Row → List Row
lineage [] r = []
lineage (p ∷ earlier) r = cond (is_parent r p) (p ∷ lineage earlier p) (lineage earlier r)

unfoldable pub ancestors : List Row → Row → List Row
ancestors D r = lineage (reverse D) r

-- the rows that pass a test and whose ancestors all do
unfoldable pub part_by : (Row → Bool) → List Row → List Row
part_by t D = select (λ r. t r && all t (ancestors D r)) D

-- mode 2, branch: rows that are reached and whose ancestors all are
unfoldable pub branch_part : List Formula → List Row → List Row
branch_part Fs D = part_by (reached_by_any Fs D) D

-- mode 3, full: rows that aren't spare and have no spare ancestor
unfoldable pub full_part : List Formula → List Row → List Row
full_part Fs D = part_by (λ r. not (spare_for_each Fs D r)) D

-- mode 1 is all rows
unfoldable pub part_of : List Formula → ℕ → List Row → List Row
part_of Fs mode D = cond (eqb mode 1) D (cond (eqb mode 2) (branch_part Fs D) (full_part Fs D))

-- ---- the calls: the number of rows sent, or the refusal; the output is their words and what stood past them, or as it was
-- the words of rows
abbrev pub words_of : List Row → List ℕ
words_of D = concat_map columns_of D

-- 14: a row whose device isn't the first row's
abbrev pub other_device : List ℕ → ℕ → Bool
other_device t i = not (eqb (row_at t i).device (row_at t 0).device)

-- the answer of the rule's or the set's own checks stands first
unfoldable pub send_answer : Answer → List Formula → List ℕ → ℕ → ℕ → Answer
send_answer checked Fs table mode room =
    let sent = part_of Fs mode (rows table) in
    and_then checked (and_then (check_table table)
    (unless (leb 1 mode && leb mode 3) Mode
    (unless_any (other_device table) OtherDevice (row_count table)
    (unless (leb (length (words_of sent)) room) ShortOutput
    (Done (length sent))))))

unfoldable pub send_out : Answer → List Formula → List ℕ → ℕ → List ℕ → List ℕ
send_out checked Fs table mode out = output (send_answer checked Fs table mode (length out)) (words_of (part_of Fs mode (rows table))) out

-- for one rule
abbrev pub part_answer : List ℕ → List ℕ → ℕ → ℕ → Answer
part_answer rule = send_answer (check_rule rule) (formula rule ∷ [])

abbrev pub part_out : List ℕ → List ℕ → ℕ → List ℕ → List ℕ
part_out rule = send_out (check_rule rule) (formula rule ∷ [])

-- for a set
abbrev pub set_part_answer : List ℕ → List ℕ → List ℕ → ℕ → ℕ → Answer
set_part_answer rules counts = send_answer (check_set rules counts) (formulas_of rules counts)

abbrev pub set_part_out : List ℕ → List ℕ → List ℕ → ℕ → List ℕ → List ℕ
set_part_out rules counts = send_out (check_set rules counts) (formulas_of rules counts)
