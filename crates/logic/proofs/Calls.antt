-- What the calls for verdicts, marks and parts return and write on accepted input, by the definitions on rows. Assumes nothing.
use Prim.Native.Nat.{ℕ, zero, suc, ◌+◌, ◌*◌, ◌≤◌, ◌<◌}
use native.Mathlib.Omega.{arith}
use mathlib.Core.Path.{◌≡◌, refl, sym, ap, subst, ◌∙◌}
use mathlib.Core.Logic.{inl, inr}
use mathlib.Core.Bool.{Bool, true, false, not, cond, ◌&&◌, false≢true}
use mathlib.Core.List.{List, ◌++◌, map}
use lib.ListN.{length, get_or, take, drop, length-map, get_or-append}
use lib.Seq.{take_at}
use lib.Dec.{leb}
use borrow.Author.Tests.{le-leb, eq-eqb}
use Rattle.base.specs.Lists.{◌∈◌}
use Rattle.base.proofs.Bools.{and_both}
use Rattle.base.proofs.Lists.{map_same}
use Rattle.tables.specs.Answers.{is_done, value, unless, fitting, output}
use Rattle.tables.specs.Words.{row_words, row_at, row_count, rows_from, rows}
use Rattle.tables.specs.Rules.{one, check_rule, accepted_rule}
use Rattle.tables.specs.Tables.{same_row, check_table, accepted_table}
use Rattle.tables.specs.declared.Row.{Row}
use Rattle.tables.specs.Answers.{Answer}
use Rattle.tables.specs.Answers.{Done}
use Rattle.sets.specs.Sets.{rule_at, rules_from, rules_of, check_set, accepted_set}
use Rattle.sets.proofs.Sets.{length_rules}
use Rattle.tables.proofs.Answers.{and_then_passed, unless_passed, unless_any_passed}
use Rattle.tables.proofs.Proper.{rows_proper}
use Rattle.tables.proofs.RowLists.{length_rows, row_in}
use Rattle.logic.specs.Formulas.{Formula, formula, formulas_of}
use Rattle.logic.specs.Verdict.{verdict, verdict_answer, verdict_bytes, set_verdicts_answer, set_verdicts_out}
use Rattle.logic.specs.Marks.{marked, mark_bytes, marks_answer, marks_out}
use Rattle.logic.specs.Parts.{part_of, words_of, other_device, send_answer, send_out}
use Rattle.logic.specs.Demand.{IsCut, OnlyShort, SameVerdicts, PartIsCut}
use Rattle.logic.proofs.Words.{length_words, words_whole, rows_words}
use Rattle.logic.proofs.Cuts.{mode_is_cut}
use Rattle.tables.specs.declared.Fault.TheVariants.{Mode, OtherDevice, ShortOutput}

pub one_true : (b : Bool) → one b ≡ 1 → b ≡ true
one_true true e = refl
one_true false e = absurd (omega arith)

-- a row of the reason is marked
pub same_itself : (r : Row) → same_row r r ≡ true
same_itself r = and_both _ _ (eq-eqb r.device r.device refl) (eq-eqb r.at r.at refl)

module _ (rule table : List ℕ) (rule_ok : accepted_rule rule ≡ true) (table_ok : accepted_table table ≡ true) where
  -- ---- the verdict
  pub verdict_is : verdict_answer rule table ≡ Done (one (verdict (formula rule) (rows table)))
  unfolding verdict_answer
  verdict_is = and_then_passed (check_rule rule) _ rule_ok ∙ and_then_passed (check_table table) _ table_ok

  -- ---- marks: one byte per row
  byte_from : (f : Row → ℕ) (i n j : ℕ) → j < n → get_or (map f (rows_from table i n)) j 0 ≡ f (row_at table (i + j))
  unfolding rows_from
  byte_from f i zero j h = absurd (omega arith)
  byte_from f i (suc n) zero h = ap (λ (k : ℕ). f (row_at table k)) (omega arith)
  byte_from f i (suc n) (suc j) h = byte_from f (suc i) n j (omega arith) ∙ ap (λ (k : ℕ). f (row_at table k)) (omega arith)

  pub marks_is : (room : ℕ) → row_count table ≤ room → marks_answer rule table room ≡ Done (one (verdict (formula rule) (rows table)))
  unfolding marks_answer
  marks_is room h =
      and_then_passed (check_rule rule) _ rule_ok
      ∙ and_then_passed (check_table table) _ table_ok
      ∙ unless_passed (leb (row_count table) room) ShortOutput _ (le-leb (row_count table) room h)

  pub byte_count : length (mark_bytes (formula rule) (rows table)) ≡ row_count table
  byte_count = length-map (rows table) (λ r. one (marked (formula rule) (rows table) r)) ∙ length_rows table

  pub marks_out_lem : (out : List ℕ) → row_count table ≤ length out → marks_out rule table out ≡ mark_bytes (formula rule) (rows table) ++ drop (row_count table) out
  unfolding marks_out
  marks_out_lem out h =
      ap (λ (a : Answer). output a (mark_bytes (formula rule) (rows table)) out) (marks_is (length out) h)
      ∙ ap (λ (n : ℕ). mark_bytes (formula rule) (rows table) ++ drop n out) byte_count

  pub byte_is : (out : List ℕ) → row_count table ≤ length out → (i : ℕ) → i < row_count table
      → get_or (marks_out rule table out) i 0 ≡ one (marked (formula rule) (rows table) (row_at table i))
  byte_is out room i h =
      ap (λ (l : List ℕ). get_or l i 0) (marks_out_lem out room)
      ∙ get_or-append (mark_bytes (formula rule) (rows table)) (drop (row_count table) out) 0 i (omega (arith, byte_count))
      ∙ byte_from (λ r. one (marked (formula rule) (rows table) r)) 0 (row_count table) i h
      ∙ ap (λ (k : ℕ). one (marked (formula rule) (rows table) (row_at table k))) (omega arith)

-- ---- a set's verdicts: one byte per rule
pub verdict_count : (rules counts : List ℕ) (T : List Row) → length (verdict_bytes (formulas_of rules counts) T) ≡ length counts
verdict_count rules counts T =
    length-map (formulas_of rules counts) (λ F. one (verdict F T))
    ∙ length-map (rules_of rules counts) formula ∙ length_rules rules counts (length counts) 0

rule_byte : (rules counts : List ℕ) (T : List Row) (k n i : ℕ) → i < n
    → get_or (verdict_bytes (map formula (rules_from rules counts k n)) T) i 0 ≡ one (verdict (formula (rule_at rules counts (k + i))) T)
unfolding rules_from
rule_byte rules counts T k zero i h = absurd (omega arith)
rule_byte rules counts T k (suc n) zero h = ap (λ (j : ℕ). one (verdict (formula (rule_at rules counts j)) T)) (omega arith)
rule_byte rules counts T k (suc n) (suc i) h =
    rule_byte rules counts T (suc k) n i (omega arith) ∙ ap (λ (j : ℕ). one (verdict (formula (rule_at rules counts j)) T)) (omega arith)

-- byte i is the verdict of rule i
pub verdict_byte : (rules counts : List ℕ) (T : List Row) (i : ℕ) → i < length counts
    → get_or (verdict_bytes (formulas_of rules counts) T) i 0 ≡ one (verdict (formula (rule_at rules counts i)) T)
verdict_byte rules counts T i h =
    rule_byte rules counts T 0 (length counts) i h ∙ ap (λ (j : ℕ). one (verdict (formula (rule_at rules counts j)) T)) (omega arith)

module _ (rules counts table : List ℕ) (set_ok : accepted_set rules counts ≡ true) (table_ok : accepted_table table ≡ true) where
  abbrev bytes : List ℕ
  bytes = verdict_bytes (formulas_of rules counts) (rows table)

  pub verdicts_are : (room : ℕ) → set_verdicts_answer rules counts table room ≡ fitting bytes room
  unfolding set_verdicts_answer
  verdicts_are room = and_then_passed (check_set rules counts) _ set_ok ∙ and_then_passed (check_table table) _ table_ok

  pub bytes_are : (out : List ℕ) → set_verdicts_out rules counts table out ≡ output (fitting bytes (length out)) bytes out
  unfolding set_verdicts_out
  bytes_are out = ap (λ (a : Answer). output a bytes out) (verdicts_are (length out))

-- two tables on which each rule has the same verdict
pub same_verdicts : (rules counts s t : List ℕ) → accepted_set rules counts ≡ true → accepted_table s ≡ true → accepted_table t ≡ true
    → ((F : Formula) → F ∈ formulas_of rules counts → verdict F (rows s) ≡ verdict F (rows t)) → SameVerdicts rules counts s t
same_verdicts rules counts s t set_ok s_ok t_ok same out =
    let Fs = formulas_of rules counts in
    let alike : verdict_bytes Fs (rows s) ≡ verdict_bytes Fs (rows t)
    = map_same (λ F. one (verdict F (rows s))) (λ F. one (verdict F (rows t))) Fs (λ F m. ap one (same F m)) in (
      verdicts_are rules counts s set_ok s_ok (length out)
          ∙ ap (λ (l : List ℕ). fitting l (length out)) alike
          ∙ sym (verdicts_are rules counts t set_ok t_ok (length out)),
      bytes_are rules counts s set_ok s_ok out
          ∙ ap (λ (l : List ℕ). output (fitting l (length out)) l out) alike
          ∙ sym (bytes_are rules counts t set_ok t_ok out),
    )

-- ---- the part of one device's table, for what has passed its own checks
module _ (checked : Answer) (checked_ok : is_done checked ≡ true) (Fs : List Formula) (table : List ℕ) (table_ok : accepted_table table ≡ true) where
  module _ (number : ℕ) (own : (r : Row) → r ∈ rows table → r.device ≡ number) (mode : ℕ) (low : 1 ≤ mode) (high : mode ≤ 3) (out : List ℕ) where
    abbrev sent : List Row
    sent = part_of Fs mode (rows table)

    abbrev answer : Answer
    answer = send_answer checked Fs table mode (length out)

    one_device : (i : ℕ) → i < row_count table → other_device table i ≡ false
    one_device i h =
        let e : (row_at table i).device ≡ (row_at table 0).device = own (row_at table i) (row_in table i h) ∙ sym (own (row_at table 0) (row_in table 0 (omega arith))) in
        ap not (eq-eqb (row_at table i).device (row_at table 0).device e)

    -- only a short output is left to refuse
    pub part_is : answer ≡ unless (leb (length (words_of sent)) (length out)) ShortOutput (Done (length sent))
    unfolding send_answer
    part_is =
        and_then_passed checked _ checked_ok
        ∙ and_then_passed (check_table table) _ table_ok
        ∙ unless_passed (leb 1 mode && leb mode 3) Mode _ (and_both (leb 1 mode) (leb mode 3) (le-leb 1 mode low) (le-leb mode 3 high))
        ∙ unless_any_passed (other_device table) OtherDevice (row_count table) _ one_device

    done_is : (b : Bool) → answer ≡ unless b ShortOutput (Done (length sent)) → is_done answer ≡ true → answer ≡ Done (length sent)
    done_is true e d = e
    done_is false e d = absurd (false≢true (sym (ap is_done e) ∙ d))

    part_words : is_done answer ≡ true → take (row_words * value answer) (send_out checked Fs table mode out) ≡ words_of sent
    unfolding send_out
    part_words d =
        let e : answer ≡ Done (length sent) = done_is (leb (length (words_of sent)) (length out)) part_is d in
        ap (λ (a : Answer). take (row_words * value a) (cond (is_done a) (words_of sent ++ drop (length (words_of sent)) out) out)) e
        ∙ take_at (words_of sent) (drop (length (words_of sent)) out) (row_words * length sent) (length_words sent)

    part_short : OnlyShort answer
    part_short = subst OnlyShort (sym part_is) (go (leb (length (words_of sent)) (length out)))
      where
        go : (b : Bool) → OnlyShort (unless b ShortOutput (Done (length sent)))
        go true = inl refl
        go false = inr refl

    part_cut : IsCut Fs table (words_of sent)
    part_cut = record { whole_rows = words_whole sent; is_cut = rw (rows_words sent) (mode_is_cut Fs (rows table) (rows_proper table table_ok) mode) }

-- for a set
module _ (rules counts table : List ℕ) (set_ok : accepted_set rules counts ≡ true) (table_ok : accepted_table table ≡ true) where
  pub part_is_cut : (number : ℕ) → ((r : Row) → r ∈ rows table → r.device ≡ number) → (mode : ℕ) → 1 ≤ mode → mode ≤ 3 → (out : List ℕ) → PartIsCut rules counts table mode out
  part_is_cut number own mode low high out =
      let checked = check_set rules counts in
      let Fs = formulas_of rules counts in
      record {
        is_cut = part_cut checked set_ok Fs table table_ok number own mode low high out;
        only_short = part_short checked set_ok Fs table table_ok number own mode low high out;
        writes = part_words checked set_ok Fs table table_ok number own mode low high out;
      }
