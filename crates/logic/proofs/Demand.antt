-- Demand 3: what is read off the joined cuts, rule by rule, is what is read off the dump of the devices joined. Assumes nothing.
use Prim.Native.Nat.{ℕ}
use mathlib.Core.Path.{◌≡◌, refl, sym, ap, subst, ◌∙◌}
use mathlib.Core.Bool.{Bool, true}
use mathlib.Core.List.Memᴰ
use mathlib.Core.List.Pairwise
use mathlib.Core.List.Sublistᴰ
use mathlib.Core.List.{List, [], ◌∷◌, ◌++◌, append-nil, Sublistᴰ}
use lib.ListN.{length}
use Rattle.base.specs.Lists.{◌∈◌, concat_map}
use Rattle.base.proofs.Lists.{concat_map_sub, map_sub, sub_in, sub_one}
use Rattle.tables.specs.Words.{row_at, rows_from, rows}
use Rattle.tables.specs.Rules.{one, accepted_rule}
use Rattle.tables.specs.Tables.{same_row, accepted_table}
use Rattle.tables.specs.Joining.{join_tables, join_answer}
use Rattle.tables.specs.declared.Row.{Row}
use Rattle.tables.specs.Answers.{Done}
use Rattle.sets.specs.Sets.{rules_of}
use Rattle.sets.proofs.Sets.{rule_accepted}
use Rattle.tables.proofs.InPlace.{in_place_answer, in_place_table}
use Rattle.tables.proofs.Proper.{rows_proper}
use Rattle.tables.proofs.RowLists.{row_in, row_out}
use Rattle.logic.specs.Formulas.{Formula, formula, formulas_of}
use Rattle.logic.specs.Verdict.{verdict, verdict_answer}
use Rattle.logic.specs.Marks.{marked}
use Rattle.logic.specs.Parts.{words_of, spare_for_each}
use Rattle.logic.specs.Demand.{Device, IsCut, Sends, dump, join, taken, Given, InPlace, SameVerdicts, MarksKept, Claim}
use Rattle.logic.proofs.Words.{words_rows}
use Rattle.logic.proofs.Cuts.{all_is_cut, cut_for}
use Rattle.logic.proofs.Devices.{NoneTwice, own_of, sent_of, Devices, verdict_same, marked_kept}
use Rattle.logic.proofs.Joinings.{rows_concat, some_accepted, sent, sent_accepted, answers_short, parts_are, taken_sub}
use Rattle.logic.proofs.Calls.{same_itself, one_true, verdict_is, byte_is, same_verdicts, part_is_cut}

-- ---- verdict and marks of one rule of the set, for dumps of any length: it is enough that each device's table is accepted
module _ (Fs : List Formula) (ds : List Device) (twice : NoneTwice ds) (sends : (d : Device) → d ∈ ds → Sends Fs d) (tables : (d : Device) → d ∈ ds → accepted_table d.table ≡ true) where
  own_sum : rows (dump ds) ≡ concat_map own_of ds
  own_sum = rows_concat (λ d. d.table) ds (λ d m. (sends d m).whole_rows)

  sent_sum : rows (sent ds) ≡ concat_map sent_of ds
  sent_sum = rows_concat (λ d. d.cut) ds (λ d m. (sends d m).sends.whole_rows)

  -- a row sent is a row of the dump
  pub sent_in : (r : Row) → r ∈ rows (sent ds) → r ∈ rows (dump ds)
  sent_in r m =
      subst (λ (l : List Row). r ∈ l) (sym own_sum)
      (sub_in (concat_map_sub sent_of own_of (λ d i. (sends d i).sends.is_cut.keeps) (Sublistᴰ.refl ds)) (subst (λ (l : List Row). r ∈ l) sent_sum m))

  module _ (F : Formula) (of : F ∈ Fs) where
    devices : Devices F ds
    devices = record {
      none_twice = twice;
      own_rows = λ d m. (sends d m).own_rows;
      proper = λ d m. rows_proper d.table (tables d m);
      cuts = λ d m. cut_for (sends d m).sends.is_cut F of;
    }

    pub any_length_verdict : verdict F (rows (sent ds)) ≡ verdict F (rows (dump ds))
    any_length_verdict = ap (verdict F) sent_sum ∙ verdict_same F ds devices ∙ ap (verdict F) (sym own_sum)

    pub any_length_marks : (r : Row) → marked F (rows (sent ds)) r ≡ true → marked F (rows (dump ds)) r ≡ true
    any_length_marks r e =
        subst (λ (l : List Row). marked F l r ≡ true) (sym own_sum) (marked_kept F ds devices r (subst (λ (l : List Row). marked F l r ≡ true) sent_sum e))

-- ---- the theorem
module _ (rules counts : List ℕ) (ds : List Device) (given : Given rules counts ds) where
  abbrev Fs : List Formula
  Fs = formulas_of rules counts

  all_cut : (d : Device) → d ∈ ds → IsCut Fs d.table d.table
  all_cut d m = record { whole_rows = (given.devices d m).whole_rows; is_cut = all_is_cut (spare_for_each Fs (rows d.table)) (rows d.table) }

  -- the dump of some of the devices, and so each device's table
  dump_of : (es : List Device) → Sublistᴰ es ds → accepted_table (dump es) ≡ true
  dump_of = some_accepted Fs ds given.none_twice given.devices given.dump_accepted (λ d. d.table) all_cut

  table_of : (d : Device) → d ∈ ds → accepted_table d.table ≡ true
  table_of d m = subst (λ (t : List ℕ). accepted_table t ≡ true) (append-nil d.table) (dump_of (d ∷ []) (sub_one m))

  -- the devices joined
  abbrev es : List Device
  es = taken [] ds

  joined_sub : Sublistᴰ es ds
  joined_sub = taken_sub ds []

  twice : NoneTwice es
  twice = Pairwise.sublistᴰ (map_sub (λ (d : Device). d.number) joined_sub) given.none_twice

  sends : (d : Device) → d ∈ es → Sends Fs d
  sends d m = given.devices d (sub_in joined_sub m)

  tables : (d : Device) → d ∈ es → accepted_table d.table ≡ true
  tables d m = table_of d (sub_in joined_sub m)

  sent_ok : accepted_table (sent es) ≡ true
  sent_ok = sent_accepted Fs ds given.none_twice given.devices given.dump_accepted es joined_sub

  dump_ok : accepted_table (dump es) ≡ true
  dump_ok = dump_of es joined_sub

  same_verdict_of : (F : Formula) → F ∈ Fs → verdict F (rows (sent es)) ≡ verdict F (rows (dump es))
  same_verdict_of = any_length_verdict Fs es twice sends tables

  same_answers : SameVerdicts rules counts (sent es) (dump es)
  same_answers = same_verdicts rules counts (sent es) (dump es) given.set_accepted sent_ok dump_ok same_verdict_of

  -- ---- for each rule
  module _ (rule : List ℕ) (m : rule ∈ rules_of rules counts) where
    abbrev F : Formula
    F = formula rule

    of : F ∈ Fs
    of = Memᴰ.map formula m

    rule_ok : accepted_rule rule ≡ true
    rule_ok = rule_accepted rules counts given.set_accepted m

    same_answer : verdict_answer rule (sent es) ≡ verdict_answer rule (dump es)
    same_answer =
        verdict_is rule (sent es) rule_ok sent_ok
        ∙ ap (λ (b : Bool). Done (one b)) (same_verdict_of F of)
        ∙ sym (verdict_is rule (dump es) rule_ok dump_ok)

    kept : MarksKept rule (sent es) (dump es)
    kept out out' room room' i h marks =
        let r = row_at (sent es) i in
        let mark : marked F (rows (sent es)) r ≡ true = one_true _ (sym (byte_is rule (sent es) rule_ok sent_ok out room i h) ∙ marks) in
        let w = row_out (dump es) (sent_in Fs es twice sends tables r (row_in (sent es) i h)) in
        let dumped : marked F (rows (dump es)) (row_at (dump es) w.0) ≡ true
        = subst (λ (x : Row). marked F (rows (dump es)) x ≡ true) w.2 (any_length_marks Fs es twice sends tables F of r mark) in (
          w.0,
          w.1,
          subst (λ (x : Row). same_row r x ≡ true) w.2 (same_itself r),
          byte_is rule (dump es) rule_ok dump_ok out' room' w.0 w.1 ∙ ap one dumped,
        )

  no_rows : (d : Device) → d ∈ ds → d.table ≡ [] → d.cut ≡ []
  unfolding rows_from
  no_rows d m e =
      let c = (given.devices d m).sends in
      let none : rows d.cut ≡ [] = Sublistᴰ.eq-nil (subst (λ (t : List ℕ). Sublistᴰ (rows d.cut) (rows t)) e c.is_cut.keeps) in
      sym (words_rows d.cut c.whole_rows) ∙ ap words_of none

  placed : (d : Device) (t rest : List ℕ) → InPlace t rest d
  placed d t rest room =
      let e : join_answer (t ++ rest) (length t) d.cut ≡ join t d = in_place_answer t rest d.cut ∙ ap (join_tables t d.cut) room in
      (e, in_place_table t rest d.cut (join t d) e)

  claim : Claim rules counts ds
  claim = record {
    only_short = answers_short Fs ds given.none_twice given.devices given.dump_accepted ds [] [] refl (Sublistᴰ.refl ds);
    in_place = λ d m. placed d;
    parts_accepted = ap accepted_table (parts_are ds) ∙ sent_ok;
    dump_accepted = dump_ok;
    same_verdict = λ rule m. ap (verdict_answer rule) (parts_are ds) ∙ same_answer rule m;
    same_verdicts = subst (λ (t : List ℕ). SameVerdicts rules counts t (dump es)) (sym (parts_are ds)) same_answers;
    marks_kept = λ rule m. subst (λ (t : List ℕ). MarksKept rule t (dump es)) (sym (parts_are ds)) (kept rule m);
    parts_are_cuts = λ d m mode low high out. part_is_cut rules counts d.table given.set_accepted (table_of d m) d.number (given.devices d m).own_rows mode low high out;
    empty_cut = no_rows;
  }

pub demand_3 : (rules counts : List ℕ) (ds : List Device) → Given rules counts ds → Claim rules counts ds
demand_3 = claim
