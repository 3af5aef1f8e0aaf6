-- Demand 3 for devices whose tables are folded: an instance of the one theorem. Assumes nothing.
use Prim.Native.Nat.{ℕ}
use mathlib.Core.Path.{◌≡◌, sym, ap, subst, ◌∙◌}
use mathlib.Core.List.Memᴰ
use mathlib.Core.List.{List, map, map-map, Nodup}
use Rattle.base.specs.Lists.{◌∈◌}
use Rattle.tables.specs.Words.{rows}
use Rattle.tables.specs.declared.Row.{Row}
use Rattle.tables.proofs.Accepted.{length_ok}
use Rattle.tables.proofs.Whole.{table_whole}
use Rattle.folding.proofs.Claims.{folds}
use Rattle.logic.specs.Formulas.{formulas_of}
use Rattle.logic.specs.Demand.{Device, Sends}
use Rattle.logic.specs.Folded.{Listing, folded_rows, after_folding, Listed, GivenListed, AfterFolding}
use Rattle.logic.proofs.Demand.{demand_3}

-- a folded table's rows are the device's own
pub own_folded : (l : Listing) → Listed l → (r : Row) → r ∈ rows (folded_rows l) → r.device ≡ l.number
own_folded l ok r m =
    let s = (folds l.listed l.buffer ok.accepted).words_kept r m in
    ap (λ (z : Row). z.device) s.2 ∙ ok.own_rows s.0 s.1

module _ (rules counts : List ℕ) (ls : List Listing) (given : GivenListed rules counts ls) where
  sends : (l : Listing) → l ∈ ls → Sends (formulas_of rules counts) (after_folding l)
  sends l m =
      let ok = given.listed l m in
      record {
        whole_rows = table_whole (folded_rows l) (length_ok (folded_rows l) (folds l.listed l.buffer ok.accepted).accepted);
        own_rows = own_folded l ok;
        sends = given.cuts l m;
      }

pub after_folding_lem : AfterFolding
after_folding_lem rules counts ls given = demand_3 rules counts (map after_folding ls) (record {
  set_accepted = given.set_accepted;
  none_twice = subst Nodup (sym (map-map (λ (d : Device). d.number) after_folding ls)) given.none_twice;
  devices = λ d m.
      let w = Memᴰ.of_map after_folding ls m in
      subst (Sends (formulas_of rules counts)) w.2 (sends rules counts ls given w.0 w.1);
  dump_accepted = given.dump_accepted;
})
