-- `tables::parents::check_parents` meets its contract: a search for 11 that notes the first 26. Assumes nothing.
use mathlib.Core.Path.{◌≡◌, sym, ap, ◌∙◌}
use native.Mathlib.Omega.{arith}
use Rattle.std.specs.Prelude.{Some, Err}
use Rattle.tables.specs.Links.{places_at, place_hash, parent_fault}
use Rattle.tables.specs.declared.Row.{Row}
use Rattle.tables.specs.declared.refusals.Fault.{Fault}
use Rattle.tables.proofs.Searches.{found_begin, found_here, found_not, noted_here, noted_not}
use Rattle.tables.proofs.ParentFaults.{no_fault, is_parent_fault, is_other_fault, missing_first}
use Rattle.tables.proofs.parents.check_parents.Goals.{in-Some+in_default-fault, in_default}
use Rattle.tables.proofs.parents.check_parents.Goals as goal

pub loop-i-init : goal.loop-i-init
loop-i-init c = record { linked = c.new-chains.ensures.empty; chained = c.new-chains.ensures.chained _; parents = found_begin _; depths = sym (found_begin _) }

pub returns-in-Parent : goal.returns-in-Parent
returns-in-Parent c =
    let e : Some c.in-Some.fault ≡ parent_fault c.args.t.now c.loop-i.i =
    sym c.in-Some.is ∙ c.parent_fault-fault.ensures ∙ ap (parent_fault c.args.t.now) c.loop-i.invariant.linked in
    ap (λ (f : Fault). Err (record { fault = f; place = c.loop-i.i })) c.in-Parent.is
    ∙ missing_first _ _ _ (found_here _ _ _ c.loop-i-test.true c.loop-i.invariant.parents (is_parent_fault _ _ _ e c.in-Parent.is))

pub loop-i-preserved : goal.loop-i-preserved
loop-i-preserved c =
    let t = c.args.t.now in
    let tells : c.parent_fault-fault.result ≡ parent_fault t c.loop-i.i = c.parent_fault-fault.ensures ∙ ap (parent_fault t) c.loop-i.invariant.linked in
    let hash : c.place_hash.result ≡ places_at t c.loop-i.chains.rows =
    c.place_hash.ensures.value ∙ ap (λ (r : Row). place_hash r.device r.at) c.row_at-r.ensures ∙ ap (places_at t) (sym c.loop-i.invariant.linked) in
    elim c.match-fault.branch [
      | in-Some+in_default-fault w ↦
          let f = is_other_fault _ _ _ (sym w.in-Some.is ∙ tells) w.in_default-fault.not-Parent in
          record {
            linked = omega (arith, c.link.ensures.rows, c.loop-i.invariant.linked);
            chained = c.link.ensures.chained _ hash c.loop-i.invariant.chained;
            parents = found_not _ _ c.loop-i.invariant.parents f.0;
            depths = w.depth-is ∙ w.or-depth.ensures ∙ noted_here _ _ _ c.loop-i.invariant.depths f.1;
          }
      | in_default w ↦
          let f = no_fault _ _ (sym w.in_default.is ∙ tells) in
          record {
            linked = omega (arith, c.link.ensures.rows, c.loop-i.invariant.linked);
            chained = c.link.ensures.chained _ hash c.loop-i.invariant.chained;
            parents = found_not _ _ c.loop-i.invariant.parents f.0;
            depths = w.depth-is ∙ noted_not _ _ _ c.loop-i.invariant.depths f.1;
          }
    ]
