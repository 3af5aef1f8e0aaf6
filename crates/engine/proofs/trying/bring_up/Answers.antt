-- `engine::trying::bring_up` meets its contract. Assumes nothing.
use mathlib.Core.Path.{◌≡◌}
use mathlib.Core.Bool.{false}
use borrow.Author.Rules.{rules}
use borrow.Author.Tests.{tests}
use Rattle.tables.specs.Words.{row_at, rows}
use Rattle.logic.specs.Formulas.{formula}
use Rattle.logic.specs.Parts.{reached}
use Rattle.engine.proofs.Stepping.{known_step, room_for_bytes, row_seen, stays}
use Rattle.engine.proofs.trying.bring_up.Goals as goal

pub write_verdicts-requires-clause-counts_in_bounds : goal.write_verdicts-requires-clause-counts_in_bounds
write_verdicts-requires-clause-counts_in_bounds c = room_for_bytes _ _ _ _ _ _ _ _ c.args.set.now.accepted c.requires

pub table_with_row-seen-requires : goal.table_with_row-seen-requires
table_with_row-seen-requires c = known_step _ _ _ _ _ _ _ _ c.args.set.now.accepted c.requires

pub way_up-way-requires : goal.way_up-way-requires
way_up-way-requires c =
    let seen = row_seen _ _ _ _ _ _ _ _ c.args.set.now.accepted c.requires in
    rw c.table_with_row-seen.ensures (seen.1, seen.0)

pub write_verdicts-requires-2-clause-counts_in_bounds : goal.write_verdicts-requires-2-clause-counts_in_bounds
write_verdicts-requires-2-clause-counts_in_bounds c = room_for_bytes _ _ _ _ _ _ _ _ c.args.set.now.accepted c.requires

pub write_verdicts-requires-2-clause-rest_there : goal.write_verdicts-requires-2-clause-rest_there
write_verdicts-requires-2-clause-rest_there c = λ i rule h e k.
    let missed : reached (formula rule.now) (rows c.way_up-way.result.pool.now) (row_at c.way_up-way.result.pool.now c.way_up-way.result.row) ≡ false = search (rules, tests) in
    stays _ _ _ _ _ _ _ _ c.args.set.now.accepted c.requires c.if-first.false i h (rw (← e, ← c.table_with_row-seen.ensures, ← c.way_up-way.ensures.0, ← c.way_up-way.ensures.1) missed)
