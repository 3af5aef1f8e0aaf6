-- `checker::counting::Judged::device_end` meets its contract. Assumes nothing.
use Prim.Native.Nat.{◌+◌}
use mathlib.Core.Path.{◌≡◌}
use mathlib.Core.Bool.{true, false}
use borrow.Author.Rules.{rules}
use borrow.Author.Tests.{tests}
use Rattle.std.proofs.lemmas.Iterator.{first_from_Range}
use Rattle.tables.specs.Words.{row_at}
use Rattle.tables.specs.Devices.{from_device}
use Rattle.checker.proofs.OwnRows.{behind, found_end, ends}
use Rattle.checker.proofs.counting.Judged.device_end.Goals as goal

end_is : (c : goal.After-unwrap_or) → c.unwrap_or.result ≡ from_device c.args.self.now.pool.now ((row_at c.args.self.now.pool.now c.args.row).device + 1)
end_is c =
    let is_behind = behind c.args.self.now.pool.now c.args.self.now.pool_accepted c.args.row c.requires in
    found_end _ c.args.self.now.pool_accepted _ c.requires _ c.row_count-count.ensures.0 _
    (first_from_Range _ _ _ _ (λ k. is_behind k ≡ true) (λ k. is_behind k ≡ false) c.find.ensures.ran (λ x q k. search (rules, tests)) (λ x q k. search (rules, tests)))
    _ c.unwrap_or.ensures

pub returns-clause-end : goal.returns-clause-end
returns-clause-end c = end_is c

pub returns-clause-within : goal.returns-clause-within
returns-clause-within c = ends _ c.args.self.now.pool_accepted _ c.requires _ (end_is c)
