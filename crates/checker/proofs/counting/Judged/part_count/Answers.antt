-- `checker::counting::Judged::part_count` meets its contract. Assumes nothing.
use native.Mathlib.Omega.{arith}
use Rattle.checker.proofs.OwnRows.{own_words, part_count_lem}
use Rattle.checker.proofs.counting.Judged.part_count.Goals as goal

pub returns : goal.returns
returns c = part_count_lem _ _ c.args.self.now.rule_accepted c.args.self.now.pool_accepted _ _ c.requires.0 c.requires.1 _ _ _
    (own_words _ c.args.self.now.pool_accepted _ c.requires.2 _ c.device_end.ensures.end c.requires.3) (omega arith) c.part_size.ensures _ c.unwrap_or.ensures
