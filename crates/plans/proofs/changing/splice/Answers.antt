-- `plans::changing::splice` meets its contract. Assumes nothing.
use Rattle.plans.proofs.Splices.{splice_words}
use Rattle.plans.proofs.changing.splice.Goals as goal

pub returns-clause-out_after : goal.returns-clause-out_after
returns-clause-out_after c = splice_words c.args.table.now c.args.before c.args.middle.now c.args.behind c.requires.0 c.requires.1 c.args.out.now c.if-out-words.false
    c.copy_at.ensures c.copy_at-2.ensures c.copy_at-3.ensures
