-- `engine::children::find_children` meets its contract. Assumes nothing.
use mathlib.Core.Path.{refl}
use Rattle.engine.proofs.Noting.{noted_none}
use Rattle.engine.proofs.children.find_children.Goals as goal

pub loop-i-init : goal.loop-i-init
loop-i-init c = (noted_none c.args.pool.now c.args.children.now c.requires.pool_value c.requires.none_noted, refl)
