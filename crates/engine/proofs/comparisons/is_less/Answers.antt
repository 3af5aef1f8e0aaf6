-- `engine::comparisons::is_less` meets its contract. Assumes nothing.
use borrow.Author.Tests.{lt-ltb, le-ltb}
use Rattle.engine.proofs.comparisons.is_less.Goals as goal

pub returns-then-x-gt-VALUE_LIMIT : goal.returns-then-x-gt-VALUE_LIMIT
returns-then-x-gt-VALUE_LIMIT c = rw (lt-ltb _ _ c.if-x-gt-VALUE_LIMIT.true)

pub returns : goal.returns
returns c = rw (le-ltb _ _ c.if-x-gt-VALUE_LIMIT.false)
