-- `engine::Bindings::bind` meets its contract. Assumes nothing.
use borrow.Author.Tests.{lt-ltb, le-ltb, lt-leb, le-leb}
use Rattle.engine.proofs.bindings.Bindings.bind.Goals as goal

pub returns-then-at-ge-LIMIT : goal.returns-then-at-ge-LIMIT
returns-then-at-ge-LIMIT c = simp (le-ltb _ _ c.if-at-ge-LIMIT.true)

pub returns-then-place-gt-ROW_LIMIT : goal.returns-then-place-gt-ROW_LIMIT
returns-then-place-gt-ROW_LIMIT c = simp (lt-ltb _ _ c.if-at-ge-LIMIT.false, lt-leb _ _ c.if-place-gt-ROW_LIMIT.true)

pub returns : goal.returns
returns c = simp (lt-ltb _ _ c.if-at-ge-LIMIT.false, le-leb _ _ c.if-place-gt-ROW_LIMIT.false)
