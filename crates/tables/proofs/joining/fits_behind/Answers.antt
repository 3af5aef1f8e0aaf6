-- `tables::joining::fits_behind` meets its contract. Assumes nothing.
use Rattle.tables.proofs.Joins.{follows_empty, follows_none, follows_above}
use Rattle.tables.proofs.joining.fits_behind.Goals as goal

pub returns-then-m-eq0 : goal.returns-then-m-eq0
returns-then-m-eq0 c = follows_empty c.args.s.now c.args.t.now c.if-m-eq0.true

pub returns-then-t-eq0 : goal.returns-then-t-eq0
returns-then-t-eq0 c = follows_none c.args.s.now c.args.t.now c.if-m-eq0.false c.if-t-eq0.true

pub returns : goal.returns
returns c = follows_above c.args.s.now c.args.t.now c.if-m-eq0.false c.if-t-eq0.false _ _ c.row_at.ensures c.row_at-2.ensures
