-- `tables::writing::text_fits` meets its contract, by the laws of proofs/Measures.antt. Assumes nothing.
use Rattle.tables.proofs.Measures.{fit_none, fit_plain, fit_over}
use Rattle.tables.proofs.writing.text_fits.Goals as goal

pub returns-then-room-signed : goal.returns-then-room-signed
returns-then-room-signed c = fit_none _ _ _ _ c.count_from-signed.ensures c.if-room-signed.true

pub returns-then-plain_fits : goal.returns-then-plain_fits
returns-then-plain_fits c = fit_plain _ _ _ _ c.count_from-signed.ensures _ c.if-room-signed.false c.plain_fits.ensures c.if-plain_fits.true

pub returns-else-signed-ne0 : goal.returns-else-signed-ne0
returns-else-signed-ne0 c =
    rw c.if-signed-ne0.false (fit_over _ _ _ _ c.count_from-signed.ensures _ c.plain_fits.ensures c.if-plain_fits.false c.if-signed-ne0.false)
