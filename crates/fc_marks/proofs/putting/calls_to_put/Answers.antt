use Rattle.std.proofs.Common.{true, false, refl, sym, ◌∙◌}
use Rattle.fc_marks.proofs.Counting.{costs_by}
use Rattle.fc_marks.proofs.putting.calls_to_put.Goals as goal

pub returns-then-fits : goal.returns-then-fits
returns-then-fits g c = costs_by g.M.MetaDisk.seen c.args.note c.args.meta.now true 4 (sym c.if-fits.true ∙ c.fits.ensures) refl

pub returns-else-fits : goal.returns-else-fits
returns-else-fits g c = costs_by g.M.MetaDisk.seen c.args.note c.args.meta.now false 10 (sym c.if-fits.false ∙ c.fits.ensures) refl
