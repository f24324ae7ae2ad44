-- The ranges that rise and keep what is held.
use Rattle.fc_base.specs.SheetView.{held_of}
use Rattle.fc_books.proofs.Keeping.{kept_is}
use Rattle.fc_stops.proofs.stop_effects.kept_of.Goals as goal

pub returns : goal.returns
returns g c = kept_is (held_of (g.S.Sheet.meaning c.args.sheet.now).sheet.slots c.args.mapping.now.id.0) c.in_ok-kept.kept c.as_slice-rising.ensures.rising c.in_ok-kept.ensures
