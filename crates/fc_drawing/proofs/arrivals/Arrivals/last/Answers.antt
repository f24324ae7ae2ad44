use Rattle.std.proofs.Common.{sym, ◌∙◌}
use Rattle.fc_drawing.proofs.Latest.{arrival_early, arrival_never}
use Rattle.fc_drawing.proofs.arrivals.Arrivals.last.Goals as goal

pub returns-in-None : goal.returns-in-None
returns-in-None c = arrival_never c.args.self.now c.args.slot.0 c.args.grain c.args.end (sym c.in-None.is ∙ c.last_of_all.ensures)

pub returns-in-Some : goal.returns-in-Some
returns-in-Some c = arrival_early c.args.self.now c.args.slot.0 c.args.grain c.in-Some.number c.args.end (sym c.in-Some.is ∙ c.last_of_all.ensures) c.if-number-end.true
