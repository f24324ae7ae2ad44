use Rattle.fc_check_lane.proofs.Answering.{place_fit, no_place_fit}
use Rattle.fc_check_lane.proofs.known.Known.fill_answers.Goals as goal

pub returns-in-Some : goal.returns-in-Some
returns-in-Some c = place_fit c.args.self.now c.args.work c.args.map c.args.grain _ c.args.entry.now _ c.in-Some.ensures c.fill_fits.ensures

pub returns-in-None : goal.returns-in-None
returns-in-None c = no_place_fit c.args.self.now c.args.work c.args.map c.args.grain c.args.entry.now c.in-None.ensures
