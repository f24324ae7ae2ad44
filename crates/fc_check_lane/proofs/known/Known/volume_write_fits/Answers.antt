use Rattle.fc_base.specs.Sheet.{live_place}
use Rattle.fc_check_lane.proofs.Answering.{live_fit, no_live_fit, at_sheet}
use Rattle.fc_check_lane.proofs.known.Known.volume_write_fits.Goals as goal

pub returns-in-Some : goal.returns-in-Some
returns-in-Some c =
    live_fit c.args.self.now c.args.part c.args.number _ c.args.entry.now _
    (at_sheet (λ slots. live_place slots c.args.part.volume.0) _ _ _ c.chains.ensures c.in-Some.ensures.value) c.requires c.write_fits.ensures

pub returns-in-None : goal.returns-in-None
returns-in-None c = λ can. no_live_fit c.args.self.now c.args.part c.args.entry.now (at_sheet (λ slots. live_place slots c.args.part.volume.0) _ _ _ c.chains.ensures c.in-None.ensures.value)
