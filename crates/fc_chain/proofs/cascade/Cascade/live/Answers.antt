use Rattle.fc_base.specs.Sheet.{live_place}
use Rattle.fc_chain.proofs.Named.{names_place}
use Rattle.fc_chain.proofs.cascade.Cascade.live.Goals as goal

pub returns-clause-there : goal.returns-clause-there
returns-clause-there c =
    names_place c.args.self.now.sheet.slots c.slots.result.now (live_place c.args.self.now.sheet.slots c.args.volume.0) c.place_of_live.result c.name_of.result
    c.slots.ensures.value c.place_of_live.ensures.value c.slots.ensures.plannable.apart c.place_of_live.ensures.bound c.name_of.ensures
