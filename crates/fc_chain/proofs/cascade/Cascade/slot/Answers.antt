use Rattle.fc_base.specs.Sheet.{mapping_place}
use Rattle.fc_chain.proofs.Named.{names_place}
use Rattle.fc_chain.proofs.cascade.Cascade.slot.Goals as goal

pub returns-clause-there : goal.returns-clause-there
returns-clause-there c =
    names_place c.args.self.now.sheet.slots c.slots.result.now (mapping_place c.args.self.now.sheet.slots c.args.map.0) c.place_of_mapping.result c.name_of.result
    c.slots.ensures.value c.place_of_mapping.ensures.value c.slots.ensures.plannable.apart c.place_of_mapping.ensures.bound c.name_of.ensures
