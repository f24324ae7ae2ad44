use Rattle.fc_base.specs.Sheet.{mapping_place}
use Rattle.fc_sheets.proofs.Finding.{mapping_place_at}
use Rattle.fc_steps.proofs.Naming.{leads}
use Rattle.fc_apply.proofs.Noting.{leaving_sized}
use Rattle.fc_apply.proofs.chains.note_leaving.Goals as goal

pub left-requires : goal.left-requires
left-requires c =
    let slots = c.args.cascade.now.sheet.slots in
    let l = leads slots (mapping_place slots c.args.map.0) c.slot.result c.in-Some.slot c.slot.ensures.value c.slot.ensures.there c.in-Some.is in
    record {
      sizes =
          leaving_sized slots c.args.changes.now.rows l.at c.volume.result.0 c.held.result.now c.requires (mapping_place_at slots c.args.map.0 l.at l.there).0 (c.volume.ensures l.at l.named) (c.held.ensures l.at l.named);
    }
