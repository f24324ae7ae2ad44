use Rattle.std.proofs.Common.{rules}
use Rattle.fc_drawing.specs.Chains.{is_stored}
use Rattle.fc_drawing.proofs.room.room_of.Goals as goal

pub returns : goal.returns
returns c = c.count_places.ensures (is_stored c.args.sheet.now.slots c.args.volume.0) (λ k passes answered. search rules)
