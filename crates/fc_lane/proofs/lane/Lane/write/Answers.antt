use Rattle.fc_lane.proofs.Followed.{entry_followed}
use Rattle.fc_lane.proofs.lane.Lane.write.Goals as goal

pub returns : goal.returns
returns g c =
    entry_followed c.args.self.now c.write_told-entry.new.self c.note.new.self _ c.args.number c.args.actor _ c.write_told-entry.result c.write_told-entry.ensures c.note.ensures
