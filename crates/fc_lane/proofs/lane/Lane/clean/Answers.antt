use Rattle.fc_lane.proofs.Followed.{entry_followed}
use Rattle.fc_lane.proofs.lane.Lane.clean.Goals as goal

pub returns : goal.returns
returns g c =
    entry_followed c.args.self.now c.fill_told-entry.new.self c.note.new.self _ c.args.number c.args.actor _ c.fill_told-entry.result c.fill_told-entry.ensures c.note.ensures
