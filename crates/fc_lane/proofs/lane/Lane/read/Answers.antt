use Rattle.fc_lane.proofs.Followed.{entry_followed}
use Rattle.fc_lane.proofs.lane.Lane.read.Goals as goal

pub returns-clause-followed : goal.returns-clause-followed
returns-clause-followed g c =
    entry_followed c.args.self.now c.read_told-entry.new.self c.note.new.self _ c.args.number c.args.actor _ c.read_told-entry.result c.read_told-entry.ensures.entered c.note.ensures
