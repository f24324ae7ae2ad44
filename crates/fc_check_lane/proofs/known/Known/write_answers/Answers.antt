use Rattle.fc_check_lane.proofs.Answering.{write_online, write_away}
use Rattle.fc_check_lane.proofs.known.Known.write_answers.Goals as goal

pub returns-in-Online : goal.returns-in-Online
returns-in-Online c = write_online c.args.self.now _ c.args.part c.args.number c.args.entry.now _ c.lane_volumes.ensures c.in-Online.ensures c.volume_write_fits.ensures

pub returns-in-Offline : goal.returns-in-Offline
returns-in-Offline c = λ can. write_away c.args.self.now _ c.args.part _ c.args.entry.now _ c.lane_volumes.ensures c.in-Offline.ensures c.is_offline.ensures

pub returns-in-NotAccessible : goal.returns-in-NotAccessible
returns-in-NotAccessible c = λ can. write_away c.args.self.now _ c.args.part _ c.args.entry.now _ c.lane_volumes.ensures c.in-NotAccessible.ensures c.is_not_accessible.ensures
