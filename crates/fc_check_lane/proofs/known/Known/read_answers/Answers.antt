use Rattle.fc_check_lane.proofs.Answering.{read_online, read_away}
use Rattle.fc_check_lane.proofs.known.Known.read_answers.Goals as goal

pub returns-in-Online : goal.returns-in-Online
returns-in-Online c = read_online c.args.self.now _ c.args.part c.args.number c.args.entry.now _ c.lane_volumes.ensures c.in-Online.ensures c.requires c.read_fits.ensures

pub returns-in-Offline : goal.returns-in-Offline
returns-in-Offline c = read_away c.args.self.now _ c.args.part _ c.args.entry.now _ c.lane_volumes.ensures c.in-Offline.ensures c.is_offline.ensures

pub returns-in-NotAccessible : goal.returns-in-NotAccessible
returns-in-NotAccessible c = read_away c.args.self.now _ c.args.part _ c.args.entry.now _ c.lane_volumes.ensures c.in-NotAccessible.ensures c.is_not_accessible.ensures
