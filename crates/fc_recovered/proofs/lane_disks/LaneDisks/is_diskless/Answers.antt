use Rattle.fc_recovered.proofs.Placing.{lacks_is}
use Rattle.fc_recovered.proofs.lane_disks.LaneDisks.is_diskless.Goals as goal

pub returns : goal.returns
returns g c = lacks_is c.args.self.now c.args.volume.now.id.0 c.place_of.result c.is_none.result c.place_of.ensures c.is_none.ensures
