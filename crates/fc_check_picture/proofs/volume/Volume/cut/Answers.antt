use Rattle.std.proofs.Common.{arith, refl}
use Rattle.fc_check_picture.proofs.Volumes.{cut_more, cut_whole}
use Rattle.fc_check_picture.proofs.volume.Volume.cut.Goals as goal

pub loop-place-preserved : goal.loop-place-preserved
loop-place-preserved g c = cut_more c.args.kept.now c.args.self.now c.loop-place.self c.restore.new.self c.loop-place.place (omega arith) c.loop-place.invariant c.in_ok-restore.ensures

pub returns : goal.returns
returns g c = cut_whole c.args.kept.now c.args.self.now c.loop-place.self c.loop-place.place (omega arith) c.loop-place.invariant
