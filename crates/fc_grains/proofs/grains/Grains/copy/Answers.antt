use Rattle.std.proofs.Common.{false}
use Rattle.fc_grains.proofs.Calling.{target_still}
use Rattle.fc_grains.proofs.grains.Grains.copy.Goals as goal

pub returns-in-Err : goal.returns-in-Err
returns-in-Err g c = c.in-Err.ensures

pub write-requires : goal.write-requires
write-requires g c = target_still c.args.self.now c.read.new.self c.args.from.0 c.args.to.0 c.args.place false c.in-Ok.ensures c.requires.target

pub returns-in-Ok-write : goal.returns-in-Ok-write
returns-in-Ok-write g c = (c.read.new.self, c.in-Ok.ensures, c.in-Ok-write.ensures)

pub returns-in-Err-write : goal.returns-in-Err-write
returns-in-Err-write g c = (c.read.new.self, c.in-Ok.ensures, c.in-Err-write.ensures)
