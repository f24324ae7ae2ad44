use Rattle.std.proofs.Common.{◌∙◌, ◌%◌, ◌==◌, List, ap, sym}
use Rattle.fc_grains.specs.Volumes.{VolumeGrains}
use Rattle.fc_apply.proofs.Volumes.{there_kinds, unarmed}
use Rattle.fc_apply.proofs.parts.arm.Goals as goal

pub arm-requires : goal.arm-requires
arm-requires g c = there_kinds c.args.grains.now.volumes c.args.accesses.now.volumes c.args.volume.0 c.requires.same ∙ (sym c.is_there.ensures ∙ c.if-is_there.true)

pub returns-else-is_there : goal.returns-else-is_there
returns-else-is_there g c =
    ap (λ (vs : List VolumeGrains). record c.args.grains.now { volumes = vs })
    (unarmed c.args.grains.now.volumes c.args.volume.0 c.args.calls (c.args.grain % c.args.lanes == c.args.lane)
    (there_kinds c.args.grains.now.volumes c.args.accesses.now.volumes c.args.volume.0 c.requires.same ∙ (sym c.is_there.ensures ∙ c.if-is_there.false)))
