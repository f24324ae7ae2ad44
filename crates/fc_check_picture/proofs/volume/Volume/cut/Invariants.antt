use Rattle.fc_check_picture.proofs.Volumes.{CutSo}
use Rattle.fc_check_picture.proofs.volume.Volume.cut.Given as goal

-- the grains so far are cut
abbrev pub invariant-loop-place : goal.invariant-loop-place
invariant-loop-place g l = CutSo l.kept l.initial.self l.self l.place
