use Rattle.std.proofs.Common.{false}
use Rattle.fc_entry.specs.Text.{volume_text}
use Rattle.fc_entry.proofs.WrittenLemmas.{Written-more, Written-stopped}
use Rattle.fc_entry.proofs.phrase.put_volumes.Goals as goal

pub returns-in-Err : goal.returns-in-Err
returns-in-Err g c =
    Written-stopped volume_text c.args.volumes.now c.loop-volume.volume-index (record { 0 = 0 }) _ _ _
    c.loop-volume-test.true c.loop-volume.invariant c.in-Err.ensures

pub loop-volume-preserved : goal.loop-volume-preserved
loop-volume-preserved g c =
    Written-more volume_text c.args.volumes.now c.loop-volume.volume-index (record { 0 = 0 }) _ _ false _
    c.loop-volume-test.true c.loop-volume.invariant c.in-Ok.ensures
