use Rattle.fc_loops.proofs.LoopVolumes.{volumes_sorted}
use Rattle.fc_loops.proofs.links.old_volumes.Goals as goal

pub returns-in-Ok : goal.returns-in-Ok
returns-in-Ok c =
    volumes_sorted c.args.rows.now c.in_ok-volumes.volumes.items c.deref_mut.result.now c.sort.new.volumes c.deref.result.now c.in-Ok.volumes.items c.in_ok-volumes.volumes.len c.in_ok-volumes.ensures c.deref_mut.ensures.value c.deref_mut.ensures.len c.sort.auto.volumes c.sort.ensures.same
    c.deref.ensures.value c.in-Ok.ensures.rising c.in-Ok.ensures.all
