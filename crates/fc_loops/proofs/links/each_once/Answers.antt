use Rattle.fc_loops.proofs.LoopVolumes.{all_more, all_listed, last_more}
use Rattle.fc_loops.proofs.links.each_once.Goals as goal

pub loop-volume-preserved : goal.loop-volume-preserved
loop-volume-preserved c =
    record {
      rising = c.in_ok-put_last.ensures.rising;
      last = last_more c.args.sorted.now c.put_last.new.volumes.items c.loop-volume.volume-index c.requires c.in_ok-put_last.ensures.last;
      all = all_more c.args.sorted.now c.loop-volume.volumes.items c.put_last.new.volumes.items c.loop-volume.volume-index c.loop-volume.invariant.all c.in_ok-put_last.ensures.kept c.in_ok-put_last.ensures.put;
    }

pub returns-clause-all : goal.returns-clause-all
returns-clause-all c = all_listed c.args.sorted.now c.loop-volume.volumes.items c.loop-volume.volume-index c.loop-volume-test.false c.loop-volume.invariant.all
