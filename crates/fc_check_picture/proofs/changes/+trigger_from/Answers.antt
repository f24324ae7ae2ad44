use Rattle.fc_check_picture.proofs.Volumes.{trigger_one}
use Rattle.fc_check_picture.proofs.changes.+trigger_from.Goals as goal

pub returns : goal.returns
returns g t c =
    trigger_one c.args.pairs.now c.args.volumes.now c.trigger_from.new.volumes c.args.index c.index-volumes-index-2.result c.index-volumes-index.result c.start.new.volume c.id-target.result c.in_ok-copied.copied
    c.if-index-volumes.false c.in_ok-trigger_from.ensures c.index-volumes-index.is c.id-target.ensures c.in_ok-copied.ensures c.index-volumes-index-2.is c.start.ensures
