use Rattle.fc_plain.proofs.Writes.{write_back}
use Rattle.fc_plain.proofs.change.+write_from.Goals as goal

pub returns-clause-ok : goal.returns-clause-ok
returns-clause-ok t c =
    write_back c.args.grain c.args.part c.args.volumes.now c.write_from.new.volumes c.args.index c.grain_at.result c.index-volumes-index-2.result c.index-volumes-index.result c.put_fresh.new.volume c.in_ok-fresh.fresh
    c.if-index-volumes.false c.in_ok-write_from.ensures.ok c.index-volumes-index.is c.in_ok-fresh.ensures c.grain_at.ensures c.index-volumes-index-2.is c.put_fresh.ensures
