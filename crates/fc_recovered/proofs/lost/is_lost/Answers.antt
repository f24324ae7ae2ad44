use Rattle.fc_recovered.proofs.Walking.{found_row}
use Rattle.fc_recovered.proofs.lost.is_lost.Goals as goal

pub returns-then-row-volume : goal.returns-then-row-volume
returns-then-row-volume c t tidy =
    found_row t c.args.volume.0 c.args.grain c.args.rows.now c.loop-row.row-index c.row-item.result c.has.result c.loop-row-test.true c.row-item.is tidy c.if-row-volume.true c.has.ensures
    (c.loop-row.invariant t tidy)
