use Rattle.fc_imaging.proofs.RowsTold.{row_is_told}
use Rattle.fc_imaging.proofs.rows.row_told.Goals as goal

pub returns : goal.returns
returns g c =
    row_is_told c.args.lanes.now c.args.rows.now c.args.place c.in_ok-grains.grains c.index-rows-place.result c.map.result c.other_volume.result.0 c.into.result c.in_ok-changed.changed c.in_ok-kept.kept
    c.requires.first c.requires.there c.index-rows-place.is c.in_ok-grains.ensures c.in_ok-changed.ensures c.in_ok-kept.ensures c.map.ensures c.other_volume.ensures c.into.ensures
