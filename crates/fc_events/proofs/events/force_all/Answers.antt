use Rattle.fc_base.specs.SheetStep.{forced_map}
use Rattle.fc_events.proofs.Rising.{next_fits_at, force_rises}
use Rattle.fc_events.proofs.events.force_all.Goals as goal

pub force_one-requires-clause-births : goal.force_one-requires-clause-births
force_one-requires-clause-births c = next_fits_at forced_map force_rises _ _ c.args.maps.now c.loop-map.map-index (record { 0 = 0 }) c.loop-map-test.true c.loop-map.invariant.rest c.requires.births
