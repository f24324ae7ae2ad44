-- As many as of the ids so far.
use Rattle.std.proofs.Common.{◌≡◌, take}
use Rattle.std.specs.List.{count_by}
use Rattle.fc_group.specs.Found.{is_target_of}
use Rattle.fc_group.proofs.trigger.count_targets.Given as goal

abbrev pub invariant-loop-map : goal.invariant-loop-map
invariant-loop-map l = l.count ≡ count_by (is_target_of l.registry.tables l.volume.0) (take l.map-index l.maps)
