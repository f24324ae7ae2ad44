use Rattle.std.proofs.Common.{◌≤◌, length}
use Rattle.fc_check_sheet.specs.Distances.{AreNear, unnoted}
use Rattle.fc_check_sheet.specs.Links.{HasLink}
use Rattle.fc_check_sheet.proofs.distances.distances_to.Given as goal

abbrev pub invariant-levels : goal.invariant-levels
invariant-levels l = record {
  near : AreNear (HasLink l.links) l.start l.away l.distances.items;
  room : l.away ≤ length l.distances.items;
}

abbrev pub decreases-levels : goal.decreases-levels
decreases-levels l = unnoted l.links l.distances.items
