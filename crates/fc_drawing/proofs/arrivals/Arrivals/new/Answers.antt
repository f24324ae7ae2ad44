use Rattle.std.proofs.Common.{ap}
use Rattle.std.specs.HashMap.{get}
use Rattle.std.specs.Map.{lookup}
use Rattle.fc_drawing.specs.Arrivals.{same_place}
use Rattle.fc_drawing.proofs.Latest.{latest_none}
use Rattle.fc_drawing.proofs.arrivals.Arrivals.new.Goals as goal

-- nothing is known of any slot
pub invariant_of-result : goal.invariant_of-result
invariant_of-result c = latest_none c.new.result.items (get same_place c.new-2.result) c.new.ensures.items (λ q. ap (lookup (same_place q)) c.new-2.ensures.empty)
