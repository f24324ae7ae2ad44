use Rattle.std.proofs.Common.{◌≡◌, [], replicate}
use Rattle.fc_lanes.specs.Dealing.{lists_of}
use Rattle.fc_lanes.proofs.deal.no_lists.Given as goal

abbrev pub invariant-loop : goal.invariant-loop
invariant-loop g l = lists_of g.D.Mdisk.meaning l.lists.items ≡ replicate l.counter []
