use Rattle.std.proofs.Common.{◌≡◌, take}
use Rattle.std.specs.List.{fold}
use Rattle.fc_base.specs.Room.{rooms_after}
use Rattle.fc_check_rooms.proofs.rooms.Rooms.follow_events.Given as goal

-- the events so far are noted
abbrev pub invariant-loop-event : goal.invariant-loop-event
invariant-loop-event l = l.self ≡ fold (rooms_after (λ grains. grains)) l.initial.self (take l.event-index l.events)
