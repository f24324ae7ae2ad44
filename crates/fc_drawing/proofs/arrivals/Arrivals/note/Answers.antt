use Rattle.std.proofs.Common.{◌∙◌}
use Rattle.std.specs.HashMap.{get}
use Rattle.fc_drawing.specs.Arrivals.{same_place}
use Rattle.fc_drawing.proofs.Latest.{latest_noted}
use Rattle.fc_drawing.proofs.arrivals.Arrivals.note.Goals as goal

-- the new one is the last at its slot and grain, and nothing else changes
pub invariant_of-self-2 : goal.invariant_of-self-2
invariant_of-self-2 c =
    let pushed = rw c.unwrap.ensures at c.push.ensures.items in
    latest_noted c.self.inside.all.items c.reserve.new.self.items c.push.new.self.items c.args.arrival (get same_place c.self.inside.latest) (get same_place c.insert.new.self)
    c.len.result c.self.invariant c.reserve.ensures.items (c.len.ensures ∙ c.reserve.new.self.ok.0) (λ q. c.in-Ok-insert.ensures.updates.0 q) pushed
