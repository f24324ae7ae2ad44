use Rattle.std.proofs.Common.{◌∙◌, ap, not, ◌==◌, rules}
use Rattle.std.specs.List.{filter}
use Rattle.std.proofs.lemmas.Fn.{filter_same}
use Rattle.fc_base.specs.Room.{Room}
use Rattle.fc_check_rooms.proofs.rooms.Rooms.remove.Goals as goal

pub returns : goal.returns
returns c = filter_same _ _ _ (λ x b f' k. search rules) _ _ c.retain.ensures.filtered ∙ ap (filter (λ (r : Room). not (r.volume.0 == c.args.volume.0))) c.self.view_is
