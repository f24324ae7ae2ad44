use Rattle.std.proofs.Common.{◌++◌, ◌∙◌, List, ap}
use Rattle.std.proofs.lemmas.List.{map-append, append_assoc}
use Rattle.fc_grains.specs.Parts.{disks_in}
use Rattle.fc_grains.proofs.queues.Queues.give_disks.Goals as goal

pub returns-clause-given : goal.returns-clause-given
returns-clause-given g c = (
  c.self.inside.flat.items ++ c.self.inside.thin.items,
  c.append_queue-2.ensures.items
      ∙ ap (λ (xs : List g.row.D.Denot). xs ++ c.self.inside.thin.items) c.append_queue.ensures.items
      ∙ append_assoc c.args.into.now.items c.self.inside.flat.items c.self.inside.thin.items,
  map-append g.D.Mdisk.meaning c.self.inside.flat.items c.self.inside.thin.items ∙ ap disks_in c.self.view_is,
)
