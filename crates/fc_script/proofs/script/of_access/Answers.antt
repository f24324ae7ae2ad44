-- The grains that are left are those that its blocks touch.
use Rattle.fc_script.proofs.Begun.{parts_fit}
use Rattle.fc_script.proofs.script.of_access.Goals as goal

pub returns-in-Ok-clause-fits : goal.returns-in-Ok-clause-fits
returns-in-Ok-clause-fits g c =
    let taken = c.in-Ok.ensures.taken in
    parts_fit c.args.store.now c.args.access c.args.volume c.args.block c.args.count taken.0 c.in-Ok.volume c.grain.result c.touched_grains-next.result.0 c.touched_grains-next.result.1
    taken.1 taken.2 taken.3 c.grain.ensures c.touched_grains-next.ensures.first c.touched_grains-next.ensures.last c.requires.stands
