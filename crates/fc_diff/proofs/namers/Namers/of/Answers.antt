use Rattle.std.proofs.Common.{sym, ◌∙◌}
use Rattle.fc_diff.proofs.Naming.{of_here, of_missed}
use Rattle.fc_diff.proofs.namers.Namers.of.Goals as goal

pub returns-in-Some : goal.returns-in-Some
returns-in-Some c =
    c.as_slice.ensures.value
    ∙ of_here c.self.inside.volumes.keys c.self.inside.lists.items c.args.self.now c.self.view_is c.self.invariant c.args.volume c.in-Some.place
    (sym c.get_index_of.ensures.index ∙ c.in-Some.is) c.index.result.now c.index.ensures

pub returns-in-None : goal.returns-in-None
returns-in-None c =
    of_missed c.self.inside.volumes.keys c.self.inside.lists.items c.args.self.now c.self.view_is c.self.invariant c.args.volume (sym c.get_index_of.ensures.index ∙ c.in-None.is)
