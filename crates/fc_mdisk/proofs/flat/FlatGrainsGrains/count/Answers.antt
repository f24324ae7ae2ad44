use Rattle.std.proofs.Common.{length, ap, sym, ◌∙◌, List, ℕ}
use Rattle.fc_mdisk.proofs.Cuts.{length-cut}
use Rattle.fc_mdisk.proofs.flat.FlatGrainsGrains.count.Goals as goal

pub returns : goal.returns
returns c = sym (length-cut c.self.inside.count c.self.inside.width c.self.inside.buffer.items) ∙ ap (length {A = List ℕ}) c.self.view_is
