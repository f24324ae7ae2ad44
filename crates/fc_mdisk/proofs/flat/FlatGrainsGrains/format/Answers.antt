use Rattle.std.proofs.Common.{◌≡◌, ℕ, ◌*◌, List, replicate, ap, ◌∙◌}
use Rattle.fc_mdisk.specs.Cut.{cut}
use Rattle.fc_mdisk.proofs.FlatState.{formatted_state}
use Rattle.fc_mdisk.proofs.Cuts.{cut-zeros}
use Rattle.fc_mdisk.proofs.flat.FlatGrainsGrains.format.Goals as goal

pub returns-in-Ok-clause-ok : goal.returns-in-Ok-clause-ok
returns-in-Ok-clause-ok c =
    let zeros : c.in-Ok.buffer.items ≡ replicate (c.args.count * c.args.width) 0 = c.in-Ok.ensures.items_if_clones_equal (λ y same. same) in
    formatted_state _ c.args.count c.args.width (ap (λ (bytes : List ℕ). cut c.args.count c.args.width bytes) zeros ∙ cut-zeros c.args.count c.args.width)
