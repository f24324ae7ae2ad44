use Rattle.std.proofs.Common.{ap, ◌∙◌}
use Rattle.fc_base.specs.Grain.{grain_bytes}
use Rattle.fc_grains.specs.Grains.{GrainsState}
use Rattle.fc_grains.specs.Volumes.{stored}
use Rattle.fc_grains.proofs.Whole.{stored_whole}
use Rattle.fc_grains.proofs.grains.Grains.bytes.Goals as goal

pub returns-clause-whole : goal.returns-clause-whole
returns-clause-whole g c volume place bytes e =
    stored_whole _ c.self.inside.volumes.items volume place bytes c.self.invariant.whole (ap (λ (s : GrainsState). stored s.volumes volume place) c.self.view_is ∙ e)
    ∙ ap (λ (s : GrainsState). grain_bytes s.grain) c.self.view_is
