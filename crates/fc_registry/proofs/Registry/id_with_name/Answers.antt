use Rattle.std.proofs.Common.{option_map, ap, ◌∙◌}
use Rattle.fc_base.specs.declared.volume.Volume.{Volume}
use Rattle.fc_base.specs.declared.volume.Mapping.{Mapping}
use Rattle.fc_base.specs.declared.volume.Group.{Group}
use Rattle.fc_registry.proofs.Registry.id_with_name.Goals as goal

pub returns-in-Vdisk : goal.returns-in-Vdisk
returns-in-Vdisk c = rw (c.in-Vdisk.is, ← c.self.view_is) (c.id_of.ensures ∙ ap (option_map (λ (x : Volume). x.id.0)) c.with_name.ensures)

pub returns-in-Fcmap : goal.returns-in-Fcmap
returns-in-Fcmap c = rw (c.in-Fcmap.is, ← c.self.view_is) (c.id_of-in-Fcmap.ensures ∙ ap (option_map (λ (x : Mapping). x.id.0)) c.with_name-in-Fcmap.ensures)

pub returns-in-Group : goal.returns-in-Group
returns-in-Group c = rw (c.in-Group.is, ← c.self.view_is) (c.id_of-in-Group.ensures ∙ ap (option_map (λ (x : Group). x.id.0)) c.with_name-in-Group.ensures)
