-- The control part after a change of the tables.
use Rattle.std.specs.Prelude.{◌+◌}
use Rattle.fc_base.specs.Tables.{after_change}
use Rattle.fc_base.specs.declared.volume.Change.{Change}
use Rattle.fc_base.specs.declared.volume.Change.TheVariants.{AddVolume, AddMapping, AddGroup}
use Rattle.fc_desk.specs.Changes.{reserved_after}
use Rattle.fc_desk.specs.Control.{ControlState}

-- The next id of the kind is the one behind the new object's.
abbrev pub counted : Change → ControlState → ControlState
counted (AddVolume volume) c = record c { next_volume = volume.id.0 + 1 }
counted (AddMapping mapping) c = record c { next_mapping = mapping.id.0 + 1 }
counted (AddGroup group) c = record c { next_group = group.id.0 + 1 }
counted change c = c

abbrev pub changed : ControlState → Change → ControlState
changed c change =
    counted change (record c { tables = after_change c.tables change; reserved = reserved_after c.reserved change })
