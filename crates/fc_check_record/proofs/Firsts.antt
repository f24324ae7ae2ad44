-- What is kept before the first entry.
use Rattle.std.proofs.Common.{ℕ, [], None, replicate}
use Rattle.fc_base.specs.Sheet.{no_slots}
use Rattle.fc_base.specs.Tables.{no_tables}
use Rattle.fc_base.specs.declared.size.GrainSize.{GrainSize}
use Rattle.fc_check_lane.specs.Known.{Known}
use Rattle.fc_desk.specs.Control.{ControlState}

abbrev pub control_first : GrainSize → ControlState
control_first grain = record { grain = grain; tables = no_tables; next_volume = 0; next_mapping = 0; next_group = 1; flags = []; reserved = None; room = 0 }

abbrev pub known_first : GrainSize → ℕ → Known
known_first grain lanes =
    record { grain = grain; volumes = []; sizes = []; flags = []; sheet = no_slots; picture = []; faults = replicate lanes 0; entries = 0 }
