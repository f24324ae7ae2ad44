-- A trigger, in two steps: first all sources are copied, then the targets change.
use Rattle.std.specs.Prelude.{Option, Some, None, List, option_map}
use Rattle.fc_base.specs.declared.ids.VolId.{VolId}
use Rattle.fc_base.specs.declared.request.Pair.{Pair}
use Rattle.fc_entry.specs.Picture.{Content, PlainVolume, Picture}
use Rattle.fc_entry.specs.PlainStep.{now_in, source_in}

-- What a target gets; None where the volume is no target.
abbrev pub copied_for : Picture → List Pair → VolId → Option (List Content)
copied_for picture pairs target = option_map (now_in picture) (source_in pairs target)

-- A volume over which this is put, where there is something.
abbrev pub started : Option (List Content) → PlainVolume → PlainVolume
started None v = v
started (Some now) v = record v { now = now; under = v.now }
