-- Kinds of commands.
use Rattle.std.specs.Prelude.{Bool, true, false}
use Rattle.fc_base.specs.declared.command.Command.{Command}
use Rattle.fc_base.specs.declared.command.Command.TheVariants.{Write, Read, Prestartfcmap, Startfcmap, Stopfcmap, Prestartfcconsistgrp, Startfcconsistgrp, Stopfcconsistgrp, Mkpreset}

-- One that prepares or stops mappings.
abbrev pub is_on_mappings : Command → Bool
is_on_mappings (Prestartfcmap m restore) = true
is_on_mappings (Stopfcmap m way) = true
is_on_mappings (Prestartfcconsistgrp group restore) = true
is_on_mappings (Stopfcconsistgrp group way) = true
is_on_mappings command = false

-- One that starts mappings.
abbrev pub is_start : Command → Bool
is_start (Startfcmap m prep restore) = true
is_start (Startfcconsistgrp group prep restore) = true
is_start command = false

-- Any but a line `read`, `write` or `mkpreset`, which are no commands.
abbrev pub is_decided : Command → Bool
is_decided (Write volume block count byte) = false
is_decided (Read volume block count) = false
is_decided (Mkpreset source preset name) = false
is_decided command = true
