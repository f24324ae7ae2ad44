-- The lines that are asked in place of a preset, each by what the one before it was answered.
use Rattle.std.specs.Prelude.{ℕ, ◌*◌, Bool, true, false, List, [], ◌∷◌, Option, Some, None}
use Rattle.fc_base.specs.Grain.{grain_kib}
use Rattle.fc_base.specs.declared.behind.Behind.{Behind}
use Rattle.fc_base.specs.declared.behind.Behind.TheVariants.{Passing, Mapping as MappingOf, Start, Undo}
use Rattle.fc_base.specs.declared.command.Command.{Command}
use Rattle.fc_base.specs.declared.command.Command.TheVariants.{Mkvdisk, Rmvdisk, Mkfcmap, Startfcmap, Rmfcmap, Mkpreset}
use Rattle.fc_base.specs.declared.command.Preset.{Preset}
use Rattle.fc_base.specs.declared.command.Preset.TheVariants.{Snapshot, Clone, Backup}
use Rattle.fc_base.specs.declared.command.Unit.TheVariants.{Kb}
use Rattle.fc_base.specs.declared.name.Ref.{Ref}
use Rattle.fc_base.specs.declared.name.Ref.TheVariants.{Id}
use Rattle.fc_base.specs.declared.request.Reply.{Reply}
use Rattle.fc_base.specs.declared.request.Reply.TheVariants.{Done, Made}
use Rattle.fc_base.specs.declared.request.Request.{Request}
use Rattle.fc_base.specs.declared.request.Request.TheVariants.{Command as Asked}
use Rattle.fc_base.specs.declared.size.GrainSize.{GrainSize}
use Rattle.fc_base.specs.declared.volume.Volume.{Volume}

-- ---- its lines

-- A snapshot is thin.
abbrev pub is_thin : Preset → Bool
is_thin Snapshot = true
is_thin Clone = false
is_thin Backup = false

-- `mkvdisk`: a volume as large as the source, in kb.
abbrev pub volume_line : GrainSize → Preset → Option (List ℕ) → Volume → Command
volume_line grain preset name source = Mkvdisk name (source.grains * grain_kib grain) (Some Kb) (is_thin preset)

-- `mkfcmap`: from the source, as the preset names it, to the new volume. A snapshot isn't copied in the background, a clone's mapping
-- goes when it is complete, and a backup's copies changed grains alone when it is started again.
abbrev pub mapping_line : Ref → Preset → Option (List ℕ) → ℕ → Command
mapping_line source Snapshot name volume = Mkfcmap source (Id volume) name None (Some 0) (Some 0) None false false
mapping_line source Clone name volume = Mkfcmap source (Id volume) name None (Some 50) None None false true
mapping_line source Backup name volume = Mkfcmap source (Id volume) name None (Some 50) None None true false

-- `startfcmap -prep` of the new mapping, and what undoes the two others.
abbrev pub start_line : ℕ → Command
start_line map = Startfcmap (Id map) true false

abbrev pub unmap_line : ℕ → Command
unmap_line map = Rmfcmap (Id map) false

abbrev pub unmake_line : ℕ → Command
unmake_line volume = Rmvdisk (Id volume)

-- ---- what is asked

-- First the volume, and then a mapping to it; or itself, where its source names no volume.
abbrev pub preset_asked : GrainSize → Ref → Preset → Option (List ℕ) → Option Volume → List Request
preset_asked grain source preset name None = Asked (Mkpreset source preset name) ∷ []
preset_asked grain source preset name (Some v) = Asked (volume_line grain preset name v) ∷ []

abbrev pub behind_preset : Ref → Preset → Option (List ℕ) → Option Volume → Behind
behind_preset source preset name None = Passing 0
behind_preset source preset name (Some v) = MappingOf source preset name

-- Behind what was answered: the next line, where an object was made; nothing more, where the start was done; else what undoes those
-- that were made, the last of them first. And what is asked behind that.
abbrev pub asked_behind : Behind → Reply → List Request × Behind
asked_behind (MappingOf source preset name) (Made kind id) = (Asked (mapping_line source preset name id) ∷ [], Start id)
asked_behind (Start volume) (Made kind id) = (Asked (start_line id) ∷ [], Undo id volume)
asked_behind (Start volume) reply = (Asked (unmake_line volume) ∷ [], Passing 0)
asked_behind (Undo map volume) Done = ([], Passing 0)
asked_behind (Undo map volume) reply = (Asked (unmap_line map) ∷ Asked (unmake_line volume) ∷ [], Passing 0)
asked_behind behind reply = ([], Passing 0)
