-- The line of a preset: what it asks, and how it may end.
use Rattle.std.specs.Prelude.{◌≡◌, ◌≢◌, ℕ, Bool, true, false, List, [], ◌∷◌, Option, All}
use Rattle.fc_base.specs.Tables.{volume_named}
use Rattle.fc_base.specs.declared.command.Command.TheVariants.{Rmvdisk, Rmfcmap}
use Rattle.fc_base.specs.declared.command.Preset.{Preset}
use Rattle.fc_base.specs.declared.name.Ref.{Ref}
use Rattle.fc_base.specs.declared.request.Reply.{Reply}
use Rattle.fc_base.specs.declared.request.Reply.TheVariants.{Done, Made, NoMemory}
use Rattle.fc_base.specs.declared.request.Request.{Request}
use Rattle.fc_base.specs.declared.request.Request.TheVariants.{Command as Asked}
use Rattle.fc_base.specs.declared.size.GrainSize.{GrainSize}
use Rattle.fc_entry.specs.declared.entry.Entry.{Entry}
use Rattle.fc_legal.specs.Agenda.{Agenda, Own}
use Rattle.fc_legal.specs.Presets.{behind_preset, preset_asked}
use Rattle.fc_legal.specs.Whole.{Whole}

-- What it asks first, and behind that, by the volumes that there are as it is read.
abbrev pub preset_line : GrainSize → Whole → Ref → Preset → Option (List ℕ) → Agenda
preset_line grain w source preset name =
    Own (preset_asked grain source preset name (volume_named w.books.tables source))
    (behind_preset source preset name (volume_named w.books.tables source)) []

abbrev pub has_made : Reply → Bool
has_made (Made kind id) = true
has_made reply = false

-- It was whole: a volume and a mapping were made, and the mapping was started.
abbrev pub IsWhole : List Entry → Type 0
IsWhole (first ∷ second ∷ third ∷ []) =
    (has_made first.reply ≡ true) × (has_made second.reply ≡ true) × (third.reply ≡ Done)
IsWhole entries = ⊥

-- Whether a request undoes an earlier one of the line.
abbrev pub undoes : Request → Bool
undoes (Asked (Rmfcmap mapping force)) = true
undoes (Asked (Rmvdisk volume)) = true
undoes request = false

-- None that does wanted memory.
abbrev pub AreUndone : List Entry → Type 0
AreUndone entries = All (λ (e : Entry). undoes e.request ≡ true → e.reply ≢ NoMemory) entries
