-- The line of a preset, read from the left behind the word that begins it, as far as the arrow.
use Rattle.std.specs.Prelude.{ℕ, ◌==◌, if◌then◌else◌, List, [], ◌∷◌, Option, Some, None, Result, codes}
use Rattle.fc_base.specs.declared.command.Command.TheVariants as command
use Rattle.fc_base.specs.declared.command.Preset.{Preset}
use Rattle.fc_base.specs.declared.command.Preset.TheVariants.{Snapshot, Clone, Backup}
use Rattle.fc_base.specs.declared.name.Ref.{Ref}
use Rattle.fc_reading.specs.Readers.{map_read, one_of_at, then_read}
use Rattle.fc_reading_requests.specs.Parts.{arrow, ended_by, name_at, object_and, said}
use Rattle.fc_reading_requests.specs.declared.asked.Asked.{Asked}
use Rattle.fc_reading_requests.specs.declared.asked.Asked.TheVariants.{Command as OfCommand}

abbrev pub preset_words : List (List ℕ)
preset_words = codes "mkpreset -source " ∷ []

-- what the copy is for
abbrev pub preset_names : List (List ℕ)
preset_names = codes "snapshot" ∷ codes "clone" ∷ codes "backup" ∷ []

abbrev pub preset_of : ℕ → Preset
preset_of index = if index == 0 then Snapshot else if index == 1 then Clone else Backup

abbrev pub preset_at : List ℕ → Result (Preset × List ℕ) ℕ
preset_at = map_read preset_of (one_of_at preset_names)

-- the name of what is made, where one was given
abbrev pub name_words : List (List ℕ)
name_words = codes " -> " ∷ codes " -name " ∷ []

abbrev pub named_at : ℕ → List ℕ → Result (Option (List ℕ) × List ℕ) ℕ
named_at word = if word == 0 then said None else map_read Some (ended_by name_at arrow)

abbrev pub given_name_at : List ℕ → Result (Option (List ℕ) × List ℕ) ℕ
given_name_at = map_read (λ x. x.1) (then_read (one_of_at name_words) named_at)

abbrev pub a_preset : Ref × (Preset × Option (List ℕ)) → Asked
a_preset x = OfCommand (command.Mkpreset x.0 x.1.0 x.1.1)

abbrev pub behind_preset : List ℕ → Result (Asked × List ℕ) ℕ
behind_preset =
    map_read a_preset (then_read (object_and (codes " -preset ")) (λ source. then_read preset_at (λ preset. given_name_at)))
