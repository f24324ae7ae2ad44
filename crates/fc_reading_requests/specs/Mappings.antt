-- The lines that make mappings and groups, each read from the left behind the word that begins it, as far as
-- the arrow.
use Rattle.std.specs.Prelude.{ℕ, suc, ◌-◌, ◌%◌, ◌==◌, if◌then◌else◌, nat_le, nat_lt, List, [], ◌∷◌, Option, Some, None, Result, codes}
use Rattle.fc_base.specs.declared.command.Command.{Command}
use Rattle.fc_base.specs.declared.command.Command.TheVariants as command
use Rattle.fc_base.specs.declared.name.Ref.{Ref}
use Rattle.fc_base.specs.declared.size.GrainSize.{GrainSize}
use Rattle.fc_base.specs.declared.size.GrainSize.TheVariants.{K64, K256}
use Rattle.fc_reading.specs.Readers.{map_read, then_read}
use Rattle.fc_reading_requests.specs.Parts.{arrow, ended_by, name_at, number_32, object_and, object_at, one_from_at, said}
use Rattle.fc_reading_requests.specs.declared.asked.Asked.{Asked}
use Rattle.fc_reading_requests.specs.declared.asked.Asked.TheVariants.{Command as OfCommand}
use Rattle.fc_reading_requests.specs.declared.mappings.Settings.{Settings}

-- ---- new mappings and groups

abbrev pub making_words : List (List ℕ)
making_words = codes "mkfcmap -source " ∷ codes "mkfcconsistgrp -> " ∷ codes "mkfcconsistgrp -name " ∷ []

-- what may stand behind the rates of a new mapping
abbrev pub mapping_ends : List (List ℕ)
mapping_ends =
    codes " -> " ∷ codes " -autodelete -> " ∷ codes " -incremental -> " ∷ codes " -incremental -autodelete -> "
    ∷ codes " -grainsize 64 -> " ∷ codes " -grainsize 64 -autodelete -> " ∷ codes " -grainsize 64 -incremental -> "
    ∷ codes " -grainsize 64 -incremental -autodelete -> " ∷ codes " -grainsize 256 -> "
    ∷ codes " -grainsize 256 -autodelete -> " ∷ codes " -grainsize 256 -incremental -> "
    ∷ codes " -grainsize 256 -incremental -autodelete -> " ∷ []

-- what may stand behind its target
abbrev pub mapping_options : List (List ℕ)
mapping_options = codes " -name " ∷ codes " -consistgrp " ∷ codes " -copyrate " ∷ codes " -cleanrate " ∷ mapping_ends

-- one of these from the first so numbered on, by its number
abbrev pub later_at : ℕ → List ℕ → Result (ℕ × List ℕ) ℕ
later_at = one_from_at mapping_options

-- `next` was read, an option or an end by its number. Where it is this option, its value is read, and what
-- stands behind it, which is a later one.
abbrev pub given_at : {V : Type 0} → ℕ → (List ℕ → Result (V × List ℕ) ℕ) → ℕ → List ℕ → Result ((Option V × ℕ) × List ℕ) ℕ
given_at number read next =
    if next == number then map_read (λ x. (Some x.0, x.1)) (then_read read (λ v. later_at (suc number))) else said (None, next)

abbrev pub Given : Type 0 → Type 0
Given V = Option V × ℕ

-- the options of a new mapping, each with the number of what stands behind it
abbrev pub Options : Type 0
Options = ℕ × (Given (List ℕ) × (Given Ref × (Given ℕ × Given ℕ)))

abbrev pub options_at : List ℕ → Result (Options × List ℕ) ℕ
options_at =
    then_read (later_at 0)
    (λ next. then_read (given_at 0 name_at next) (λ n. then_read (given_at 1 object_at n.1) (λ g. then_read (given_at 2 number_32 g.1) (λ c. given_at 3 number_32 c.1))))

abbrev pub settings_of : Options → Settings
settings_of o =
    record { name = o.1.0.0; group = o.1.1.0.0; copy_rate = o.1.1.1.0.0; clean_rate = o.1.1.1.1.0; end = o.1.1.1.1.1 - 4 }

abbrev pub settings_at : List ℕ → Result (Settings × List ℕ) ℕ
settings_at = map_read settings_of options_at

abbrev pub grain_size_of : ℕ → Option GrainSize
grain_size_of end = if nat_lt end 4 then None else if nat_lt end 8 then Some K64 else Some K256

abbrev pub mapping_command : Ref → Ref → Settings → Command
mapping_command source target s =
    command.Mkfcmap source target s.name s.group s.copy_rate s.clean_rate (grain_size_of s.end) (nat_le 2 (s.end % 4)) (s.end % 2 == 1)

abbrev pub a_mapping : Ref × (Ref × Settings) → Asked
a_mapping x = OfCommand (mapping_command x.0 x.1.0 x.1.1)

abbrev pub behind_making : ℕ → List ℕ → Result (Asked × List ℕ) ℕ
behind_making word =
    if word == 0 then map_read a_mapping (then_read (object_and (codes " -target ")) (λ source. then_read object_at (λ target. settings_at)))
    else if word == 1 then said (OfCommand (command.Mkfcconsistgrp None))
    else map_read (λ name. OfCommand (command.Mkfcconsistgrp (Some name))) (ended_by name_at arrow)
