-- The lines of reports, each read from the left behind the word that begins it, as far as the arrow.
use Rattle.std.specs.Prelude.{ℕ, ◌==◌, if◌then◌else◌, List, [], ◌∷◌, Option, Some, None, Result, codes}
use Rattle.fc_base.specs.declared.command.Command.{Command}
use Rattle.fc_base.specs.declared.command.Command.TheVariants as command
use Rattle.fc_base.specs.declared.name.Ref.{Ref}
use Rattle.fc_reading.specs.Readers.{map_read, one_of_at, the_word, then_read}
use Rattle.fc_reading_requests.specs.Parts.{arrow, delim_at, ended_by, object_and, or_object, said}
use Rattle.fc_reading_requests.specs.declared.asked.Asked.{Asked}
use Rattle.fc_reading_requests.specs.declared.asked.Asked.TheVariants.{Command as OfCommand}

abbrev pub report_words : List (List ℕ)
report_words =
    codes "lsfcmap " ∷ codes "lsfcconsistgrp " ∷ codes "lsvdisk -> " ∷ codes "lsvdisk -delim " ∷ codes "lsfcmapprogress "
    ∷ codes "lsfcmapdependentmaps " ∷ []

-- a report on an object: its delimiter, where one was given
abbrev pub delim_and_object : List ℕ → Result ((ℕ × Ref) × List ℕ) ℕ
delim_and_object = then_read (ended_by delim_at (codes " ")) (λ delim. object_and arrow)

abbrev pub report_at : List ℕ → Result ((Option ℕ × Ref) × List ℕ) ℕ
report_at =
    or_object (λ object. (None, object))
    (map_read (λ x. (Some x.1.0, x.1.1)) (then_read (the_word (codes "-delim ")) (λ u. delim_and_object)))

-- an object, where one was named
abbrev pub maybe_object_at : List ℕ → Result (Option Ref × List ℕ) ℕ
maybe_object_at = or_object Some (map_read (λ u. None) (the_word (codes "-> ")))

-- a list, or a report on an object where one was named
abbrev pub dash_words : List (List ℕ)
dash_words = codes "-> " ∷ codes "-delim " ∷ []

abbrev pub behind_dash : ℕ → List ℕ → Result ((Option ℕ × Option Ref) × List ℕ) ℕ
behind_dash word =
    if word == 0 then said (None, None)
    else map_read (λ x. (Some x.0, x.1)) (then_read (ended_by delim_at (codes " ")) (λ delim. maybe_object_at))

abbrev pub list_at : List ℕ → Result ((Option ℕ × Option Ref) × List ℕ) ℕ
list_at = or_object (λ object. (None, Some object)) (map_read (λ x. x.1) (then_read (one_of_at dash_words) behind_dash))

abbrev pub listed : (Option Ref → Option ℕ → Command) → Option ℕ × Option Ref → Asked
listed make x = OfCommand (make x.1 x.0)

abbrev pub reported : (Ref → Option ℕ → Command) → Option ℕ × Ref → Asked
reported make x = OfCommand (make x.1 x.0)

abbrev pub behind_report : ℕ → List ℕ → Result (Asked × List ℕ) ℕ
behind_report word =
    if word == 0 then map_read (listed command.Lsfcmap) list_at
    else if word == 1 then map_read (listed command.Lsfcconsistgrp) list_at
    else if word == 2 then said (OfCommand (command.Lsvdisk None))
    else if word == 3 then map_read (λ delim. OfCommand (command.Lsvdisk (Some delim))) (ended_by delim_at arrow)
    else if word == 4 then map_read (reported command.Lsfcmapprogress) report_at
    else map_read (reported command.Lsfcmapdependentmaps) report_at

-- the room that volumes take
abbrev pub room_words : List (List ℕ)
room_words = codes "lsvdiskroom -> " ∷ codes "lsvdiskroom -delim " ∷ []

abbrev pub behind_room : ℕ → List ℕ → Result (Asked × List ℕ) ℕ
behind_room word =
    if word == 0 then said (OfCommand (command.Lsvdiskroom None))
    else map_read (λ delim. OfCommand (command.Lsvdiskroom (Some delim))) (ended_by delim_at arrow)
