-- The lines of requests, each read from the left behind the word that begins it, as far as the arrow.
use Rattle.std.specs.Prelude.{ℕ, ◌%◌, ◌==◌, if◌then◌else◌, nat_lt, List, [], ◌∷◌, Option, Some, None, Result, codes}
use Rattle.fc_base.specs.declared.command.Command.TheVariants as command
use Rattle.fc_base.specs.declared.command.Unit.{Unit as SizeUnit}
use Rattle.fc_base.specs.declared.command.Unit.TheVariants.{Kb, Mb, Gb}
use Rattle.fc_base.specs.declared.name.Ref.{Ref}
use Rattle.fc_reading.specs.Readers.{field_at, map_read, then_read}
use Rattle.fc_reading_notes.specs.Lines.{ending_at, id_at}
use Rattle.fc_reading_requests.specs.Asked.{last_block}
use Rattle.fc_reading_requests.specs.Parts.{arrow, byte_at, ended_by, name_at, object_and, said}
use Rattle.fc_reading_requests.specs.declared.asked.Asked.{Asked}
use Rattle.fc_reading_requests.specs.declared.asked.Asked.TheVariants.{Unread, Read, Write, Copy, Clean, CopyTurn, CleanTurn, Command as OfCommand}

-- two numbers, and the arrow
abbrev pub two_at : List ℕ → Result ((ℕ × ℕ) × List ℕ) ℕ
two_at = then_read (id_at (codes " ")) (λ a. id_at arrow)

-- ---- accesses, copies and cleanings, and turns of workers

abbrev pub access_words : List (List ℕ)
access_words =
    codes "- -> " ∷ codes "read " ∷ codes "write " ∷ codes "copy " ∷ codes "clean " ∷ codes "copyturn " ∷ codes "cleanturn " ∷ []

-- the volume and the first block of an access, and what is behind them
abbrev pub access_at : {V : Type 0} → (List ℕ → Result (V × List ℕ) ℕ) → List ℕ → Result ((Ref × (ℕ × V)) × List ℕ) ℕ
access_at behind =
    then_read (object_and (codes " ")) (λ volume. then_read (field_at (last_block volume) (codes " ")) (λ block. behind))

abbrev pub count_and_byte : List ℕ → Result ((ℕ × ℕ) × List ℕ) ℕ
count_and_byte = then_read (id_at (codes " ")) (λ count. ended_by byte_at arrow)

abbrev pub lane_at : List ℕ → Result (ℕ × List ℕ) ℕ
lane_at = field_at 255 arrow

abbrev pub a_read : Ref × (ℕ × ℕ) → Asked
a_read x = Read x.0 x.1.0 x.1.1

abbrev pub a_write : Ref × (ℕ × (ℕ × ℕ)) → Asked
a_write x = Write x.0 x.1.0 x.1.1.0 x.1.1.1

abbrev pub a_copy : ℕ × ℕ → Asked
a_copy x = Copy (record { 0 = x.0 }) (record { 0 = x.1 })

abbrev pub a_clean : ℕ × ℕ → Asked
a_clean x = Clean (record { 0 = x.0 }) (record { 0 = x.1 })

abbrev pub behind_access : ℕ → List ℕ → Result (Asked × List ℕ) ℕ
behind_access word =
    if word == 0 then said Unread
    else if word == 1 then map_read a_read (access_at (id_at arrow))
    else if word == 2 then map_read a_write (access_at count_and_byte)
    else if word == 3 then map_read a_copy two_at
    else if word == 4 then map_read a_clean two_at
    else if word == 5 then map_read CopyTurn lane_at
    else map_read CleanTurn lane_at

-- ---- volumes, faults of disks, time

abbrev pub volume_words : List (List ℕ)
volume_words =
    codes "mkvdisk -name " ∷ codes "mkvdisk -size " ∷ codes "rmvdisk " ∷ codes "armfault " ∷ codes "advance -seconds " ∷ []

-- what may stand behind the size of a new volume
abbrev pub size_ends : List (List ℕ)
size_ends =
    codes " -> " ∷ codes " -thin -> " ∷ codes " -unit kb -> " ∷ codes " -unit kb -thin -> " ∷ codes " -unit mb -> "
    ∷ codes " -unit mb -thin -> " ∷ codes " -unit gb -> " ∷ codes " -unit gb -thin -> " ∷ []

abbrev pub unit_of : ℕ → Option SizeUnit
unit_of end = if nat_lt end 2 then None else if nat_lt end 4 then Some Kb else if nat_lt end 6 then Some Mb else Some Gb

abbrev pub sized : Option (List ℕ) → ℕ × ℕ → Asked
sized name x = OfCommand (command.Mkvdisk name x.0 (unit_of x.1) (x.1 % 2 == 1))

abbrev pub size_at : List ℕ → Result ((ℕ × ℕ) × List ℕ) ℕ
size_at = ending_at size_ends

abbrev pub an_armfault : Ref × (ℕ × ℕ) → Asked
an_armfault x = OfCommand (command.Armfault x.0 x.1.0 x.1.1)

abbrev pub behind_volume : ℕ → List ℕ → Result (Asked × List ℕ) ℕ
behind_volume word =
    if word == 0 then map_read (λ x. sized (Some x.0) x.1) (then_read (ended_by name_at (codes " -size ")) (λ name. size_at))
    else if word == 1 then map_read (sized None) size_at
    else if word == 2 then map_read (λ volume. OfCommand (command.Rmvdisk volume)) (object_and arrow)
    else if word == 3 then map_read an_armfault (then_read (object_and (codes " ")) (λ volume. two_at))
    else map_read (λ seconds. OfCommand (command.Advance seconds)) (id_at arrow)
