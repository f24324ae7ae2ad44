-- Rows worked by hand: what reading gives.
use Rattle.std.proofs.Common.{◌≡◌, false, true, [], Some, None, Ok, Err, codes, refl}
use Rattle.fc_base.specs.declared.command.Command.TheVariants as command
use Rattle.fc_base.specs.declared.command.Preset.TheVariants.{Snapshot, Clone}
use Rattle.fc_base.specs.declared.name.Ref.TheVariants.{Id, Name}
use Rattle.fc_base.specs.declared.size.GrainSize.TheVariants.{K256}
use Rattle.fc_reading_requests.specs.Requests.{asked_at}
use Rattle.fc_reading_requests.specs.declared.asked.Asked.{Asked}
use Rattle.fc_reading_requests.specs.declared.asked.Asked.TheVariants.{Read, Write, Command as OfCommand}

reads_access : asked_at (codes "read 0 8 1 -> ok") ≡ Ok (Read (Id 0) 8 1, codes "ok")
reads_access = refl

reads_write : asked_at (codes "write vol 0 2 5a -> ") ≡ Ok (Write (Name (codes "vol")) 0 2 90, [])
reads_write = refl

reads_start : asked_at (codes "startfcmap -prep -restore 3 -> ") ≡ Ok (OfCommand (command.Startfcmap (Id 3) true true), [])
reads_start = refl

reads_list : asked_at (codes "lsfcmap -delim : -> ") ≡ Ok (OfCommand (command.Lsfcmap None (Some 58)), [])
reads_list = refl

-- the options of a new mapping, one left out
abbrev a_mapping : Asked
a_mapping = OfCommand (command.Mkfcmap (Name (codes "a")) (Id 1) (Some (codes "m")) None (Some 0) None (Some K256) true false)

reads_mapping : asked_at (codes "mkfcmap -source a -target 1 -name m -copyrate 0 -grainsize 256 -incremental -> ") ≡ Ok (a_mapping, [])
reads_mapping = refl

reads_preset : asked_at (codes "mkpreset -source A -preset snapshot -name s1 -> ok") ≡ Ok (OfCommand (command.Mkpreset (Name (codes "A")) Snapshot (Some (codes "s1"))), codes "ok")
reads_preset = refl

reads_nameless : asked_at (codes "mkpreset -source 7 -preset clone -> ") ≡ Ok (OfCommand (command.Mkpreset (Id 7) Clone None), [])
reads_nameless = refl

reads_room : asked_at (codes "lsvdiskroom -> rows") ≡ Ok (OfCommand (command.Lsvdiskroom None), codes "rows")
reads_room = refl

reads_delimited_room : asked_at (codes "lsvdiskroom -delim , -> ") ≡ Ok (OfCommand (command.Lsvdiskroom (Some 44)), [])
reads_delimited_room = refl

-- no byte of a name goes on behind an id, and no option stands before one that it follows
id_ends : asked_at (codes "read 0a") ≡ Err 1
id_ends = refl

option_order : asked_at (codes "mkfcmap -source a -target b -cleanrate 5 -copyrate 5") ≡ Err 10
option_order = refl

-- of the presets, `clone` goes furthest
no_preset : asked_at (codes "mkpreset -source A -preset copy -> ") ≡ Err 7
no_preset = refl
