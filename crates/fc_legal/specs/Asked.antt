-- What a line asks.
use Rattle.std.specs.Prelude.{ℕ, zero, suc, ◌+◌, ◌-◌, ◌*◌, max, min, List, [], ◌∷◌, map, Option, Some, None, Result, Ok, Err}
use Rattle.fc_base.specs.Grain.{grain_blocks}
use Rattle.fc_base.specs.Tables.{volume_named}
use Rattle.fc_base.specs.declared.command.Command.{Command}
use Rattle.fc_base.specs.declared.command.Command.TheVariants.{Read as ReadLine, Write as WriteLine, Mkpreset}
use Rattle.fc_base.specs.declared.command.Line.{Line}
use Rattle.fc_base.specs.declared.command.Line.TheVariants.{Blank, Command as CommandLine}
use Rattle.fc_base.specs.declared.fault.Refusal.{Refusal}
use Rattle.fc_base.specs.declared.fault.WordFault.{WordFault}
use Rattle.fc_base.specs.declared.fault.WordFault.TheVariants.{UnknownCommand}
use Rattle.fc_base.specs.declared.ids.VolId.{VolId}
use Rattle.fc_base.specs.declared.name.Ref.{Ref}
use Rattle.fc_base.specs.declared.request.Request.{Request}
use Rattle.fc_base.specs.declared.request.Request.TheVariants.{Command as Asked, Unread, Read, Write}
use Rattle.fc_base.specs.declared.size.GrainSize.{GrainSize}
use Rattle.fc_base.specs.declared.volume.Volume.{Volume}
use Rattle.fc_books.specs.Books.{Books}
use Rattle.fc_books.specs.Refused.{access_refused}
use Rattle.fc_entry.specs.Picture.{grain_of_block}
use Rattle.fc_legal.specs.Presets.{preset_asked}

-- So many numbers from one on.
abbrev pub numbers : ℕ → ℕ → List ℕ
numbers from zero = []
numbers from (suc n) = from ∷ numbers (from + 1) n

-- The grains that blocks touch, rising.
abbrev pub touched : GrainSize → ℕ → ℕ → List ℕ
touched grain block count =
    let first = grain_of_block grain block in
    numbers first (grain_of_block grain (block + count - 1) + 1 - first)

-- Of some blocks, those in one grain: the first of them, and the first behind them.
abbrev pub first_in : GrainSize → ℕ → ℕ → ℕ
first_in grain block g = max block (g * grain_blocks grain)

abbrev pub end_in : GrainSize → ℕ → ℕ → ℕ
end_in grain end g = min end ((g + 1) * grain_blocks grain)

abbrev pub read_in : GrainSize → VolId → ℕ → ℕ → ℕ → Request
read_in grain volume block count g =
    let first = first_in grain block g in
    Read record { volume = volume; block = first; count = end_in grain (block + count) g - first }

abbrev pub write_in : GrainSize → VolId → ℕ → ℕ → ℕ → ℕ → Request
write_in grain volume block count byte g =
    let first = first_in grain block g in
    Write record { volume = volume; block = first; count = end_in grain (block + count) g - first; byte = byte }

-- What an access of a volume asks: one request for each grain that it touches, rising; or itself where it is refused.
abbrev pub access_requests : GrainSize → Command → ℕ → ℕ → (VolId → ℕ → Request) → Option Refusal → Option Volume → List Request
access_requests grain command block count request None (Some v) = map (request v.id) (touched grain block count)
access_requests grain command block count request _ _ = Asked command ∷ []

abbrev pub access_asked : GrainSize → Books → Command → Ref → ℕ → ℕ → (VolId → ℕ → Request) → List Request
access_asked grain b command volume block count request =
    access_requests grain command block count request (access_refused grain b volume block count) (volume_named b.tables volume)

-- What a command line asks: an access by its grains; a preset a volume first; any other command itself.
abbrev pub command_asked : GrainSize → Books → Command → List Request
command_asked grain b (ReadLine volume block count) =
    access_asked grain b (ReadLine volume block count) volume block count (λ id. read_in grain id block count)
command_asked grain b (WriteLine volume block count byte) =
    access_asked grain b (WriteLine volume block count byte) volume block count (λ id. write_in grain id block count byte)
command_asked grain b (Mkpreset source preset name) = preset_asked grain source preset name (volume_named b.tables source)
command_asked grain b command = Asked command ∷ []

-- What a line asks, as it was read: nothing of a blank one, and a fault is told.
abbrev pub asked : GrainSize → Books → Result Line WordFault → List Request
asked grain b (Ok Blank) = []
asked grain b (Ok (CommandLine command)) = command_asked grain b command
asked grain b (Ok _) = Unread UnknownCommand ∷ []
asked grain b (Err fault) = Unread fault ∷ []
