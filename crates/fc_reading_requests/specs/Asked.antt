-- What was asked, as its text tells it. The text of a host's access and of a refused line of one is the same,
-- and a line with a fault in its words has none: the reply says which it was.
use Rattle.std.specs.Prelude.{◌≡◌, ℕ, ◌<◌, ◌≤◌, List, ◌++◌, codes, decimal}
use Rattle.fc_base.specs.CommandText.{byte_word, command_text, ref_word}
use Rattle.fc_base.specs.declared.command.Command.{Command}
use Rattle.fc_base.specs.declared.command.Command.TheVariants.{Read as ReadLine, Write as WriteLine}
use Rattle.fc_base.specs.declared.name.Ref.{Ref}
use Rattle.fc_base.specs.declared.name.Ref.TheVariants.{Id, Name}
use Rattle.fc_base.specs.declared.request.Request.{Request}
use Rattle.fc_base.specs.declared.request.Request.TheVariants as request
use Rattle.fc_entry.specs.Text.{two_numbers}
use Rattle.fc_words.specs.Canonical.{IsCommand, IsNumber, IsObject}
use Rattle.fc_reading_requests.specs.declared.asked.Asked.{Asked}
use Rattle.fc_reading_requests.specs.declared.asked.Asked.TheVariants.{Unread, Read, Write, Copy, Clean, CopyTurn, CleanTurn, Command as OfCommand}

-- ---- the text

abbrev pub asked_text : Asked → List ℕ
asked_text Unread = codes "-"
asked_text (Read volume block count) = codes "read " ++ ref_word volume ++ codes " " ++ two_numbers block count
asked_text (Write volume block count byte) =
    codes "write " ++ ref_word volume ++ codes " " ++ two_numbers block count ++ codes " " ++ byte_word byte
asked_text (Copy map grain) = codes "copy " ++ two_numbers map.0 grain.0
asked_text (Clean map grain) = codes "clean " ++ two_numbers map.0 grain.0
asked_text (CopyTurn lane) = codes "copyturn " ++ decimal lane
asked_text (CleanTurn lane) = codes "cleanturn " ++ decimal lane
asked_text (OfCommand command) = command_text command

-- the text, and the arrow behind it
abbrev pub asked_line : Asked → List ℕ
asked_line asked = asked_text asked ++ codes " -> "

-- ---- what may be asked

-- the last block: of a volume by its id as a host's access may have it, of one by its name as a line may
abbrev pub last_block : Ref → ℕ
last_block (Id id) = 18446744073709551615
last_block (Name name) = 4294967295

-- a line that reads or writes stands for itself
abbrev pub IsNoAccess : Command → Type 0
IsNoAccess (ReadLine volume block count) = ⊥
IsNoAccess (WriteLine volume block count byte) = ⊥
IsNoAccess command = Unit {0}

-- each part is in its range
abbrev pub IsAsked : Asked → Type 0
IsAsked Unread = Unit {0}
IsAsked (Read volume block count) = IsObject volume × ((block ≤ last_block volume) × IsNumber count)
IsAsked (Write volume block count byte) = IsObject volume × ((block ≤ last_block volume) × (IsNumber count × (byte < 256)))
IsAsked (Copy map grain) = IsNumber map.0 × IsNumber grain.0
IsAsked (Clean map grain) = IsNumber map.0 × IsNumber grain.0
IsAsked (CopyTurn lane) = lane < 256
IsAsked (CleanTurn lane) = lane < 256
IsAsked (OfCommand command) = IsCommand command × IsNoAccess command

-- the text of something that may be asked, and the arrow
abbrev pub IsLine : List ℕ → Type 0
IsLine bytes = (asked : Asked) × IsAsked asked × (bytes ≡ asked_line asked)

-- ---- requests

-- how a request is asked
abbrev pub asked_of : Request → Asked
asked_of (request.Command (ReadLine volume block count)) = Read volume block count
asked_of (request.Command (WriteLine volume block count byte)) = Write volume block count byte
asked_of (request.Command command) = OfCommand command
asked_of (request.Unread fault) = Unread
asked_of (request.Read part) = Read (Id part.volume.0) part.block part.count
asked_of (request.Write part) = Write (Id part.volume.0) part.block part.count part.byte
asked_of (request.Copy map grain) = Copy map grain
asked_of (request.Clean map grain) = Clean map grain
asked_of (request.CopyTurn lane) = CopyTurn lane
asked_of (request.CleanTurn lane) = CleanTurn lane

-- the requests that an entry can hold
abbrev pub IsRequest : Request → Type 0
IsRequest (request.Command command) = IsCommand command
IsRequest (request.Unread fault) = Unit {0}
IsRequest (request.Read part) = IsNumber part.volume.0 × ((part.block ≤ 18446744073709551615) × IsNumber part.count)
IsRequest (request.Write part) =
    IsNumber part.volume.0 × ((part.block ≤ 18446744073709551615) × (IsNumber part.count × (part.byte < 256)))
IsRequest (request.Copy map grain) = IsNumber map.0 × IsNumber grain.0
IsRequest (request.Clean map grain) = IsNumber map.0 × IsNumber grain.0
IsRequest (request.CopyTurn lane) = lane < 256
IsRequest (request.CleanTurn lane) = lane < 256
