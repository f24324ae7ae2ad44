-- The request that was asked, by its reply.
use Rattle.std.specs.Prelude.{◌≡◌, ℕ, Bool, true, false, if◌then◌else◌, nat_le, Option, Some, None}
use Rattle.fc_base.specs.declared.command.Command.TheVariants.{Read as ReadLine, Write as WriteLine}
use Rattle.fc_base.specs.declared.fault.Refusal.TheVariants.{Words}
use Rattle.fc_base.specs.declared.name.Ref.{Ref}
use Rattle.fc_base.specs.declared.name.Ref.TheVariants.{Id, Name}
use Rattle.fc_base.specs.declared.request.Reply.{Reply}
use Rattle.fc_base.specs.declared.request.Reply.TheVariants.{Refused}
use Rattle.fc_base.specs.declared.request.Request.{Request}
use Rattle.fc_base.specs.declared.request.Request.TheVariants as request
use Rattle.fc_reading_requests.specs.declared.asked.Asked.{Asked}
use Rattle.fc_reading_requests.specs.declared.asked.Asked.TheVariants.{Unread, Read, Write, Copy, Clean, CopyTurn, CleanTurn, Command as OfCommand}

abbrev pub is_refused : Reply → Bool
is_refused (Refused refusal) = true
is_refused reply = false

-- the line with the fault of this reply
abbrev pub unread_of : Reply → Option Request
unread_of (Refused (Words fault)) = Some (request.Unread fault)
unread_of reply = None

-- a refused access is a line, and another one a host's
abbrev pub read_of : Bool → Ref → ℕ → ℕ → Option Request
read_of true volume block count = if nat_le block 4294967295 then Some (request.Command (ReadLine volume block count)) else None
read_of false (Id id) block count = Some (request.Read record { volume = record { 0 = id }; block = block; count = count })
read_of false (Name name) block count = None

abbrev pub write_of : Bool → Ref → ℕ → ℕ → ℕ → Option Request
write_of true volume block count byte =
    if nat_le block 4294967295 then Some (request.Command (WriteLine volume block count byte)) else None
write_of false (Id id) block count byte =
    Some (request.Write record { volume = record { 0 = id }; block = block; count = count; byte = byte })
write_of false (Name name) block count byte = None

-- the request that is asked so and answered so
abbrev pub request_of : Asked → Reply → Option Request
request_of Unread reply = unread_of reply
request_of (Read volume block count) reply = read_of (is_refused reply) volume block count
request_of (Write volume block count byte) reply = write_of (is_refused reply) volume block count byte
request_of (Copy map grain) reply = Some (request.Copy map grain)
request_of (Clean map grain) reply = Some (request.Clean map grain)
request_of (CopyTurn lane) reply = Some (request.CopyTurn lane)
request_of (CleanTurn lane) reply = Some (request.CleanTurn lane)
request_of (OfCommand command) reply = Some (request.Command command)

-- a reply that such a request may have: of accesses the refused ones are lines, and a line with faulty words is
-- told its fault
abbrev pub MayAnswer : Request → Reply → Type 0
MayAnswer (request.Command (ReadLine volume block count)) reply = is_refused reply ≡ true
MayAnswer (request.Command (WriteLine volume block count byte)) reply = is_refused reply ≡ true
MayAnswer (request.Unread fault) reply = reply ≡ Refused (Words fault)
MayAnswer (request.Read part) reply = is_refused reply ≡ false
MayAnswer (request.Write part) reply = is_refused reply ≡ false
MayAnswer asked reply = Unit {0}
