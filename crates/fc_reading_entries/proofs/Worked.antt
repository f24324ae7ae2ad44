-- Rows worked by hand: under whose turns entries are made, and what reading gives.
use Rattle.std.proofs.Common.{◌≡◌, [], ◌∷◌, Some, None, Ok, Err, codes, refl}
use Rattle.fc_base.specs.declared.command.Command.TheVariants as command
use Rattle.fc_base.specs.declared.command.Preset.TheVariants.{Clone}
use Rattle.fc_base.specs.declared.fault.WordFault.TheVariants.{Limit}
use Rattle.fc_base.specs.declared.name.Ref.TheVariants.{Id, Name}
use Rattle.fc_base.specs.declared.request.Place.TheVariants as place
use Rattle.fc_base.specs.declared.request.Reply.TheVariants as reply
use Rattle.fc_base.specs.declared.request.Request.TheVariants as request
use Rattle.fc_base.specs.declared.size.GrainSize.TheVariants.{K64, K256}
use Rattle.fc_reading_notes.specs.Notes.{no_notes}
use Rattle.fc_reading_replies.specs.declared.replies.ReplyLine.TheVariants.{Whole, Rows}
use Rattle.fc_reading_requests.specs.declared.asked.Asked.TheVariants.{Unread, Read, CopyTurn, Command as OfCommand}
use Rattle.fc_reading_entries.specs.Entries.{behind_line, turn_of}
use Rattle.fc_reading_entries.specs.Exchanges.{fault_told, line_at, request_by}

-- block 128 is the first of grain 1, where grains have 128 blocks, and grain 6 is lane 2's
read_in_lane_1 : turn_of K64 (request.Read (record { volume = record { 0 = 0 }; block = 128; count = 1 })) ≡ place.Lane 1
read_in_lane_1 = refl

copy_in_lane_2 : turn_of K256 (request.Copy (record { 0 = 3 }) (record { 0 = 6 })) ≡ place.Lane 2
copy_in_lane_2 = refl

refused_write : turn_of K64 (request.Command (command.Write (Id 0) 128 1 90)) ≡ place.Control
refused_write = refl

refused_preset : turn_of K64 (request.Command (command.Mkpreset (Name (codes "A")) Clone None)) ≡ place.Control
refused_preset = refl

room_in_all_turns : turn_of K64 (request.Command (command.Lsvdiskroom None)) ≡ place.Every
room_in_all_turns = refl

-- which request it was, by the line of its reply
a_fault : request_by Unread (fault_told (Limit 5)) ≡ request.Unread (Limit 5)
a_fault = refl

a_read : request_by (Read (Id 0) 8 1) (Whole reply.DiskFault) ≡ request.Read (record { volume = record { 0 = 0 }; block = 8; count = 1 })
a_read = refl

-- a host names a volume by its id, and a line's block has 32 bits
wants_refusal : line_at (Read (Name (codes "A")) 0 1) (codes "ok\n") ≡ Err 3
wants_refusal = refl

wants_answer : line_at (Read (Id 0) 4294967296 1) (codes "refused no disk\n") ≡ Err 15
wants_answer = refl

-- behind the line: a lane's entry tells its calls, and a report its rows
reads_idle :
    behind_line K64 (CopyTurn 1) (Whole reply.Idle) (codes "+ calls 0 faults 0 0\n.\n1")
    ≡ Ok ((Some (record { calls = 0; faults_before = 0; faults_after = 0 }), (no_notes, (reply.Idle, tt))), codes "1")
reads_idle = refl

wants_calls : behind_line K64 (CopyTurn 1) (Whole reply.Idle) (codes ".\n") ≡ Err 2
wants_calls = refl

reads_report : behind_line K64 (OfCommand (command.Lsvdisk None)) (Rows 1) (codes "id\n.\n") ≡ Ok ((None, (no_notes, (reply.Listed (codes "id" ∷ []), tt))), [])
reads_report = refl
