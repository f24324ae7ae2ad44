-- How the history is printed. An entry is one line, and a report's rows stand behind it, a line each:
--     NUMBER ACTOR REQUEST -> REPLY
-- Numbers are decimal, without leading zeros. Volumes, mappings and groups are named by their ids.
use Rattle.std.specs.Prelude.{ℕ, ◌<◌, List, [], ◌++◌, map, length, codes, decimal, slice_index_or, All}
use Rattle.std.specs.List.{flat_map, join_with_byte}
use Rattle.fc_base.specs.CommandText.{command_text, byte_word}
use Rattle.fc_base.specs.Grain.{grain_kib}
use Rattle.fc_base.specs.declared.fault.Kind.{Kind}
use Rattle.fc_base.specs.declared.fault.Kind.TheVariants.{Vdisk, Fcmap, Group}
use Rattle.fc_base.specs.declared.fault.RequiredOption.{RequiredOption}
use Rattle.fc_base.specs.declared.fault.RequiredOption.TheVariants as required
use Rattle.fc_base.specs.declared.fault.WordFault.{WordFault}
use Rattle.fc_base.specs.declared.fault.WordFault.TheVariants as fault
use Rattle.fc_base.specs.declared.fault.ValueOf.{ValueOf}
use Rattle.fc_base.specs.declared.fault.ValueOf.TheVariants as value
use Rattle.fc_base.specs.declared.fault.Refusal.{Refusal}
use Rattle.fc_base.specs.declared.fault.Refusal.TheVariants as refusal
use Rattle.fc_base.specs.declared.state.MapState.{MapState}
use Rattle.fc_base.specs.declared.state.MapState.TheVariants as state
use Rattle.fc_base.specs.declared.ids.VolId.{VolId}
use Rattle.fc_base.specs.declared.runs.Run.{Run}
use Rattle.fc_base.specs.declared.request.Request.{Request}
use Rattle.fc_base.specs.declared.request.Request.TheVariants as request
use Rattle.fc_base.specs.declared.request.Reply.{Reply}
use Rattle.fc_base.specs.declared.request.Reply.TheVariants as reply
use Rattle.fc_entry.specs.declared.entry.Entry.{Entry}
use Rattle.fc_entry.specs.HistoryState.{HistoryState}

-- a kind of object, as a refusal names it
abbrev pub kind_text : Kind → List ℕ
kind_text Vdisk = codes "vdisk"
kind_text Fcmap = codes "fcmap"
kind_text Group = codes "group"

-- the state of a mapping or a group
abbrev pub state_text : MapState → List ℕ
state_text state.Empty = codes "empty"
state_text state.IdleOrCopied = codes "idle_or_copied"
state_text state.Preparing = codes "preparing"
state_text state.Prepared = codes "prepared"
state_text state.Copying = codes "copying"
state_text state.Stopping = codes "stopping"
state_text state.Stopped = codes "stopped"

-- an option that its line can't do without
abbrev pub option_text : RequiredOption → List ℕ
option_text required.Size = codes "-size"
option_text required.Seconds = codes "-seconds"
option_text required.Source = codes "-source"
option_text required.Target = codes "-target"
option_text required.Preset = codes "-preset"

-- a value that may be out of its range
abbrev pub value_text : ValueOf → List ℕ
value_text value.Size = codes "size"
value_text value.CopyRate = codes "copyrate"
value_text value.CleanRate = codes "cleanrate"
value_text value.Seconds = codes "seconds"
value_text value.Blocks = codes "blocks"
value_text value.Grain = codes "grain"

-- what is wrong with the words of a line; words count from 1
abbrev pub fault_text : WordFault → List ℕ
fault_text fault.UnknownCommand = codes "unknown command"
fault_text (fault.UnknownOption word) = codes "unknown option at word " ++ decimal word
fault_text (fault.MissingOption option) = codes "missing option " ++ option_text option
fault_text (fault.MissingWord word) = codes "missing word " ++ decimal word
fault_text (fault.RepeatedOption word) = codes "option repeated at word " ++ decimal word
fault_text (fault.BadNumber word) = codes "bad number at word " ++ decimal word
fault_text (fault.BadName word) = codes "bad name at word " ++ decimal word
fault_text fault.LongLine = codes "long line"
fault_text fault.NoActor = codes "no actor"
fault_text fault.NotInBlock = codes "not in a block"
fault_text (fault.Limit n) = codes "limit " ++ decimal n

-- two numbers
abbrev pub two_numbers : ℕ → ℕ → List ℕ
two_numbers a b = decimal a ++ codes " " ++ decimal b

-- a volume of a loop, behind the one before it
abbrev pub volume_text : VolId → List ℕ
volume_text volume = codes " " ++ decimal volume.0

-- why a command was refused
abbrev pub refusal_text : Refusal → List ℕ
refusal_text (refusal.Words words) = fault_text words
refusal_text (refusal.NoSuch kind) = codes "no such " ++ kind_text kind
refusal_text (refusal.NameTaken id) = codes "name taken " ++ decimal id
refusal_text (refusal.Limit n) = codes "limit " ++ decimal n
refusal_text refusal.NoDisk = codes "no disk"
refusal_text (refusal.BadValue option) = codes "bad value of " ++ value_text option
refusal_text (refusal.InUse volume) = codes "in use " ++ decimal volume.0
refusal_text refusal.NotPrepared = codes "not prepared"
refusal_text (refusal.NotAllowed state) = codes "not allowed in " ++ state_text state
refusal_text (refusal.InGroup group) = codes "in group " ++ decimal group.0
refusal_text refusal.Empty = codes "empty group"
refusal_text (refusal.TargetTwice volume) = codes "target twice " ++ decimal volume.0
refusal_text (refusal.SourceIsTarget volume) = codes "source is target " ++ decimal volume.0
refusal_text (refusal.SourceNotReady volume) = codes "source not ready " ++ decimal volume.0
refusal_text (refusal.TargetActive map) = codes "target active " ++ decimal map.0
refusal_text (refusal.TargetIsSource volume) = codes "target is source " ++ decimal volume.0
refusal_text (refusal.RestoreLoop volumes) = codes "restore loop" ++ flat_map volume_text volumes
refusal_text (refusal.NotComplete held total) = codes "not complete " ++ two_numbers held total
refusal_text refusal.NeedsForce = codes "needs force"
refusal_text (refusal.SizeDiffers source target) = codes "size differs " ++ two_numbers source target
refusal_text (refusal.GrainDiffers asked run) = codes "grain differs " ++ two_numbers (grain_kib asked) (grain_kib run)
refusal_text refusal.SameVolume = codes "same volume"
refusal_text (refusal.PairTaken map) = codes "pair taken " ++ decimal map.0

-- an object that was made
abbrev pub made_text : Kind → List ℕ
made_text Vdisk = codes "Virtual Disk"
made_text Fcmap = codes "FlashCopy Mapping"
made_text Group = codes "FlashCopy Consistency Group"

-- so many bytes of one value
abbrev pub run_text : Run → List ℕ
run_text run = decimal run.count ++ codes "*" ++ byte_word run.byte

-- what was answered
abbrev pub reply_text : Reply → List ℕ
reply_text reply.Done = codes "ok"
reply_text (reply.Made kind id) = made_text kind ++ codes ", id [" ++ decimal id ++ codes "], successfully created"
reply_text (reply.Bytes runs) = codes "data " ++ join_with_byte 44 (map run_text runs)
reply_text (reply.Listed rows) = codes "rows " ++ decimal (length rows)
reply_text (reply.Moved map grain) = codes "moved " ++ two_numbers map.0 grain.0
reply_text reply.Idle = codes "idle"
reply_text (reply.Offline map state) = codes "offline " ++ decimal map.0 ++ codes " " ++ state_text state
reply_text (reply.NotAccessible map) = codes "not accessible " ++ decimal map.0
reply_text reply.DiskFault = codes "disk fault"
reply_text reply.MediumError = codes "medium error"
reply_text reply.NoMemory = codes "no memory"
reply_text (reply.Refused refusal) = codes "refused " ++ refusal_text refusal

-- the rows of a report, a line each
abbrev pub rows_text : Reply → List ℕ
rows_text (reply.Listed rows) = flat_map (λ row. row ++ codes "\n") rows
rows_text _ = []

-- what was asked
abbrev pub request_text : Request → List ℕ
request_text (request.Command command) = command_text command
request_text (request.Unread fault) = codes "-"
request_text (request.Read part) = codes "read " ++ decimal part.volume.0 ++ codes " " ++ two_numbers part.block part.count
request_text (request.Write part) =
    codes "write " ++ decimal part.volume.0 ++ codes " " ++ two_numbers part.block part.count ++ codes " "
    ++ byte_word part.byte
request_text (request.Copy map grain) = codes "copy " ++ two_numbers map.0 grain.0
request_text (request.Clean map grain) = codes "clean " ++ two_numbers map.0 grain.0
request_text (request.CopyTurn lane) = codes "copyturn " ++ decimal lane
request_text (request.CleanTurn lane) = codes "cleanturn " ++ decimal lane

-- the line of an entry of the actor with this name
abbrev pub line_text : List ℕ → Entry → List ℕ
line_text actor entry =
    decimal entry.number ++ codes " " ++ actor ++ codes " " ++ request_text entry.request ++ codes " -> "
    ++ reply_text entry.reply ++ codes "\n"

-- the same, where these are the names of actors
abbrev pub entry_line : List (List ℕ) → Entry → List ℕ
entry_line actors entry = line_text (slice_index_or actors entry.actor []) entry

-- an entry of the actor with this name: its line, and behind it the rows of its report
abbrev pub text_by : List ℕ → Entry → List ℕ
text_by actor entry = line_text actor entry ++ rows_text entry.reply

-- the same, where these are the names of actors
abbrev pub entry_text : List (List ℕ) → Entry → List ℕ
entry_text actors entry = text_by (slice_index_or actors entry.actor []) entry

-- all entries, in order
abbrev pub history_text : HistoryState → List ℕ
history_text history = flat_map (entry_text history.actors) history.entries

-- each entry's actor has a name
abbrev pub HasNames : HistoryState → Type 0
HasNames history = All (λ entry. entry.actor < length history.actors) history.entries
