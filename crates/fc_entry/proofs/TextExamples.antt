-- The texts of replies, refusals and faults, and of a whole history, on closed examples written by hand.
use Rattle.std.proofs.Common.{◌≡◌, ℕ, List, [], ◌∷◌, ◌++◌, map, false, Some, None, codes, refl}
use Rattle.std.specs.Fmt.{digits}
use Rattle.fc_base.specs.declared.command.Command.TheVariants.{Mkvdisk, Lsvdisk, Mkpreset}
use Rattle.fc_base.specs.declared.command.Preset.TheVariants.{Snapshot, Clone, Backup}
use Rattle.fc_base.specs.declared.fault.Kind.TheVariants.{Vdisk, Fcmap, Group}
use Rattle.fc_base.specs.declared.fault.Refusal.{Refusal}
use Rattle.fc_base.specs.declared.fault.Refusal.TheVariants as refusal
use Rattle.fc_base.specs.declared.fault.RequiredOption.TheVariants as required
use Rattle.fc_base.specs.declared.fault.ValueOf.TheVariants as value
use Rattle.fc_base.specs.declared.fault.WordFault.{WordFault}
use Rattle.fc_base.specs.declared.fault.WordFault.TheVariants as fault
use Rattle.fc_base.specs.declared.ids.GrainNo.{GrainNo}
use Rattle.fc_base.specs.declared.ids.GroupId.{GroupId}
use Rattle.fc_base.specs.declared.ids.MapId.{MapId}
use Rattle.fc_base.specs.declared.ids.VolId.{VolId}
use Rattle.fc_base.specs.declared.name.Ref.TheVariants.{Id, Name}
use Rattle.fc_base.specs.declared.request.Place.TheVariants as place
use Rattle.fc_base.specs.declared.request.Request.{Request}
use Rattle.fc_base.specs.declared.request.Request.TheVariants as request
use Rattle.fc_base.specs.declared.request.Reply.{Reply}
use Rattle.fc_base.specs.declared.request.Reply.TheVariants as reply
use Rattle.fc_base.specs.declared.size.GrainSize.TheVariants.{K64, K256}
use Rattle.fc_base.specs.declared.state.MapState.{MapState}
use Rattle.fc_base.specs.declared.state.MapState.TheVariants as state
use Rattle.fc_entry.specs.declared.entry.Entry.{Entry}
use Rattle.fc_entry.specs.HistoryState.{HistoryState}
use Rattle.fc_entry.specs.Text.{entry_text, fault_text, history_text, refusal_text, reply_text, request_text, state_text}

volume : ℕ → VolId
volume id = record { 0 = id }

mapping : ℕ → MapId
mapping id = record { 0 = id }

group : ℕ → GroupId
group id = record { 0 = id }

grain : ℕ → GrainNo
grain number = record { 0 = number }

-- what is wrong with the words of a line
faults : List (WordFault × List ℕ)
faults =
    (fault.UnknownCommand, codes "unknown command")
    ∷ (fault.UnknownOption 3, codes "unknown option at word 3")
    ∷ (fault.MissingOption required.Size, codes "missing option -size")
    ∷ (fault.MissingOption required.Seconds, codes "missing option -seconds")
    ∷ (fault.MissingOption required.Source, codes "missing option -source")
    ∷ (fault.MissingOption required.Target, codes "missing option -target")
    ∷ (fault.MissingOption required.Preset, codes "missing option -preset")
    ∷ (fault.MissingWord 4, codes "missing word 4")
    ∷ (fault.RepeatedOption 4, codes "option repeated at word 4")
    ∷ (fault.BadNumber 4, codes "bad number at word 4")
    ∷ (fault.BadName 2, codes "bad name at word 2")
    ∷ (fault.LongLine, codes "long line")
    ∷ (fault.NoActor, codes "no actor")
    ∷ (fault.NotInBlock, codes "not in a block")
    ∷ (fault.Limit 16, codes "limit 16")
    ∷ []

fault_texts : map (λ f. fault_text f.0) faults ≡ map (λ f. f.1) faults
unfolding digits faults
fault_texts = refl

-- the states of mappings and groups
states : List (MapState × List ℕ)
states =
    (state.Empty, codes "empty")
    ∷ (state.IdleOrCopied, codes "idle_or_copied")
    ∷ (state.Preparing, codes "preparing")
    ∷ (state.Prepared, codes "prepared")
    ∷ (state.Copying, codes "copying")
    ∷ (state.Stopping, codes "stopping")
    ∷ (state.Stopped, codes "stopped")
    ∷ []

state_texts : map (λ s. state_text s.0) states ≡ map (λ s. s.1) states
unfolding states
state_texts = refl

-- why a command is refused
refusals : List (Refusal × List ℕ)
refusals =
    (refusal.Words (fault.MissingWord 4), codes "missing word 4")
    ∷ (refusal.NoSuch Vdisk, codes "no such vdisk")
    ∷ (refusal.NoSuch Fcmap, codes "no such fcmap")
    ∷ (refusal.NoSuch Group, codes "no such group")
    ∷ (refusal.NameTaken 3, codes "name taken 3")
    ∷ (refusal.Limit 512, codes "limit 512")
    ∷ (refusal.NoDisk, codes "no disk")
    ∷ (refusal.BadValue value.Size, codes "bad value of size")
    ∷ (refusal.BadValue value.CopyRate, codes "bad value of copyrate")
    ∷ (refusal.BadValue value.CleanRate, codes "bad value of cleanrate")
    ∷ (refusal.BadValue value.Seconds, codes "bad value of seconds")
    ∷ (refusal.BadValue value.Blocks, codes "bad value of blocks")
    ∷ (refusal.BadValue value.Grain, codes "bad value of grain")
    ∷ (refusal.InUse (volume 2), codes "in use 2")
    ∷ (refusal.NotPrepared, codes "not prepared")
    ∷ (refusal.NotAllowed state.Copying, codes "not allowed in copying")
    ∷ (refusal.InGroup (group 1), codes "in group 1")
    ∷ (refusal.Empty, codes "empty group")
    ∷ (refusal.TargetTwice (volume 1), codes "target twice 1")
    ∷ (refusal.SourceIsTarget (volume 2), codes "source is target 2")
    ∷ (refusal.SourceNotReady (volume 1), codes "source not ready 1")
    ∷ (refusal.TargetActive (mapping 0), codes "target active 0")
    ∷ (refusal.TargetIsSource (volume 0), codes "target is source 0")
    ∷ (refusal.RestoreLoop (volume 0 ∷ volume 2 ∷ []), codes "restore loop 0 2")
    ∷ (refusal.NotComplete 0 1, codes "not complete 0 1")
    ∷ (refusal.NeedsForce, codes "needs force")
    ∷ (refusal.SizeDiffers 16 32, codes "size differs 16 32")
    ∷ (refusal.GrainDiffers K256 K64, codes "grain differs 256 64")
    ∷ (refusal.SameVolume, codes "same volume")
    ∷ (refusal.PairTaken (mapping 0), codes "pair taken 0")
    ∷ []

refusal_texts : map (λ r. refusal_text r.0) refusals ≡ map (λ r. r.1) refusals
unfolding digits refusals volume mapping group
refusal_texts = refl

-- what is answered
replies : List (Reply × List ℕ)
replies =
    (reply.Done, codes "ok")
    ∷ (reply.Made Vdisk 0, codes "Virtual Disk, id [0], successfully created")
    ∷ (reply.Made Fcmap 0, codes "FlashCopy Mapping, id [0], successfully created")
    ∷ (reply.Made Group 1, codes "FlashCopy Consistency Group, id [1], successfully created")
    ∷ (reply.Bytes (record { count = 512; byte = 90 } ∷ record { count = 512; byte = 0 } ∷ []), codes "data 512*5a,512*00")
    ∷ (reply.Bytes (record { count = 1; byte = 255 } ∷ []), codes "data 1*ff")
    ∷ (reply.Listed (codes "id name" ∷ codes "0 A" ∷ []), codes "rows 2")
    ∷ (reply.Moved (mapping 0) (grain 3), codes "moved 0 3")
    ∷ (reply.Idle, codes "idle")
    ∷ (reply.Offline (mapping 0) state.Stopped, codes "offline 0 stopped")
    ∷ (reply.NotAccessible (mapping 0), codes "not accessible 0")
    ∷ (reply.DiskFault, codes "disk fault")
    ∷ (reply.MediumError, codes "medium error")
    ∷ (reply.NoMemory, codes "no memory")
    ∷ (reply.Refused (refusal.NoSuch Vdisk), codes "refused no such vdisk")
    ∷ []

reply_texts : map (λ r. reply_text r.0) replies ≡ map (λ r. r.1) replies
unfolding digits replies mapping grain
reply_texts = refl

-- what is asked
requests : List (Request × List ℕ)
requests =
    (request.Command (Lsvdisk (Some 58)), codes "lsvdisk -delim :")
    ∷ (request.Command (Mkpreset (Name (codes "A")) Snapshot (Some (codes "s1"))), codes "mkpreset -source A -preset snapshot -name s1")
    ∷ (request.Command (Mkpreset (Id 7) Clone None), codes "mkpreset -source 7 -preset clone")
    ∷ (request.Command (Mkpreset (Name (codes "A")) Backup None), codes "mkpreset -source A -preset backup")
    ∷ (request.Unread fault.LongLine, codes "-")
    ∷ (request.Read (record { volume = volume 0; block = 0; count = 2 }), codes "read 0 0 2")
    ∷ (request.Write (record { volume = volume 0; block = 0; count = 1; byte = 90 }), codes "write 0 0 1 5a")
    ∷ (request.Copy (mapping 0) (grain 3), codes "copy 0 3")
    ∷ (request.Clean (mapping 0) (grain 3), codes "clean 0 3")
    ∷ (request.CopyTurn 1, codes "copyturn 1")
    ∷ (request.CleanTurn 1, codes "cleanturn 1")
    ∷ []

request_texts : map (λ r. request_text r.0) requests ≡ map (λ r. r.1) requests
unfolding digits requests volume mapping grain
request_texts = refl

-- an entry of which the text alone counts
entry_of : ℕ → ℕ → Request → Reply → Entry
entry_of number actor asked answered = record {
  number = number;
  actor = actor;
  place = place.Control;
  request = asked;
  reply = answered;
  moves = [];
  effects = [];
  torn = None;
  faults_before = 0;
  faults_after = 0;
  calls = 0;
}

-- a volume is made, its first block is written, and its first two are read
first_volume : HistoryState
first_volume = record {
  actors = codes "main" ∷ [];
  entries =
      entry_of 0 0 (request.Command (Mkvdisk (Some (codes "A")) 1 None false)) (reply.Made Vdisk 0)
      ∷ entry_of 1 0 (request.Write (record { volume = volume 0; block = 0; count = 1; byte = 90 })) reply.Done
      ∷ entry_of 2 0 (request.Read (record { volume = volume 0; block = 0; count = 2 }))
      (reply.Bytes (record { count = 512; byte = 90 } ∷ record { count = 512; byte = 0 } ∷ []))
      ∷ [];
}

first_volume_text :
    history_text first_volume
    ≡ codes "0 main mkvdisk -name A -size 1 -> Virtual Disk, id [0], successfully created\n"
    ++ codes "1 main write 0 0 1 5a -> ok\n"
    ++ codes "2 main read 0 0 2 -> data 512*5a,512*00\n"
unfolding digits first_volume entry_of volume
first_volume_text = refl

-- a report's rows stand behind its line
report_text :
    entry_text (codes "main" ∷ codes "w1" ∷ [])
    (
    entry_of 120 1 (request.Command (Lsvdisk None))
    (reply.Listed (codes "id name status" ∷ codes "0  A    online" ∷ []))
    )
    ≡ codes "120 w1 lsvdisk -> rows 2\nid name status\n0  A    online\n"
unfolding digits entry_of
report_text = refl
