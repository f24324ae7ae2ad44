-- Worked rows: what commands do to armed faults, and what entries tell of them.
use Rattle.std.proofs.Common.{◌≡◌, ℕ, [], ◌∷◌, Some, None, false, refl, codes, arith}
use Rattle.fc_base.specs.Tables.{Tables}
use Rattle.fc_base.specs.declared.command.Command.TheVariants.{Advance, Armfault, Mkvdisk}
use Rattle.fc_base.specs.declared.disk.DiskKind.TheVariants.{Flat}
use Rattle.fc_base.specs.declared.fault.Kind.TheVariants.{Vdisk}
use Rattle.fc_base.specs.declared.name.Ref.{Ref}
use Rattle.fc_base.specs.declared.name.Ref.TheVariants.{Id, Name}
use Rattle.fc_base.specs.declared.request.Place.{Place}
use Rattle.fc_base.specs.declared.request.Place.TheVariants.{Every, Lane}
use Rattle.fc_base.specs.declared.request.Reply.{Reply}
use Rattle.fc_base.specs.declared.request.Reply.TheVariants.{Done, Made, NoMemory}
use Rattle.fc_base.specs.declared.request.Request.{Request}
use Rattle.fc_base.specs.declared.request.Request.TheVariants.{Command as Asked, Read}
use Rattle.fc_base.specs.declared.size.GrainSize.TheVariants.{K64}
use Rattle.fc_base.specs.declared.volume.Volume.{Volume}
use Rattle.fc_entry.specs.declared.entry.Entry.{Entry}
use Rattle.fc_rules.specs.LaneTold.{LaneOf}
use Rattle.fc_stands.specs.Armed.{due_after}
use Rattle.fc_stands.specs.Arming.{IsArmedSince, armed_since}

-- Two volumes, `prod` with the id 0 and `log` with the id 3.
abbrev prod : Volume
prod = record { id = record { 0 = 0 }; name = codes "prod"; grains = 16; kind = Flat }

abbrev log : Volume
log = record { id = record { 0 = 3 }; name = codes "log"; grains = 16; kind = Flat }

abbrev two : Tables
two = record { volumes = prod ∷ log ∷ []; mappings = []; groups = [] }

-- Lane 1 of 4.
abbrev lane_1 : LaneOf
lane_1 = record { lane = 1; lanes = 4; grain = K64 }

-- `armfault log 5 7` sets the fault of volume 3 in lane 1, where grain 5 is, whatever was set before; by id likewise.
pub by_name : due_after two lane_1 (Armfault (Name (codes "log")) 5 7) Done 3 2 ≡ 7
by_name = refl

pub by_id : due_after two lane_1 (Armfault (Id 3) 5 7) Done 3 2 ≡ 7
by_id = refl

-- 0 calls disarm.
pub disarmed : due_after two lane_1 (Armfault (Id 3) 5 0) Done 3 2 ≡ 0
disarmed = refl

-- Not that of another volume, nor in another lane, nor where it wasn't done.
pub of_another : due_after two lane_1 (Armfault (Name (codes "log")) 5 7) Done 0 2 ≡ 2
of_another = refl

pub in_another : due_after two lane_1 (Armfault (Name (codes "log")) 6 7) Done 3 2 ≡ 2
in_another = refl

pub not_done : due_after two lane_1 (Armfault (Name (codes "log")) 5 7) NoMemory 3 2 ≡ 2
not_done = refl

-- A volume that comes has none, and other volumes keep theirs.
pub that_came : due_after two lane_1 (Mkvdisk None 1 None false) (Made Vdisk 4) 4 2 ≡ 0
that_came = refl

pub that_stayed : due_after two lane_1 (Mkvdisk None 1 None false) (Made Vdisk 4) 3 2 ≡ 2
that_stayed = refl

-- Any other command leaves them.
pub after_seconds : due_after two lane_1 (Advance 1) Done 3 2 ≡ 2
after_seconds = refl

-- ---- in a history

-- Entries that were answered so, of these places and calls.
abbrev entry_of : Request → Reply → Place → ℕ → Entry
entry_of request reply place calls =
    record {
      number = 0;
      actor = 0;
      place = place;
      request = request;
      reply = reply;
      moves = [];
      effects = [];
      torn = None;
      faults_before = 0;
      faults_after = 0;
      calls = calls;
    }

abbrev armfault : Ref → ℕ → ℕ → Entry
armfault volume grain calls = entry_of (Asked (Armfault volume grain calls)) Done Every 0

abbrev mkvdisk : ℕ → Entry
mkvdisk id = entry_of (Asked (Mkvdisk None 1 None false)) (Made Vdisk id) Every 0

-- A read of volume 0 with so many calls in a lane.
abbrev read_in : ℕ → ℕ → Entry
read_in lane calls = entry_of (Read (record { volume = record { 0 = 0 }; block = 0; count = 1 })) Done (Lane lane) calls

-- Nothing is told of it, before an entry and after calls.
pub before_all : armed_since 1 4 log [] ≡ record { set = 0; since = 0 }
before_all = refl

-- `armfault log 5 7` sets it in lane 1 of 4, where grain 5 is, and in no other lane, nor for `prod`.
pub armed_there : armed_since 1 4 log (armfault (Name (codes "log")) 5 7 ∷ []) ≡ record { set = 7; since = 0 }
armed_there = refl

pub armed_elsewhere : armed_since 2 4 log (armfault (Name (codes "log")) 5 7 ∷ []) ≡ record { set = 0; since = 0 }
armed_elsewhere = refl

pub armed_another : armed_since 1 4 prod (armfault (Name (codes "log")) 5 7 ∷ []) ≡ record { set = 0; since = 0 }
armed_another = refl

pub armed_not : armed_since 1 4 log (entry_of (Asked (Armfault (Id 3) 5 7)) NoMemory Every 0 ∷ []) ≡ record { set = 0; since = 0 }
armed_not = refl

-- Two entries of the lane with three calls behind it; one of another lane and one that moves no disk add none.
pub called_since : armed_since 1 4 log (read_in 1 5 ∷ armfault (Id 3) 5 7 ∷ read_in 1 1 ∷ read_in 2 9 ∷ read_in 1 2 ∷ armfault (Id 0) 5 4 ∷ []) ≡ record { set = 7; since = 3 }
called_since = refl

-- A second one sets it anew, one of 0 disarms it.
pub armed_again : armed_since 1 4 log (armfault (Id 3) 5 7 ∷ read_in 1 2 ∷ armfault (Name (codes "log")) 1 2 ∷ read_in 1 1 ∷ []) ≡ record { set = 2; since = 1 }
armed_again = refl

pub disarmed_again : armed_since 1 4 log (armfault (Id 3) 5 7 ∷ read_in 1 2 ∷ armfault (Id 3) 9 0 ∷ []) ≡ record { set = 0; since = 0 }
disarmed_again = refl

-- A volume that was removed had the name: the one that was made after it, with an id of its own, has no armed fault.
pub made_since : armed_since 1 4 log (armfault (Name (codes "log")) 5 7 ∷ mkvdisk 3 ∷ read_in 1 2 ∷ []) ≡ record { set = 0; since = 2 }
made_since = refl

pub made_another : armed_since 1 4 log (mkvdisk 3 ∷ armfault (Name (codes "log")) 5 7 ∷ mkvdisk 4 ∷ []) ≡ record { set = 7; since = 0 }
made_another = refl

-- So a fault that was armed 7 calls away is 4 to 7 away after three calls, and where none was set none is.
pub four_away : IsArmedSince (record { set = 7; since = 3 }) (Some 4)
four_away = (omega arith, omega arith)

pub not_three_away : IsArmedSince (record { set = 7; since = 3 }) (Some 3) → ⊥
not_three_away is = omega (arith, is.1)

pub none_away : IsArmedSince (record { set = 0; since = 9 }) (Some 0)
none_away = (omega arith, omega arith)

pub not_one_away : IsArmedSince (record { set = 0; since = 9 }) (Some 1) → ⊥
not_one_away is = omega (arith, is.0)
