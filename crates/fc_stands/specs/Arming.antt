-- Which entries set the armed faults of disks, and what a history tells of the armed fault of a volume's disk in a lane.
use Rattle.std.specs.Prelude.{◌≡◌, ℕ, ◌+◌, ◌≤◌, ◌%◌, ◌==◌, ◌&&◌, Bool, true, false, cond, fold, IfSome, List, Option, Some, None}
use Rattle.std.specs.List.{All}
use Rattle.std.specs.Option.{option_map_or}
use Rattle.fc_base.specs.Tables.{refers_to}
use Rattle.fc_base.specs.declared.command.Command.TheVariants.{Armfault, Mkvdisk}
use Rattle.fc_base.specs.declared.fault.Kind.TheVariants.{Vdisk}
use Rattle.fc_base.specs.declared.name.Ref.{Ref}
use Rattle.fc_base.specs.declared.request.Place.{Place}
use Rattle.fc_base.specs.declared.request.Place.TheVariants.{Lane}
use Rattle.fc_base.specs.declared.request.Reply.{Reply}
use Rattle.fc_base.specs.declared.request.Reply.TheVariants.{Done, Made}
use Rattle.fc_base.specs.declared.request.Request.{Request}
use Rattle.fc_base.specs.declared.request.Request.TheVariants.{Command as Asked}
use Rattle.fc_base.specs.declared.volume.Volume.{Volume}
use Rattle.fc_entry.specs.declared.entry.Entry.{Entry}

-- An `armfault` that was done.
abbrev pub arms : Request → Reply → Bool
arms (Asked (Armfault volume grain calls)) Done = true
arms request reply = false

-- None of these entries arms one.
abbrev pub ArmNothing : List Entry → Type 0
ArmNothing entries = All (λ (entry : Entry). arms entry.request entry.reply ≡ false) entries

-- How many calls away a request that was answered so sets the fault of a volume's disk in a lane, where it sets it: an `armfault`
-- that was done, where it names the volume and its grain is one of the lane's; and a `mkvdisk` that made it, whose disk has none.
abbrev pub set_by : (Ref → Bool) → ℕ → ℕ → ℕ → Request → Reply → Option ℕ
set_by names id lane lanes (Asked (Armfault volume grain calls)) Done = cond ((grain % lanes == lane) && names volume) (Some calls) None
set_by names id lane lanes (Asked (Mkvdisk name size unit thin)) (Made Vdisk made) = cond (made == id) (Some 0) None
set_by names id lane lanes request reply = None

-- It sets no fault of any disk.
abbrev pub SetsNothing : Request → Reply → Type 0
SetsNothing request reply = (names : Ref → Bool) (id lane lanes : ℕ) → set_by names id lane lanes request reply ≡ None

-- How many calls away it was set last, 0 for none, and how many calls of disks the lane's entries tell since then.
pub record ArmedSince : Type 0 where
  pub set : ℕ
  pub since : ℕ

abbrev pub later : ℕ → ArmedSince → ArmedSince
later calls s = record s { since = s.since + calls }

-- The calls of an entry that was made there, if that is in the lane.
abbrev pub calls_in : ℕ → Place → ℕ → ℕ
calls_in lane (Lane place) calls = cond (place == lane) calls 0
calls_in lane place calls = 0

-- What entries tell of the fault of a volume's disk in a lane among so many.
abbrev pub armed_step : ℕ → ℕ → Volume → ArmedSince → Entry → ArmedSince
armed_step lane lanes v s entry =
    option_map_or (λ calls. record { set = calls; since = 0 })
    (set_by (λ r. refers_to r v.id.0 v.name) v.id.0 lane lanes entry.request entry.reply)
    (later (calls_in lane entry.place entry.calls) s)

abbrev pub armed_since : ℕ → ℕ → Volume → List Entry → ArmedSince
armed_since lane lanes v entries = fold (armed_step lane lanes v) (record { set = 0; since = 0 }) entries

-- The fault, where the disk tells it, is no further away than it was set, and no more calls nearer than the lane made since.
abbrev pub IsArmedSince : ArmedSince → Option ℕ → Type 0
IsArmedSince s due = IfSome due (λ calls. (calls ≤ s.set) × (s.set ≤ calls + s.since))
