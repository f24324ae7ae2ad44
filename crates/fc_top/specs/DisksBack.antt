-- What becomes of the disks.
use Rattle.std.specs.Prelude.{◌≡◌, ℕ, zero, suc, ◌+◌, ◌<◌, ◌≤◌, ◌^◌, List, [], ◌∷◌, ◌++◌, reverse}
use Rattle.std.specs.List.{All, sum}
use Rattle.fc_base.specs.declared.volume.Volume.{Volume}
use Rattle.fc_call.specs.declared.status.Status.{Status}
use Rattle.fc_call.specs.declared.status.Status.TheVariants as status
use Rattle.fc_entry.specs.declared.entry.Entry.{Entry}
use Rattle.fc_grains.specs.Grains.{pool_of, silent_of}
use Rattle.fc_legal.specs.Whole.{Whole, lanes}
use Rattle.fc_mdisk.specs.Disk.{DiskState}
use Rattle.fc_mdisk.specs.Disks.{calls_of, faults_of}
use Rattle.fc_stands.specs.Arming.{ArmNothing, IsArmedSince, armed_since}

-- No count has come to 2^64 - 1, where it would stand still.
abbrev pub AreCounted : List ℕ → Type 0
AreCounted counts = All (λ n. n + 1 < 2 ^ 64) counts

-- Each of these disks is that of the volume at its place, whose armed fault in a lane among so many is as the entries tell, where
-- the disk tells it.
abbrev pub AreArmedBy : List Entry → ℕ → ℕ → List Volume → List DiskState → Type 0
AreArmedBy entries lanes lane [] [] = Unit {0}
AreArmedBy entries lanes lane (v ∷ vs) (disk ∷ disks) = IsArmedSince (armed_since lane lanes v entries) disk.due × AreArmedBy entries lanes lane vs disks
AreArmedBy entries lanes lane _ _ = ⊥

-- The disks of a lane: those of its volumes come first, from the last volume to the first, with faults armed as the entries tell.
pub record AreOfLane (entries : List Entry) (lanes : ℕ) (volumes : List Volume) (lane : ℕ) (disks : List DiskState) : Type 0 where
  pub own : List DiskState
  pub rest : List DiskState
  pub in_order : disks ≡ own ++ rest
  pub armed : AreArmedBy entries lanes lane (reverse volumes) own

-- Disks lane by lane, from a lane on: so many lanes.
abbrev pub AreOfLanes : List Entry → ℕ → List Volume → ℕ → ℕ → List DiskState → Type 0
AreOfLanes entries lanes volumes lane zero disks = disks ≡ []
AreOfLanes entries lanes volumes lane (suc more) disks =
    (own : List DiskState) × (rest : List DiskState) × (disks ≡ own ++ rest) × AreOfLane entries lanes volumes lane own × AreOfLanes entries lanes volumes (lane + 1) more rest

-- As many disks of each kind are there as were handed in. Their calls are those that the entries tell. Of their faults the lanes
-- told no more than the disks counted, and all, where the lanes' counts don't stand still. Where each disk told its armed fault and
-- no entry arms one, none ever failed; and they come back lane by lane, with faults armed as the entries tell.
pub record AreBack (old new : List DiskState) (entries : List Entry) (last : Whole) : Type 0 where
  pub kinds : pool_of new ≡ pool_of old
  pub calls : calls_of new ≡ sum last.calls
  pub counted : sum last.faults ≤ faults_of new
  pub faults : AreCounted last.faults → faults_of new ≡ sum last.faults
  pub quiet : ArmNothing entries → silent_of old ≡ 0 → faults_of new ≡ 0
  pub armed : silent_of old ≡ 0 → AreOfLanes entries (lanes last) last.books.tables.volumes 0 (lanes last) new

-- What becomes of the disks, by status: where memory was wanted nothing is said of them.
abbrev pub DisksAfter : Status → List DiskState → List DiskState → List Entry → Whole → Type 0
DisksAfter status.NoMemory old new entries last = Unit {0}
DisksAfter _ old new entries last = AreBack old new entries last
