-- How disks are dealt to lanes, the lanes that begin over them, and the disks that lanes give back.
use Rattle.std.specs.Prelude.{◌≡◌, ℕ, ◌+◌, ◌<◌, ◌≤◌, ◌^◌, ◌%◌, ◌==◌, cond, List, [], ◌∷◌, ◌++◌, length, map, Vec}
use Rattle.std.specs.List.{All, sum_by, range_with_len}
use Rattle.fc_base.specs.Pools.{Pool}
use Rattle.fc_base.specs.declared.size.GrainSize.{GrainSize}
use Rattle.fc_grains.specs.Grains.{AreAllOf, IsUnarmed, opened, pool_of, silent_of}
use Rattle.fc_grains.specs.Quiet.{IsQuiet}
use Rattle.fc_lane.specs.Lane.{LaneView, IsFollowing, begun}
use Rattle.fc_mdisk.specs.Disk.{DiskState}
use Rattle.fc_mdisk.specs.Disks.{calls_of, faults_of}

-- Of disks that stand from a place on, those of a lane among so many, in order: a disk goes to the lane that its place leaves
-- when divided by their number.
abbrev pub dealt_from : ℕ → ℕ → ℕ → List DiskState → List DiskState
dealt_from lanes i place [] = []
dealt_from lanes i place (disk ∷ disks) =
    cond (place % lanes == i) (disk ∷ dealt_from lanes i (place + 1) disks) (dealt_from lanes i (place + 1) disks)

abbrev pub dealt : ℕ → List DiskState → ℕ → List DiskState
dealt lanes disks i = dealt_from lanes i 0 disks

-- Lane by lane.
abbrev pub all_dealt : ℕ → List DiskState → List (List DiskState)
all_dealt lanes disks = map (dealt lanes disks) (range_with_len 0 lanes)

-- The disks for new volumes of each lane.
abbrev pub pools_dealt : ℕ → List DiskState → List Pool
pools_dealt lanes disks = map pool_of (all_dealt lanes disks)

-- Lists of disks as contracts see them.
abbrev pub lists_of : {D Z : Type 0} → (D → DiskState) → List (Vec D Z) → List (List DiskState)
lists_of meaning lists = map (λ list. map meaning list.items) lists

-- Disks over which a lane can begin.
pub record FitLane (disks : List DiskState) : Type 0 where
  pub few : length disks < 2 ^ 30
  pub unarmed : All IsUnarmed disks

-- A lane that begins, among so many.
pub record Begins (lanes : ℕ) (v : LaneView) : Type 0 where
  pub lanes_are : v.lanes ≡ lanes
  pub stands : IsFollowing v (record { told = begun v.grains; rows = []; rooms = [] })
  pub quiet : v.grains.silent ≡ 0 → IsQuiet v.grains

-- Lanes that begin, the first of them the lane 0, each over its list of disks.
pub record Begin (grain : GrainSize) (lanes : ℕ) (lists : List (List DiskState)) (ls : List LaneView) : Type 0 where
  pub numbers : map (λ (v : LaneView). v.lane) ls ≡ range_with_len 0 (length ls)
  pub grains : map (λ (v : LaneView). v.grains) ls ≡ map (opened grain) lists
  pub each : All (Begins lanes) ls

-- How many disks of each kind all lanes have, and how many of them don't tell their armed fault.
abbrev pub disks_in : List LaneView → Pool
disks_in ls = record { flat = sum_by (λ (v : LaneView). v.grains.disks.flat) ls; thin = sum_by (λ (v : LaneView). v.grains.disks.thin) ls }

abbrev pub silent_in : List LaneView → ℕ
silent_in ls = sum_by (λ (v : LaneView). v.grains.silent) ls

-- The calls and the faults of the disks of all lanes.
abbrev pub calls_in : List LaneView → ℕ
calls_in ls = sum_by (λ (v : LaneView). v.grains.calls) ls

abbrev pub faults_in : List LaneView → ℕ
faults_in ls = sum_by (λ (v : LaneView). v.grains.faults) ls

-- These disks are all that the lanes have, with their calls and faults where no lane's count of them stands still; and the lanes
-- count no more faults than the disks.
pub record AreAllIn (ls : List LaneView) (disks : List DiskState) : Type 0 where
  pub kinds : pool_of disks ≡ disks_in ls
  pub silent : silent_of disks ≡ silent_in ls
  pub calls : All (λ (v : LaneView). v.grains.calls + 1 < 2 ^ 64) ls → calls_of disks ≡ calls_in ls
  pub faults : All (λ (v : LaneView). v.grains.faults + 1 < 2 ^ 64) ls → faults_of disks ≡ faults_in ls
  pub counted : faults_in ls ≤ faults_of disks

-- They lie lane by lane: all disks of the first lane, and then those of the others.
abbrev pub AreByLane : List LaneView → List DiskState → Type 0
AreByLane [] disks = disks ≡ []
AreByLane (v ∷ vs) disks = (own : List DiskState) × (rest : List DiskState) × (disks ≡ own ++ rest) × AreAllOf v.grains own × AreByLane vs rest
