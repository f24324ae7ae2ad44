-- A disk that stops at a call.
use Rattle.std.specs.Prelude.{◌≡◌, ◌⊎◌, ℕ, ◌%◌, ◌≤◌, ◌<◌, ◌-◌, ◌^◌, ◌==◌, Bool, nat_le, if◌then◌else◌, List, length, replicate}
use Rattle.fc_metadisk.specs.Disk.{Torn}

-- A disk in memory: its bytes, and how many writes and syncs there were.
pub record MemState : Type 0 where
  pub bytes : List ℕ
  pub calls : ℕ

-- A disk that stops: its bytes; those of the last sync; its counts; and the number of the call at which it stops.
pub record StopState : Type 0 where
  pub bytes : List ℕ
  pub synced : List ℕ
  pub calls : ℕ
  pub faults : ℕ
  pub stop : ℕ

-- a disk of so many zeros that stops at this call
abbrev pub new_stop : ℕ → ℕ → StopState
new_stop size stop = record { bytes = replicate size 0; synced = replicate size 0; calls = 0; faults = 0; stop = stop }

-- the call at which it stops was made
abbrev pub has_stopped : StopState → Bool
has_stopped d = nat_le d.stop d.calls

-- What is found after the stop: all that was written since the last sync, the write that failed included, if the number of
-- the call is odd; none of it if it is even.
abbrev pub found_after : StopState → List ℕ
found_after d = if (d.stop % 2) == 1 then d.bytes else d.synced

-- what a crash leaves: all that was written since the last sync, or none of it
abbrev pub StopLeaves : StopState → List ℕ → Type 0
StopLeaves d c = (c ≡ d.bytes) ⊎ (c ≡ d.synced)

-- What the fields of a stopping disk keep: the rows differ at most from `low` on and before `high`, where there is anything
-- between the two; and it failed exactly if it stopped.
pub record IsStopDisk (bytes synced : List ℕ) (low high calls faults stop : ℕ) : Type 0 where
  pub small : length bytes < 2 ^ 32
  pub low_inside : low ≤ length bytes
  pub high_inside : high ≤ length bytes
  pub apart : Torn low (high - low) synced bytes
  pub counted : 0 < stop
  pub running : calls < stop → faults ≡ 0
  pub stopped : stop ≤ calls → 0 < faults
