-- Room for the moves that an entry plans: no more than one for each volume.
use Rattle.std.proofs.Common.{◌≡◌, ℕ, ◌<◌, ◌≤◌, ◌^◌, true, length, sym, ap, arith}
use Rattle.fc_base.specs.Sheet.{Sheet, slot_at}
use Rattle.fc_chain.specs.Planning.{volume_count}
use Rattle.fc_lane.specs.Lane.{LaneView, IsLaneOf, IsReady}
use Rattle.fc_steps.proofs.Writable.{some_live}
use Rattle.fc_rules.specs.LaneTold.{LaneTold}

pub count_told : (v : LaneView) (told : LaneTold) → IsLaneOf v told → volume_count told.sheet.slots ≡ volume_count v.chains.sheet.slots
count_told v told s = ap (λ (z : Sheet). volume_count z.slots) (sym s.parts.sheet_is)

-- so many moves can be counted, and the plan and the entry have room for them
pub record HasRoom (v : LaneView) (moves : ℕ) : Type 0 where
  pub few : moves < 2 ^ 30
  pub planned : moves ≤ v.plan_room
  pub entered : moves ≤ v.entry_room

module _ (v : LaneView) (ready : IsReady v) where
  pub room_for : (moves : ℕ) → moves ≤ volume_count v.chains.sheet.slots → HasRoom v moves
  room_for moves short =
      let few = ready.few in
      let plan = ready.plan in
      let entry = ready.entry in
      record { few = omega arith; planned = omega arith; entered = omega arith }

  pub some_room : (told : LaneTold) (k : ℕ) → IsLaneOf v told → k < length told.sheet.slots → (slot_at told.sheet.slots k).is_live ≡ true → 0 < v.entry_room
  some_room told k s there live =
      let some : 0 < volume_count told.sheet.slots = some_live told.sheet.slots k there live in
      let same = count_told v told s in
      let room = ready.entry in
      omega arith
