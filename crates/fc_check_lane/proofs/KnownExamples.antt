-- A record worked by hand: two lanes, and one mapping, which lacks two of three grains.
use Rattle.std.proofs.Common.{◌≡◌, ℕ, true, false, [], ◌∷◌, Some, None, refl}
use Rattle.fc_base.specs.Column.{first_below}
use Rattle.fc_base.specs.Sheet.{Slot, mapping_place}
use Rattle.fc_base.specs.declared.ids.GrainNo.{GrainNo}
use Rattle.fc_base.specs.declared.ids.MapId.{MapId}
use Rattle.fc_base.specs.declared.request.Move.{Move}
use Rattle.fc_base.specs.declared.size.GrainSize.TheVariants.{K64}
use Rattle.fc_entry.specs.Picture.{PlainVolume, Bytes, Lost}
use Rattle.fc_pick.specs.declared.work.WorkFlags.{WorkFlags}
use Rattle.fc_rules.specs.Steps.{DiskStep}
use Rattle.fc_check_lane.specs.Known.{Known}
use Rattle.fc_check_lane.specs.Steps.{step_of}
use Rattle.fc_check_lane.specs.Turns.{next_in}
use Rattle.fc_check_lane.specs.declared.turn.Work.TheVariants.{Copying, Cleaning}

abbrev source : Slot
source = record { birth = 0; chain = 0; volume = 0; is_live = true; mapping = None; held = true ∷ true ∷ true ∷ [] }

abbrev target : Slot
target = record { birth = 2; chain = 0; volume = 1; is_live = true; mapping = Some 5; held = false ∷ false ∷ true ∷ [] }

abbrev five : MapId
five = record { 0 = 5 }

abbrev copies : WorkFlags
copies = record { map = five; copies = true; cleans = false }

abbrev kept : Known
kept =
    record {
      grain = K64;
      volumes = [];
      sizes = [];
      flags = copies ∷ [];
      sheet = record { births = 3; slots = source ∷ target ∷ [] };
      picture = [];
      faults = 0 ∷ 0 ∷ [];
      entries = 7;
    }

abbrev numbered : ℕ → GrainNo
numbered n = record { 0 = n }

-- lane 0 has the grains 0 and 2, lane 1 has grain 1
in_lane_0 : next_in Copying kept 0 ≡ Some (five, numbered 0)
unfolding mapping_place first_below
in_lane_0 = refl

in_lane_1 : next_in Copying kept 1 ≡ Some (five, numbered 1)
unfolding mapping_place first_below
in_lane_1 = refl

-- the mapping has no cleaning
no_cleaning : next_in Cleaning kept 0 ≡ None
unfolding mapping_place first_below
no_cleaning = refl

-- a move reads and writes, in place it does neither
abbrev moved : Move
moved = record { slot = record { 0 = 2 }; volume = record { 0 = 1 }; grain = numbered 0; in_place = false }

abbrev shown : PlainVolume
shown = record { volume = record { 0 = 1 }; now = Bytes (4 ∷ []) ∷ []; under = Lost ∷ [] }

abbrev calls_of : DiskStep → ℕ
calls_of s = s.calls

two_calls : calls_of (step_of (shown ∷ []) moved) ≡ 2
two_calls = refl

in_place : calls_of (step_of (shown ∷ []) (record moved { in_place = true })) ≡ 0
in_place = refl

-- nor where the grain is lost
lost : calls_of (step_of [] moved) ≡ 0
lost = refl
