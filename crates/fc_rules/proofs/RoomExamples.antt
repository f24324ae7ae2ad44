-- Which grains occupy memory, on closed examples: A and B of two grains in lane 1 of two, grains 1 and 3, of which B shows the
-- second as lost. All of A's occupy memory, and none of B's.
use Rattle.std.proofs.Common.{◌≡◌, ℕ, Bool, true, false, Option, Some, None, List, [], ◌∷◌, refl}
use Rattle.fc_base.specs.Room.{Room, used_in}
use Rattle.fc_base.specs.declared.ids.VolId.{VolId}
use Rattle.fc_base.specs.declared.request.Move.{Move}
use Rattle.fc_base.specs.declared.request.Reply.{Reply}
use Rattle.fc_base.specs.declared.request.Reply.TheVariants.{Done, DiskFault}
use Rattle.fc_base.specs.declared.request.Request.TheVariants.{Write}
use Rattle.fc_base.specs.declared.request.Place.TheVariants.{Lane}
use Rattle.fc_base.specs.declared.request.Side.TheVariants.{Under}
use Rattle.fc_base.specs.declared.request.Torn.{Torn}
use Rattle.fc_base.specs.declared.request.WritePart.{WritePart}
use Rattle.fc_base.specs.declared.size.GrainSize.TheVariants.{K64}
use Rattle.fc_entry.specs.Picture.{Bytes, Lost, Picture}
use Rattle.fc_entry.specs.declared.entry.Entry.{Entry}
use Rattle.fc_rules.specs.LaneTold.{LaneOf}
use Rattle.fc_rules.specs.Rooms.{rooms_told, rooms_entry}

abbrev l : LaneOf
l = record { lane = 1; lanes = 2; grain = K64 }

abbrev vol : ℕ → VolId
vol id = record { 0 = id }

abbrev picture : Picture
picture =
    record { volume = vol 0; now = Bytes [] ∷ Bytes [] ∷ []; under = Bytes [] ∷ Bytes [] ∷ [] }
    ∷ record { volume = vol 1; now = Bytes [] ∷ Lost ∷ []; under = Bytes [] ∷ Bytes [] ∷ [] }
    ∷ []

-- the rooms, with these grains of B
abbrev rooms : Bool → Bool → List Room
rooms first second =
    record { volume = vol 0; reached = true ∷ true ∷ [] } ∷ record { volume = vol 1; reached = first ∷ second ∷ [] } ∷ []

-- a move of a grain of B
abbrev move : ℕ → Bool → Move
move grain in_place = record { slot = record { 0 = 1 }; volume = vol 1; grain = record { 0 = grain }; in_place = in_place }

-- a write of a block of B in grain 3
abbrev part : WritePart
part = record { volume = vol 1; block = 385; count = 1; byte = 7 }

abbrev torn : Torn
torn = record { volume = vol 1; grain = record { 0 = 1 }; side = Under }

abbrev after : Option WritePart → List Move → Option Torn → List Room
after write moves torn = rooms_told l picture (rooms false false) write moves torn

-- ---- moves

in_place_reaches_nothing : after None (move 1 true ∷ []) None ≡ rooms false false
in_place_reaches_nothing = refl

lost_reaches_nothing : after None (move 3 false ∷ []) None ≡ rooms false false
lost_reaches_nothing = refl

copied_is_reached : after None (move 1 false ∷ []) None ≡ rooms true false
copied_is_reached = refl

-- one after the other
moves_reach : after None (move 3 true ∷ move 1 false ∷ move 3 false ∷ []) None ≡ rooms true false
moves_reach = refl

-- ---- a write, done and torn

write_reaches : after (Some part) [] None ≡ rooms false true
write_reaches = refl

torn_is_reached : after None [] (Some torn) ≡ rooms true false
torn_is_reached = refl

-- a grain that occupies memory goes on to do so
reached_again : rooms_told l picture (rooms true true) (Some part) (move 1 false ∷ []) (Some torn) ≡ rooms true true
reached_again = refl

-- ---- an entry

abbrev entry : Reply → Entry
entry reply =
    record {
      number = 5;
      actor = 0;
      place = Lane 1;
      request = Write part;
      reply = reply;
      moves = move 1 false ∷ [];
      effects = [];
      torn = None;
      faults_before = 0;
      faults_after = 1;
      calls = 4;
    }

-- its write counts where it was done alone
done_reaches : rooms_entry l picture (rooms false false) (entry Done) ≡ rooms true true
done_reaches = refl

stopped_reaches_less : rooms_entry l picture (rooms false false) (entry DiskFault) ≡ rooms true false
stopped_reaches_less = refl

-- ---- how many

used : used_in (rooms true false) 1 ≡ 1
used = refl

used_of_none : used_in (rooms true false) 2 ≡ 0
used_of_none = refl
