-- What events and entries do to a lane's part of the rooms is the part of what they do to all.
use Rattle.std.proofs.Common.{◌≡◌, ◌≢◌, ℕ, ◌%◌, Bool, true, false, cond, not, ◌||◌, ◌==◌, Option, Some, None, List, [], ◌∷◌, ◌++◌, fold, refl, sym, ap, ◌∙◌}
use Rattle.std.proofs.lemmas.List.{map-append}
use Rattle.fc_base.specs.Room.{Room, new_reached, reach, reaching, rooms_after}
use Rattle.fc_base.specs.declared.decision.LaneEvent.{LaneEvent}
use Rattle.fc_base.specs.declared.decision.LaneEvent.TheVariants.{Make, Remove}
use Rattle.fc_base.specs.declared.disk.DiskKind.{DiskKind}
use Rattle.fc_base.specs.declared.disk.DiskKind.TheVariants.{Flat, Thin}
use Rattle.fc_base.specs.declared.ids.VolId.{VolId}
use Rattle.fc_base.specs.declared.request.Move.{Move}
use Rattle.fc_base.specs.declared.request.Torn.{Torn}
use Rattle.fc_base.specs.declared.request.WritePart.{WritePart}
use Rattle.fc_entry.specs.Picture.{Content, Picture, grain_of_block, is_lost}
use Rattle.fc_legal.proofs.Events.{all_in}
use Rattle.fc_legal.specs.Whole.{part, part_of_picture, part_of_room, part_of_rooms, single_lane}
use Rattle.fc_pick.proofs.Rows.{map-filter}
use Rattle.fc_rules.specs.LaneTold.{LaneOf, place_of, grains_in}
use Rattle.fc_rules.specs.Rooms.{calls_no_disk, rooms_move, rooms_write, rooms_tear, rooms_told}
use Rattle.fc_parts.proofs.Grains.{MovesAt, WriteAt, TornAt, moves_seen, moves_unseen, away_same}
use Rattle.fc_parts.proofs.Lists.{all_seen, none_seen}
use Rattle.fc_parts.proofs.Numbers.{IsLane, IsOf, of_same, all_place, part_replicate, part_set, part_set_other}
use Rattle.fc_parts.proofs.Pictures.{shown_parts}

-- ---- events

reached_part : (l : LaneOf) → IsLane l → (kind : DiskKind) (grains : ℕ) → part l false (new_reached kind grains) ≡ new_reached kind (grains_in l grains)
reached_part l i Flat grains = sym (part_replicate l i false grains true)
reached_part l i Thin grains = sym (part_replicate l i false grains false)

new_room : VolId → List Bool → Room
new_room volume reached = record { volume = volume; reached = reached }

pub rooms_agree : (l : LaneOf) → IsLane l → (rooms : List Room) (e : LaneEvent) →
    part_of_rooms l (rooms_after (grains_in (single_lane l.grain)) rooms e) ≡ rooms_after (grains_in l) (part_of_rooms l rooms) e
unfolding new_room
rooms_agree l i rooms (Make volume grains kind) =
    map-append (part_of_room l) rooms (new_room volume (new_reached kind (grains_in (single_lane l.grain) grains)) ∷ [])
    ∙ ap (λ reached. part_of_rooms l rooms ++ new_room volume reached ∷ [])
    (ap (λ (f : ℕ → ℕ). part l false (new_reached kind (f grains))) (all_in l.grain) ∙ reached_part l i kind grains)
rooms_agree l i rooms (Remove volume) = map-filter (part_of_room l) (λ (r : Room). not (r.volume.0 == volume.0)) rooms
rooms_agree l i rooms e = refl

-- ---- a write of a grain of the lane, and of another grain

room_here : (l : LaneOf) → IsLane l → (number : ℕ) → IsOf l number → (reaches : Bool) (r : Room) →
    part_of_room l (cond reaches (reaching number r) r) ≡ cond reaches (reaching (place_of l number) (part_of_room l r)) (part_of_room l r)
room_here l i number is_of true r = ap (λ (z : List Bool). record r { reached = z }) (sym (part_set l i false r.reached number true is_of))
room_here l i number is_of false r = refl

reach_here : (l : LaneOf) → IsLane l → (volume x : ℕ) → IsOf l x → (rooms : List Room) → part_of_rooms l (reach volume (place_of (single_lane l.grain) x) rooms) ≡ reach volume (place_of l x) (part_of_rooms l rooms)
reach_here l i volume x is_of rooms =
    ap (λ g. part_of_rooms l (reach volume g rooms)) (all_place l.grain x)
    ∙ all_seen (part_of_room l) (λ r. cond (r.volume.0 == volume) (reaching x r) r) (λ r. cond (r.volume.0 == volume) (reaching (place_of l x) r) r)
    (λ r. room_here l i x is_of (r.volume.0 == volume) r) rooms

room_away : (l : LaneOf) → IsLane l → (number : ℕ) → number % l.lanes ≢ l.lane → (reaches : Bool) (r : Room) → part_of_room l (cond reaches (reaching number r) r) ≡ part_of_room l r
room_away l i number other true r = ap (λ (z : List Bool). record r { reached = z }) (sym (part_set_other l i false r.reached number true other))
room_away l i number other false r = refl

reach_away : (l : LaneOf) → IsLane l → (volume number : ℕ) → number % l.lanes ≢ l.lane → (rooms : List Room) → part_of_rooms l (reach volume number rooms) ≡ part_of_rooms l rooms
reach_away l i volume number other rooms =
    none_seen (part_of_room l) (λ r. cond (r.volume.0 == volume) (reaching number r) r) (λ r. room_away l i number other (r.volume.0 == volume) r) rooms

-- ---- an entry, in the lane of its grain

-- the lane tells too whether a move calls a disk
calls_same : (l : LaneOf) → IsLane l → (picture : Picture) (m : Move) → IsOf l m.grain.0 → calls_no_disk (single_lane l.grain) picture m ≡ calls_no_disk l (part_of_picture l picture) m
calls_same l i picture m is_of = ap (λ (c : Content). m.in_place || is_lost c) (sym (shown_parts l i picture m.grain.0 is_of m.volume))

move_here : (l : LaneOf) → IsLane l → (picture : Picture) (rooms : List Room) (m : Move) → IsOf l m.grain.0 →
    part_of_rooms l (rooms_move (single_lane l.grain) picture rooms m) ≡ rooms_move l (part_of_picture l picture) (part_of_rooms l rooms) m
move_here l i picture rooms m is_of =
    by_test (calls_no_disk (single_lane l.grain) picture m)
    ∙ ap (λ b. cond b (part_of_rooms l rooms) (reach m.volume.0 (place_of l m.grain.0) (part_of_rooms l rooms))) (calls_same l i picture m is_of)
  where
    by_test : (b : Bool) → part_of_rooms l (cond b rooms (reach m.volume.0 (place_of (single_lane l.grain) m.grain.0) rooms))
        ≡ cond b (part_of_rooms l rooms) (reach m.volume.0 (place_of l m.grain.0) (part_of_rooms l rooms))
    by_test true = refl
    by_test false = reach_here l i m.volume.0 m.grain.0 is_of rooms

write_here : (l : LaneOf) → IsLane l → (number : ℕ) → IsOf l number → (rooms : List Room) (write : Option WritePart) → WriteAt l.grain number write →
    part_of_rooms l (rooms_write (single_lane l.grain) rooms write) ≡ rooms_write l (part_of_rooms l rooms) write
write_here l i number is_of rooms None at = refl
write_here l i number is_of rooms (Some part) at =
    reach_here l i part.volume.0 (grain_of_block l.grain part.block) (of_same l (grain_of_block l.grain part.block) number at is_of) rooms

tear_here : (l : LaneOf) → IsLane l → (number : ℕ) → IsOf l number → (rooms : List Room) (torn : Option Torn) → TornAt number torn →
    part_of_rooms l (rooms_tear (single_lane l.grain) rooms torn) ≡ rooms_tear l (part_of_rooms l rooms) torn
tear_here l i number is_of rooms None at = refl
tear_here l i number is_of rooms (Some torn) at = reach_here l i torn.volume.0 torn.grain.0 (of_same l torn.grain.0 number at is_of) rooms

pub rooms_here : (l : LaneOf) → IsLane l → (number : ℕ) → IsOf l number → (picture : Picture) (rooms : List Room) (write : Option WritePart) (moves : List Move) (torn : Option Torn) →
    WriteAt l.grain number write → MovesAt number moves → TornAt number torn →
    part_of_rooms l (rooms_told (single_lane l.grain) picture rooms write moves torn) ≡ rooms_told l (part_of_picture l picture) (part_of_rooms l rooms) write moves torn
rooms_here l i number is_of picture rooms write moves torn w m t =
    let all : LaneOf = single_lane l.grain in
    let moved : List Room = fold (rooms_move all picture) rooms moves in
    tear_here l i number is_of (rooms_write all moved write) torn t
    ∙ (ap (λ z. rooms_tear l z torn) (write_here l i number is_of moved write w)
    ∙ ap (λ z. rooms_tear l (rooms_write l z write) torn)
    (moves_seen (part_of_rooms l) (rooms_move all picture) (rooms_move l (part_of_picture l picture)) number
    (λ z x at. move_here l i picture z x (of_same l x.grain.0 number at is_of)) rooms moves m))

-- ---- on another lane

move_away : (l : LaneOf) → IsLane l → (number : ℕ) → number % l.lanes ≢ l.lane → (picture : Picture) (rooms : List Room) (m : Move) → m.grain.0 ≡ number →
    part_of_rooms l (rooms_move (single_lane l.grain) picture rooms m) ≡ part_of_rooms l rooms
move_away l i number other picture rooms m at = by_test (calls_no_disk (single_lane l.grain) picture m)
  where
    by_test : (b : Bool) → part_of_rooms l (cond b rooms (reach m.volume.0 (place_of (single_lane l.grain) m.grain.0) rooms)) ≡ part_of_rooms l rooms
    by_test true = refl
    by_test false = reach_away l i m.volume.0 (place_of (single_lane l.grain) m.grain.0) (away_same l m.grain.0 number at other) rooms

write_away : (l : LaneOf) → IsLane l → (number : ℕ) → number % l.lanes ≢ l.lane → (rooms : List Room) (write : Option WritePart) → WriteAt l.grain number write →
    part_of_rooms l (rooms_write (single_lane l.grain) rooms write) ≡ part_of_rooms l rooms
write_away l i number other rooms None at = refl
write_away l i number other rooms (Some part) at =
    reach_away l i part.volume.0 (place_of (single_lane l.grain) (grain_of_block l.grain part.block)) (away_same l (grain_of_block l.grain part.block) number at other) rooms

tear_away : (l : LaneOf) → IsLane l → (number : ℕ) → number % l.lanes ≢ l.lane → (rooms : List Room) (torn : Option Torn) → TornAt number torn →
    part_of_rooms l (rooms_tear (single_lane l.grain) rooms torn) ≡ part_of_rooms l rooms
tear_away l i number other rooms None at = refl
tear_away l i number other rooms (Some torn) at = reach_away l i torn.volume.0 (place_of (single_lane l.grain) torn.grain.0) (away_same l torn.grain.0 number at other) rooms

pub rooms_away : (l : LaneOf) → IsLane l → (number : ℕ) → number % l.lanes ≢ l.lane → (picture : Picture) (rooms : List Room) (write : Option WritePart) (moves : List Move) (torn : Option Torn) →
    WriteAt l.grain number write → MovesAt number moves → TornAt number torn →
    part_of_rooms l (rooms_told (single_lane l.grain) picture rooms write moves torn) ≡ part_of_rooms l rooms
rooms_away l i number other picture rooms write moves torn w m t =
    let all : LaneOf = single_lane l.grain in
    let moved : List Room = fold (rooms_move all picture) rooms moves in
    tear_away l i number other (rooms_write all moved write) torn t
    ∙ (write_away l i number other moved write w
    ∙ moves_unseen (part_of_rooms l) (rooms_move all picture) number (move_away l i number other picture) rooms moves m)
