-- What metadata and disks show is what plain volumes hold, but for the one grain.
use Rattle.std.proofs.Common.{◌≡◌, ℕ, ◌%◌, ◌<◌, Option, Some, List, length, refl, sym, ap, subst, ◌∙◌, arith, Contains}
use Rattle.std.proofs.Math.Nat.{mod-lt}
use Rattle.fc_base.specs.Column.{Column, holder}
use Rattle.fc_base.specs.Sheet.{Slot, slot_at, column, live_place}
use Rattle.fc_base.specs.declared.ids.VolId.{VolId}
use Rattle.fc_base.specs.declared.size.GrainSize.{GrainSize}
use Rattle.fc_base.specs.declared.volume.Volume.{Volume}
use Rattle.fc_entry.specs.Picture.{PlainVolume, Picture, volume_in, now_at}
use Rattle.fc_kept.specs.Disks.{NamedDisk, stored_on}
use Rattle.fc_kept.specs.Kept.{Kept}
use Rattle.fc_kept.specs.OneGrain.{Another, with_another}
use Rattle.fc_kept.specs.Recoverable.{disks_at}
use Rattle.fc_legal.specs.Whole.{Whole, part_of_picture}
use Rattle.fc_rules.specs.LaneTold.{LaneOf, place_of, grains_in}
use Rattle.fc_rules.specs.Shows.{Stored, Shown, Shows}
use Rattle.fc_parts.proofs.Numbers.{IsLane, IsOf, number_of_place, grain_below, all_place}
use Rattle.fc_parts.proofs.Pictures.{shown_parts}
use Rattle.fc_parts.proofs.Views.{parts, slot_parts, count_parts, column_parts, size_parts}
use Rattle.fc_sheets.proofs.Finding.{live_place_at}
use Rattle.fc_recovered.specs.Recovered.{RecoversTo}
use Rattle.fc_recovered.specs.Showing.{holder_for, shown_by, shown_at}

-- in the lane of a grain, what the live slot's holder stores there is what its volume holds
lane_shows : (l : LaneOf) → IsLane l → (slots : List Slot) (picture : Picture) (stored : Stored) → Shows (parts l slots) (part_of_picture l picture) stored →
    (id : VolId) (number t h : ℕ) → IsOf l number → live_place slots id.0 ≡ Some t → holder (column slots number) t ≡ Some h → number < length (slot_at slots t).held →
    stored (slot_at slots h).volume (place_of l number) ≡ now_at (volume_in picture id) number
lane_shows l i slots picture stored shows id number t h is_of live holds within =
    let at = live_place_at slots id.0 t live in
    let count : length (parts l slots) ≡ length slots = count_parts l slots in
    let below : t < length slots = at.there in
    let seen : Shown (parts l slots) (part_of_picture l picture) stored t =
    shows.each t (omega arith) (ap (λ (z : Slot). z.is_live) (slot_parts l i slots t) ∙ at.is_live) in
    let size : length (slot_at (parts l slots) t).held ≡ grains_in l (length (slot_at slots t).held) = size_parts l i slots t in
    let inside : place_of l number < grains_in l (length (slot_at slots t).held) = grain_below l i number (length (slot_at slots t).held) is_of within in
    let column_is : column (parts l slots) (place_of l number) ≡ column slots number =
    column_parts l i slots (place_of l number) ∙ ap (column slots) (number_of_place l number is_of) in
    let holds_too : holder (column (parts l slots) (place_of l number)) t ≡ Some h = ap (λ (c : Column). holder c t) column_is ∙ holds in
    let own : (slot_at (parts l slots) t).volume ≡ id.0 = ap (λ (z : Slot). z.volume) (slot_parts l i slots t) ∙ at.of_volume in
    let there : volume_in (part_of_picture l picture) id ≡ Some seen.plain =
    ap (λ (v : ℕ). let w : VolId = record { 0 = v } in volume_in (part_of_picture l picture) w) (sym own) ∙ seen.there in
    ap (λ (z : Slot). stored z.volume (place_of l number)) (sym (slot_parts l i slots h))
    ∙ (sym (seen.now (place_of l number) h (omega arith) holds_too)
    ∙ (ap (λ (o : Option PlainVolume). now_at o (place_of l number)) (sym there)
    ∙ (shown_parts l i picture number is_of id ∙ ap (now_at (volume_in picture id)) (all_place l.grain number))))

abbrev numbered : GrainSize → ℕ → ℕ → LaneOf
numbered grain i n = record { lane = i; lanes = n; grain = grain }

pub stands_shown : (grain : GrainSize) (disks : List (List NamedDisk)) (k : Kept) (now : Whole) (one : Option Another) → RecoversTo grain disks k now one → 0 < length disks →
    (v : Volume) → Contains k.tables.volumes v → (number : ℕ) → number < v.grains →
    shown_at grain disks k v.id.0 number ≡ now_at (volume_in (with_another one k.sheet.slots now.picture) v.id) number
stands_shown grain disks k now one s some v c number lt =
    let n : ℕ = length disks in
    let i : ℕ = number % n in
    let il : i < length disks = mod-lt number some in
    let slots : List Slot = k.sheet.slots in
    let picture : Picture = with_another one slots now.picture in
    let p = s.says.sound.books.agree.volumes v c in
    let t : ℕ = p.0 in
    let at = live_place_at slots v.id.0 t p.1 in
    let size : length (slot_at slots t).held ≡ v.grains = p.2 in
    let within : number < length (slot_at slots t).held = omega arith in
    let q = s.says.sound.books.sheet.holders number t at.there at.is_live within in
    let shows : Shows (parts (numbered grain i n) slots) (part_of_picture (numbered grain i n) picture) (stored_on (numbered grain i n) (disks_at disks i) k) =
    subst (λ (x : ℕ). Shows (parts (numbered grain i x) slots) (part_of_picture (numbered grain i x) picture) (stored_on (numbered grain i x) (disks_at disks i) k))
    (sym s.says.count) (s.shows i il) in
    ap (λ (o : Option ℕ). shown_by grain disks k number (holder_for slots number o)) p.1
    ∙ (ap (shown_by grain disks k number) q.1
    ∙ lane_shows (numbered grain i n) il slots picture (stored_on (numbered grain i n) (disks_at disks i) k) shows v.id number t q.0 refl p.1 q.1 within)
