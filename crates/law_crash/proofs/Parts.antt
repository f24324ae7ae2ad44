-- What disks show of all grains, those of a lane show at its own.
use Rattle.std.proofs.Common.{◌≡◌, ℕ, ◌<◌, false, cond, Option, List, length, IsSome, option_map, refl, sym, ap, subst, ◌∙◌, arith}
use Rattle.fc_base.specs.Column.{Column, holder}
use Rattle.fc_base.specs.Sheet.{Slot, slot_at, live_place}
use Rattle.fc_base.specs.declared.size.GrainSize.{GrainSize}
use Rattle.fc_entry.specs.Picture.{Content, Lost, PlainVolume, Picture, volume_in}
use Rattle.fc_legal.specs.Whole.{Whole, part_of_volume, part_of_picture, lanes, lane_of_grain, lane_at}
use Rattle.fc_parts.proofs.Numbers.{IsLane, number_below, part_length, part_at, number_is_of, place_of_number}
use Rattle.fc_parts.proofs.Pictures.{volume_parts}
use Rattle.fc_parts.proofs.Views.{parts, count_parts, slot_parts, held_parts, column_parts, live_parts, size_parts}
use Rattle.fc_pictures.proofs.Volumes.{id_of, map_from, apart_map}
use Rattle.fc_rules.specs.LaneTold.{LaneOf, number_at, grains_in, place_of}
use Rattle.fc_rules.specs.Shows.{Stored, Shown, Shows}
use Rattle.fc_kept.specs.Disks.{disk_of, on_disk, stored_on}
use Rattle.fc_kept.specs.Kept.{is_lost_in}
use Rattle.fc_kept.specs.Recoverable.{disks_at}
use Rattle.law_crash.specs.Points.{Point, stored_by}

-- ---- one lane

-- what it stores is what is stored by the numbers of its grains
abbrev pub IsPart : LaneOf → Stored → Stored → Type 0
IsPart l stored own = (v p : ℕ) → own v p ≡ stored v (number_at l p)

shown_part : (l : LaneOf) → IsLane l → (slots : List Slot) (picture : Picture) (stored own : Stored) (k : ℕ) → IsPart l stored own → Shown slots picture stored k → Shown (parts l slots) (part_of_picture l picture) own k
shown_part l i slots picture stored own k is x =
    let new : List Slot = parts l slots in
    let at : (j : ℕ) → (slot_at new j).volume ≡ (slot_at slots j).volume = λ (j : ℕ). ap (λ (t : Slot). t.volume) (slot_parts l i slots j) in
    let size : length (slot_at new k).held ≡ grains_in l (length (slot_at slots k).held) = size_parts l i slots k in
    let nows : length x.plain.now ≡ length (slot_at slots k).held = x.nows in
    let unders : length x.plain.under ≡ length (slot_at slots k).held = x.unders in
    record {
      plain = part_of_volume l x.plain;
      there = ap (λ (v : ℕ). volume_in (part_of_picture l picture) (id_of v)) (at k)
          ∙ (volume_parts l picture (id_of (slot_at slots k).volume) ∙ ap (option_map (part_of_volume l)) x.there);
      nows = part_length l Lost x.plain.now ∙ (ap (grains_in l) x.nows ∙ sym size);
      unders = part_length l Lost x.plain.under ∙ (ap (grains_in l) x.unders ∙ sym size);
      now = λ g h gl e. part_at l i Lost x.plain.now g Lost
          ∙ (x.now (number_at l g) h (number_below l i g (length (slot_at slots k).held) (omega (arith, gl, size))) (ap (λ (c : Column). holder c k) (sym (column_parts l i slots g)) ∙ e)
          ∙ (sym (is (slot_at slots h).volume g) ∙ ap (λ (v : ℕ). own v g) (sym (at h))));
      under = λ g gl e. part_at l i Lost x.plain.under g Lost
          ∙ (x.under (number_at l g) (number_below l i g (length (slot_at slots k).held) (omega (arith, gl, size))) (sym (held_parts l i slots k g false) ∙ e)
          ∙ (sym (is (slot_at slots k).volume g) ∙ ap (λ (v : ℕ). own v g) (sym (at k))));
    }

pub parts_show : (l : LaneOf) → IsLane l → (slots : List Slot) (picture : Picture) (stored own : Stored) → IsPart l stored own → Shows slots picture stored → Shows (parts l slots) (part_of_picture l picture) own
parts_show l i slots picture stored own is w =
    let new : List Slot = parts l slots in
    let keeps : (p : PlainVolume) → (part_of_volume l p).volume.0 ≡ p.volume.0 = λ (p : PlainVolume). refl in
    record {
      each = λ k kl live. shown_part l i slots picture stored own k is
          (w.each k (subst (λ (n : ℕ). k < n) (count_parts l slots) kl) (sym (ap (λ (t : Slot). t.is_live) (slot_parts l i slots k)) ∙ live));
      only = λ q cq.
          let p = map_from (part_of_volume l) picture q cq in
          let same : p.0.volume.0 ≡ q.volume.0 = ap (λ (z : PlainVolume). z.volume.0) p.2 in
          subst (λ (o : Option ℕ). IsSome o) (sym (live_parts l i slots q.volume.0))
          (subst (λ (v : ℕ). IsSome (live_place slots v)) same (w.only p.0 p.1));
      apart = apart_map (part_of_volume l) keeps picture w.apart;
    }

-- ---- all lanes

lane_number : (grain : GrainSize) (w : Whole) (i : ℕ) → i < lanes w → (p : ℕ) → (lane_of_grain w (number_at (lane_at grain w i) p) ≡ i) × (place_of (lane_at grain w i) (number_at (lane_at grain w i) p) ≡ p)
lane_number grain w i il p = (number_is_of (lane_at grain w i) il p, place_of_number (lane_at grain w i) il p)

pub is_part : (grain : GrainSize) (w : Whole) (p : Point) (i : ℕ) → i < lanes w → IsPart (lane_at grain w i) (stored_by grain w p) (stored_on (lane_at grain w i) (disks_at p.disks i) p.kept)
is_part grain w p i il v y =
    let l : LaneOf = lane_at grain w i in
    let n : ℕ = number_at l y in
    let at = lane_number grain w i il y in
    let content : ℕ → ℕ → Content = λ (j z : ℕ). cond (is_lost_in p.kept.lost v n) Lost (on_disk (lane_at grain w j) (disk_of (disks_at p.disks j) v) z) in
    ap (λ (z : ℕ). content i z) (sym at.1) ∙ ap (λ (j : ℕ). content j (place_of (lane_at grain w j) n)) (sym at.0)
