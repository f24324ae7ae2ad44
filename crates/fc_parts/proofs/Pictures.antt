-- What an event does to a lane's part of the plain volumes is the part of what it does to all.
use Rattle.std.proofs.Common.{◌≡◌, ℕ, ◌<◌, Bool, true, false, cond, not, ◌==◌, Option, Some, None, List, [], ◌∷◌, ◌++◌, length, get_or, fold, replicate, option_map, refl, sym, ap, ◌∙◌, arith, inl, inr}
use Rattle.std.proofs.lemmas.List.{map-append}
use Rattle.fc_base.specs.Sheet.{Slot, slot_at, mapping_place}
use Rattle.fc_base.specs.declared.decision.LaneEvent.{LaneEvent}
use Rattle.fc_base.specs.declared.decision.LaneEvent.TheVariants.{Make, Remove, Trigger, Retire, Detach, Force}
use Rattle.fc_base.specs.declared.ids.MapId.{MapId}
use Rattle.fc_base.specs.declared.ids.VolId.{VolId}
use Rattle.fc_base.specs.declared.request.Pair.{Pair}
use Rattle.fc_base.specs.declared.size.GrainSize.{GrainSize}
use Rattle.fc_entry.specs.Picture.{Content, Lost, PlainVolume, Picture, zeros, volume_in, changed_at, content_at, now_at}
use Rattle.fc_entry.specs.PlainStep.{source_in, now_in, after_trigger}
use Rattle.fc_legal.proofs.Events.{all_in}
use Rattle.fc_legal.specs.Whole.{part, part_of_volume, part_of_picture, single_lane}
use Rattle.fc_moves.proofs.Search.{cases_option}
use Rattle.fc_pictures.proofs.Volumes.{length_cut}
use Rattle.fc_pick.proofs.Rows.{map-filter}
use Rattle.fc_rules.specs.LaneTold.{LaneOf, number_at, grains_in, place_of, cut_by, cut_volume, cut_at, leaves, picture_event}
use Rattle.fc_parts.proofs.Lists.{all_seen}
use Rattle.fc_parts.proofs.Numbers.{IsLane, IsOf, number_below, all_place, part_length, part_at, part_at_grain, is_part, part_replicate}
use Rattle.fc_parts.proofs.Views.{parts, part_nil, slot_parts, mapping_parts}

-- ---- volumes by their ids

pub volume_parts : (l : LaneOf) (picture : Picture) (id : VolId) → volume_in (part_of_picture l picture) id ≡ option_map (part_of_volume l) (volume_in picture id)
volume_parts l [] id = refl
volume_parts l (v ∷ vs) id = by_test (v.volume.0 == id.0) (volume_parts l vs id)
  where
    by_test : (b : Bool) → volume_in (part_of_picture l vs) id ≡ option_map (part_of_volume l) (volume_in vs id) →
        cond b (Some (part_of_volume l v)) (volume_in (part_of_picture l vs) id) ≡ option_map (part_of_volume l) (cond b (Some v) (volume_in vs id))
    by_test true rest = refl
    by_test false rest = rest

pub changed_parts : (l : LaneOf) (id : VolId) (f f' : PlainVolume → PlainVolume) → ((v : PlainVolume) → part_of_volume l (f v) ≡ f' (part_of_volume l v)) → (picture : Picture) →
    part_of_picture l (changed_at id f picture) ≡ changed_at id f' (part_of_picture l picture)
changed_parts l id f f' agrees picture =
    all_seen (part_of_volume l) (λ v. cond (v.volume.0 == id.0) (f v) v) (λ v. cond (v.volume.0 == id.0) (f' v) v) (λ v. by_test (v.volume.0 == id.0) v) picture
  where
    by_test : (b : Bool) (v : PlainVolume) → part_of_volume l (cond b (f v) v) ≡ cond b (f' (part_of_volume l v)) (part_of_volume l v)
    by_test true v = agrees v
    by_test false v = refl

-- ---- what a volume shows at a grain of the lane

shown_of_part : (l : LaneOf) → IsLane l → (o : Option PlainVolume) (number : ℕ) → IsOf l number → now_at (option_map (part_of_volume l) o) (place_of l number) ≡ now_at o (place_of (single_lane l.grain) number)
shown_of_part l i None number is_of = refl
shown_of_part l i (Some v) number is_of = part_at_grain l i Lost v.now number Lost is_of ∙ ap (content_at v.now) (sym (all_place l.grain number))

pub shown_parts : (l : LaneOf) → IsLane l → (picture : Picture) (number : ℕ) → IsOf l number → (id : VolId) →
    now_at (volume_in (part_of_picture l picture) id) (place_of l number) ≡ now_at (volume_in picture id) (place_of (single_lane l.grain) number)
shown_parts l i picture number is_of id = ap (λ o. now_at o (place_of l number)) (volume_parts l picture id) ∙ shown_of_part l i (volume_in picture id) number is_of

-- ---- a volume comes or goes

abbrev zero_volume : VolId → GrainSize → ℕ → PlainVolume
zero_volume id grain grains = record { volume = id; now = replicate grains (zeros grain); under = replicate grains (zeros grain) }

zeros_part : (l : LaneOf) → IsLane l → (id : VolId) (grains : ℕ) → part_of_volume l (zero_volume id l.grain (grains_in (single_lane l.grain) grains)) ≡ zero_volume id l.grain (grains_in l grains)
zeros_part l i id grains =
    ap (λ (f : ℕ → ℕ). part_of_volume l (zero_volume id l.grain (f grains))) (all_in l.grain)
    ∙ ap (λ (z : List Content). let v : PlainVolume = record { volume = id; now = z; under = z } in v) (sym (part_replicate l i Lost grains (zeros l.grain)))

-- ---- a trigger

now_some : (picture : Picture) (id : VolId) (p : PlainVolume) → volume_in picture id ≡ Some p → now_in picture id ≡ p.now
now_some picture id p e = rw e refl

now_none : (picture : Picture) (id : VolId) → volume_in picture id ≡ None → now_in picture id ≡ []
now_none picture id e = rw e refl

now_parts : (l : LaneOf) → IsLane l → (picture : Picture) (id : VolId) → part l Lost (now_in picture id) ≡ now_in (part_of_picture l picture) id
now_parts l i picture id =
    elim (cases_option (volume_in picture id)) [
      | inl none ↦ ap (part l Lost) (now_none picture id none)
          ∙ (part_nil l i Lost ∙ sym (now_none (part_of_picture l picture) id (volume_parts l picture id ∙ ap (option_map (part_of_volume l)) none)))
      | inr some ↦ ap (part l Lost) (now_some picture id some.0 some.1)
          ∙ sym (now_some (part_of_picture l picture) id (part_of_volume l some.0) (volume_parts l picture id ∙ ap (option_map (part_of_volume l)) some.1))
    ]

trigger_none : (old : Picture) (pairs : List Pair) (v : PlainVolume) → source_in pairs v.volume ≡ None → after_trigger old pairs v ≡ v
trigger_none old pairs v e = rw e refl

abbrev copied_from : List Content → PlainVolume → PlainVolume
copied_from now v = record v { now = now; under = v.now }

trigger_some : (old : Picture) (pairs : List Pair) (v : PlainVolume) (source : VolId) → source_in pairs v.volume ≡ Some source → after_trigger old pairs v ≡ copied_from (now_in old source) v
trigger_some old pairs v source e = rw e refl

trigger_part : (l : LaneOf) → IsLane l → (old : Picture) (pairs : List Pair) (v : PlainVolume) → part_of_volume l (after_trigger old pairs v) ≡ after_trigger (part_of_picture l old) pairs (part_of_volume l v)
trigger_part l i old pairs v =
    elim (cases_option (source_in pairs v.volume)) [
      | inl none ↦ ap (part_of_volume l) (trigger_none old pairs v none) ∙ sym (trigger_none (part_of_picture l old) pairs (part_of_volume l v) none)
      | inr some ↦ ap (part_of_volume l) (trigger_some old pairs v some.0 some.1)
          ∙ (ap (λ z. copied_from z (part_of_volume l v)) (now_parts l i old some.0) ∙ sym (trigger_some (part_of_picture l old) pairs (part_of_volume l v) some.0 some.1))
    ]

-- ---- a slot that leaves

same_ways : {X : Type 0} → (b : Bool) (x : X) → x ≡ cond b x x
same_ways true x = refl
same_ways false x = refl

-- what is left at a grain
left_at : (held : List Bool) (now under : List Content) (g : ℕ) (d : Content) → g < length now →
    get_or (cut_by held now under) g d ≡ cond (get_or held g true) (get_or now g d) (get_or under g (get_or now g d))
left_at [] now under g d lt = refl
left_at (b ∷ held) [] under g d lt = absurd (omega arith)
left_at (true ∷ held) (x ∷ now) [] ℕ.zero d lt = refl
left_at (false ∷ held) (x ∷ now) [] ℕ.zero d lt = refl
left_at (true ∷ held) (x ∷ now) [] (ℕ.suc g) d lt = same_ways (get_or held g true) (get_or now g d)
left_at (false ∷ held) (x ∷ now) [] (ℕ.suc g) d lt = same_ways (get_or held g true) (get_or now g d)
left_at (true ∷ held) (x ∷ now) (y ∷ under) ℕ.zero d lt = refl
left_at (false ∷ held) (x ∷ now) (y ∷ under) ℕ.zero d lt = refl
left_at (true ∷ held) (x ∷ now) (y ∷ under) (ℕ.suc g) d lt = left_at held now under g d (omega arith)
left_at (false ∷ held) (x ∷ now) (y ∷ under) (ℕ.suc g) d lt = left_at held now under g d (omega arith)

cut_parts : (l : LaneOf) → IsLane l → (held : List Bool) (now under : List Content) →
    part l Lost (cut_by held now under) ≡ cut_by (part l false held) (part l Lost now) (part l Lost under)
cut_parts l i held now under =
    let ph : List Bool = part l false held in
    let pn : List Content = part l Lost now in
    let pu : List Content = part l Lost under in
    let cut : length (cut_by ph pn pu) ≡ length pn = length_cut ph pn pu in
    let n : length pn ≡ grains_in l (length now) = part_length l Lost now in
    sym (is_part l i Lost (cut_by held now under) (cut_by ph pn pu)
    (cut ∙ (n ∙ ap (grains_in l) (sym (length_cut held now under))))
    (λ p e lt. left_at ph pn pu p e (omega arith)
    ∙ (ap (λ b. cond b (get_or pn p e) (get_or pu p (get_or pn p e))) (part_at l i false held p true)
    ∙ (ap (λ (x : Content). cond (get_or held (number_at l p) true) x (get_or pu p x)) (part_at l i Lost now p e)
    ∙ (ap (λ (x : Content). cond (get_or held (number_at l p) true) (get_or now (number_at l p) e) x) (part_at l i Lost under p (get_or now (number_at l p) e))
    ∙ sym (left_at held now under (number_at l p) e (number_below l i p (length now) (omega arith))))))))

cut_part : (l : LaneOf) → IsLane l → (held : List Bool) (v : PlainVolume) → part_of_volume l (cut_volume held v) ≡ cut_volume (part l false held) (part_of_volume l v)
cut_part l i held v = ap (λ (z : List Content). record (part_of_volume l v) { now = z }) (cut_parts l i held v.now v.under)

cut_slot : (l : LaneOf) → IsLane l → (t : Slot) (picture : Picture) →
    part_of_picture l (cond t.is_live (changed_at record { 0 = t.volume } (cut_volume t.held) picture) picture)
    ≡ cond t.is_live (changed_at record { 0 = t.volume } (cut_volume (part l false t.held)) (part_of_picture l picture)) (part_of_picture l picture)
cut_slot l i t picture = by_test t.is_live
  where
    by_test : (b : Bool) → part_of_picture l (cond b (changed_at record { 0 = t.volume } (cut_volume t.held) picture) picture)
        ≡ cond b (changed_at record { 0 = t.volume } (cut_volume (part l false t.held)) (part_of_picture l picture)) (part_of_picture l picture)
    by_test true = changed_parts l record { 0 = t.volume } (cut_volume t.held) (cut_volume (part l false t.held)) (cut_part l i t.held) picture
    by_test false = refl

cut_at_parts : (l : LaneOf) → IsLane l → (slots : List Slot) (o : Option ℕ) (picture : Picture) → part_of_picture l (cut_at slots o picture) ≡ cut_at (parts l slots) o (part_of_picture l picture)
cut_at_parts l i slots None picture = refl
cut_at_parts l i slots (Some k) picture =
    cut_slot l i (slot_at slots k) picture
    ∙ ap (λ (t : Slot). cond t.is_live (changed_at record { 0 = t.volume } (cut_volume t.held) (part_of_picture l picture)) (part_of_picture l picture)) (sym (slot_parts l i slots k))

leaves_parts : (l : LaneOf) → IsLane l → (slots : List Slot) (picture : Picture) (m : MapId) → part_of_picture l (leaves slots picture m) ≡ leaves (parts l slots) (part_of_picture l picture) m
leaves_parts l i slots picture m =
    cut_at_parts l i slots (mapping_place slots m.0) picture ∙ ap (λ o. cut_at (parts l slots) o (part_of_picture l picture)) (sym (mapping_parts l i slots m.0))

all_leave : (l : LaneOf) → IsLane l → (slots : List Slot) (picture : Picture) (ms : List MapId) → part_of_picture l (fold (leaves slots) picture ms) ≡ fold (leaves (parts l slots)) (part_of_picture l picture) ms
all_leave l i slots picture [] = refl
all_leave l i slots picture (m ∷ ms) = all_leave l i slots (leaves slots picture m) ms ∙ ap (λ (z : Picture). fold (leaves (parts l slots)) z ms) (leaves_parts l i slots picture m)

-- ---- the events

pub picture_agrees : (l : LaneOf) → IsLane l → (slots : List Slot) (picture : Picture) (e : LaneEvent) →
    part_of_picture l (picture_event (single_lane l.grain) slots picture e) ≡ picture_event l (parts l slots) (part_of_picture l picture) e
picture_agrees l i slots picture (Make volume grains kind) =
    map-append (part_of_volume l) picture (zero_volume volume l.grain (grains_in (single_lane l.grain) grains) ∷ [])
    ∙ ap (λ z. part_of_picture l picture ++ z ∷ []) (zeros_part l i volume grains)
picture_agrees l i slots picture (Remove volume) = map-filter (part_of_volume l) (λ (v : PlainVolume). not (v.volume.0 == volume.0)) picture
picture_agrees l i slots picture (Trigger pairs) =
    all_seen (part_of_volume l) (after_trigger picture pairs) (after_trigger (part_of_picture l picture) pairs) (trigger_part l i picture pairs) picture
picture_agrees l i slots picture (Retire m) = leaves_parts l i slots picture m
picture_agrees l i slots picture (Detach m) = leaves_parts l i slots picture m
picture_agrees l i slots picture (Force m dependents) =
    all_leave l i slots (leaves slots picture m) dependents ∙ ap (λ (z : Picture). fold (leaves (parts l slots)) z dependents) (leaves_parts l i slots picture m)
picture_agrees l i slots picture e = refl
