-- Disks go along with what a lane holds, where the bytes of one grain changed, or it was torn.
use Rattle.std.proofs.Common.{◌≡◌, ◌≢◌, ◌⊎◌, ℕ, ◌<◌, ◌%◌, Bool, true, false, List, map, refl, sym, ap, ◌∙◌, inl, inr}
use Rattle.std.proofs.lemmas.Bool.{cases_eq}
use Rattle.fc_base.specs.Tables.{Tables}
use Rattle.fc_base.specs.declared.ids.VolId.{VolId}
use Rattle.fc_base.specs.declared.size.GrainSize.{GrainSize}
use Rattle.fc_entry.specs.Picture.{Content, Bytes, Lost}
use Rattle.fc_grains.specs.Grains.{GrainsState}
use Rattle.fc_grains.specs.Volumes.{stored}
use Rattle.fc_kept.specs.Disks.{NamedDisk, disk_of, on_disk}
use Rattle.fc_kept.specs.Images.{size_in}
use Rattle.fc_kept.specs.Kept.{Kept, LostGrains, is_lost_in, lost_put}
use Rattle.fc_kept.specs.Recoverable.{disks_at}
use Rattle.fc_kept.specs.Sound.{AreLost}
use Rattle.fc_legal.specs.Whole.{Whole, lane_at, lane_of_grain, lanes}
use Rattle.fc_parts.proofs.Numbers.{number_is_of, number_of_place, place_of_number}
use Rattle.fc_pictures.specs.Law.{StoredAt}
use Rattle.fc_rules.specs.LaneTold.{LaneOf, number_at, place_of}
use Rattle.law_crash.specs.Doing.{IsWritten}
use Rattle.law_crash.specs.Points.{on_disks}
use Rattle.law_crash.proofs.Lost.{SameElsewhere, lost_by_tables, lost_elsewhere}
use Rattle.law_noted.specs.DataSteps.{Along}

-- what a lane's disks have at a place is what all disks have at its number
on_lane : (grain : GrainSize) (w : Whole) (ds : List (List NamedDisk)) (i : ℕ) → i < lanes w → (v y : ℕ) →
    let l : LaneOf = lane_at grain w i in
    on_disk l (disk_of (disks_at ds i) v) y ≡ on_disks grain w ds v (number_at l y)
on_lane grain w ds i il v y =
    let l : LaneOf = lane_at grain w i in
    let n : ℕ = number_at l y in
    let content : ℕ → ℕ → Content = λ (j z : ℕ). on_disk (lane_at grain w j) (disk_of (disks_at ds j) v) z in
    ap (λ (z : ℕ). content i z) (sym (place_of_number l il y)) ∙ ap (λ (j : ℕ). content j (place_of (lane_at grain w j) n)) (sym (number_is_of l il y))

-- nothing changed
pub along_still : (l : LaneOf) (k : Kept) (old new : GrainsState) (ds : List NamedDisk) → ((v y : ℕ) → stored new.volumes v y ≡ stored old.volumes v y) → Along l k k old new ds ds
along_still l k old new ds same v y whole = inl (whole, refl, same v y)

-- ---- one grain changed, of volume `v` with number `g`

module _ (grain : GrainSize) (w : Whole) (v g : ℕ) (b : Bool) (k k' : Kept) (ds ds' : List (List NamedDisk))
    (lost : k'.lost ≡ map (lost_put v g b) k.lost) (elsewhere : SameElsewhere (on_disks grain w ds) v g (on_disks grain w ds')) where
  -- at another grain
  along_else : (i : ℕ) → i < lanes w → (old new : GrainsState) (x y : ℕ) → (x ≢ v) ⊎ (number_at (lane_at grain w i) y ≢ g) → stored new.volumes x y ≡ stored old.volumes x y →
      is_lost_in k'.lost x (number_at (lane_at grain w i) y) ≡ false →
      (is_lost_in k.lost x (number_at (lane_at grain w i) y) ≡ false)
      × (on_disk (lane_at grain w i) (disk_of (disks_at ds' i) x) y ≡ on_disk (lane_at grain w i) (disk_of (disks_at ds i) x) y) × (stored new.volumes x y ≡ stored old.volumes x y)
  along_else i il old new x y other same whole =
      let n : ℕ = number_at (lane_at grain w i) y in (
        sym (lost_elsewhere v g b k.lost x n other) ∙ (ap (λ (z : List LostGrains). is_lost_in z x n) (sym lost) ∙ whole),
        on_lane grain w ds' i il x y ∙ (elsewhere x n other ∙ sym (on_lane grain w ds i il x y)),
        same,
      )

  -- so it is in other lanes
  pub along_others : (place i : ℕ) (still : GrainsState) → lane_of_grain w g ≡ place → i < lanes w → i ≢ place → Along (lane_at grain w i) k k' still still (disks_at ds i) (disks_at ds' i)
  along_others place i still is_of il ne x y whole =
      inl (along_else i il still still x y (inr (λ e. ne (sym (number_is_of (lane_at grain w i) il y) ∙ (ap (λ (z : ℕ). z % lanes w) e ∙ is_of)))) refl whole)

  -- in its lane, where at that grain something is so
  abbrev Here : ℕ → GrainsState → Type 0
  Here place new =
      let l : LaneOf = lane_at grain w place in
      is_lost_in k'.lost v g ≡ false → stored new.volumes v (place_of l g) ≡ on_disks grain w ds' v g

  along_lane : (place : ℕ) (old new : GrainsState) → lane_of_grain w g ≡ place → place < lanes w →
      SameElsewhere (stored old.volumes) v (place_of (lane_at grain w place) g) (stored new.volumes) → Here place new →
      Along (lane_at grain w place) k k' old new (disks_at ds place) (disks_at ds' place)
  along_lane place old new is_of pl same here x y whole =
      let l : LaneOf = lane_at grain w place in
      let n : ℕ = number_at l y in
      elim (cases_eq x v) [
        | inr ne ↦ inl (along_else place pl old new x y (inl ne) (same x y (inl ne)) whole)
        | inl e ↦ elim (cases_eq n g) [
          | inr ne ↦ inl (along_else place pl old new x y (inr ne)
              (same x y (inr (λ q. ne (ap (number_at l) q ∙ number_of_place l g is_of)))) whole)
          | inl q ↦
              let at : y ≡ place_of l g = sym (place_of_number l pl y) ∙ ap (place_of l) q in
              let lost_not : is_lost_in k'.lost v g ≡ false = (λ i. is_lost_in k'.lost (sym e i) (sym q i)) ∙ whole in
              inr ((λ i. stored new.volumes (e i) (at i))
              ∙ (here lost_not ∙ ((λ i. on_disks grain w ds' (sym e i) (sym q i)) ∙ sym (on_lane grain w ds' place pl x y))))
        ]
      ]

-- its bytes are written
pub along_put : (grain : GrainSize) (w : Whole) (place v g : ℕ) (bytes : List ℕ) (k k' : Kept) (old new : GrainsState) (ds ds' : List (List NamedDisk)) → IsWritten grain w v g (Bytes bytes) ds ds' →
    lane_of_grain w g ≡ place → place < lanes w → StoredAt (stored old.volumes) v (place_of (lane_at grain w place) g) (Bytes bytes) (stored new.volumes) → k'.lost ≡ map (lost_put v g false) k.lost →
    Along (lane_at grain w place) k k' old new (disks_at ds place) (disks_at ds' place)
along_put grain w place v g bytes k k' old new ds ds' x is_of pl st lost =
    along_lane grain w v g false k k' ds ds' lost x.stored.elsewhere place old new is_of pl st.elsewhere (λ e. st.here ∙ sym x.stored.here)

-- it is torn
pub along_torn : (grain : GrainSize) (w : Whole) (place v g : ℕ) (t : Tables) (k k' : Kept) (old new : GrainsState) (ds : List (List NamedDisk)) → AreLost t k.lost →
    (let id : VolId = record { 0 = v } in g < size_in t id) → lane_of_grain w g ≡ place → place < lanes w →
    StoredAt (stored old.volumes) v (place_of (lane_at grain w place) g) Lost (stored new.volumes) → k'.lost ≡ map (lost_put v g true) k.lost →
    Along (lane_at grain w place) k k' old new (disks_at ds place) (disks_at ds place)
along_torn grain w place v g t k k' old new ds all inside is_of pl st lost =
    let known : is_lost_in k'.lost v g ≡ true = ap (λ (z : List LostGrains). is_lost_in z v g) lost ∙ lost_by_tables t k.lost v g all inside in
    along_lane grain w v g true k k' ds ds lost (λ x y other. refl) place old new is_of pl st.elsewhere (λ e. absurd (let f : true ≡ false = sym known ∙ e in cc))
