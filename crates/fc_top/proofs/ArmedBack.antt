-- The armed faults of the disks that come back, lane by lane.
use Rattle.std.proofs.Common.{◌≡◌, ℕ, suc, ◌+◌, ◌<◌, Contains, Option, List, [], ◌∷◌, ◌++◌, length, map, reverse, slice_index_or, sym, ◌∙◌, ap, subst, arith}
use Rattle.std.specs.List.{All, AllPairs}
use Rattle.std.proofs.lemmas.List.{get_or-map, get_or_default, length-map, reverse-append}
use Rattle.std.proofs.lemmas.List.Elements.{All-head, All-tail, Contains-get_or}
use Rattle.std.proofs.lemmas.Simd.{map-map}
use Rattle.fc_base.specs.Tables.{Tables}
use Rattle.fc_base.specs.declared.disk.DiskKind.TheVariants.{Flat}
use Rattle.fc_base.specs.declared.ids.VolId.{VolId}
use Rattle.fc_base.specs.declared.size.GrainSize.{GrainSize}
use Rattle.fc_base.specs.declared.volume.Volume.{Volume}
use Rattle.fc_entry.specs.declared.entry.Entry.{Entry}
use Rattle.fc_grains.proofs.Finding.{volume_of-at}
use Rattle.fc_grains.specs.Grains.{AreAllOf}
use Rattle.fc_grains.specs.Volumes.{VolumeGrains, HoldAll, volume_of}
use Rattle.fc_lane.specs.Lane.{LaneView}
use Rattle.fc_legal.specs.Whole.{Whole, lanes, part_at, volume_told}
use Rattle.fc_mdisk.specs.Disk.{DiskState}
use Rattle.fc_rules.specs.LaneTold.{LaneVolume}
use Rattle.fc_stands.specs.Arming.{IsArmedSince, armed_since}
use Rattle.fc_stands.specs.Quiet.{IsArmedBy}
use Rattle.fc_stands.specs.Store.{IsLaneAt, StandsFor, StoreView}
use Rattle.fc_steps.specs.Standing.{VolumeKind, kind_of_grains, kind_of_told}
use Rattle.fc_lanes.specs.Dealing.{AreByLane}
use Rattle.fc_top.specs.DisksBack.{AreArmedBy, AreOfLane, AreOfLanes}

-- ---- the volumes of a lane

abbrev id_in : VolumeGrains → VolId
id_in v = v.volume

abbrev id_of : Volume → VolId
id_of v = v.id

-- They are those of the table.
same_ids : (grain : GrainSize) (w : Whole) (i : ℕ) (v : LaneView) → IsLaneAt grain w i v → map id_in v.grains.volumes ≡ map id_of w.books.tables.volumes
unfolding part_at
same_ids grain w i v at =
    let volume : VolumeKind → VolId = λ k. k.volume in
    let told : LaneVolume → VolumeKind = kind_of_told in
    sym (map-map volume kind_of_grains v.grains.volumes)
    ∙ ap (map volume) at.stands.lane.parts.beside.same
    ∙ ap (map volume) (map-map told (volume_told w.books.tables) w.books.tables.volumes)
    ∙ map-map volume (λ (x : Volume). told (volume_told w.books.tables x)) w.books.tables.volumes

no_volume : Volume
no_volume = record { id = record { 0 = 0 }; name = []; grains = 0; kind = Flat }

same_id : (vs : List VolumeGrains) (ws : List Volume) → map id_in vs ≡ map id_of ws → (k : ℕ) (d : VolumeGrains) → k < length vs → (slice_index_or vs k d).volume ≡ (slice_index_or ws k no_volume).id
same_id vs ws same k d below =
    let many : length vs ≡ length ws = sym (length-map vs id_in) ∙ ap length same ∙ length-map ws id_of in
    sym (get_or-map id_in vs k d d.volume below)
    ∙ ap (λ (ids : List VolId). slice_index_or ids k d.volume) same
    ∙ get_or-map id_of ws k no_volume d.volume (omega (arith, below, many))

-- So their ids rise.
rises : (vs : List VolumeGrains) (ws : List Volume) → map id_in vs ≡ map id_of ws → AllPairs (λ (x y : Volume). x.id.0 < y.id.0) ws → AllPairs (λ (x y : VolumeGrains). x.volume.0 < y.volume.0) vs
rises vs ws same rising = λ i j d lt inside.
    let many : length vs ≡ length ws = sym (length-map vs id_in) ∙ ap length same ∙ length-map ws id_of in
    let one : (slice_index_or vs i d).volume.0 ≡ (slice_index_or ws i no_volume).id.0 = ap (λ (v : VolId). v.0) (same_id vs ws same i d (omega (arith, lt, inside))) in
    let two : (slice_index_or vs j d).volume.0 ≡ (slice_index_or ws j no_volume).id.0 = ap (λ (v : VolId). v.0) (same_id vs ws same j d inside) in
    let below : (slice_index_or ws i no_volume).id.0 < (slice_index_or ws j no_volume).id.0 = rising i j no_volume lt (omega (arith, inside, many)) in
    omega (arith, one, two, below)

-- ---- volumes and their disks, side by side

-- Of each volume of the table and the armed fault of the lane's volume at its place.
abbrev Beside : (Volume → Option ℕ → Type 0) → List VolumeGrains → List Volume → Type 0
Beside P [] [] = Unit {0}
Beside P (v ∷ vs) (x ∷ xs) = P x v.due × Beside P vs xs
Beside P _ _ = ⊥

beside_from : (P : Volume → Option ℕ → Type 0) (vs : List VolumeGrains) (xs : List Volume) (d : VolumeGrains) → length vs ≡ length xs →
    ((k : ℕ) → k < length vs → P (slice_index_or xs k no_volume) (slice_index_or vs k d).due) → Beside P vs xs
beside_from P [] [] d same each = tt
beside_from P (v ∷ vs) (x ∷ xs) d same each = (each 0 (omega arith), beside_from P vs xs d (omega (arith, same)) (λ k below. each (suc k) (omega (arith, below))))
beside_from P [] (x ∷ xs) d same each = absurd (omega (arith, same))
beside_from P (v ∷ vs) [] d same each = absurd (omega (arith, same))

beside_append : (P : Volume → Option ℕ → Type 0) (vs us : List VolumeGrains) (xs ys : List Volume) → Beside P vs xs → Beside P us ys → Beside P (vs ++ us) (xs ++ ys)
beside_append P [] us [] ys first then = then
beside_append P (v ∷ vs) us (x ∷ xs) ys first then = (first.0, beside_append P vs us xs ys first.1 then)
beside_append P [] us (x ∷ xs) ys first then = absurd first
beside_append P (v ∷ vs) us [] ys first then = absurd first

beside_reverse : (P : Volume → Option ℕ → Type 0) (vs : List VolumeGrains) (xs : List Volume) → Beside P vs xs → Beside P (reverse vs) (reverse xs)
beside_reverse P [] [] beside = tt
beside_reverse P (v ∷ vs) (x ∷ xs) beside =
    let Of : List VolumeGrains → Type 0 = λ us. Beside P us (reverse (x ∷ xs)) in
    let With : List Volume → Type 0 = λ ys. Beside P (reverse vs ++ v ∷ []) ys in
    subst Of (sym (reverse-append (v ∷ []) vs))
    (subst With (sym (reverse-append (x ∷ []) xs)) (beside_append P (reverse vs) (v ∷ []) (reverse xs) (x ∷ []) (beside_reverse P vs xs beside.1) (beside.0, tt)))
beside_reverse P [] (x ∷ xs) beside = absurd beside
beside_reverse P (v ∷ vs) [] beside = absurd beside

held_armed : (entries : List Entry) (lanes lane : ℕ) (vs : List VolumeGrains) (xs : List Volume) (disks : List DiskState) → HoldAll vs disks →
    Beside (λ x due. IsArmedSince (armed_since lane lanes x entries) due) vs xs → AreArmedBy entries lanes lane xs disks
held_armed entries lanes lane [] [] [] held beside = tt
held_armed entries lanes lane (v ∷ vs) (x ∷ xs) (d ∷ ds) held beside =
    (subst (λ (due : Option ℕ). IsArmedSince (armed_since lane lanes x entries) due) (sym held.0.armed) beside.0, held_armed entries lanes lane vs xs ds held.1 beside.1)
held_armed entries lanes lane [] (x ∷ xs) disks held beside = absurd beside
held_armed entries lanes lane (v ∷ vs) [] disks held beside = absurd beside
held_armed entries lanes lane [] [] (d ∷ ds) held beside = absurd held
held_armed entries lanes lane (v ∷ vs) (x ∷ xs) [] held beside = absurd held

-- What is told by ids holds of those at one place.
told_beside : (P : Volume → Option ℕ → Type 0) (vs : List VolumeGrains) (xs : List Volume) → map id_in vs ≡ map id_of xs → AllPairs (λ (x y : Volume). x.id.0 < y.id.0) xs →
    ((x : Volume) → Contains xs x → P x (volume_of vs x.id.0).due) → Beside P vs xs
told_beside P vs xs same rising told =
    let d : VolumeGrains = volume_of [] 0 in
    let many : length vs ≡ length xs = sym (length-map vs id_in) ∙ ap length same ∙ length-map xs id_of in
    beside_from P vs xs d many
    (λ k below.
    let x : Volume = slice_index_or xs k no_volume in
    let under : k < length xs = omega (arith, below, many) in
    let ids : (slice_index_or vs k d).volume ≡ x.id = same_id vs xs same k d below in
    let found : volume_of vs x.id.0 ≡ slice_index_or vs k d =
    volume_of-at vs x.id.0 k d (rises vs xs same rising) below (λ e. ap (λ (v : VolumeGrains). v.volume.0) (get_or_default vs k e d below) ∙ ap (λ (i : VolId). i.0) ids) in
    subst (λ (v : VolumeGrains). P x v.due) found (told x (Contains-get_or xs k no_volume under)))

-- ---- lane by lane

lane_back : (entries : List Entry) (grain : GrainSize) (w : Whole) (i : ℕ) (v : LaneView) (disks : List DiskState) →
    AllPairs (λ (x y : Volume). x.id.0 < y.id.0) w.books.tables.volumes → IsLaneAt grain w i v → IsArmedBy entries w.books.tables.volumes v → AreAllOf v.grains disks →
    AreOfLane entries (lanes w) w.books.tables.volumes i disks
lane_back entries grain w i v disks rising at armed all =
    let vs : List VolumeGrains = v.grains.volumes in
    let xs : List Volume = w.books.tables.volumes in
    let beside = told_beside (λ x due. IsArmedSince (armed_since v.lane v.lanes x entries) due) vs xs (same_ids grain w i v at) rising armed in
    let P : ℕ → Type 0 = λ lane. AreArmedBy entries v.lanes lane (reverse xs) all.own in
    let Q : ℕ → Type 0 = λ many. AreArmedBy entries many i (reverse xs) all.own in
    record {
      own = all.own;
      rest = v.grains.pooled ++ v.grains.aside;
      in_order = all.in_order;
      armed = subst Q at.lanes_are
          (subst P at.lane
          (held_armed entries v.lanes v.lane (reverse vs) (reverse xs) all.own all.held
          (beside_reverse (λ x due. IsArmedSince (armed_since v.lane v.lanes x entries) due) vs xs beside)));
    }

lanes_back : (entries : List Entry) (grain : GrainSize) (w : Whole) (first : ℕ) (ls : List LaneView) (disks : List DiskState) →
    AllPairs (λ (x y : Volume). x.id.0 < y.id.0) w.books.tables.volumes → ((i : ℕ) (d : LaneView) → i < length ls → IsLaneAt grain w (first + i) (slice_index_or ls i d)) →
    All (IsArmedBy entries w.books.tables.volumes) ls → AreByLane ls disks → AreOfLanes entries (lanes w) w.books.tables.volumes first (length ls) disks
lanes_back entries grain w first [] disks rising at armed by_lane = by_lane
lanes_back entries grain w first (v ∷ vs) disks rising at armed by_lane =
    let P : ℕ → Type 0 = λ i. IsLaneAt grain w i v in
    let start : first + 0 ≡ first = omega arith in
    let here : IsLaneAt grain w first v = subst P start (at 0 v (omega arith)) in
    let behind : (i : ℕ) (d : LaneView) → i < length vs → IsLaneAt grain w (first + 1 + i) (slice_index_or vs i d) = λ i d lt.
    let Q : ℕ → Type 0 = λ n. IsLaneAt grain w n (slice_index_or vs i d) in
    let up : first + suc i ≡ first + 1 + i = omega arith in
    subst Q up (at (suc i) d (omega (arith, lt))) in
    let of_v : LaneView → Type 0 = IsArmedBy entries w.books.tables.volumes in (
      by_lane.0,
      by_lane.1,
      by_lane.2,
      lane_back entries grain w first v by_lane.0 rising here (All-head of_v v vs armed) by_lane.3,
      lanes_back entries grain w (first + 1) vs by_lane.1 rising behind (All-tail of_v v vs armed) by_lane.4,
    )

-- The disks that a store gave back.
pub armed_back : (entries : List Entry) (s : StoreView) (w : Whole) → StandsFor s w → (disks : List DiskState) → All (IsArmedBy entries s.control.tables.volumes) s.lanes → AreByLane s.lanes disks →
    AreOfLanes entries (lanes w) w.books.tables.volumes 0 (lanes w) disks
armed_back entries s w stands disks armed by_lane =
    let P : ℕ → Type 0 = λ n. AreOfLanes entries (lanes w) w.books.tables.volumes 0 n disks in
    let Q : Tables → Type 0 = λ t. All (IsArmedBy entries t.volumes) s.lanes in
    let at : (i : ℕ) (d : LaneView) → i < length s.lanes → IsLaneAt s.control.grain w (0 + i) (slice_index_or s.lanes i d) = λ i d lt.
    let R : ℕ → Type 0 = λ n. IsLaneAt s.control.grain w n (slice_index_or s.lanes i d) in
    let same : i ≡ 0 + i = omega arith in
    subst R same (stands.each i d lt) in
    subst P stands.count
    (lanes_back entries s.control.grain w 0 s.lanes disks stands.stands.sound.tables.volumes.rising at (subst Q stands.control.tables armed) by_lane)
