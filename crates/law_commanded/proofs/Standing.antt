-- What a lane that stands has of the tables.
use Rattle.std.specs.List.{filter}
use Rattle.std.proofs.Common.{◌≡◌, ℕ, ◌<◌, List, length, map, Contains, sym, ap, subst, ◌∙◌, cond, Bool, inl, inr, refl, [], ◌∷◌, arith}
use Rattle.std.proofs.lemmas.Bool.{eq-eqb, ne_eqb}
use Rattle.fc_base.specs.Sheet.{Slot, slot_at}
use Rattle.fc_base.specs.Tables.{Tables}
use Rattle.fc_base.specs.declared.disk.DiskKind.{DiskKind}
use Rattle.fc_base.specs.declared.size.GrainSize.{GrainSize}
use Rattle.fc_base.specs.declared.volume.Volume.{Volume}
use Rattle.fc_books.specs.Sound.{AreSound}
use Rattle.fc_decided.proofs.Lists.{in_cases, map_from, map_in, none_in}
use Rattle.fc_grains.specs.Grains.{GrainsState}
use Rattle.fc_grains.specs.Volumes.{VolumeGrains, volume_of}
use Rattle.fc_lane.specs.Lane.{LaneView}
use Rattle.fc_legal.specs.Whole.{Whole, lane_at, lanes, part_of_sheet, pool_at, volume_told, volumes_told}
use Rattle.fc_pick.proofs.Rising.{IsAbove, Rises, rises}
use Rattle.fc_parts.proofs.Decisions.{pool_of_part}
use Rattle.fc_parts.proofs.Told.{part_is}
use Rattle.fc_parts.proofs.Views.{count_parts, size_parts, slot_parts}
use Rattle.fc_rules.specs.LaneTold.{LaneOf, LaneTold, LaneVolume, grains_in}
use Rattle.fc_sheets.proofs.Finding.{LiveAt, live_place_at}
use Rattle.fc_stands.specs.Store.{IsLaneAt}
use Rattle.fc_steps.specs.Standing.{HasGrains, VolumeKind, kind_of_grains, kind_of_told}
use Rattle.fc_held.proofs.Stepping.{filter_map, known_kind}
use Rattle.fc_held.specs.Held.{AreOnce, is_known}

-- A volume of the tables is there, of its kind, with its grains of the lane.
pub record HasVolume (l : LaneOf) (g : GrainsState) (x : Volume) : Type 0 where
  pub held : VolumeGrains
  pub inside : Contains g.volumes held
  pub id_is : held.volume.0 ≡ x.id.0
  pub kind_is : held.kind ≡ x.kind
  pub size : length held.contents ≡ grains_in l x.grains

-- And nothing else is, each once; and as many disks are left as are told.
pub record IsTold (w : Whole) (y : VolumeGrains) : Type 0 where
  pub volume : Volume
  pub there : Contains w.books.tables.volumes volume
  pub id_is : volume.id.0 ≡ y.volume.0

-- How many volumes of a kind are told, with ids below one.
abbrev pub known_told : ℕ → DiskKind → Tables → ℕ
known_told named kind t = length (filter (known_kind named kind) (map kind_of_told (volumes_told t)))

pub record LaneHas (grain : GrainSize) (w : Whole) (i : ℕ) (g : GrainsState) : Type 0 where
  pub has : (x : Volume) → Contains w.books.tables.volumes x → HasVolume (lane_at grain w i) g x
  pub told : (y : VolumeGrains) → Contains g.volumes y → IsTold w y
  pub once : AreOnce g.volumes
  pub pool : g.pool ≡ pool_at w.books.pools i
  pub known_are : (named : ℕ) (kind : DiskKind) → length (filter (is_known named kind) g.volumes) ≡ known_told named kind w.books.tables

kinds_are : (grain : GrainSize) (w : Whole) (i : ℕ) (v : LaneView) → IsLaneAt grain w i v → map kind_of_grains v.grains.volumes ≡ map kind_of_told (volumes_told w.books.tables)
kinds_are grain w i v at = at.stands.lane.parts.beside.same ∙ ap (λ (t : LaneTold). map kind_of_told t.volumes) (part_is grain w i)

slot_size : (grain : GrainSize) (w : Whole) (i k : ℕ) (v : LaneView) → i < lanes w → IsLaneAt grain w i v → k < length w.books.sheet.slots →
    length (volume_of v.grains.volumes (slot_at w.books.sheet.slots k).volume).contents ≡ grains_in (lane_at grain w i) (length (slot_at w.books.sheet.slots k).held)
slot_size grain w i k v il at kl =
    let l : LaneOf = lane_at grain w i in
    let slots : List Slot = w.books.sheet.slots in
    let parts : List Slot = (part_of_sheet l w.books.sheet).slots in
    let sized : (j : ℕ) → j < length parts → HasGrains parts v.grains.volumes j =
    subst (λ (t : LaneTold). (j : ℕ) → j < length t.sheet.slots → HasGrains t.sheet.slots v.grains.volumes j) (part_is grain w i) at.stands.lane.parts.beside.stands.sized in
    let here = sized k (subst (λ (n : ℕ). k < n) (sym (count_parts l slots)) kl) in
    ap (λ (s : Slot). length (volume_of v.grains.volumes s.volume).contents) (sym (slot_parts l il slots k)) ∙ (here.size ∙ size_parts l il slots k)

has_volume : (grain : GrainSize) (w : Whole) (i : ℕ) (v : LaneView) → i < lanes w → AreSound w.books → IsLaneAt grain w i v → AreOnce v.grains.volumes → (x : Volume) → Contains w.books.tables.volumes x → HasVolume (lane_at grain w i) v.grains x
has_volume grain w i v il sound at once x c =
    let l : LaneOf = lane_at grain w i in
    let all : List LaneVolume = volumes_told w.books.tables in
    let kind : VolumeKind = kind_of_told (volume_told w.books.tables x) in
    let inside : Contains (map kind_of_grains v.grains.volumes) kind =
    subst (λ (ks : List VolumeKind). Contains ks kind) (sym (kinds_are grain w i v at)) (map_in kind_of_told all (volume_told w.books.tables x) (map_in (volume_told w.books.tables) w.books.tables.volumes x c)) in
    let y = map_from kind_of_grains v.grains.volumes kind inside in
    let id : y.0.volume.0 ≡ x.id.0 = ap (λ (k : VolumeKind). k.volume.0) y.2 in
    let agreed = sound.agree.volumes x c in
    let live : LiveAt w.books.sheet.slots x.id.0 agreed.0 = live_place_at w.books.sheet.slots x.id.0 agreed.0 agreed.1 in
    record {
      held = y.0;
      inside = y.1;
      id_is = id;
      kind_is = ap (λ (k : VolumeKind). k.kind) y.2;
      size = ap (λ (u : VolumeGrains). length u.contents) (sym (once y.0 y.1))
          ∙ (ap (λ (n : ℕ). length (volume_of v.grains.volumes n).contents) (id ∙ sym live.of_volume)
          ∙ (slot_size grain w i agreed.0 v il at live.there ∙ ap (λ (n : ℕ). grains_in l n) agreed.2));
    }

is_told : (grain : GrainSize) (w : Whole) (i : ℕ) (v : LaneView) → IsLaneAt grain w i v → (y : VolumeGrains) → Contains v.grains.volumes y → IsTold w y
is_told grain w i v at y c =
    let all : List LaneVolume = volumes_told w.books.tables in
    let inside : Contains (map kind_of_told all) (kind_of_grains y) = subst (λ (ks : List VolumeKind). Contains ks (kind_of_grains y)) (kinds_are grain w i v at) (map_in kind_of_grains v.grains.volumes y c) in
    let z = map_from kind_of_told all (kind_of_grains y) inside in
    let x = map_from (volume_told w.books.tables) w.books.tables.volumes z.0 z.1 in
    record {
      volume = x.0;
      there = x.1;
      id_is = ap (λ (u : LaneVolume). u.volume.0) x.2 ∙ ap (λ (k : VolumeKind). k.volume.0) z.2;
    }

-- ---- each is there once

abbrev ids : List VolumeGrains → List ℕ
ids xs = map (λ (x : VolumeGrains). x.volume.0) xs

abbrev same_id : ℕ → ℕ
same_id n = n

above_told : (k : ℕ) (vs : List Volume) → IsAbove (λ (v : Volume). v.id.0) k vs → IsAbove same_id k (map (λ (v : Volume). v.id.0) vs)
above_told k [] a = tt
above_told k (v ∷ vs) a = (a.0, above_told k vs a.1)

rises_told : (vs : List Volume) → Rises (λ (v : Volume). v.id.0) vs → Rises same_id (map (λ (v : Volume). v.id.0) vs)
rises_told [] r = tt
rises_told (v ∷ vs) r = (above_told v.id.0 vs r.0, rises_told vs r.1)

above_here : (k : ℕ) (xs : List VolumeGrains) (x : VolumeGrains) → IsAbove same_id k (ids xs) → Contains xs x → k < x.volume.0
above_here k [] x a c = absurd (none_in x c)
above_here k (z ∷ zs) x a c = elim (in_cases z x zs c) [
  | inl e ↦ subst (λ (y : VolumeGrains). k < y.volume.0) e a.0
  | inr later ↦ above_here k zs x a.1 later
]

once_there : (xs : List VolumeGrains) → Rises same_id (ids xs) → AreOnce xs
once_there [] r x c = absurd (none_in x c)
once_there (z ∷ zs) r x c =
    elim (in_cases z x zs c) [
      | inl e ↦ ap (λ (b : Bool). cond b z (volume_of zs x.volume.0)) (eq-eqb z.volume.0 x.volume.0 (ap (λ (y : VolumeGrains). y.volume.0) e)) ∙ e
      | inr later ↦
          let lt = above_here z.volume.0 zs x r.0 later in
          ap (λ (b : Bool). cond b z (volume_of zs x.volume.0)) (ne_eqb z.volume.0 x.volume.0 (λ e. absurd (omega (arith, lt, e)))) ∙ once_there zs r.1 x later
    ]

ids_of_kinds : (xs : List VolumeGrains) → ids xs ≡ map (λ (k : VolumeKind). k.volume.0) (map kind_of_grains xs)
ids_of_kinds [] = refl
ids_of_kinds (x ∷ xs) = ap (λ (ns : List ℕ). x.volume.0 ∷ ns) (ids_of_kinds xs)

ids_told : (t : Tables) (vs : List Volume) → map (λ (k : VolumeKind). k.volume.0) (map kind_of_told (map (volume_told t) vs)) ≡ map (λ (v : Volume). v.id.0) vs
ids_told t [] = refl
ids_told t (v ∷ vs) = ap (λ (ns : List ℕ). v.id.0 ∷ ns) (ids_told t vs)

pub are_once : (grain : GrainSize) (w : Whole) (i : ℕ) (v : LaneView) → AreSound w.books → IsLaneAt grain w i v → AreOnce v.grains.volumes
are_once grain w i v sound at =
    let told : ids v.grains.volumes ≡ map (λ (x : Volume). x.id.0) w.books.tables.volumes =
    ids_of_kinds v.grains.volumes ∙ (ap (map (λ (k : VolumeKind). k.volume.0)) (kinds_are grain w i v at) ∙ ids_told w.books.tables w.books.tables.volumes) in
    once_there v.grains.volumes (subst (λ (ns : List ℕ). Rises same_id ns) (sym told) (rises_told w.books.tables.volumes (rises (λ (x : Volume). x.id.0) w.books.tables.volumes sound.tables.volumes.rising)))

-- ---- all of it

pub lane_has : (grain : GrainSize) (w : Whole) (i : ℕ) (v : LaneView) → i < lanes w → AreSound w.books → IsLaneAt grain w i v → LaneHas grain w i v.grains
lane_has grain w i v il sound at =
    let once = are_once grain w i v sound at in
    record {
      has = has_volume grain w i v il sound at once;
      told = is_told grain w i v at;
      once = once;
      pool = at.stands.lane.parts.beside.pool_is ∙ pool_of_part grain w i;
      known_are = λ named kind. filter_map (known_kind named kind) v.grains.volumes ∙ ap (λ (ks : List VolumeKind). length (filter (known_kind named kind) ks)) (kinds_are grain w i v at);
    }
