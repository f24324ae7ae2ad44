-- Lanes that stand for the same tables, with as many disks as before, match the disks that they matched.
use Rattle.std.proofs.Common.{◌≡◌, ℕ, ◌<◌, ◌==◌, ◌≤◌, true, false, List, length, map, slice_index_or, Contains, inl, inr, sym, ap, subst, ◌∙◌, arith}
use Rattle.std.specs.List.{filter}
use Rattle.std.proofs.lemmas.Bool.{cases_Bool, eqb-true, eq-eqb}
use Rattle.std.proofs.lemmas.List.{get_or-map, length-map}
use mathlib.Core.List.{map-map}
use Rattle.fc_base.specs.Pools.{Pool, of_kind}
use Rattle.fc_base.specs.Tables.{Tables}
use Rattle.fc_base.specs.declared.size.GrainSize.{GrainSize}
use Rattle.fc_base.specs.declared.volume.Volume.{Volume}
use Rattle.fc_books.specs.Sound.{AreSound}
use Rattle.fc_changed.specs.Row.{Row}
use Rattle.fc_decided.proofs.Lists.{any_from, any_there}
use Rattle.fc_desk.specs.Control.{ControlState}
use Rattle.fc_entry.specs.Picture.{content_at}
use Rattle.fc_grains.specs.Grains.{total_of}
use Rattle.fc_grains.specs.Volumes.{VolumeGrains, is_there, volume_of}
use Rattle.fc_held.specs.Held.{HasDisk, HaveVolumes, MatchAll, Matches, is_known}
use Rattle.fc_kept.specs.Disks.{disk_of}
use Rattle.fc_kept.specs.Recoverable.{disks_at}
use Rattle.fc_lane.specs.Lane.{LaneView}
use Rattle.fc_legal.specs.Whole.{Whole, lane_at, lanes, volumes_told}
use Rattle.fc_parts.proofs.Told.{part_is}
use Rattle.fc_rules.specs.LaneTold.{LaneOf, LaneTold, grains_in}
use Rattle.fc_stands.specs.Store.{AreLanesOf, IsLaneAt, StandsFor, StoreView}
use Rattle.fc_steps.specs.Standing.{VolumeKind, kind_of_grains, kind_of_told}
use Rattle.fc_store.specs.Ready.{disks_of}
use Rattle.law_commanded.proofs.Standing.{LaneHas, known_told, lane_has}
use Rattle.law_commanded.proofs.Unique.{lane_bytes, lane_stored}
use Rattle.law_crash.specs.Points.{Point, StandsFor as PointStands}

-- ---- one lane

module _ (grain : GrainSize) (w next : Whole) (tables : next.books.tables ≡ w.books.tables) (old new : LaneView) (i : ℕ) (at : IsLaneAt grain w i old) (then : IsLaneAt grain next i new) where
  told_kinds : (x : Whole) (v : LaneView) → IsLaneAt grain x i v → map kind_of_grains v.grains.volumes ≡ map kind_of_told (volumes_told x.books.tables)
  told_kinds x v here = here.stands.lane.parts.beside.same ∙ ap (λ (t : LaneTold). map kind_of_told t.volumes) (part_is grain x i)

  same_kinds : map kind_of_grains new.grains.volumes ≡ map kind_of_grains old.grains.volumes
  same_kinds = told_kinds next new then ∙ (ap (λ (t : Tables). map kind_of_told (volumes_told t)) tables ∙ sym (told_kinds w old at))

  -- it has the volumes
  pub same_volumes : map (λ (x : VolumeGrains). x.volume) new.grains.volumes ≡ map (λ (x : VolumeGrains). x.volume) old.grains.volumes
  same_volumes =
      sym (map-map (λ (k : VolumeKind). k.volume) kind_of_grains new.grains.volumes)
      ∙ (ap (map (λ (k : VolumeKind). k.volume)) same_kinds ∙ map-map (λ (k : VolumeKind). k.volume) kind_of_grains old.grains.volumes)

  module _ (sound : AreSound w.books) (sound_next : AreSound next.books) (as_many : lanes next ≡ lanes w) (inside : i < lanes w) (disks : new.grains.disks ≡ old.grains.disks) (named : ℕ) (least : List Row) (p : Point)
      (stands : PointStands grain next least p) (m : Matches (lane_at grain next i) named p.kept old.grains (disks_at p.disks i)) where
    inside_next : i < lanes next
    inside_next = subst (λ (n : ℕ). i < n) (sym as_many) inside

    had : LaneHas grain w i old.grains
    had = lane_has grain w i old inside sound at

    has : LaneHas grain next i new.grains
    has = lane_has grain next i new inside_next sound_next then

    its_disk : (z : VolumeGrains) → Contains new.grains.volumes z → z.volume.0 < named → HasDisk z (disk_of (disks_at p.disks i) z.volume.0)
    its_disk z c lt =
        let t = has.told z c in
        let v : Volume = t.volume in
        let before = had.has v (subst (λ (x : Tables). Contains x.volumes v) tables t.there) in
        let after = has.has v t.there in
        let same : after.held ≡ z = sym (has.once after.held after.inside) ∙ (ap (volume_of new.grains.volumes) (after.id_is ∙ t.id_is) ∙ has.once z c) in
        let d = m.there before.held before.inside (subst (λ (n : ℕ). n < named) (sym (before.id_is ∙ t.id_is)) lt) in
        let size : grains_in (lane_at grain w i) v.grains ≡ grains_in (lane_at grain next i) v.grains =
        ap (λ (n : ℕ). grains_in (record { lane = i; lanes = n; grain = grain }) v.grains) (sym as_many) in (
          d.0,
          ap (disk_of (disks_at p.disks i)) (sym (before.id_is ∙ t.id_is)) ∙ d.1,
          d.2 ∙ (before.kind_is ∙ (sym after.kind_is ∙ ap (λ (u : VolumeGrains). u.kind) same)),
          d.3 ∙ (before.size ∙ (size ∙ (sym after.size ∙ ap (λ (u : VolumeGrains). length u.contents) same))),
        )

    still_there : (v : ℕ) → is_there old.grains.volumes v ≡ true → is_there new.grains.volumes v ≡ true
    still_there v t =
        let z = any_from (λ (u : VolumeGrains). u.volume.0 == v) old.grains.volumes t in
        let told = had.told z.0 z.1 in
        let after = has.has told.volume (subst (λ (x : Tables). Contains x.volumes told.volume) (sym tables) told.there) in
        any_there (λ (u : VolumeGrains). u.volume.0 == v) new.grains.volumes after.held after.inside
        (eq-eqb after.held.volume.0 v (after.id_is ∙ (told.id_is ∙ eqb-true z.0.volume.0 v z.2)))

    pub match_then : Matches (lane_at grain next i) named p.kept new.grains (disks_at p.disks i)
    match_then =
        record {
          once = has.once;
          there = its_disk;
          none = λ v c. elim c [
            | inl le ↦ m.none v (inl le)
            | inr f ↦ elim (cases_Bool (is_there old.grains.volumes v)) [
              | inr none ↦ m.none v (inr none)
              | inl t ↦ absurd (let q : true ≡ false = sym (still_there v t) ∙ f in cc)
            ]
          ];
          free = λ kind.
              let was = m.free kind in
              let known : length (filter (is_known named kind) new.grains.volumes) ≡ length (filter (is_known named kind) old.grains.volumes) =
              has.known_are named kind ∙ (ap (λ (t : Tables). known_told named kind t) tables ∙ sym (had.known_are named kind)) in
              let all : of_kind kind new.grains.disks ≡ of_kind kind old.grains.disks = ap (of_kind kind) disks in
              omega (arith, was, known, all);
          bytes = λ z y c lt within lost.
              lane_bytes (lane_at grain next i) (disks_at p.disks i) p.kept z.volume.0 y (content_at z.contents y) (lane_stored grain next least p i new inside_next sound_next then has stands z y c within) lost;
        }

-- ---- all lanes of a store

module _ (old new : StoreView) (w next : Whole) (up : StandsFor old w) (then : StandsFor new next) (control : new.control ≡ old.control) (disks : map disks_of new.lanes ≡ map disks_of old.lanes) where
  as_many_lanes : length new.lanes ≡ length old.lanes
  as_many_lanes = sym (length-map new.lanes disks_of) ∙ (ap (λ (ps : List Pool). length ps) disks ∙ length-map old.lanes disks_of)

  same_disks : (i : ℕ) (d : LaneView) → i < length new.lanes → (slice_index_or new.lanes i d).grains.disks ≡ (slice_index_or old.lanes i d).grains.disks
  same_disks i d il =
      sym (get_or-map disks_of new.lanes i d d.grains.disks il)
      ∙ (ap (λ (ps : List Pool). slice_index_or ps i d.grains.disks) disks ∙ get_or-map disks_of old.lanes i d d.grains.disks (subst (λ (n : ℕ). i < n) as_many_lanes il))

  abbrev grain : GrainSize
  grain = old.control.grain

  same_tables : next.books.tables ≡ w.books.tables
  same_tables = sym then.control.tables ∙ (ap (λ (c : ControlState). c.tables) control ∙ up.control.tables)

  then_each : AreLanesOf old.control.grain next new.lanes
  then_each = subst (λ (c : ControlState). AreLanesOf c.grain next new.lanes) control then.each

  in_old : (i : ℕ) → i < length new.lanes → i < length old.lanes
  in_old i il = subst (λ (n : ℕ). i < n) as_many_lanes il

  pub have_then : (count : ℕ) → HaveVolumes count old → HaveVolumes count new
  have_then count have =
      record {
        volumes = λ i d il.
            same_volumes grain w next same_tables (slice_index_or old.lanes i d) (slice_index_or new.lanes i d) i (up.each i d (in_old i il)) (then_each i d il)
            ∙ (have.volumes i d (in_old i il) ∙ sym (ap (λ (c : ControlState). map (λ (v : Volume). v.id) c.tables.volumes) control));
        few = λ i d il. subst (λ (p : Pool). total_of p ≤ count) (sym (same_disks i d il)) (have.few i d (in_old i il));
      }

  pub match_all_then : (named : ℕ) (least : List Row) (p : Point) → PointStands old.control.grain next least p → MatchAll old.control.grain named p.kept old.lanes p.disks → MatchAll old.control.grain named p.kept new.lanes p.disks
  match_all_then named least p stands m =
      let many : length p.disks ≡ lanes next = stands.says.count in
      let as_many : lanes next ≡ lanes w = sym then.count ∙ (as_many_lanes ∙ up.count) in
      let lane : ℕ → ℕ → LaneOf = λ i n. record { lane = i; lanes = n; grain = grain } in
      record {
        count = many ∙ sym then.count;
        each = λ i d il.
            let there : i < length new.lanes = subst (λ (n : ℕ). i < n) (many ∙ sym then.count) il in
            subst (λ (n : ℕ). Matches (lane i n) named p.kept (slice_index_or new.lanes i d).grains (disks_at p.disks i)) (sym many)
            (match_then grain w next same_tables (slice_index_or old.lanes i d) (slice_index_or new.lanes i d) i (up.each i d (in_old i there)) (then_each i d there)
            up.stands.sound then.stands.sound as_many (subst (λ (n : ℕ). i < n) (many ∙ as_many) il) (same_disks i d there) named least p stands
            (subst (λ (n : ℕ). Matches (lane i n) named p.kept (slice_index_or old.lanes i d).grains (disks_at p.disks i)) many (m.each i d il)));
      }
