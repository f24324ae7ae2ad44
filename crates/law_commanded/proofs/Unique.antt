-- What lanes store is what stands on disks that stand for the same.
use Rattle.std.proofs.Common.{◌≡◌, ℕ, ◌<◌, Bool, true, false, cond, Option, Some, None, List, length, get_or, Contains, refl, sym, ap, subst, ◌∙◌, arith}
use Rattle.fc_base.specs.Column.{holder}
use Rattle.fc_base.specs.Sheet.{Slot, column, slot_at}
use Rattle.fc_base.specs.declared.size.GrainSize.{GrainSize}
use Rattle.fc_base.specs.declared.volume.Volume.{Volume}
use Rattle.fc_books.specs.Sound.{AreSound}
use Rattle.fc_changed.specs.Row.{Row}
use Rattle.fc_entry.specs.Picture.{Content, Picture, PlainVolume, Bytes, Lost, content_at, is_lost, volume_in}
use Rattle.fc_grains.specs.Volumes.{VolumeGrains, stored, volume_of}
use Rattle.fc_kept.specs.Disks.{NamedDisk, disk_of, on_disk, stored_on}
use Rattle.fc_kept.specs.Kept.{Kept, is_lost_in}
use Rattle.fc_kept.specs.Recoverable.{disks_at}
use Rattle.fc_lane.specs.Lane.{LaneView}
use Rattle.fc_legal.specs.Whole.{Whole, lane_at, lanes, part_of_picture, part_of_sheet}
use Rattle.fc_moves.proofs.Readers.{is_holder, own_holder}
use Rattle.fc_parts.proofs.Told.{part_is}
use Rattle.fc_parts.proofs.Views.{count_parts, live_parts, size_parts, slot_parts}
use Rattle.fc_rules.specs.LaneTold.{LaneOf, LaneTold, grains_in, number_at}
use Rattle.fc_rules.specs.Shows.{Shown, Shows, Stored}
use Rattle.fc_sheets.proofs.Finding.{LiveAt, live_place_at}
use Rattle.fc_stands.specs.Store.{IsLaneAt}
use Rattle.law_crash.proofs.Parts.{is_part, parts_show}
use Rattle.law_crash.specs.Points.{Point, StandsFor, stored_by}
use Rattle.law_commanded.proofs.Standing.{HasVolume, IsTold, LaneHas}

-- ---- a grain of a live slot's volume is told: as it shows, or as it was before

same_plain : (o : Option PlainVolume) (p q : PlainVolume) → o ≡ Some p → o ≡ Some q → p ≡ q
same_plain o p q a b = let e : Some p ≡ Some q = sym a ∙ b in cc

stored_same : (slots : List Slot) (picture : Picture) (one other : Stored) (k y : ℕ) → k < length slots → (slot_at slots k).is_live ≡ true → y < length (slot_at slots k).held →
    Shows slots picture one → Shows slots picture other → one (slot_at slots k).volume y ≡ other (slot_at slots k).volume y
stored_same slots picture one other k y kl live yl a b = by (get_or (slot_at slots k).held y false) refl
  where
    x : Shown slots picture one k
    x = a.each k kl live

    z : Shown slots picture other k
    z = b.each k kl live

    plain : x.plain ≡ z.plain
    plain = same_plain (volume_in picture record { 0 = (slot_at slots k).volume }) x.plain z.plain x.there z.there

    by : (held : Bool) → get_or (slot_at slots k).held y false ≡ held → one (slot_at slots k).volume y ≡ other (slot_at slots k).volume y
    by true e =
        let self : holder (column slots y) k ≡ Some k = is_holder (column slots y) k k (own_holder (column slots y) k e) in
        sym (x.now y k yl self) ∙ (ap (λ (p : PlainVolume). content_at p.now y) plain ∙ z.now y k yl self)
    by false e = sym (x.under y yl e) ∙ (ap (λ (p : PlainVolume). content_at p.under y) plain ∙ z.under y yl e)

-- ---- of a lane

lane_shows : (grain : GrainSize) (w : Whole) (i : ℕ) (v : LaneView) → IsLaneAt grain w i v →
    Shows (part_of_sheet (lane_at grain w i) w.books.sheet).slots (part_of_picture (lane_at grain w i) w.picture) (stored v.grains.volumes)
lane_shows grain w i v at = subst (λ (t : LaneTold). Shows t.sheet.slots t.picture (stored v.grains.volumes)) (part_is grain w i) at.stands.lane.parts.beside.stands.shows

disks_show : (grain : GrainSize) (w : Whole) (least : List Row) (q : Point) (i : ℕ) → i < lanes w → StandsFor grain w least q →
    Shows (part_of_sheet (lane_at grain w i) w.books.sheet).slots (part_of_picture (lane_at grain w i) w.picture) (stored_on (lane_at grain w i) (disks_at q.disks i) q.kept)
disks_show grain w least q i il st =
    parts_show (lane_at grain w i) il w.books.sheet.slots w.picture (stored_by grain w q) (stored_on (lane_at grain w i) (disks_at q.disks i) q.kept) (is_part grain w q i il) st.shows

pub lane_stored : (grain : GrainSize) (w : Whole) (least : List Row) (q : Point) (i : ℕ) (v : LaneView) → i < lanes w → AreSound w.books → IsLaneAt grain w i v → LaneHas grain w i v.grains → StandsFor grain w least q →
    (x : VolumeGrains) (y : ℕ) → Contains v.grains.volumes x → y < length x.contents → content_at x.contents y ≡ stored_on (lane_at grain w i) (disks_at q.disks i) q.kept x.volume.0 y
lane_stored grain w least q i v il sound at has st x y c lt =
    let l : LaneOf = lane_at grain w i in
    let slots : List Slot = w.books.sheet.slots in
    let parts : List Slot = (part_of_sheet l w.books.sheet).slots in
    let t = has.told x c in
    let agreed = sound.agree.volumes t.volume t.there in
    let k : ℕ = agreed.0 in
    let live : LiveAt parts t.volume.id.0 k = live_place_at parts t.volume.id.0 k (live_parts l il slots t.volume.id.0 ∙ agreed.1) in
    let h = has.has t.volume t.there in
    let held : h.held ≡ x = sym (has.once h.held h.inside) ∙ (ap (volume_of v.grains.volumes) (h.id_is ∙ t.id_is) ∙ has.once x c) in
    let size : length x.contents ≡ length (slot_at parts k).held =
    ap (λ (u : VolumeGrains). length u.contents) (sym held) ∙ (h.size ∙ (ap (grains_in l) (sym agreed.2) ∙ sym (size_parts l il slots k))) in
    let same = stored_same parts (part_of_picture l w.picture) (stored v.grains.volumes) (stored_on l (disks_at q.disks i) q.kept) k y live.there live.is_live
    (subst (λ (n : ℕ). y < n) size lt) (lane_shows grain w i v at) (disks_show grain w least q i il st) in
    let id : (slot_at parts k).volume ≡ x.volume.0 = live.of_volume ∙ t.id_is in
    ap (λ (u : VolumeGrains). content_at u.contents y) (sym (has.once x c))
    ∙ subst (λ (n : ℕ). stored v.grains.volumes n y ≡ stored_on l (disks_at q.disks i) q.kept n y) id same

-- ---- so it is lost where metadata says so, and else it is on the disk

on_lost : (b : Bool) (z c : Content) → c ≡ cond b Lost z → b ≡ false → c ≡ z
on_lost true z c e f = absurd cc
on_lost false z c e f = e

pub lane_bytes : (l : LaneOf) (ds : List NamedDisk) (k : Kept) (v y : ℕ) (c : Content) → c ≡ stored_on l ds k v y → is_lost_in k.lost v (number_at l y) ≡ false → c ≡ on_disk l (disk_of ds v) y
lane_bytes l ds k v y c e f = on_lost (is_lost_in k.lost v (number_at l y)) (on_disk l (disk_of ds v) y) c e f

never_lost : (l : LaneOf) (o : Option NamedDisk) (y : ℕ) → is_lost (on_disk l o y) ≡ false
never_lost l None y = refl
never_lost l (Some d) y = refl

lost_by : (b : Bool) (z : Content) → is_lost z ≡ false → is_lost (cond b Lost z) ≡ b
lost_by true z e = refl
lost_by false z e = e

pub lane_lost : (l : LaneOf) (ds : List NamedDisk) (k : Kept) (v y : ℕ) (c : Content) → c ≡ stored_on l ds k v y → is_lost c ≡ is_lost_in k.lost v (number_at l y)
lane_lost l ds k v y c e = ap is_lost e ∙ lost_by (is_lost_in k.lost v (number_at l y)) (on_disk l (disk_of ds v) y) (never_lost l (disk_of ds v) y)
