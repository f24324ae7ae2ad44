-- A grain of a volume is read from the disk of its holder's volume.
use Rattle.std.proofs.Common.{◌≡◌, ℕ, ◌/◌, ◌%◌, ◌<◌, ◌≤◌, Bool, true, false, cond, Option, Some, None, List, [], length, refl, sym, ap, subst, ◌∙◌, arith, Contains}
use Rattle.std.specs.List.{flat_map}
use Rattle.std.specs.Prelude.{◌==◌, is_some}
use Rattle.std.proofs.Math.Nat.{mod-lt}
use Rattle.std.proofs.lemmas.Bool.{eqb-true}
use Rattle.fc_base.specs.Column.{holder}
use Rattle.fc_base.specs.Sheet.{Slot, slot_at, column, live_place}
use Rattle.fc_base.specs.Tables.{volume_with}
use Rattle.fc_base.specs.declared.ids.VolId.{VolId}
use Rattle.fc_base.specs.declared.size.GrainSize.{GrainSize}
use Rattle.fc_base.specs.declared.volume.Volume.{Volume}
use Rattle.fc_decided.proofs.Agreeing.{some_from}
use Rattle.fc_decided.proofs.Lists.{find_from}
use Rattle.fc_entry.specs.Picture.{Bytes, Lost, is_lost}
use Rattle.fc_image.specs.declared.image.MetaImage.{MetaImage}
use Rattle.fc_kept.specs.Disks.{NamedDisk, is_of, disk_of, on_disk}
use Rattle.fc_kept.specs.Images.{tables_in, slots_in, kept_in}
use Rattle.fc_kept.specs.Kept.{Kept, is_lost_in}
use Rattle.fc_kept.specs.Recoverable.{disks_at}
use Rattle.fc_kept.specs.Sound.{books_of, IsSoundImage}
use Rattle.fc_kept.proofs.Sizes.{size_is, slot_size}
use Rattle.fc_mdisk.specs.Disk.{grain_at}
use Rattle.fc_moves.proofs.Readers.{holder_is}
use Rattle.fc_parts.proofs.Numbers.{number_of_place, grain_below}
use Rattle.fc_rules.specs.LaneTold.{LaneOf, place_of, grains_in}
use Rattle.fc_sheets.proofs.Finding.{live_place_at}
use Rattle.fc_recovered.specs.Answering.{HasDiskGrain}
use Rattle.fc_recovered.specs.Readying.{HasWholeGrains, HasOwnDisk, AllHaveDisks}
use Rattle.fc_recovered.specs.Recovered.{IsRecovered}
use Rattle.fc_recovered.specs.Showing.{lane_over, holder_for, shown_by, shown_at, stored_at}
use Rattle.fc_recovered.specs.Walk.{holder_volume, id_number}
use Rattle.fc_recovered.proofs.Holding.{walk_ends}

abbrev pub slots_of : MetaImage → List Slot
slots_of image = flat_map (slots_in (tables_in image)) image.chains

-- ---- the holder

-- the volume of the holder of a volume's grain
pub record Source (image : MetaImage) (v number : ℕ) : Type 0 where
  pub live : ℕ
  pub place : ℕ
  pub is_live : live_place (slots_of image) v ≡ Some live
  pub holds : holder (column (slots_of image) number) live ≡ Some place
  pub volume : Volume
  pub within : Contains image.volumes volume
  pub own : (slot_at (slots_of image) place).volume ≡ volume.id.0
  pub inside : number < volume.grains

pub source_of : (image : MetaImage) → IsSoundImage image → (v : Volume) → Contains image.volumes v → (number : ℕ) → number < v.grains → Source image v.id.0 number
source_of image sound v c number lt =
    let k : Kept = kept_in image in
    let slots : List Slot = slots_of image in
    let books = sound.says.books in
    let p = books.agree.volumes v c in
    let t : ℕ = p.0 in
    let at = live_place_at slots v.id.0 t p.1 in
    let tl : t < length slots = at.there in
    let size : length (slot_at slots t).held ≡ v.grains = p.2 in
    let q = books.sheet.holders number t at.there at.is_live (omega arith) in
    let h : ℕ = q.0 in
    let i = holder_is (column slots number) t h q.1 in
    let before : h ≤ t = i.before in
    let hl : h < length slots = omega arith in
    let id : VolId = record { 0 = (slot_at slots h).volume } in
    let x = some_from (volume_with k.tables id) (books.agree.slots h hl) in
    let f = find_from (λ (w : Volume). id.0 == w.id.0) image.volumes x.0 x.1 in
    let one : length (slot_at slots h).held ≡ length (slot_at slots t).held = books.sheet.sizes.of_chain h t hl tl i.one_chain in
    let other : length (slot_at slots h).held ≡ x.0.grains = slot_size (books_of k) books h hl ∙ size_is k.tables id x.0 x.1 in
    record {
      live = t;
      place = h;
      is_live = p.1;
      holds = q.1;
      volume = x.0;
      within = f.0;
      own = eqb-true id.0 x.0.id.0 f.1;
      inside = omega arith;
    }

-- it is found
source_walk : (image : MetaImage) (v number : ℕ) (s : Source image v number) → holder_volume v number (slots_of image) ≡ Some s.volume.id.0
source_walk image v number s = walk_ends v number (slots_of image) s.live s.place s.is_live s.holds ∙ ap Some s.own

pub never_lost : (image : MetaImage) (v number : ℕ) → Source image v number → id_number None ≡ holder_volume v number (slots_of image) → ⊥
never_lost image v number s e = no_some s.volume.id.0 (sym (source_walk image v number s) ∙ sym e)
  where
    no_some : (n : ℕ) → Some n ≡ None → ⊥
    no_some n q = cc

pub source_is : (image : MetaImage) (v number : ℕ) (s : Source image v number) (found : VolId) → id_number (Some found) ≡ holder_volume v number (slots_of image) → found.0 ≡ s.volume.id.0
source_is image v number s found e = same found.0 s.volume.id.0 (e ∙ source_walk image v number s)
  where
    same : (a b : ℕ) → Some a ≡ Some b → a ≡ b
    same a b q = cc

-- ---- what is shown

-- what the volume shows is what is stored of its source
pub shown_is : (grain : GrainSize) (image : MetaImage) (disks : List (List NamedDisk)) (v number : ℕ) (s : Source image v number) →
    shown_at grain disks (kept_in image) v number ≡ stored_at grain disks (kept_in image) s.volume.id.0 number
shown_is grain image disks v number s =
    let k : Kept = kept_in image in
    ap (λ (o : Option ℕ). shown_by grain disks k number (holder_for k.sheet.slots number o)) s.is_live
    ∙ (ap (shown_by grain disks k number) s.holds ∙ ap (λ (x : ℕ). stored_at grain disks k x number) s.own)

-- in a lane, where it isn't lost, it is on the disk
stored_is : (grain : GrainSize) (disks : List (List NamedDisk)) (k : Kept) (v number : ℕ) → 0 < length disks → (b : Bool) → is_lost_in k.lost v number ≡ b →
    stored_at grain disks k v number
    ≡ cond b Lost (on_disk (lane_over grain disks (number % length disks)) (disk_of (disks_at disks (number % length disks)) v) (number / length disks))
stored_is grain disks k v number some b e =
    let l : LaneOf = lane_over grain disks (number % length disks) in
    ap (λ (z : Bool). cond z Lost (on_disk l (disk_of (disks_at disks (number % length disks)) v) (place_of l number)))
    (ap (is_lost_in k.lost v) (number_of_place l number refl) ∙ e)

pub lost_shown : (grain : GrainSize) (image : MetaImage) (disks : List (List NamedDisk)) (v number : ℕ) (s : Source image v number) → 0 < length disks →
    is_lost_in (kept_in image).lost s.volume.id.0 number ≡ true → is_lost (shown_at grain disks (kept_in image) v number) ≡ true
lost_shown grain image disks v number s some e =
    ap is_lost (shown_is grain image disks v number s ∙ stored_is grain disks (kept_in image) s.volume.id.0 number some true e)

-- ---- the disk

-- which is a volume's
is_named : (v : ℕ) (d : NamedDisk) → is_of v d ≡ true → is_some d.volume ≡ true
is_named v d e = by d.volume refl
  where
    by : (o : Option VolId) → d.volume ≡ o → is_some o ≡ true
    by None n =
        let no : false ≡ true = sym (ap (λ (o : Option VolId). is_of v (record { volume = o; disk = d.disk })) n) ∙ e in
        absurd cc
    by (Some id) n = refl

-- its disk has the grain
pub has_grain : (grain : GrainSize) (image : MetaImage) (disks : List (List NamedDisk)) (buffer : List ℕ) (v number : ℕ) → IsRecovered grain image disks buffer → (s : Source image v number) →
    HasDiskGrain (disks_at disks (number % length disks)) s.volume.id.0 (number / length disks) (length buffer)
has_grain grain image disks buffer v number i s =
    let n : ℕ = number % length disks in
    let nl : n < length disks = mod-lt number i.some in
    let l : LaneOf = lane_over grain disks n in
    let ready : AllHaveDisks l image.volumes (disks_at disks n) = i.ready n nl in
    let h : HasOwnDisk l (disks_at disks n) s.volume = ready.each s.volume s.within in
    let within : place_of l number < grains_in l s.volume.grains = grain_below l nl number s.volume.grains refl s.inside in
    let count : length h.disk.disk.grains ≡ grains_in l s.volume.grains = h.grains in
    let below : place_of l number < length h.disk.disk.grains = omega arith in
    let found = find_from (is_of s.volume.id.0) (disks_at disks n) h.disk h.there in
    let c = found.0 in
    let whole : HasWholeGrains grain h.disk = subst (HasWholeGrains grain) c.2 (ready.whole c.0 h.disk c.1) in
    record {
      disk = h.disk;
      there = h.there;
      within = below;
      size = i.room ∙ sym (whole (is_named s.volume.id.0 h.disk found.1) (place_of l number) [] below);
    }

-- and shows its bytes
pub bytes_shown : (grain : GrainSize) (image : MetaImage) (disks : List (List NamedDisk)) (v number : ℕ) (s : Source image v number) → 0 < length disks →
    is_lost_in (kept_in image).lost s.volume.id.0 number ≡ false → (disk : NamedDisk) → disk_of (disks_at disks (number % length disks)) s.volume.id.0 ≡ Some disk →
    shown_at grain disks (kept_in image) v number ≡ Bytes (grain_at disk.disk.grains (number / length disks))
bytes_shown grain image disks v number s some e disk there =
    let l : LaneOf = lane_over grain disks (number % length disks) in
    shown_is grain image disks v number s
    ∙ (stored_is grain disks (kept_in image) s.volume.id.0 number some false e ∙ ap (λ (o : Option NamedDisk). on_disk l o (number / length disks)) there)
