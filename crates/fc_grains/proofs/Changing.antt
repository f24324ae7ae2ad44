-- One volume of a lane changed.
use Rattle.std.proofs.Common.{◌≡◌, ℕ, ◌<◌, false, List, [], length, map, get_or, slice_set, slice_index_or, sym, ◌∙◌, ap, subst, arith}
use Rattle.std.specs.List.{AllPairs}
use Rattle.std.proofs.Math.Seq.{map-set_same}
use Rattle.std.proofs.lemmas.List.{map-set, get_or-map, length-map, length-set}
use Rattle.std.proofs.lemmas.List.Elements.{All-set}
use Rattle.fc_base.specs.Grain.{grain_bytes}
use Rattle.fc_base.specs.declared.size.GrainSize.{GrainSize}
use Rattle.fc_mdisk.specs.Disk.{DiskState, grain_at}
use Rattle.fc_entry.specs.Picture.{content_at}
use Rattle.fc_grains.specs.Grains.{one_if_silent}
use Rattle.fc_grains.specs.Kept.{AddUp, IsKept, all_disks, state_of}
use Rattle.fc_grains.specs.Parts.{VolumeDiskState, PoolState, IsWhole, content, contents, grains_of}
use Rattle.fc_grains.specs.Volumes.{VolumeGrains, volume_of, stored, changed}
use Rattle.fc_grains.specs.declared.sums.Sums.{Sums}
use Rattle.fc_grains.proofs.Adding.{total-same, kinds-same}
use Rattle.fc_grains.proofs.Contents.{both_there, content_at-contents}
use Rattle.fc_grains.proofs.Finding.{AreRising, volume_of-at, changed-at}

-- the volumes as contracts see them rise too
pub seen_rise : (volumes : List VolumeDiskState) → AreRising volumes → AllPairs (λ (v w : VolumeGrains). v.volume.0 < w.volume.0) (map grains_of volumes)
seen_rise volumes rising i j d before within =
    let here : j < length volumes = omega (arith, length-map volumes grains_of) in
    let e : VolumeDiskState = record { volume = d.volume; disk = record { kind = d.kind; grains = []; occupied = []; calls = 0; faults = 0; write_faults = 0; due = d.due }; lost = [] } in
    let a : (get_or (map grains_of volumes) i d).volume.0 ≡ (slice_index_or volumes i e).volume.0 = ap (λ (v : VolumeGrains). v.volume.0) (get_or-map grains_of volumes i e d (omega arith)) in
    let b : (get_or (map grains_of volumes) j d).volume.0 ≡ (slice_index_or volumes j e).volume.0 = ap (λ (v : VolumeGrains). v.volume.0) (get_or-map grains_of volumes j e d here) in
    let below : (slice_index_or volumes i e).volume.0 < (slice_index_or volumes j e).volume.0 = rising i j e before here in
    omega arith

module _ (volumes : List VolumeDiskState) (rising : AreRising volumes) (at : ℕ) (within : at < length volumes) (was : VolumeDiskState) (read : was ≡ get_or volumes at was)
    (id : ℕ) (found : (d : VolumeDiskState) → (slice_index_or volumes at d).volume.0 ≡ id) where
  within_seen : at < length (map grains_of volumes)
  within_seen = omega (arith, length-map volumes grains_of)

  seen_at : (d : VolumeGrains) → get_or (map grains_of volumes) at d ≡ grains_of was
  seen_at d = get_or-map grains_of volumes at was d within ∙ ap grains_of (sym read)

  id_at : (d : VolumeGrains) → (get_or (map grains_of volumes) at d).volume.0 ≡ id
  id_at d = ap (λ (v : VolumeGrains). v.volume.0) (get_or-map grains_of volumes at was d within) ∙ found was

  pub volume_is : volume_of (map grains_of volumes) id ≡ grains_of was
  volume_is = volume_of-at (map grains_of volumes) id at (grains_of was) (seen_rise volumes rising) within_seen id_at ∙ seen_at (grains_of was)

  pub changed_is : (now : VolumeDiskState) (change : VolumeGrains → VolumeGrains) → grains_of now ≡ change (grains_of was)
      → map grains_of (slice_set volumes at now) ≡ changed id change (map grains_of volumes)
  changed_is now change changes =
      map-set grains_of volumes at now
      ∙ ap (λ (v : VolumeGrains). slice_set (map grains_of volumes) at v) (changes ∙ sym (ap change (seen_at (grains_of was))))
      ∙ sym (changed-at (map grains_of volumes) id at (grains_of was) change (seen_rise volumes rising) within_seen id_at)

  -- a grain of the volume, where contracts speak of one
  pub contents_there : (place : ℕ) → place < length (volume_of (map grains_of volumes) id).contents → place < length (contents was.lost was.disk.grains)
  contents_there place there =
      let P : VolumeGrains → Type 0 = λ v. place < length v.contents in
      subst P volume_is there

  pub mark_there : (place : ℕ) → place < length (volume_of (map grains_of volumes) id).contents → place < length was.lost
  mark_there place there = (both_there was.lost was.disk.grains place (contents_there place there)).0

  pub grain_there : (place : ℕ) → place < length (volume_of (map grains_of volumes) id).contents → place < length was.disk.grains
  grain_there place there = (both_there was.lost was.disk.grains place (contents_there place there)).1

  pub stored_is : (place : ℕ) → place < length (volume_of (map grains_of volumes) id).contents
      → stored (map grains_of volumes) id place ≡ content (slice_index_or was.lost place false) (grain_at was.disk.grains place)
  stored_is place there =
      ap (λ (v : VolumeGrains). content_at v.contents place) volume_is
      ∙ content_at-contents was.lost was.disk.grains place false (contents_there place there)

  -- the volumes still rise
  pub still_rising : (now : VolumeDiskState) → now.volume.0 ≡ was.volume.0 → AreRising (slice_set volumes at now)
  still_rising now same i j d before inside =
      let id_of : VolumeDiskState → ℕ = λ v. v.volume.0 in
      let here : j < length volumes = omega (arith, length-set volumes at now, inside) in
      let same_ids : map (λ (v : VolumeDiskState). v.volume.0) (slice_set volumes at now) ≡ map (λ (v : VolumeDiskState). v.volume.0) volumes =
      map-set_same (λ (v : VolumeDiskState). v.volume.0) volumes at now was (same ∙ ap (λ (v : VolumeDiskState). v.volume.0) read) in
      let same_at : (k : ℕ) → k < length volumes → (slice_index_or (slice_set volumes at now) k d).volume.0 ≡ (slice_index_or volumes k d).volume.0 = λ k below.
      sym (get_or-map (λ (v : VolumeDiskState). v.volume.0) (slice_set volumes at now) k d 0 (omega (arith, length-set volumes at now)))
      ∙ ap (λ (ids : List ℕ). get_or ids k 0) same_ids
      ∙ get_or-map (λ (v : VolumeDiskState). v.volume.0) volumes k d 0 below in
      let below : (slice_index_or volumes i d).volume.0 < (slice_index_or volumes j d).volume.0 = rising i j d before here in
      omega (arith, same_at i (omega arith), same_at j here)

module _ (grain : GrainSize) (volumes : List VolumeDiskState) (pool : PoolState) (aside : List DiskState) (buffer : List ℕ) (sums : Sums) (volume_room aside_room : ℕ)
    (kept : IsKept grain volumes pool aside buffer sums volume_room aside_room) (at : ℕ) (within : at < length volumes) (was : VolumeDiskState) (read : was ≡ get_or volumes at was)
    (id : ℕ) (found : (d : VolumeDiskState) → (slice_index_or volumes at d).volume.0 ≡ id) (now : VolumeDiskState) where
  -- what always holds holds again
  pub kept_changed : (buffer' : List ℕ) (sums' : Sums) → now.volume.0 ≡ was.volume.0 → IsWhole (grain_bytes grain) now → length buffer' ≡ grain_bytes grain
      → AddUp (all_disks (slice_set volumes at now) pool aside) sums'
      → IsKept grain (slice_set volumes at now) pool aside buffer' sums' volume_room aside_room
  kept_changed buffer' sums' same_volume whole size add_up = record {
    buffer_size = size;
    pool_size = kept.pool_size;
    rising = still_rising volumes kept.rising at within was read id found now same_volume;
    whole = All-set (IsWhole (grain_bytes grain)) volumes at now whole kept.whole;
    empty = kept.empty;
    add_up = add_up;
    few = omega (arith, kept.few, length-set volumes at now);
    room = omega (arith, kept.room, length-set volumes at now);
    room_aside = omega (arith, kept.room_aside, length-set volumes at now);
  }

  -- what contracts see of it
  pub state_changed : (buffer' : List ℕ) (sums' : Sums) (change : VolumeGrains → VolumeGrains) → grains_of now ≡ change (grains_of was)
      → now.disk.kind ≡ was.disk.kind → one_if_silent now.disk.due ≡ one_if_silent was.disk.due
      → state_of grain (slice_set volumes at now) pool aside buffer' sums' ≡ record (state_of grain volumes pool aside buffer sums) {
        volumes = changed id change (map grains_of volumes);
        buffer = buffer';
        calls = sums'.calls;
        faults = sums'.faults;
        write_faults = sums'.write_faults;
      }
  state_changed buffer' sums' change changes same_kind as_silent = λ k. record (state_of grain volumes pool aside buffer' sums') {
    volumes = changed_is volumes kept.rising at within was read id found now change changes k;
    disks = kinds-same volumes pool aside at was now within read same_kind k;
    silent = total-same volumes pool aside at was now within read (λ (d : DiskState). one_if_silent d.due) as_silent k;
  }

  -- no disk was called
  pub add_up_same : now.disk.calls ≡ was.disk.calls → now.disk.faults ≡ was.disk.faults → now.disk.write_faults ≡ was.disk.write_faults
      → AddUp (all_disks (slice_set volumes at now) pool aside) sums
  add_up_same calls faults write_faults = record {
    calls = omega (arith, kept.add_up.calls, total-same volumes pool aside at was now within read (λ (d : DiskState). d.calls) calls);
    faults = omega (arith, kept.add_up.faults, total-same volumes pool aside at was now within read (λ (d : DiskState). d.faults) faults);
    write_faults = omega (arith, kept.add_up.write_faults, total-same volumes pool aside at was now within read (λ (d : DiskState). d.write_faults) write_faults);
  }
