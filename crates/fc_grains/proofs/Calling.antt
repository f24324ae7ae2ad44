-- What calls of one volume's disk leave of a lane's grains.
use Rattle.std.proofs.Common.{◌≡◌, ℕ, ◌+◌, ◌-◌, ◌<◌, ◌≤◌, Bool, true, false, cond, nat_eq, List, [], ◌∷◌, length, map, get_or, slice_set, slice_index_or, is_some, Option, Some, None, Result, Ok, Err, refl, sym, ◌∙◌, ap, subst, arith}
use Rattle.std.specs.Bool.{OnFalse}
use Rattle.std.specs.List.{All}
use Rattle.std.specs.Option.{option_map}
use Rattle.std.proofs.lemmas.List.{set-get_or, length-set}
use Rattle.std.proofs.lemmas.List.Elements.{All-set}
use Rattle.fc_base.specs.Count.{FaultsAfter}
use Rattle.fc_base.specs.Grain.{grain_bytes}
use Rattle.fc_base.specs.declared.disk.DiskError.{DiskError}
use Rattle.fc_base.specs.declared.disk.DiskError.TheVariants.{Failed, NoMemory}
use Rattle.fc_base.specs.declared.size.GrainSize.{GrainSize}
use Rattle.fc_mdisk.specs.Disk.{DiskState, AfterCall, AfterRead, AfterWrite, GrainAfter, MayAnswer, grain_at, write_failed, armed as disk_armed}
use Rattle.fc_entry.specs.Picture.{Content, Bytes, Lost, is_lost}
use Rattle.fc_grains.specs.Calls.{CallsOnce, HasRead, HasWritten}
use Rattle.fc_grains.specs.Grains.{GrainsState, one_if_silent, stopped}
use Rattle.fc_grains.specs.Kept.{AddUp, IsKept, all_disks, state_of}
use Rattle.fc_grains.specs.Parts.{VolumeDiskState, PoolState, IsWhole, contents, grains_of, lost_after, reached_as}
use Rattle.fc_grains.specs.Volumes.{VolumeGrains, volume_of, stored, changed, called, armed, holding, after_write}
use Rattle.fc_grains.specs.declared.sums.Sums.{Sums}
use Rattle.fc_grains.proofs.Adding.{total-changed, total-covers, sum_rises, calls_rise, faults_rise}
use Rattle.fc_grains.proofs.Changing.{volume_is, stored_is, grain_there, kept_changed, state_changed, add_up_same}
use Rattle.fc_grains.proofs.Contents.{contents-set, contents-lose, content-readable, reached-set}

on_false_map : {P Q : Type 0} (b : Bool) → (P → Q) → OnFalse b P → OnFalse b Q
on_false_map true f h = tt
on_false_map false f h = f h

silent-map : (due : Option ℕ) (f : ℕ → ℕ) → one_if_silent (option_map f due) ≡ one_if_silent due
silent-map None f = refl
silent-map (Some n) f = refl

silent_by : (due due' : Option ℕ) (f : ℕ → ℕ) → due' ≡ option_map f due → one_if_silent due' ≡ one_if_silent due
silent_by due due' f e = ap one_if_silent e ∙ silent-map due f

-- a grain has as many bytes after a write
length-after : (answer : Result (Unit {0}) DiskError) (bytes old new : List ℕ) (n : ℕ) → GrainAfter answer bytes old new → length bytes ≡ n → length old ≡ n → length new ≡ n
length-after (Ok _) bytes old new n after size kept = ap length after ∙ size
length-after (Err Failed) bytes old new n after size kept = after ∙ size
length-after (Err NoMemory) bytes old new n after size kept = ap length after ∙ kept

length-lost : (answer : Result (Unit {0}) DiskError) (lost : List Bool) (place : ℕ) → length (lost_after answer lost place) ≡ length lost
length-lost (Ok _) lost place = length-set lost place false
length-lost (Err Failed) lost place = length-set lost place true
length-lost (Err NoMemory) lost place = refl

-- a write that was done or failed reached its grain
reached_by : (was now : DiskState) (place : ℕ) (bytes : List ℕ) → now.kind ≡ was.kind → now.grains ≡ slice_set was.grains place bytes → now.occupied ≡ slice_set was.occupied place true
    → reached_as now.kind now.grains now.occupied ≡ slice_set (reached_as was.kind was.grains was.occupied) place true
reached_by was now place bytes kind grains occupied =
    (λ k. reached_as (kind k) (grains k) (occupied k)) ∙ reached-set was.kind was.grains was.occupied place bytes

-- what contracts see of a volume whose grain was written
seen_written : (answer : Result (Unit {0}) DiskError) (was now : VolumeDiskState) (place : ℕ) (bytes : List ℕ) → AfterWrite was.disk place bytes answer now.disk
    → now.volume ≡ was.volume → now.lost ≡ lost_after answer was.lost place → grains_of now ≡ after_write answer place bytes (grains_of was)
seen_written (Ok a) was now place bytes after volume lost =
    let grains : now.disk.grains ≡ slice_set was.disk.grains place bytes = after.others ∙ ap (λ (x : List ℕ). slice_set was.disk.grains place x) after.grain in
    let held : contents now.lost now.disk.grains ≡ slice_set (contents was.lost was.disk.grains) place (Bytes bytes) =
    (λ k. contents (lost k) (grains k)) ∙ contents-set was.lost was.disk.grains place false bytes in
    let reached = reached_by was.disk now.disk place bytes after.call.kind grains after.occupied in
    λ k. record { volume = volume k; kind = after.call.kind k; contents = held k; reached = reached k; due = after.call.due k }
seen_written (Err Failed) was now place bytes after volume lost =
    let held : contents now.lost now.disk.grains ≡ slice_set (contents was.lost was.disk.grains) place Lost =
    (λ k. contents (lost k) (after.others k)) ∙ contents-set was.lost was.disk.grains place true (grain_at now.disk.grains place) in
    let reached = reached_by was.disk now.disk place (grain_at now.disk.grains place) after.call.kind after.others after.occupied in
    λ k. record { volume = volume k; kind = after.call.kind k; contents = held k; reached = reached k; due = after.call.due k }
seen_written (Err NoMemory) was now place bytes after volume lost =
    let grains : now.disk.grains ≡ was.disk.grains =
    after.others ∙ ap (λ (x : List ℕ). slice_set was.disk.grains place x) after.grain ∙ set-get_or was.disk.grains place [] in
    λ k. record {
      volume = volume k;
      kind = after.call.kind k;
      contents = contents (lost k) (grains k);
      reached = reached_as (after.call.kind k) (grains k) (after.occupied k);
      due = after.call.due k;
    }

module _ (grain : GrainSize) (volumes : List VolumeDiskState) (pool : PoolState) (aside : List DiskState) (buffer : List ℕ) (sums : Sums) (volume_room aside_room : ℕ)
    (kept : IsKept grain volumes pool aside buffer sums volume_room aside_room) (at : ℕ) (within : at < length volumes) (was : VolumeDiskState) (read : was ≡ get_or volumes at was)
    (id : ℕ) (found : (d : VolumeDiskState) → (slice_index_or volumes at d).volume.0 ≡ id) where
  pub was_whole : IsWhole (grain_bytes grain) was
  was_whole =
      let P : VolumeDiskState → Type 0 = IsWhole (grain_bytes grain) in
      subst P (sym read) (kept.whole at was within)

  pub length-grain : (place : ℕ) → place < length (volume_of (map grains_of volumes) id).contents → length (grain_at was.disk.grains place) ≡ grain_bytes grain
  length-grain place there = was_whole.whole place [] (grain_there volumes kept.rising at within was read id found place there)

  module _ (now : VolumeDiskState) where
    -- one call of its disk
    module _ (buffer' : List ℕ) (size : length buffer' ≡ grain_bytes grain) (sums' : Sums) where
      pub called_once : (failed : Bool) → AfterCall was.disk failed now.disk → sums'.calls ≡ stopped (sums.calls + 1)
          → sums'.faults ≡ stopped (sums.faults + (now.disk.faults - was.disk.faults))
          → (new : GrainsState) → new.calls ≡ sums'.calls → new.faults ≡ sums'.faults
          → CallsOnce (volume_of (map grains_of volumes) id).due (state_of grain volumes pool aside buffer sums) failed new
      called_once failed call calls faults new new_calls new_faults =
          let P : VolumeGrains → Type 0 = λ v. CallsOnce v.due (state_of grain volumes pool aside buffer sums) failed new in
          let Q : ℕ → Type 0 = λ n. FaultsAfter (is_some was.disk.due) failed sums.faults n in
          subst P (sym (volume_is volumes kept.rising at within was read id found)) record {
            calls = new_calls ∙ calls;
            faults = subst Q (sym new_faults)
                (faults_rise (is_some was.disk.due) failed _ was.disk.faults now.disk.faults sums.faults sums'.faults
                (total-covers volumes pool aside at was now within read (λ (d : DiskState). d.faults)) kept.add_up.faults faults call.faults);
            fails_as_told = call.fails_as_told;
          }

      pub sums_called : (failed : Bool) → AfterCall was.disk failed now.disk → was.disk.write_faults ≤ now.disk.write_faults → sums'.calls ≡ stopped (sums.calls + 1)
          → sums'.faults ≡ stopped (sums.faults + (now.disk.faults - was.disk.faults))
          → sums'.write_faults ≡ stopped (sums.write_faults + (now.disk.write_faults - was.disk.write_faults))
          → AddUp (all_disks (slice_set volumes at now) pool aside) sums'
      sums_called failed call write_kept calls faults write_faults = record {
        calls = calls_rise _ _ was.disk.calls now.disk.calls sums.calls sums'.calls
            (total-changed volumes pool aside at was now within read (λ (d : DiskState). d.calls))
            (total-covers volumes pool aside at was now within read (λ (d : DiskState). d.calls)) call.calls kept.add_up.calls calls;
        faults = sum_rises _ _ was.disk.faults now.disk.faults sums.faults sums'.faults
            (total-changed volumes pool aside at was now within read (λ (d : DiskState). d.faults)) call.faults.kept kept.add_up.faults faults;
        write_faults = sum_rises _ _ was.disk.write_faults now.disk.write_faults sums.write_faults sums'.write_faults
            (total-changed volumes pool aside at was now within read (λ (d : DiskState). d.write_faults)) write_kept kept.add_up.write_faults write_faults;
      }

  -- a read
  module _ (now : VolumeDiskState) (place : ℕ) (failed : Bool) (out buffer' : List ℕ) (sums' : Sums) (after : AfterRead was.disk place failed out now.disk)
      (others : now ≡ record was { disk = now.disk }) (size : length buffer' ≡ grain_bytes grain)
      (calls : sums'.calls ≡ stopped (sums.calls + 1)) (faults : sums'.faults ≡ stopped (sums.faults + (now.disk.faults - was.disk.faults)))
      (write_faults : sums'.write_faults ≡ stopped (sums.write_faults + 0)) where
    no_write : sums'.write_faults ≡ sums.write_faults
    no_write = omega (arith, write_faults, kept.add_up.write_faults)

    whole_read : IsWhole (grain_bytes grain) now
    whole_read =
        let P : List (List ℕ) → Type 0 = λ grains. All (λ (g : List ℕ). length g ≡ grain_bytes grain) grains in
        record {
          marked = ap (λ (v : VolumeDiskState). length v.lost) others ∙ was_whole.marked ∙ ap (length {A = List ℕ}) (sym after.grains);
          whole = subst P (sym after.grains) was_whole.whole;
        }

    pub kept_read : IsKept grain (slice_set volumes at now) pool aside buffer' sums' volume_room aside_room
    kept_read =
        kept_changed grain volumes pool aside buffer sums volume_room aside_room kept at within was read id found now buffer' sums'
        (ap (λ (v : VolumeDiskState). v.volume.0) others) whole_read size
        (sums_called now buffer' size sums' failed after.call (omega (arith, after.write_faults)) calls faults
        (omega (arith, write_faults, after.write_faults)))

    seen_read : grains_of now ≡ called (grains_of was)
    seen_read = λ k. record {
      volume = (others k).volume;
      kind = after.call.kind k;
      contents = contents ((others k).lost) (after.grains k);
      reached = reached_as (after.call.kind k) (after.grains k) (after.occupied k);
      due = after.call.due k;
    }

    bytes_read : place < length (volume_of (map grains_of volumes) id).contents → is_lost (stored (map grains_of volumes) id place) ≡ false → buffer' ≡ out
        → OnFalse failed (out ≡ grain_at was.disk.grains place) → OnFalse failed (stored (map grains_of volumes) id place ≡ Bytes buffer')
    bytes_read there readable filled bytes =
        let stores = stored_is volumes kept.rising at within was read id found place there in
        on_false_map failed (λ same.
        stores
        ∙ content-readable (slice_index_or was.lost place false) (grain_at was.disk.grains place) (sym (ap is_lost stores) ∙ readable)
        ∙ ap Bytes (sym (filled ∙ same))) bytes

    pub has_read : place < length (volume_of (map grains_of volumes) id).contents → is_lost (stored (map grains_of volumes) id place) ≡ false → buffer' ≡ out
        → HasRead (state_of grain volumes pool aside buffer sums) id place failed (state_of grain (slice_set volumes at now) pool aside buffer' sums')
    has_read there readable filled = record {
      bytes = bytes_read there readable filled after.bytes;
      size = size;
      call = called_once now buffer' size sums' failed after.call calls faults _ refl refl;
      rest =
          state_changed grain volumes pool aside buffer sums volume_room aside_room kept at within was read id found now buffer' sums' called seen_read after.call.kind
          (silent_by was.disk.due now.disk.due (λ n. n - 1) after.call.due)
          ∙ (λ k. record (state_of grain volumes pool aside buffer sums) {
            volumes = changed id called (map grains_of volumes);
            buffer = buffer';
            calls = sums'.calls;
            faults = sums'.faults;
            write_faults = no_write k;
          });
    }

  -- a write
  module _ (now : VolumeDiskState) (place : ℕ) (answer : Result (Unit {0}) DiskError) (bytes : List ℕ) (sums' : Sums) (after : AfterWrite was.disk place bytes answer now.disk)
      (others : now ≡ record was { disk = now.disk; lost = lost_after answer was.lost place }) (filled : bytes ≡ buffer)
      (there : place < length (volume_of (map grains_of volumes) id).contents)
      (calls : sums'.calls ≡ stopped (sums.calls + 1)) (faults : sums'.faults ≡ stopped (sums.faults + (now.disk.faults - was.disk.faults)))
      (write_faults : sums'.write_faults ≡ stopped (sums.write_faults + (now.disk.write_faults - was.disk.write_faults))) where
    whole_written : IsWhole (grain_bytes grain) now
    whole_written =
        let P : List (List ℕ) → Type 0 = λ grains. All (λ (g : List ℕ). length g ≡ grain_bytes grain) grains in
        let size : length (grain_at now.disk.grains place) ≡ grain_bytes grain =
        length-after answer bytes (grain_at was.disk.grains place) (grain_at now.disk.grains place) (grain_bytes grain) after.grain (ap length filled ∙ kept.buffer_size) (length-grain place there) in
        record {
          marked =
              ap (λ (v : VolumeDiskState). length v.lost) others
              ∙ length-lost answer was.lost place
              ∙ was_whole.marked
              ∙ sym (ap (length {A = List ℕ}) after.others ∙ length-set was.disk.grains place (grain_at now.disk.grains place));
          whole = subst P (sym after.others)
              (All-set (λ (g : List ℕ). length g ≡ grain_bytes grain) was.disk.grains place (grain_at now.disk.grains place) size was_whole.whole);
        }

    pub kept_written : IsKept grain (slice_set volumes at now) pool aside buffer sums' volume_room aside_room
    kept_written =
        kept_changed grain volumes pool aside buffer sums volume_room aside_room kept at within was read id found now buffer sums'
        (ap (λ (v : VolumeDiskState). v.volume.0) others) whole_written kept.buffer_size
        (sums_called now buffer kept.buffer_size sums' (write_failed answer) after.call after.write_faults.kept calls faults write_faults)

    pub has_written : HasWritten (state_of grain volumes pool aside buffer sums) id place answer (state_of grain (slice_set volumes at now) pool aside buffer sums')
    has_written =
        let P : VolumeGrains → Type 0 = λ v. FaultsAfter (is_some v.due) (write_failed answer) sums.write_faults sums'.write_faults in
        let Q : VolumeGrains → Type 0 = λ v. MayAnswer v.kind answer in
        let is = sym (volume_is volumes kept.rising at within was read id found) in
        record {
          call = called_once now buffer kept.buffer_size sums' (write_failed answer) after.call calls faults _ refl refl;
          write_faults = subst P is
              (faults_rise (is_some was.disk.due) (write_failed answer) _ was.disk.write_faults now.disk.write_faults sums.write_faults sums'.write_faults
              (total-covers volumes pool aside at was now within read (λ (d : DiskState). d.write_faults)) kept.add_up.write_faults write_faults after.write_faults);
          allowed = subst Q is after.allowed;
          rest =
              state_changed grain volumes pool aside buffer sums volume_room aside_room kept at within was read id found now buffer sums'
              (after_write answer place buffer)
              (seen_written answer was now place bytes after (ap (λ (v : VolumeDiskState). v.volume) others) (ap (λ (v : VolumeDiskState). v.lost) others)
              ∙ ap (λ (b : List ℕ). after_write answer place b (grains_of was)) filled)
              after.call.kind (silent_by was.disk.due now.disk.due (λ n. n - 1) after.call.due);
        }

  -- a fault is armed
  module _ (now : VolumeDiskState) (steps : ℕ) (arms : now ≡ record was { disk = disk_armed was.disk steps }) where
    pub kept_armed : IsKept grain (slice_set volumes at now) pool aside buffer sums volume_room aside_room
    kept_armed =
        let P : VolumeDiskState → Type 0 = IsWhole (grain_bytes grain) in
        kept_changed grain volumes pool aside buffer sums volume_room aside_room kept at within was read id found now buffer sums
        (ap (λ (v : VolumeDiskState). v.volume.0) arms) (subst P (sym arms) record { marked = was_whole.marked; whole = was_whole.whole }) kept.buffer_size
        (add_up_same grain volumes pool aside buffer sums volume_room aside_room kept at within was read id found now
        (ap (λ (v : VolumeDiskState). v.disk.calls) arms) (ap (λ (v : VolumeDiskState). v.disk.faults) arms) (ap (λ (v : VolumeDiskState). v.disk.write_faults) arms))

    pub state_armed : state_of grain (slice_set volumes at now) pool aside buffer sums
        ≡ record (state_of grain volumes pool aside buffer sums) { volumes = changed id (armed steps) (map grains_of volumes) }
    state_armed =
        state_changed grain volumes pool aside buffer sums volume_room aside_room kept at within was read id found now buffer sums (armed steps)
        (ap grains_of arms) (ap (λ (v : VolumeDiskState). v.disk.kind) arms) (silent_by was.disk.due now.disk.due (λ _. steps) (ap (λ (v : VolumeDiskState). v.disk.due) arms))

  -- a grain is marked as lost
  module _ (now : VolumeDiskState) (place : ℕ) (marks : now ≡ record was { lost = slice_set was.lost place true }) where
    pub kept_lost : IsKept grain (slice_set volumes at now) pool aside buffer sums volume_room aside_room
    kept_lost =
        let P : VolumeDiskState → Type 0 = IsWhole (grain_bytes grain) in
        kept_changed grain volumes pool aside buffer sums volume_room aside_room kept at within was read id found now buffer sums
        (ap (λ (v : VolumeDiskState). v.volume.0) marks)
        (subst P (sym marks) record { marked = length-set was.lost place true ∙ was_whole.marked; whole = was_whole.whole }) kept.buffer_size
        (add_up_same grain volumes pool aside buffer sums volume_room aside_room kept at within was read id found now
        (ap (λ (v : VolumeDiskState). v.disk.calls) marks) (ap (λ (v : VolumeDiskState). v.disk.faults) marks) (ap (λ (v : VolumeDiskState). v.disk.write_faults) marks))

    pub state_lost : state_of grain (slice_set volumes at now) pool aside buffer sums
        ≡ record (state_of grain volumes pool aside buffer sums) { volumes = changed id (holding place Lost) (map grains_of volumes) }
    state_lost =
        state_changed grain volumes pool aside buffer sums volume_room aside_room kept at within was read id found now buffer sums (holding place Lost)
        (ap grains_of marks ∙ (λ k. record (grains_of was) { contents = contents-lose was.lost was.disk.grains place k }))
        (ap (λ (v : VolumeDiskState). v.disk.kind) marks) (ap (λ (v : VolumeDiskState). one_if_silent v.disk.due) marks)

-- a call leaves what grains hold
pick : (b : Bool) (v v' rest rest' : VolumeGrains) → v'.contents ≡ v.contents → rest'.contents ≡ rest.contents → (cond b v' rest').contents ≡ (cond b v rest).contents
pick true v v' rest rest' same others = same
pick false v v' rest rest' same others = others

step : (t : Bool) (v rest rest' : VolumeGrains) (to : ℕ) → rest'.contents ≡ rest.contents
    → (cond (nat_eq (cond t (called v) v).volume.0 to) (cond t (called v) v) rest').contents ≡ (cond (nat_eq v.volume.0 to) v rest).contents
step true v rest rest' to others = pick (nat_eq v.volume.0 to) v (called v) rest rest' refl others
step false v rest rest' to others = pick (nat_eq v.volume.0 to) v v rest rest' refl others

pub contents-called : (vs : List VolumeGrains) (from to : ℕ) → (volume_of (changed from called vs) to).contents ≡ (volume_of vs to).contents
contents-called [] from to = refl
contents-called (v ∷ vs) from to = step (nat_eq v.volume.0 from) v (volume_of vs to) (volume_of (changed from called vs) to) to (contents-called vs from to)

pub target_still : (old new : GrainsState) (from to place : ℕ) (failed : Bool) → HasRead old from place failed new
    → place < length (volume_of old.volumes to).contents → place < length (volume_of new.volumes to).contents
target_still old new from to place failed read there =
    let same : (volume_of new.volumes to).contents ≡ (volume_of old.volumes to).contents =
    ap (λ (s : GrainsState). (volume_of s.volumes to).contents) read.rest ∙ contents-called old.volumes from to in
    let P : List Content → Type 0 = λ contents. place < length contents in
    subst P (sym same) there
