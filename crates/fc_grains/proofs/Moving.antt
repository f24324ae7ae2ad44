-- Disks that move from the pool to a volume, and from a volume to those put aside.
use Rattle.std.proofs.Common.{◌≡◌, ℕ, suc, ◌+◌, ◌<◌, ◌≤◌, ◌^◌, true, false, List, [], ◌∷◌, ◌++◌, length, map, take, drop, get_or, replicate, slice_index_or, reverse, Option, None, Some, IfSome, Result, Ok, Err, OnOk, OnErr, is_err, true≢false, refl, sym, ◌∙◌, ap, subst, arith}
use Rattle.std.specs.List.{All, remove, sum_by}
use Rattle.std.proofs.lemmas.List.{map-append, take-map, drop-map, get_or-map, length-map, length-append, length-drop, length-replicate, reverse-append}
use Rattle.std.proofs.lemmas.List.Edits.{length-remove}
use Rattle.std.proofs.lemmas.List.Elements.{All-append, All-drop, All-push, All-replicate, All-take}
use Rattle.std.proofs.lemmas.List.Quantifiers.{all_pairs_push, all_pairs_remove}
use Rattle.std.proofs.lemmas.List.Sums.{sum_by-append, sum_by-cons, sum_by-remove, sum_by_push}
use Rattle.fc_base.specs.Grain.{grain_bytes}
use Rattle.fc_base.specs.Pools.{pool_without}
use Rattle.fc_base.specs.Room.{new_reached}
use Rattle.fc_base.specs.declared.disk.DiskKind.{DiskKind}
use Rattle.fc_base.specs.declared.outcome.NoMemory.{NoMemory}
use Rattle.fc_base.specs.declared.size.GrainSize.{GrainSize}
use Rattle.fc_mdisk.specs.Disk.{DiskState, cleared}
use Rattle.fc_mdisk.specs.Disks.{disk_at}
use Rattle.fc_entry.specs.Picture.{Bytes, zeros}
use Rattle.fc_grains.specs.Calls.{HasMade, HasReadied, HasRemoved}
use Rattle.fc_grains.specs.Grains.{AreAllOf, GrainsState, HasWholeGrains, IsUnarmed, by_kind, NewVolume, next_of, next_place, one_if_silent, opened, pool_of, silent_of, stopped}
use Rattle.fc_grains.specs.Kept.{AddUp, IsKept, all_disks, state_of}
use Rattle.fc_grains.specs.Parts.{HasNoWrites, HasZeros, IsWhole, PoolState, SameDisks, VolumeDiskState, contents, disks_of, grains_of, left_of, new_of, reached_as}
use Rattle.fc_grains.specs.Volumes.{VolumeGrains, HoldAll, HoldsGrains, HoldsNothing, without}
use Rattle.fc_grains.specs.declared.sums.Sums.{Sums}
use Rattle.fc_grains.proofs.Changing.{seen_rise, volume_is}
use Rattle.fc_grains.proofs.Contents.{contents-replicate, reached-new}
use Rattle.fc_grains.proofs.Finding.{AreRising, without-at}
use Rattle.fc_grains.proofs.Handing.{holds_own}
use Rattle.fc_grains.proofs.KindCounts.{same_kinds}

-- as many disks, since each counts one
ones : (disks : List DiskState) → sum_by (λ (d : DiskState). 1) disks ≡ length disks
ones [] = refl
ones (d ∷ disks) = omega (arith, sum_by-cons (λ (x : DiskState). 1) d disks, ones disks)

pub same_number : (xs ys : List DiskState) → SameDisks xs ys → length xs ≡ length ys
same_number xs ys same = sym (ones xs) ∙ same (λ _. 1) ∙ ones ys

pub add_up_by : (xs ys : List DiskState) (sums : Sums) → SameDisks xs ys → AddUp ys sums → AddUp xs sums
add_up_by xs ys sums same add_up = record {
  calls = add_up.calls ∙ ap stopped (sym (same (λ (d : DiskState). d.calls)));
  faults = add_up.faults ∙ ap stopped (sym (same (λ (d : DiskState). d.faults)));
  write_faults = add_up.write_faults ∙ ap stopped (sym (same (λ (d : DiskState). d.write_faults)));
}

pub same_silent : (xs ys : List DiskState) → SameDisks xs ys → silent_of xs ≡ silent_of ys
same_silent xs ys same = same (λ (d : DiskState). one_if_silent d.due)

pub all_of : (state : GrainsState) (all given own : List DiskState) (sums : Sums) → SameDisks given all → state.disks ≡ pool_of all → state.silent ≡ silent_of all
    → state.calls ≡ sums.calls → state.faults ≡ sums.faults → state.write_faults ≡ sums.write_faults → AddUp all sums
    → given ≡ own ++ (state.pooled ++ state.aside) → HoldAll (reverse state.volumes) own → All (HasWholeGrains state.grain) own → All HoldsNothing state.aside → AreAllOf state given
all_of state all given own sums same disks silent calls faults write_faults add_up order held whole empty =
    let by : AddUp given sums = add_up_by given all sums same add_up in
    record {
      kinds = same_kinds given all same ∙ sym disks;
      silent = same_silent given all same ∙ sym silent;
      calls = sym (calls ∙ by.calls);
      faults = sym (faults ∙ by.faults);
      write_faults = sym (write_faults ∙ by.write_faults);
      faults_counted = omega (arith, faults, by.faults);
      write_faults_counted = omega (arith, write_faults, by.write_faults);
      own = own;
      in_order = order;
      held = held;
      whole = whole;
      empty = empty;
    }

-- a new volume
module _ (volumes : List VolumeDiskState) (pool pool' : PoolState) (aside : List DiskState) (v : VolumeDiskState) (same : SameDisks (v.disk ∷ disks_of pool') (disks_of pool)) where
  pub same_made : SameDisks (all_disks (volumes ++ v ∷ []) pool' aside) (all_disks volumes pool aside)
  same_made count =
      let f : DiskState → ℕ = λ d. count (cleared d) in
      let ds : List DiskState = map (λ (x : VolumeDiskState). x.disk) volumes in
      let items : map (λ (x : VolumeDiskState). x.disk) (volumes ++ v ∷ []) ≡ ds ++ v.disk ∷ [] = map-append (λ (x : VolumeDiskState). x.disk) volumes (v ∷ []) in
      ap (λ (l : List DiskState). sum_by f (l ++ (disks_of pool' ++ aside))) items
      ∙ sum_by-append f (ds ++ v.disk ∷ []) (disks_of pool' ++ aside)
      ∙ omega (arith, sum_by_push f ds v.disk, sum_by-append f (disks_of pool') aside, sum_by-append f (disks_of pool) aside, same count, sum_by-cons f v.disk (disks_of pool'))
      ∙ sym (sum_by-append f ds (disks_of pool ++ aside))

  pub fewer : length (disks_of pool') + 1 ≡ length (disks_of pool)
  fewer = omega (arith, same_number (v.disk ∷ disks_of pool') (disks_of pool) same)

module _ (grain : GrainSize) (volumes : List VolumeDiskState) (pool pool' : PoolState) (aside : List DiskState) (buffer : List ℕ) (sums : Sums) (volume_room volume_room' aside_room : ℕ)
    (kept : IsKept grain volumes pool aside buffer sums volume_room aside_room) (v : VolumeDiskState) (new : NewVolume) (kind_is : v.disk.kind ≡ new.kind)
    (has_zeros : HasZeros pool.bytes new.grains v.disk) (unwritten : HasNoWrites new.grains v.disk) (unmarked : v.lost ≡ replicate new.grains false) (unarmed : IsUnarmed v.disk)
    (bytes : pool'.bytes ≡ pool.bytes) (reserved : pool'.reserved ≡ drop 1 pool.reserved) (some : 0 < length pool.reserved)
    (same : SameDisks (v.disk ∷ disks_of pool') (disks_of pool))
    (id : ℕ) (is : v.volume.0 ≡ id) (newest : All (λ (w : VolumeGrains). w.volume.0 < id) (map grains_of volumes)) where
  newest_disk : (k : ℕ) (d : VolumeDiskState) → k < length volumes → (get_or volumes k d).volume.0 < v.volume.0
  newest_disk k d within =
      let seen : get_or (map grains_of volumes) k (grains_of d) ≡ grains_of (get_or volumes k d) = get_or-map grains_of volumes k d (grains_of d) within in
      let below = newest k (grains_of d) (omega (arith, length-map volumes grains_of)) in
      omega (arith, below, is, ap (λ (w : VolumeGrains). w.volume.0) seen)

  whole_new : IsWhole (grain_bytes grain) v
  whole_new =
      let P : List (List ℕ) → Type 0 = λ grains. All (λ (g : List ℕ). length g ≡ grain_bytes grain) grains in
      record {
        marked = ap length unmarked ∙ length-replicate new.grains false ∙ sym (ap (length {A = List ℕ}) has_zeros ∙ length-replicate new.grains (replicate pool.bytes 0));
        whole = subst P (sym has_zeros)
            (All-replicate (λ (g : List ℕ). length g ≡ grain_bytes grain) new.grains (replicate pool.bytes 0) (length-replicate pool.bytes 0 ∙ kept.pool_size));
      }

  pub kept_made : volume_room ≤ volume_room' → IsKept grain (volumes ++ v ∷ []) pool' aside buffer sums volume_room' aside_room
  kept_made grown =
      let number : length (volumes ++ v ∷ []) ≡ length volumes + 1 = length-append volumes (v ∷ []) in
      let coming : length pool'.reserved + 1 ≡ length pool.reserved = omega (arith, ap length reserved, length-drop 1 pool.reserved) in
      record {
        buffer_size = kept.buffer_size;
        pool_size = bytes ∙ kept.pool_size;
        rising = all_pairs_push (λ (x y : VolumeDiskState). x.volume.0 < y.volume.0) volumes v kept.rising newest_disk;
        whole = All-push (IsWhole (grain_bytes grain)) volumes v kept.whole whole_new;
        empty = kept.empty;
        add_up = add_up_by (all_disks (volumes ++ v ∷ []) pool' aside) (all_disks volumes pool aside) sums (same_made volumes pool pool' aside v same) kept.add_up;
        few = omega (arith, kept.few, number, fewer volumes pool pool' aside v same);
        room = omega (arith, kept.room, number, coming, grown);
        room_aside = omega (arith, kept.room_aside, number, coming);
      }

  told_new : (due : Option ℕ) → IfSome due (λ n. n ≡ 0) → one_if_silent due ≡ 0 → due ≡ Some 0
  told_new None quiet silent = absurd (omega arith)
  told_new (Some n) quiet silent = ap Some quiet

  silent_new : silent_of (all_disks volumes pool aside) ≡ 0 → one_if_silent v.disk.due ≡ 0
  silent_new none =
      let f : DiskState → ℕ = λ d. one_if_silent d.due in
      let ds : List DiskState = map (λ (x : VolumeDiskState). x.disk) volumes in
      let part : silent_of (all_disks volumes pool aside) ≡ sum_by f ds + sum_by f (disks_of pool ++ aside) = sum_by-append f ds (disks_of pool ++ aside) in
      omega (arith, none, part, sum_by-append f (disks_of pool) aside, same f, sum_by-cons f v.disk (disks_of pool'))

  pub has_made : next_of (map new_of pool.reserved) ≡ new → left_of pool' ≡ pool_without new.kind (left_of pool)
      → v.disk ≡ disk_at (disks_of pool) (next_place (map new_of pool.reserved) (left_of pool)) → disks_of pool' ≡ remove (disks_of pool) (next_place (map new_of pool.reserved) (left_of pool))
      → HasMade (state_of grain volumes pool aside buffer sums) id (state_of grain (volumes ++ v ∷ []) pool' aside buffer sums)
  has_made next left first taken =
      let P : NewVolume → Type 0 = λ n. state_of grain (volumes ++ v ∷ []) pool' aside buffer sums ≡ record (state_of grain volumes pool aside buffer sums) {
        volumes = map grains_of volumes ++ record { volume = record { 0 = id }; kind = n.kind; contents = replicate n.grains (zeros grain); reached = new_reached n.kind n.grains; due = v.disk.due } ∷ [];
        pool = pool_without n.kind (left_of pool);
        reserved = drop 1 (map new_of pool.reserved);
        pooled = remove (disks_of pool) (next_place (map new_of pool.reserved) (left_of pool));
      } in
      let held : contents v.lost v.disk.grains ≡ replicate new.grains (zeros grain) =
      (λ k. contents (unmarked k) (has_zeros k)) ∙ contents-replicate new.grains (replicate pool.bytes 0) ∙ ap (λ (n : ℕ). replicate new.grains (Bytes (replicate n 0))) kept.pool_size in
      let seen : map grains_of (volumes ++ v ∷ []) ≡ map grains_of volumes ++ grains_of v ∷ [] = map-append grains_of volumes (v ∷ []) in
      let reached : reached_as v.disk.kind v.disk.grains v.disk.occupied ≡ new_reached new.kind new.grains =
      (λ k. reached_as v.disk.kind (has_zeros k) (unwritten k))
      ∙ reached-new v.disk.kind new.grains (replicate pool.bytes 0)
      ∙ ap (λ (kind : DiskKind). new_reached kind new.grains) kind_is in
      let row : grains_of v ≡ record { volume = record { 0 = id }; kind = new.kind; contents = replicate new.grains (zeros grain); reached = new_reached new.kind new.grains; due = v.disk.due } =
      λ k. record { volume = record { 0 = is k }; kind = kind_is k; contents = held k; reached = reached k; due = v.disk.due } in
      record {
        due = v.disk.due;
        due_is = ap (λ (d : DiskState). d.due) first;
        unarmed = unarmed;
        told = λ none. told_new v.disk.due unarmed (silent_new none);
        made = subst P (sym next)
            (λ k. record {
              grain = grain;
              volumes = (seen ∙ ap (λ (x : VolumeGrains). map grains_of volumes ++ x ∷ []) row) k;
              pool = left k;
              reserved = (ap (map new_of) reserved ∙ sym (drop-map new_of 1 pool.reserved)) k;
              buffer = buffer;
              pooled = taken k;
              aside = aside;
              disks = same_kinds (all_disks (volumes ++ v ∷ []) pool' aside) (all_disks volumes pool aside) (same_made volumes pool pool' aside v same) k;
              silent = same_silent (all_disks (volumes ++ v ∷ []) pool' aside) (all_disks volumes pool aside) (same_made volumes pool pool' aside v same) k;
              calls = sums.calls;
              faults = sums.faults;
              write_faults = sums.write_faults;
            });
      }

map-remove : {A B : Type 0} (f : A → B) (xs : List A) (i : ℕ) → map f (remove xs i) ≡ remove (map f xs) i
map-remove f xs i =
    map-append f (take i xs) (drop (suc i) xs) ∙ (λ k. sym (take-map f i xs) k ++ sym (drop-map f (suc i) xs) k)

-- a volume goes
module _ (volumes : List VolumeDiskState) (pool : PoolState) (aside : List DiskState) (at : ℕ) (was : VolumeDiskState) (within : at < length volumes) (read : was ≡ get_or volumes at was) where
  pub same_removed : SameDisks (all_disks (remove volumes at) pool (aside ++ cleared was.disk ∷ [])) (all_disks volumes pool aside)
  same_removed count =
      let f : DiskState → ℕ = λ d. count (cleared d) in
      let ds : List DiskState = map (λ (x : VolumeDiskState). x.disk) volumes in
      let items : map (λ (x : VolumeDiskState). x.disk) (remove volumes at) ≡ remove ds at = map-remove (λ (x : VolumeDiskState). x.disk) volumes at in
      let first : get_or ds at was.disk ≡ was.disk = get_or-map (λ (x : VolumeDiskState). x.disk) volumes at was was.disk within ∙ ap (λ (x : VolumeDiskState). x.disk) (sym read) in
      let level : f (get_or ds at was.disk) ≡ f was.disk = ap f first in
      let one : sum_by f (remove ds at) + f (get_or ds at was.disk) ≡ sum_by f ds = sum_by-remove f ds at was.disk (omega (arith, length-map volumes (λ (x : VolumeDiskState). x.disk))) in
      let behind : sum_by f (aside ++ cleared was.disk ∷ []) ≡ sum_by f aside + f was.disk = sum_by_push f aside (cleared was.disk) in
      ap (λ (l : List DiskState). sum_by f (l ++ (disks_of pool ++ (aside ++ cleared was.disk ∷ [])))) items
      ∙ sum_by-append f (remove ds at) (disks_of pool ++ (aside ++ cleared was.disk ∷ []))
      ∙ omega (arith, one, level, behind, sum_by-append f (disks_of pool) (aside ++ cleared was.disk ∷ []), sum_by-append f (disks_of pool) aside)
      ∙ sym (sum_by-append f ds (disks_of pool ++ aside))

module _ (grain : GrainSize) (volumes : List VolumeDiskState) (pool : PoolState) (aside : List DiskState) (buffer : List ℕ) (sums : Sums) (volume_room volume_room' aside_room aside_room' : ℕ)
    (kept : IsKept grain volumes pool aside buffer sums volume_room aside_room) (at : ℕ) (within : at < length volumes) (was : VolumeDiskState) (read : was ≡ get_or volumes at was)
    (id : ℕ) (found : (d : VolumeDiskState) → (slice_index_or volumes at d).volume.0 ≡ id) (aside' : List DiskState) (put : aside' ≡ aside ++ cleared was.disk ∷ []) where
  same_after : SameDisks (all_disks (remove volumes at) pool aside') (all_disks volumes pool aside)
  same_after =
      let P : List DiskState → Type 0 = λ a. SameDisks (all_disks (remove volumes at) pool a) (all_disks volumes pool aside) in
      subst P (sym put) (same_removed volumes pool aside at was within read)

  pub kept_removed : volume_room ≤ volume_room' → aside_room ≤ aside_room' → IsKept grain (remove volumes at) pool aside' buffer sums volume_room' aside_room'
  kept_removed kept_room grown =
      let number : length (remove volumes at) + 1 ≡ length volumes = length-remove volumes at within in
      let more : length aside' ≡ length aside + 1 = ap (length {A = DiskState}) put ∙ length-append aside (cleared was.disk ∷ []) in
      record {
        buffer_size = kept.buffer_size;
        pool_size = kept.pool_size;
        rising = all_pairs_remove (λ (x y : VolumeDiskState). x.volume.0 < y.volume.0) volumes at within kept.rising;
        whole = All-append (IsWhole (grain_bytes grain)) (take at volumes) (drop (suc at) volumes)
            (All-take (IsWhole (grain_bytes grain)) at volumes kept.whole) (All-drop (IsWhole (grain_bytes grain)) (suc at) volumes kept.whole);
        empty = subst (λ (ds : List DiskState). All HoldsNothing ds) (sym put) (All-push HoldsNothing aside (cleared was.disk) kept.empty refl);
        add_up = add_up_by (all_disks (remove volumes at) pool aside') (all_disks volumes pool aside) sums same_after kept.add_up;
        few = omega (arith, kept.few, number);
        room = omega (arith, kept.room, number, kept_room);
        room_aside = omega (arith, kept.room_aside, number, more, grown);
      }

  pub state_removed : state_of grain (remove volumes at) pool aside' buffer sums
      ≡ record (state_of grain volumes pool aside buffer sums) { volumes = without id (map grains_of volumes); aside = aside ++ cleared was.disk ∷ [] }
  state_removed =
      let inside : at < length (map grains_of volumes) = omega (arith, length-map volumes grains_of) in
      let id_at : (d : VolumeGrains) → (get_or (map grains_of volumes) at d).volume.0 ≡ id = λ d.
      ap (λ (v : VolumeGrains). v.volume.0) (get_or-map grains_of volumes at was d within) ∙ found was in
      let seen : map grains_of (remove volumes at) ≡ without id (map grains_of volumes) =
      map-remove grains_of volumes at ∙ sym (without-at (map grains_of volumes) id at (seen_rise volumes kept.rising) inside id_at) in
      λ k. record (state_of grain volumes pool aside buffer sums) {
        volumes = seen k;
        aside = put k;
        disks = same_kinds (all_disks (remove volumes at) pool aside') (all_disks volumes pool aside) same_after k;
        silent = same_silent (all_disks (remove volumes at) pool aside') (all_disks volumes pool aside) same_after k;
      }

  pub has_removed : HasRemoved (state_of grain volumes pool aside buffer sums) id (state_of grain (remove volumes at) pool aside' buffer sums)
  has_removed =
      let Q : VolumeDiskState → Type 0 = IsWhole (grain_bytes grain) in
      let whole : IsWhole (grain_bytes grain) was = subst Q (sym read) (kept.whole at was within) in
      record {
        disk = was.disk;
        held = subst (λ (v : VolumeGrains). HoldsGrains v was.disk) (sym (volume_is volumes kept.rising at within was read id found)) (holds_own (grain_bytes grain) was whole);
        removed = state_removed;
      }

-- no volumes yet
module _ (grain : GrainSize) (pool : PoolState) (buffer : List ℕ) (sums : Sums) (disks : List DiskState) (bytes : pool.bytes ≡ grain_bytes grain) (reserved : pool.reserved ≡ [])
    (same : SameDisks (disks_of pool) disks) (add_up : AddUp disks sums) (filled : buffer ≡ replicate (grain_bytes grain) 0) (few : length disks < 2 ^ 30) where
  same_opened : SameDisks (all_disks [] pool []) disks
  same_opened count = sum_by-append (λ (d : DiskState). count (cleared d)) (disks_of pool) [] ∙ omega (arith, same count)

  pub kept_opened : (volume_room aside_room : ℕ) → IsKept grain [] pool [] buffer sums volume_room aside_room
  kept_opened volume_room aside_room = record {
    buffer_size = ap length filled ∙ length-replicate (grain_bytes grain) 0;
    pool_size = bytes;
    rising = λ i j d before within. absurd (omega arith);
    whole = λ k d within. absurd (omega arith);
    empty = λ k d within. absurd (omega arith);
    add_up = add_up_by (all_disks [] pool []) disks sums same_opened add_up;
    few = omega (arith, same_number (disks_of pool) disks same);
    room = omega (arith, ap length reserved);
    room_aside = omega (arith, ap length reserved);
  }

  pub state_opened : left_of pool ≡ pool_of disks → disks_of pool ≡ by_kind disks → state_of grain [] pool [] buffer sums ≡ opened grain disks
  state_opened left sorted = λ k. record {
    grain = grain;
    volumes = [];
    pool = left k;
    reserved = map new_of (reserved k);
    buffer = filled k;
    pooled = sorted k;
    aside = [];
    disks = same_kinds (all_disks [] pool []) disks same_opened k;
    silent = same_silent (all_disks [] pool []) disks same_opened k;
    calls = add_up.calls k;
    faults = add_up.faults k;
    write_faults = add_up.write_faults k;
  }

-- one volume more is to come
pub on_ok_at : {A E P : Type 0} (r : Result A E) → is_err r ≡ false → OnOk r P → P
on_ok_at (Ok a) good holds = holds
on_ok_at (Err e) good holds = absurd (true≢false good)

pub on_err_at : {A E P : Type 0} (r : Result A E) → is_err r ≡ true → OnErr r P → P
on_err_at (Ok a) bad holds = absurd (true≢false (sym bad))
on_err_at (Err e) bad holds = holds

pub coming_by : (r : Result (Unit {0}) NoMemory) (old new : PoolState) (next : NewVolume) → OnOk r (map new_of new.reserved ≡ map new_of old.reserved ++ next ∷ []) → OnErr r (new ≡ old)
    → length new.reserved ≤ length old.reserved + 1
coming_by (Ok a) old new next ok err =
    omega (arith, length-map new.reserved new_of, length-map old.reserved new_of, ap length ok, length-append (map new_of old.reserved) (next ∷ []))
coming_by (Err e) old new next ok err = omega (arith, ap (λ (p : PoolState). length p.reserved) err)

module _ (grain : GrainSize) (volumes volumes' : List VolumeDiskState) (pool pool' : PoolState) (aside aside' : List DiskState) (buffer : List ℕ) (sums : Sums) (same_volumes : volumes' ≡ volumes)
    (same_aside : aside' ≡ aside) (same : SameDisks (disks_of pool') (disks_of pool)) where
  same_reserved : SameDisks (all_disks volumes' pool' aside') (all_disks volumes pool aside)
  same_reserved count =
      let f : DiskState → ℕ = λ d. count (cleared d) in
      let ds : List DiskState = map (λ (x : VolumeDiskState). x.disk) volumes in
      (λ k. sum_by f (all_disks (same_volumes k) pool' (same_aside k)))
      ∙ sum_by-append f ds (disks_of pool' ++ aside)
      ∙ omega (arith, sum_by-append f (disks_of pool') aside, sum_by-append f (disks_of pool) aside, same count)
      ∙ sym (sum_by-append f ds (disks_of pool ++ aside))

  pub kept_reserved : (volume_room volume_room' aside_room aside_room' : ℕ) → IsKept grain volumes pool aside buffer sums volume_room aside_room → pool'.bytes ≡ pool.bytes
      → length pool'.reserved ≤ length pool.reserved + 1 → length volumes + (length pool.reserved + 1) ≤ volume_room' → length aside + (length volumes + (length pool.reserved + 1)) ≤ aside_room'
      → IsKept grain volumes' pool' aside' buffer sums volume_room' aside_room'
  kept_reserved volume_room volume_room' aside_room aside_room' kept bytes coming room room_aside =
      let P : List VolumeDiskState → Type 0 = λ vs. AreRising vs in
      let Q : List VolumeDiskState → Type 0 = λ vs. All (IsWhole (grain_bytes grain)) vs in
      let number : length volumes' ≡ length volumes = ap length same_volumes in
      record {
        buffer_size = kept.buffer_size;
        pool_size = bytes ∙ kept.pool_size;
        rising = subst P (sym same_volumes) kept.rising;
        whole = subst Q (sym same_volumes) kept.whole;
        empty = subst (λ (ds : List DiskState). All HoldsNothing ds) (sym same_aside) kept.empty;
        add_up = add_up_by (all_disks volumes' pool' aside') (all_disks volumes pool aside) sums same_reserved kept.add_up;
        few = omega (arith, kept.few, number, same_number (disks_of pool') (disks_of pool) same);
        room = omega (arith, room, number, coming);
        room_aside = omega (arith, room_aside, number, coming, ap (length {A = DiskState}) same_aside);
      }

  pub state_reserved : (reserved : List NewVolume) → map new_of pool'.reserved ≡ reserved → left_of pool' ≡ left_of pool
      → state_of grain volumes' pool' aside' buffer sums ≡ record (state_of grain volumes pool aside buffer sums) { reserved = reserved; pooled = disks_of pool' }
  state_reserved reserved is left = λ k. record {
    grain = grain;
    volumes = map grains_of (same_volumes k);
    pool = left k;
    reserved = is k;
    buffer = buffer;
    pooled = disks_of pool';
    aside = same_aside k;
    disks = same_kinds (all_disks volumes' pool' aside') (all_disks volumes pool aside) same_reserved k;
    silent = same_silent (all_disks volumes' pool' aside') (all_disks volumes pool aside) same_reserved k;
    calls = sums.calls;
    faults = sums.faults;
    write_faults = sums.write_faults;
  }

  pub has_readied : (reserved : List NewVolume) → map new_of pool'.reserved ≡ reserved → left_of pool' ≡ left_of pool → map cleared (disks_of pool') ≡ map cleared (disks_of pool)
      → HasReadied (state_of grain volumes pool aside buffer sums) reserved (state_of grain volumes' pool' aside' buffer sums)
  has_readied reserved is left same_cleared = record { pooled = same_cleared; rest = state_reserved reserved is left }

  -- refused
  pub state_refused : pool' ≡ pool → state_of grain volumes' pool' aside' buffer sums ≡ state_of grain volumes pool aside buffer sums
  state_refused same_pool = λ k. state_of grain (same_volumes k) (same_pool k) (same_aside k) buffer sums

-- all disks are given back
pub number_of : (volumes : List VolumeDiskState) (pool : PoolState) (aside : List DiskState) → length (all_disks volumes pool aside) ≡ length volumes + (length (disks_of pool) + length aside)
number_of volumes pool aside =
    length-append (map (λ (v : VolumeDiskState). v.disk) volumes) (disks_of pool ++ aside)
    ∙ omega (arith, length-map volumes (λ (v : VolumeDiskState). v.disk), length-append (disks_of pool) aside)

pub same_given : (volumes : List VolumeDiskState) (pool : PoolState) (aside : List DiskState)
    → SameDisks (reverse (map (λ (v : VolumeDiskState). v.disk) volumes) ++ (disks_of pool ++ aside)) (all_disks volumes pool aside)
same_given volumes pool aside count =
    let f : DiskState → ℕ = λ d. count (cleared d) in
    let ds : List DiskState = map (λ (v : VolumeDiskState). v.disk) volumes in
    sum_by-append f (reverse ds) (disks_of pool ++ aside)
    ∙ ap (λ (n : ℕ). n + sum_by f (disks_of pool ++ aside)) (sum_reverse f ds)
    ∙ sym (sum_by-append f ds (disks_of pool ++ aside))
  where
    sum_reverse : (f : DiskState → ℕ) (ds : List DiskState) → sum_by f (reverse ds) ≡ sum_by f ds
    sum_reverse f [] = refl
    sum_reverse f (d ∷ ds) =
        ap (sum_by f) (reverse-append (d ∷ []) ds)
        ∙ omega (arith, sum_by_push f (reverse ds) d, sum_by-cons f d ds, sum_reverse f ds)
