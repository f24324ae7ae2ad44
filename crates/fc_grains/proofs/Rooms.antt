-- Which grains of the volumes occupy memory, for crates above.
use Rattle.std.proofs.Common.{◌≡◌, ℕ, Bool, true, false, not, cond, ◌||◌, nat_eq, List, [], ◌∷◌, ◌++◌, filter, map, slice_set, Result, Ok, Err, refl, ◌∙◌, ap, true≢false}
use Rattle.std.specs.List.{count_by}
use Rattle.std.proofs.lemmas.List.{map-append}
use Rattle.fc_base.specs.Room.{Room, new_reached, reach, reached_in, used_in}
use Rattle.fc_base.specs.declared.disk.DiskError.{DiskError}
use Rattle.fc_base.specs.declared.disk.DiskError.TheVariants.{Failed, NoMemory}
use Rattle.fc_entry.specs.Picture.{Lost}
use Rattle.fc_grains.specs.Calls.{HasMade, HasRead, HasRemoved, HasWritten}
use Rattle.fc_grains.specs.Grains.{GrainsState, next_of}
use Rattle.fc_grains.specs.Volumes.{VolumeGrains, after_write, armed, called, changed, holding, is_there, room_of, rooms_of, volume_of, without}

-- the rooms, where a write of a volume's grain answered so: without memory it reached nothing
abbrev pub rooms_after_write : {A : Type 0} → Result A DiskError → ℕ → ℕ → List Room → List Room
rooms_after_write (Ok _) id place rooms = reach id place rooms
rooms_after_write (Err Failed) id place rooms = reach id place rooms
rooms_after_write (Err NoMemory) id place rooms = rooms

-- the room of a volume
pick_reached : (b : Bool) (v rest : VolumeGrains) (reached : List Bool) → reached ≡ rest.reached → cond b v.reached reached ≡ (cond b v rest).reached
pick_reached true v rest reached same = refl
pick_reached false v rest reached same = same

pub reached_in-rooms : (vs : List VolumeGrains) (id : ℕ) → reached_in (rooms_of vs) id ≡ (volume_of vs id).reached
reached_in-rooms [] id = refl
reached_in-rooms (v ∷ vs) id = pick_reached (nat_eq v.volume.0 id) v (volume_of vs id) (reached_in (rooms_of vs) id) (reached_in-rooms vs id)

pub used_in-rooms : (vs : List VolumeGrains) (id : ℕ) → used_in (rooms_of vs) id ≡ count_by (λ (b : Bool). b) (volume_of vs id).reached
used_in-rooms vs id = ap (count_by (λ (b : Bool). b)) (reached_in-rooms vs id)

-- a volume that isn't there has none
none_reached : (b more : Bool) (reached rest : List Bool) → (b || more) ≡ false → (more ≡ false → rest ≡ []) → cond b reached rest ≡ []
none_reached true more reached rest away later = absurd (true≢false away)
none_reached false more reached rest away later = later away

reached_away : (vs : List VolumeGrains) (id : ℕ) → is_there vs id ≡ false → reached_in (rooms_of vs) id ≡ []
reached_away [] id away = refl
reached_away (v ∷ vs) id away =
    none_reached (nat_eq v.volume.0 id) (is_there vs id) v.reached (reached_in (rooms_of vs) id) away (reached_away vs id)

pub used_in-away : (vs : List VolumeGrains) (id : ℕ) → is_there vs id ≡ false → used_in (rooms_of vs) id ≡ 0
used_in-away vs id away = ap (count_by (λ (b : Bool). b)) (reached_away vs id away)

-- one volume changed, and its room alike
room_changed : (b : Bool) (v w : VolumeGrains) (r : Room) → room_of w ≡ r → room_of (cond b w v) ≡ cond b r (room_of v)
room_changed true v w r same = same
room_changed false v w r same = refl

pub rooms_changed : (id : ℕ) (change : VolumeGrains → VolumeGrains) (f : Room → Room) (vs : List VolumeGrains) → ((v : VolumeGrains) → room_of (change v) ≡ f (room_of v))
    → rooms_of (changed id change vs) ≡ map (λ (r : Room). cond (nat_eq r.volume.0 id) (f r) r) (rooms_of vs)
rooms_changed id change f [] same = refl
rooms_changed id change f (v ∷ vs) same = λ k.
    room_changed (nat_eq v.volume.0 id) v (change v) (f (room_of v)) (same v) k
    ∷ rooms_changed id change f vs same k

-- one volume changed, and not its room
unchanged : (b : Bool) (r : Room) → cond b r r ≡ r
unchanged true r = refl
unchanged false r = refl

all_unchanged : (id : ℕ) (rooms : List Room) → map (λ (r : Room). cond (nat_eq r.volume.0 id) r r) rooms ≡ rooms
all_unchanged id [] = refl
all_unchanged id (r ∷ rooms) = λ k. unchanged (nat_eq r.volume.0 id) r k ∷ all_unchanged id rooms k

pub rooms_kept : (id : ℕ) (change : VolumeGrains → VolumeGrains) (vs : List VolumeGrains) → ((v : VolumeGrains) → room_of (change v) ≡ room_of v) → rooms_of (changed id change vs) ≡ rooms_of vs
rooms_kept id change vs same = rooms_changed id change (λ r. r) vs same ∙ all_unchanged id (rooms_of vs)

-- a call of a disk, an armed fault and a mark leave them
pub rooms_called : (vs : List VolumeGrains) (id : ℕ) → rooms_of (changed id called vs) ≡ rooms_of vs
rooms_called vs id = rooms_kept id called vs (λ v. refl)

pub rooms_armed : (vs : List VolumeGrains) (id calls : ℕ) → rooms_of (changed id (armed calls) vs) ≡ rooms_of vs
rooms_armed vs id calls = rooms_kept id (armed calls) vs (λ v. refl)

pub rooms_lost : (vs : List VolumeGrains) (id place : ℕ) → rooms_of (changed id (holding place Lost) vs) ≡ rooms_of vs
rooms_lost vs id place = rooms_kept id (holding place Lost) vs (λ v. refl)

-- a write reaches its grain
rooms_by_write : {A : Type 0} (answer : Result A DiskError) (vs : List VolumeGrains) (id place : ℕ) (bytes : List ℕ)
    → rooms_of (changed id (after_write answer place bytes) vs) ≡ rooms_after_write answer id place (rooms_of vs)
rooms_by_write (Ok a) vs id place bytes =
    rooms_changed id (after_write (Ok a) place bytes) (λ r. record r { reached = slice_set r.reached place true }) vs (λ v. refl)
rooms_by_write {A} (Err Failed) vs id place bytes =
    rooms_changed id (after_write {A = A} (Err Failed) place bytes) (λ r. record r { reached = slice_set r.reached place true }) vs (λ v. refl)
rooms_by_write {A} (Err NoMemory) vs id place bytes = rooms_kept id (after_write {A = A} (Err NoMemory) place bytes) vs (λ v. refl)

-- what calls leave
pub rooms_read : (old new : GrainsState) (volume place : ℕ) (failed : Bool) → HasRead old volume place failed new → rooms_of new.volumes ≡ rooms_of old.volumes
rooms_read old new volume place failed read = ap (λ (s : GrainsState). rooms_of s.volumes) read.rest ∙ rooms_called old.volumes volume

pub rooms_written : {A : Type 0} (answer : Result A DiskError) (old new : GrainsState) (volume place : ℕ) → HasWritten old volume place answer new
    → rooms_of new.volumes ≡ rooms_after_write answer volume place (rooms_of old.volumes)
rooms_written answer old new volume place written =
    ap (λ (s : GrainsState). rooms_of s.volumes) written.rest ∙ rooms_by_write answer old.volumes volume place old.buffer

-- volumes come and go
pub rooms_made : (old new : GrainsState) (volume : ℕ) → HasMade old volume new
    → rooms_of new.volumes ≡ rooms_of old.volumes ++ record { volume = record { 0 = volume }; reached = new_reached (next_of old.reserved).kind (next_of old.reserved).grains } ∷ []
rooms_made old new volume made = ap (λ (s : GrainsState). rooms_of s.volumes) made.made ∙ map-append room_of old.volumes _

keep_or_not : (b : Bool) (r : Room) (v : VolumeGrains) (vs : List VolumeGrains) (rest : List Room) → room_of v ≡ r → rooms_of vs ≡ rest
    → rooms_of (cond b (v ∷ vs) vs) ≡ cond b (r ∷ rest) rest
keep_or_not true r v vs rest one more = λ k. one k ∷ more k
keep_or_not false r v vs rest one more = more

pub rooms_without : (vs : List VolumeGrains) (id : ℕ) → rooms_of (without id vs) ≡ filter (λ (r : Room). not (nat_eq r.volume.0 id)) (rooms_of vs)
rooms_without [] id = refl
rooms_without (v ∷ vs) id =
    keep_or_not (not (nat_eq v.volume.0 id)) (room_of v) v (without id vs) (filter (λ (r : Room). not (nat_eq r.volume.0 id)) (rooms_of vs)) refl (rooms_without vs id)

pub rooms_removed : (old new : GrainsState) (volume : ℕ) → HasRemoved old volume new
    → rooms_of new.volumes ≡ filter (λ (r : Room). not (nat_eq r.volume.0 volume)) (rooms_of old.volumes)
rooms_removed old new volume removed = ap (λ (s : GrainsState). rooms_of s.volumes) removed.removed ∙ rooms_without old.volumes volume
