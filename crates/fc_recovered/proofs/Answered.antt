-- How a read that was tried is answered.
use Rattle.std.proofs.Common.{◌≡◌, ℕ, ◌*◌, ◌/◌, ◌%◌, ◌<◌, Bool, true, false, Option, Some, None, List, length, map, sym, ap, subst, ◌∙◌, All}
use Rattle.std.specs.Prelude.{◌==◌, ◌&&◌, not, find}
use Rattle.std.specs.List.{flat_map}
use Rattle.std.proofs.Math.Nat.{mod-lt}
use Rattle.fc_base.specs.Grain.{block_bytes, grain_blocks}
use Rattle.fc_base.specs.Tables.{Tables}
use Rattle.fc_base.specs.declared.ids.VolId.{VolId}
use Rattle.fc_base.specs.declared.request.ReadPart.{ReadPart}
use Rattle.fc_base.specs.declared.request.Reply.{Reply}
use Rattle.fc_base.specs.declared.request.Reply.TheVariants.{Done, Made, Bytes as Read, Listed, Moved, Idle, Offline, NotAccessible, DiskFault, MediumError, NoMemory, Refused}
use Rattle.fc_base.specs.declared.runs.Run.{Run}
use Rattle.fc_base.specs.declared.size.GrainSize.{GrainSize}
use Rattle.fc_base.specs.declared.state.Access.{Access}
use Rattle.fc_base.specs.declared.volume.Mapping.{Mapping}
use Rattle.fc_books.specs.Accesses.{access_by, access_in, is_idle}
use Rattle.fc_entry.specs.Picture.{Content, Bytes, is_lost, grain_of_block, byte_in_grain, volume_in, now_at}
use Rattle.fc_entry.specs.Reads.{IsRightIn}
use Rattle.fc_image.specs.declared.image.MetaChain.{MetaChain}
use Rattle.fc_image.specs.declared.image.MetaImage.{MetaImage}
use Rattle.fc_image.specs.declared.image.MetaLost.{MetaLost}
use Rattle.fc_kept.specs.Disks.{NamedDisk, disk_of}
use Rattle.fc_kept.specs.Images.{tables_in, slots_in, lost_in, kept_in}
use Rattle.fc_kept.specs.Kept.{is_lost_in}
use Rattle.fc_kept.specs.OneGrain.{Another, with_another}
use Rattle.fc_kept.specs.Recoverable.{disks_at}
use Rattle.fc_kept.specs.Sound.{HasTidySlots, HasTidyLost, IsSoundImage}
use Rattle.fc_legal.specs.Steps.{IsInside}
use Rattle.fc_legal.specs.Whole.{Whole}
use Rattle.fc_mdisk.specs.Disk.{grain_at}
use Rattle.fc_recovered.specs.Answering.{disk_in, ReadsDisk, ReadsGrain, ReadsOne, HasDiskGrain, IsAnswerBy, AfterReply}
use Rattle.fc_recovered.specs.Recovered.{RecoveredState, IsRecovered, RecoversTo}
use Rattle.fc_recovered.specs.Showing.{shown_at}
use Rattle.fc_recovered.specs.Walk.{holder_volume, id_number}
use Rattle.fc_recovered.proofs.Called.{one_stands}
use Rattle.fc_recovered.proofs.Reading.{slots_of, Source, source_of, source_is, never_lost, lost_shown, has_grain, bytes_shown}
use Rattle.fc_recovered.proofs.Standing.{stands_shown}

-- ---- what the image is asked

pub found_by : (image : MetaImage) (chains : List MetaChain) (v number : ℕ) (result : Option VolId) → chains ≡ image.chains → IsSoundImage image →
    ((t : Tables) → All (HasTidySlots t) chains → id_number result ≡ holder_volume v number (flat_map (slots_in t) chains)) → id_number result ≡ holder_volume v number (slots_of image)
found_by image chains v number result e sound f =
    let t : Tables = tables_in image in
    subst (λ (cs : List MetaChain). id_number result ≡ holder_volume v number (flat_map (slots_in t) cs)) e
    (f t (subst (λ (cs : List MetaChain). All (HasTidySlots t) cs) (sym e) sound.slots))

pub lost_by : (image : MetaImage) (rows : List MetaLost) (v number : ℕ) (b : Bool) → rows ≡ image.lost → IsSoundImage image →
    ((t : Tables) → All (HasTidyLost t) rows → b ≡ is_lost_in (map (lost_in t) rows) v number) → b ≡ is_lost_in (kept_in image).lost v number
lost_by image rows v number b e sound f =
    let t : Tables = tables_in image in
    subst (λ (rs : List MetaLost). b ≡ is_lost_in (map (lost_in t) rs) v number) e
    (f t (subst (λ (rs : List MetaLost). All (HasTidyLost t) rs) (sym e) sound.lost))

pub access_is : (t : Tables) (v : VolId) (mappings : List Mapping) (a : Access) → mappings ≡ t.mappings →
    a ≡ access_by (find (λ (m : Mapping). (m.target.0 == v.0) && not (is_idle m.state)) mappings) → a ≡ access_in t v
access_is t v mappings a e found = found ∙ ap (λ (ms : List Mapping). access_by (find (λ (m : Mapping). (m.target.0 == v.0) && not (is_idle m.state)) ms)) e

-- ---- what is read

-- a read inside a volume, over what always holds of the fields
pub record Asked (grain : GrainSize) (image : MetaImage) (disks : List (List NamedDisk)) (buffer : List ℕ) (part : ReadPart) (number : ℕ) : Type 0 where
  pub holds : IsRecovered grain image disks buffer
  pub inside : IsInside grain (tables_in image) part.volume part.block part.count
  pub number_is : number ≡ grain_of_block grain part.block

pub asked : (grain : GrainSize) (image : MetaImage) (disks : List (List NamedDisk)) (buffer : List ℕ) (part : ReadPart) (blocks : ℕ) → IsRecovered grain image disks buffer →
    IsInside grain (tables_in image) part.volume part.block part.count → blocks ≡ grain_blocks grain → Asked grain image disks buffer part (part.block / blocks)
asked grain image disks buffer part blocks holds inside e = record { holds = holds; inside = inside; number_is = ap (λ (n : ℕ). part.block / n) e }

source : (grain : GrainSize) (image : MetaImage) (disks : List (List NamedDisk)) (buffer : List ℕ) (part : ReadPart) (number : ℕ) → Asked grain image disks buffer part number →
    Source image part.volume.0 number
source grain image disks buffer part number a =
    subst (λ (v : VolId). Source image v.0 number) a.inside.id_is
    (source_of image a.holds.sound a.inside.of a.inside.there number (subst (λ (n : ℕ). n < a.inside.of.grains) (sym a.number_is) a.inside.inside))

pub found_one : (grain : GrainSize) (image : MetaImage) (disks : List (List NamedDisk)) (buffer : List ℕ) (part : ReadPart) (number : ℕ) → Asked grain image disks buffer part number →
    id_number None ≡ holder_volume part.volume.0 number (slots_of image) → ⊥
found_one grain image disks buffer part number a e = never_lost image part.volume.0 number (source grain image disks buffer part number a) e

-- the volume that was found has its grain on its disk
pub found_grain : (grain : GrainSize) (image : MetaImage) (disks : List (List NamedDisk)) (buffer : List ℕ) (part : ReadPart) (number : ℕ) → Asked grain image disks buffer part number →
    (found : VolId) → id_number (Some found) ≡ holder_volume part.volume.0 number (slots_of image) →
    HasDiskGrain (disks_at disks (number % length disks)) found.0 (number / length disks) (length buffer)
found_grain grain image disks buffer part number a found e =
    let s : Source image part.volume.0 number = source grain image disks buffer part number a in
    subst (λ (v : ℕ). HasDiskGrain (disks_at disks (number % length disks)) v (number / length disks) (length buffer)) (sym (source_is image part.volume.0 number s found e))
    (has_grain grain image disks buffer part.volume.0 number a.holds s)

-- ---- the content

abbrev shown : GrainSize → MetaImage → List (List NamedDisk) → ReadPart → Content
shown grain image disks part = shown_at grain disks (kept_in image) part.volume.0 (grain_of_block grain part.block)

pub when_lost : (grain : GrainSize) (image : MetaImage) (disks : List (List NamedDisk)) (buffer : List ℕ) (part : ReadPart) (number : ℕ) → Asked grain image disks buffer part number →
    (found : VolId) → id_number (Some found) ≡ holder_volume part.volume.0 number (slots_of image) →
    (b : Bool) → b ≡ is_lost_in (kept_in image).lost found.0 number → b ≡ true → is_lost (shown grain image disks part) ≡ true
when_lost grain image disks buffer part number a found e b is t =
    let s : Source image part.volume.0 number = source grain image disks buffer part number a in
    let own : found.0 ≡ s.volume.id.0 = source_is image part.volume.0 number s found e in
    subst (λ (n : ℕ). is_lost (shown_at grain disks (kept_in image) part.volume.0 n) ≡ true) a.number_is
    (lost_shown grain image disks part.volume.0 number s a.holds.some
    (ap (λ (v : ℕ). is_lost_in (kept_in image).lost v number) (sym own) ∙ (sym is ∙ t)))

-- else it is what a read of the disk gives
when_read : (grain : GrainSize) (image : MetaImage) (disks : List (List NamedDisk)) (buffer : List ℕ) (part : ReadPart) (number : ℕ) → Asked grain image disks buffer part number →
    (found : VolId) → id_number (Some found) ≡ holder_volume part.volume.0 number (slots_of image) →
    (b : Bool) → b ≡ is_lost_in (kept_in image).lost found.0 number → b ≡ false →
    (failed : Bool) (out : List ℕ) (after : List NamedDisk) (r : ReadsDisk (disks_at disks (number % length disks)) found.0 (number / length disks) failed out after) →
    shown grain image disks part ≡ Bytes (grain_at (disk_in (disks_at disks (number % length disks)) r.place).disk.grains (number / length disks))
when_read grain image disks buffer part number a found e b is f failed out after r =
    let s : Source image part.volume.0 number = source grain image disks buffer part number a in
    let own : found.0 ≡ s.volume.id.0 = source_is image part.volume.0 number s found e in
    ap (shown_at grain disks (kept_in image) part.volume.0) (sym a.number_is)
    ∙ bytes_shown grain image disks part.volume.0 number s a.holds.some
    (ap (λ (v : ℕ). is_lost_in (kept_in image).lost v number) (sym own) ∙ (sym is ∙ f))
    (disk_in (disks_at disks (number % length disks)) r.place)
    (ap (λ (v : ℕ). disk_of (disks_at disks (number % length disks)) v) (sym own) ∙ r.found)

pub when_whole : (grain : GrainSize) (image : MetaImage) (disks : List (List NamedDisk)) (buffer : List ℕ) (part : ReadPart) (number : ℕ) → Asked grain image disks buffer part number →
    (found : VolId) → id_number (Some found) ≡ holder_volume part.volume.0 number (slots_of image) →
    (b : Bool) → b ≡ is_lost_in (kept_in image).lost found.0 number → b ≡ false →
    (failed : Bool) (out : List ℕ) (after : List NamedDisk) → ReadsDisk (disks_at disks (number % length disks)) found.0 (number / length disks) failed out after →
    is_lost (shown grain image disks part) ≡ false
when_whole grain image disks buffer part number a found e b is f failed out after r = ap is_lost (when_read grain image disks buffer part number a found e b is f failed out after r)

pub when_done : (grain : GrainSize) (image : MetaImage) (disks : List (List NamedDisk)) (buffer : List ℕ) (part : ReadPart) (number : ℕ) → Asked grain image disks buffer part number →
    (found : VolId) → id_number (Some found) ≡ holder_volume part.volume.0 number (slots_of image) →
    (b : Bool) → b ≡ is_lost_in (kept_in image).lost found.0 number → b ≡ false →
    (out : List ℕ) (after : List NamedDisk) → ReadsDisk (disks_at disks (number % length disks)) found.0 (number / length disks) false out after →
    (runs : List Run) → IsRightIn (byte_in_grain grain part.block) (block_bytes * part.count) (Bytes out) runs →
    IsRightIn (byte_in_grain grain part.block) (block_bytes * part.count) (shown grain image disks part) runs
when_done grain image disks buffer part number a found e b is f out after r runs right =
    subst (λ (c : Content). IsRightIn (byte_in_grain grain part.block) (block_bytes * part.count) c runs)
    (sym (when_read grain image disks buffer part number a found e b is f false out after r ∙ ap (λ (z : List ℕ). Bytes z) (sym r.read.bytes))) right

-- ---- the disks

pub one_read : (disks new : List (List NamedDisk)) (v number : ℕ) (failed : Bool) (out : List ℕ) → 0 < length disks → ReadsGrain disks v number failed out new → ReadsOne disks failed new
one_read disks new v number failed out some r =
    record { lane = number % length disks; within = mod-lt number some; volume = v; grain = number / length disks; out = out; reads = r.reads; is = r.is }

-- whatever is answered, the disks stand for what they did
pub reply_stands : (grain : GrainSize) (image : MetaImage) (old new : List (List NamedDisk)) (buffer : List ℕ) (reply : Reply) → IsRecovered grain image old buffer → AfterReply reply old new →
    (now : Whole) (one : Option Another) → RecoversTo grain old (kept_in image) now one → RecoversTo grain new (kept_in image) now one
reply_stands grain image old new buffer reply i after now one s = by reply after
  where
    same : new ≡ old → RecoversTo grain new (kept_in image) now one
    same e = subst (λ (ds : List (List NamedDisk)). RecoversTo grain ds (kept_in image) now one) (sym e) s

    by : (r : Reply) → AfterReply r old new → RecoversTo grain new (kept_in image) now one
    by Done e = same e
    by (Made kind id) e = same e
    by (Read runs) r = one_stands grain image old new false buffer r i now one s
    by (Listed rows) e = same e
    by (Moved m g) e = same e
    by Idle e = same e
    by (Offline m state) e = same e
    by (NotAccessible m) e = same e
    by DiskFault r = one_stands grain image old new true buffer r i now one s
    by MediumError e = same e
    by NoMemory r = one_stands grain image old new false buffer r i now one s
    by (Refused refusal) e = same e

-- ---- by plain volumes

-- the answer by metadata and disks is the one by what they stand for
pub plain_reply : (s : RecoveredState) (part : ReadPart) (r : Reply) → 0 < length s.disks → IsInside s.grain (tables_in s.image) part.volume part.block part.count →
    IsAnswerBy (access_in (tables_in s.image) part.volume) s.grain part (shown s.grain s.image s.disks part) r →
    (now : Whole) (one : Option Another) → RecoversTo s.grain s.disks (kept_in s.image) now one →
    IsAnswerBy (access_in now.books.tables part.volume) s.grain part
    (now_at (volume_in (with_another one (kept_in s.image).sheet.slots now.picture) part.volume) (grain_of_block s.grain part.block)) r
plain_reply s part r some inside answer now one stands =
    let plain : shown s.grain s.image s.disks part
    ≡ now_at (volume_in (with_another one (kept_in s.image).sheet.slots now.picture) part.volume) (grain_of_block s.grain part.block) =
    subst (λ (v : VolId). shown_at s.grain s.disks (kept_in s.image) v.0 (grain_of_block s.grain part.block)
    ≡ now_at (volume_in (with_another one (kept_in s.image).sheet.slots now.picture) v) (grain_of_block s.grain part.block)) inside.id_is
    (stands_shown s.grain s.disks (kept_in s.image) now one stands some inside.of inside.there (grain_of_block s.grain part.block) inside.inside) in
    subst (λ (c : Content). IsAnswerBy (access_in now.books.tables part.volume) s.grain part c r) plain
    (subst (λ (a : Access). IsAnswerBy a s.grain part (shown s.grain s.image s.disks part) r) (ap (λ (t : Tables). access_in t part.volume) stands.says.tables) answer)
