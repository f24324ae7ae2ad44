-- A read of a disk leaves what all disks store, and what they are ready for.
use Rattle.std.proofs.Common.{◌≡◌, ◌≢◌, ℕ, ◌<◌, Bool, Option, Some, None, List, [], length, refl, sym, ap, subst, ◌∙◌, arith, All, inl, inr, length-set, get_or-set_other}
use Rattle.std.proofs.lemmas.Bool.{cases_eq}
use Rattle.std.proofs.lemmas.List.Elements.{All-set}
use Rattle.fc_base.specs.Grain.{grain_bytes}
use Rattle.fc_base.specs.declared.size.GrainSize.{GrainSize}
use Rattle.fc_base.specs.declared.volume.Volume.{Volume}
use Rattle.fc_entry.specs.Picture.{Bytes}
use Rattle.fc_image.specs.declared.image.MetaImage.{MetaImage}
use Rattle.fc_kept.specs.Disks.{NamedDisk, disk_of, on_disk}
use Rattle.fc_kept.specs.Images.{kept_in}
use Rattle.fc_kept.specs.OneGrain.{Another}
use Rattle.fc_kept.specs.Recoverable.{disks_at}
use Rattle.fc_legal.specs.Whole.{Whole}
use Rattle.fc_mdisk.specs.Disk.{grain_at}
use Rattle.fc_rules.specs.LaneTold.{LaneOf}
use Rattle.fc_recovered.specs.Answering.{disk_in, no_disk, ReadsDisk, ReadsOne}
use Rattle.fc_recovered.specs.Readying.{HasWholeGrains, HasOwnDisk, AllHaveDisks}
use Rattle.fc_recovered.specs.Recovered.{IsRecovered, RecoversTo}
use Rattle.fc_recovered.specs.Showing.{lane_over}
use Rattle.fc_recovered.proofs.Carrying.{StoreSame, stands_on}
use Rattle.fc_recovered.proofs.Finding.{SameDisk, swapped}

-- ---- in a lane

same_disks : (old new : List NamedDisk) (v g : ℕ) (failed : Bool) (out : List ℕ) → ReadsDisk old v g failed out new → (w : ℕ) → SameDisk (disk_of old w) (disk_of new w)
same_disks old new v g failed out r w =
    subst (λ (ds : List NamedDisk). SameDisk (disk_of old w) (disk_of ds w)) (sym r.is) (swapped w old r.place r.disk r.there r.read.call.kind r.read.grains)

has_same : (l : LaneOf) (old new : List NamedDisk) (v : Volume) → HasOwnDisk l old v → SameDisk (disk_of old v.id.0) (disk_of new v.id.0) → HasOwnDisk l new v
has_same l old new v h s = by (disk_of new v.id.0) refl (subst (λ (o : Option NamedDisk). SameDisk o (disk_of new v.id.0)) h.there s)
  where
    by : (o : Option NamedDisk) → disk_of new v.id.0 ≡ o → SameDisk (Some h.disk) o → HasOwnDisk l new v
    by None e x = absurd x
    by (Some d) e x = record { disk = d; there = e; kind = x.0 ∙ h.kind; grains = ap (length {A = List ℕ}) x.1 ∙ h.grains }

stores_same : (l : LaneOf) (g : ℕ) (a b : Option NamedDisk) → SameDisk a b → on_disk l b g ≡ on_disk l a g
stores_same l g None None s = refl
stores_same l g (Some a) (Some b) s = ap (λ (z : List (List ℕ)). Bytes (grain_at z g)) s.1
stores_same l g None (Some b) s = absurd s
stores_same l g (Some a) None s = absurd s

ready_same : (l : LaneOf) (volumes : List Volume) (old new : List NamedDisk) (v g : ℕ) (failed : Bool) (out : List ℕ) → ReadsDisk old v g failed out new → AllHaveDisks l volumes old → AllHaveDisks l volumes new
ready_same l volumes old new v g failed out r a =
    record {
      each = λ w c. has_same l old new w (a.each w c) (same_disks old new v g failed out r w.id.0);
      whole =
          subst (λ (ds : List NamedDisk). All (HasWholeGrains l.grain) ds) (sym r.is)
          (All-set (HasWholeGrains l.grain) old r.place (record (disk_in old r.place) { disk = r.disk })
          (λ named. subst (λ (z : List (List ℕ)). All (λ (bytes : List ℕ). length bytes ≡ grain_bytes l.grain) z) (sym r.read.grains) (a.whole r.place no_disk r.there named)) a.whole);
    }

-- ---- among all lanes

pub one_count : (old new : List (List NamedDisk)) (failed : Bool) → ReadsOne old failed new → length new ≡ length old
one_count old new failed r = ap (length {A = List NamedDisk}) r.is ∙ length-set old r.lane (disks_at new r.lane)

other_lane : (old new : List (List NamedDisk)) (failed : Bool) (r : ReadsOne old failed new) → (i : ℕ) → i ≢ r.lane → disks_at old i ≡ disks_at new i
other_lane old new failed r i ne = sym (ap (λ (ds : List (List NamedDisk)). disks_at ds i) r.is ∙ get_or-set_other old r.lane i (disks_at new r.lane) [] ne)

abbrev numbered : GrainSize → ℕ → ℕ → LaneOf
numbered grain i n = record { lane = i; lanes = n; grain = grain }

one_ready : (grain : GrainSize) (volumes : List Volume) (old new : List (List NamedDisk)) (failed : Bool) → ReadsOne old failed new →
    ((i : ℕ) → i < length old → AllHaveDisks (lane_over grain old i) volumes (disks_at old i)) → (i : ℕ) → i < length new → AllHaveDisks (lane_over grain new i) volumes (disks_at new i)
one_ready grain volumes old new failed r ready i il =
    let count : length new ≡ length old = one_count old new failed r in
    let below : i < length old = omega arith in
    subst (λ (n : ℕ). AllHaveDisks (numbered grain i n) volumes (disks_at new i)) (sym count)
    (elim (cases_eq i r.lane) [
      | inl e ↦ ready_same (numbered grain i (length old)) volumes (disks_at old i) (disks_at new i) r.volume r.grain failed r.out
          (subst (λ (x : ℕ). ReadsDisk (disks_at old x) r.volume r.grain failed r.out (disks_at new x)) (sym e) r.reads) (ready i below)
      | inr ne ↦ subst (λ (ds : List NamedDisk). AllHaveDisks (numbered grain i (length old)) volumes ds) (other_lane old new failed r i ne) (ready i below)
    ])

one_stores : (grain : GrainSize) (volumes : List Volume) (old new : List (List NamedDisk)) (failed : Bool) → ReadsOne old failed new →
    (i : ℕ) → i < length old → StoreSame (lane_over grain old i) volumes (disks_at old i) (disks_at new i)
one_stores grain volumes old new failed r i il v c g lt =
    elim (cases_eq i r.lane) [
      | inl e ↦ stores_same (lane_over grain old i) g (disk_of (disks_at old i) v.id.0) (disk_of (disks_at new i) v.id.0)
          (same_disks (disks_at old i) (disks_at new i) r.volume r.grain failed r.out
          (subst (λ (x : ℕ). ReadsDisk (disks_at old x) r.volume r.grain failed r.out (disks_at new x)) (sym e) r.reads) v.id.0)
      | inr ne ↦ ap (λ (ds : List NamedDisk). on_disk (lane_over grain old i) (disk_of ds v.id.0) g) (sym (other_lane old new failed r i ne))
    ]

-- all that always holds
pub one_stays : (grain : GrainSize) (image : MetaImage) (old new : List (List NamedDisk)) (failed : Bool) (buffer after : List ℕ) → ReadsOne old failed new →
    length after ≡ length buffer → IsRecovered grain image old buffer → IsRecovered grain image new after
one_stays grain image old new failed buffer after r size i =
    let count : length new ≡ length old = one_count old new failed r in
    let some : 0 < length old = i.some in
    record {
      sound = i.sound;
      some = omega arith;
      ready = one_ready grain image.volumes old new failed r i.ready;
      room = size ∙ i.room;
    }

-- and what the disks stand for
pub one_stands : (grain : GrainSize) (image : MetaImage) (old new : List (List NamedDisk)) (failed : Bool) (buffer : List ℕ) → ReadsOne old failed new → IsRecovered grain image old buffer →
    (now : Whole) (one : Option Another) → RecoversTo grain old (kept_in image) now one → RecoversTo grain new (kept_in image) now one
one_stands grain image old new failed buffer r i now one s =
    stands_on grain (kept_in image) old new (one_count old new failed r)
    (λ j jl. (one_ready grain image.volumes old new failed r i.ready j jl).each)
    (one_stores grain image.volumes old new failed r) now one s
