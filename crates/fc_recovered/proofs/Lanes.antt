-- A grain read in its lane.
use Rattle.std.proofs.Common.{◌≡◌, ℕ, ◌/◌, ◌%◌, ◌<◌, Bool, List, [], length, get_or, set, sym, ap, subst, ◌∙◌, get_or-set_same}
use Rattle.std.proofs.Math.Nat.{mod-lt}
use Rattle.std.proofs.lemmas.List.{get_or_default}
use Rattle.fc_kept.specs.Disks.{NamedDisk}
use Rattle.fc_kept.specs.Recoverable.{disks_at}
use Rattle.fc_recovered.specs.Answering.{HasDiskGrain, ReadsDisk, ReadsGrain}

lane_is : (disks : List (List NamedDisk)) (number : ℕ) (d : List NamedDisk) → 0 < length disks → d ≡ get_or disks (number % length disks) d → d ≡ disks_at disks (number % length disks)
lane_is disks number d some is = is ∙ get_or_default disks (number % length disks) d [] (mod-lt number some)

pub grain_in : (disks : List (List NamedDisk)) (v number lanes size bytes : ℕ) (d : List NamedDisk) → lanes ≡ length disks → 0 < length disks → d ≡ get_or disks (number % lanes) d → size ≡ bytes →
    HasDiskGrain (disks_at disks (number % length disks)) v (number / length disks) bytes → HasDiskGrain d v (number / lanes) size
grain_in disks v number lanes size bytes d e some is q h =
    subst (λ (m : ℕ). d ≡ get_or disks (number % m) d → HasDiskGrain d v (number / m) size) (sym e)
    (λ here. subst (λ (x : ℕ). HasDiskGrain d v (number / length disks) x) (sym q)
    (subst (λ (z : List NamedDisk). HasDiskGrain z v (number / length disks) bytes) (sym (lane_is disks number d some here)) h)) is

pub grain_read : (disks : List (List NamedDisk)) (v number lanes : ℕ) (d made : List NamedDisk) (failed : Bool) (out filled : List ℕ) → lanes ≡ length disks → 0 < length disks →
    d ≡ get_or disks (number % lanes) d → ReadsDisk d v (number / lanes) failed out made → filled ≡ out → ReadsGrain disks v number failed filled (set disks (number % lanes) made)
grain_read disks v number lanes d made failed out filled e some is r q =
    subst (λ (m : ℕ). d ≡ get_or disks (number % m) d → ReadsDisk d v (number / m) failed out made → ReadsGrain disks v number failed filled (set disks (number % m) made)) (sym e)
    (λ here reads.
    let put : disks_at (set disks (number % length disks) made) (number % length disks) ≡ made = get_or-set_same disks (number % length disks) made [] (mod-lt number some) in
    record {
      reads =
          subst (λ (z : List NamedDisk). ReadsDisk (disks_at disks (number % length disks)) v (number / length disks) failed filled z) (sym put)
          (subst (λ (z : List NamedDisk). ReadsDisk z v (number / length disks) failed filled made) (lane_is disks number d some here)
          (subst (λ (z : List ℕ). ReadsDisk d v (number / length disks) failed z made) (sym q) reads));
      is = ap (set disks (number % length disks)) (sym put);
    }) is r
