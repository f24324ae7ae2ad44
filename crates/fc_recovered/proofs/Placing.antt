-- A lane's disk of a volume, found by its place, is read.
use Rattle.std.proofs.Common.{◌≡◌, ℕ, zero, suc, ◌<◌, ◌≤◌, Bool, true, false, cond, Option, Some, None, List, [], ◌∷◌, length, get_or, set, sym, ap, subst, ◌∙◌, arith}
use Rattle.std.specs.Prelude.{find, position, is_none, is_some, not}
use Rattle.std.proofs.lemmas.List.{get_or_default}
use Rattle.std.proofs.lemmas.List.Quantifiers.{position-Some}
use Rattle.fc_mdisk.specs.Disk.{AfterRead}
use Rattle.fc_kept.specs.Disks.{NamedDisk, is_of, disk_of}
use Rattle.fc_recovered.specs.Answering.{disk_in, no_disk, HasDiskGrain, HasGrain, ReadsDisk}
use Rattle.fc_recovered.proofs.Giving.{position_none}

find_first : {X : Type 0} (p : X → Bool) (xs : List X) (i : ℕ) (d : X) → i < length xs → p (get_or xs i d) ≡ true → ((k : ℕ) → k < i → p (get_or xs k d) ≡ false) → find p xs ≡ Some (get_or xs i d)
find_first p [] i d lt e none = absurd (omega arith)
find_first p (x ∷ xs) zero d lt e none = ap (λ (b : Bool). cond b (Some x) (find p xs)) e
find_first p (x ∷ xs) (suc i) d lt e none =
    ap (λ (b : Bool). cond b (Some x) (find p xs)) (none zero (omega arith))
    ∙ find_first p xs i d (omega arith) e (λ k kl. none (suc k) (omega arith))

pub record FoundAt (disks : List NamedDisk) (v at : ℕ) : Type 0 where
  pub there : at < length disks
  pub found : disk_of disks v ≡ Some (disk_in disks at)

pub found_at : (disks : List NamedDisk) (v at : ℕ) → Some at ≡ position (is_of v) disks → FoundAt disks v at
found_at disks v at e =
    let q = position-Some (is_of v) disks at no_disk (sym e) in
    record { there = q.0; found = find_first (is_of v) disks at no_disk q.0 q.1 q.2 }

pub at_there : (disks : List NamedDisk) (v at : ℕ) → Some at ≡ position (is_of v) disks → at < length disks
at_there disks v at e = (found_at disks v at e).there

-- where there is none, none is of the volume
pub never_none : (disks : List NamedDisk) (v g bytes : ℕ) → HasDiskGrain disks v g bytes → None ≡ position (is_of v) disks → ⊥
never_none disks v g bytes h e = no_some h.disk (sym h.there ∙ position_none (is_of v) disks (sym e))
  where
    no_some : (a : NamedDisk) → Some a ≡ None → ⊥
    no_some a q = cc

same_some : (a b : NamedDisk) → Some a ≡ Some b → a ≡ b
same_some a b e = cc

-- the disk at the place
pub its_disk : (disks : List NamedDisk) (v g bytes at : ℕ) (d : NamedDisk) (h : HasDiskGrain disks v g bytes) → Some at ≡ position (is_of v) disks → d ≡ get_or disks at d → d ≡ h.disk
its_disk disks v g bytes at d h e is =
    let f = found_at disks v at e in
    is ∙ (get_or_default disks at d no_disk f.there ∙ same_some (disk_in disks at) h.disk (sym f.found ∙ h.there))

pub its_grain : (disks : List NamedDisk) (v g bytes at : ℕ) (d : NamedDisk) → HasDiskGrain disks v g bytes → Some at ≡ position (is_of v) disks → d ≡ get_or disks at d → HasGrain d.disk g bytes
its_grain disks v g bytes at d h e is =
    subst (λ (z : NamedDisk). HasGrain z.disk g bytes) (sym (its_disk disks v g bytes at d h e is)) (record { within = h.within; size = h.size })

pub its_read : (disks after : List NamedDisk) (v g at : ℕ) (d new : NamedDisk) (failed : Bool) (out : List ℕ) → Some at ≡ position (is_of v) disks → d ≡ get_or disks at d →
    AfterRead d.disk g failed out new.disk → d.disk.calls ≤ new.disk.calls → new ≡ record d { disk = new.disk } → after ≡ set disks at new → ReadsDisk disks v g failed out after
its_read disks after v g at d new failed out e is read calls own put =
    let f = found_at disks v at e in
    let same : d ≡ disk_in disks at = is ∙ get_or_default disks at d no_disk f.there in
    record {
      place = at;
      there = f.there;
      found = f.found;
      disk = new.disk;
      read = subst (λ (z : NamedDisk). AfterRead z.disk g failed out new.disk) same read;
      calls = subst (λ (z : NamedDisk). z.disk.calls ≤ new.disk.calls) same calls;
      is = put ∙ ap (set disks at) (own ∙ ap (λ (z : NamedDisk). record z { disk = new.disk }) same);
    }

pub lacks_is : (disks : List NamedDisk) (v : ℕ) (o : Option ℕ) (b : Bool) → o ≡ position (is_of v) disks → is_some o ≡ not b → b ≡ is_none (disk_of disks v)
lacks_is disks v None true e q = ap (λ (z : Option NamedDisk). is_none z) (sym (position_none (is_of v) disks (sym e)))
lacks_is disks v None false e q = absurd cc
lacks_is disks v (Some k) true e q = absurd cc
lacks_is disks v (Some k) false e q = ap (λ (z : Option NamedDisk). is_none z) (sym (found_at disks v k e).found)
