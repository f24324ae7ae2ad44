-- A disk found after another was put at a place.
use Rattle.std.proofs.Common.{◌≡◌, ℕ, zero, suc, ◌<◌, Bool, true, false, cond, Option, Some, None, List, [], ◌∷◌, length, set, refl, ap, ◌∙◌, arith}
use Rattle.std.specs.Prelude.{find}
use Rattle.fc_mdisk.specs.Disk.{DiskState}
use Rattle.fc_kept.specs.Disks.{NamedDisk, is_of, disk_of}
use Rattle.fc_recovered.specs.Answering.{disk_in}

-- where none passed, the one that is put is found
pub find_only : {X : Type 0} (p : X → Bool) (xs : List X) (i : ℕ) (y : X) → find p xs ≡ None → i < length xs → p y ≡ true → find p (set xs i y) ≡ Some y
find_only p [] i y none lt e = absurd (omega arith)
find_only {X} p (x ∷ xs) zero y none lt e = ap (λ (b : Bool). cond b (Some y) (find p xs)) e
find_only {X} p (x ∷ xs) (suc i) y none lt e = by (p x) refl (λ rest. find_only p xs i y rest (omega arith) e) none
  where
    by : (b : Bool) → p x ≡ b → (find p xs ≡ None → find p (set xs i y) ≡ Some y) → cond b (Some x) (find p xs) ≡ None → find p (x ∷ set xs i y) ≡ Some y
    by true q further none = absurd cc
    by false q further none = ap (λ (b : Bool). cond b (Some x) (find p (set xs i y))) q ∙ further none

-- what one finds, the other does: a disk of the same kind with the same grains
abbrev pub SameDisk : Option NamedDisk → Option NamedDisk → Type 0
SameDisk None None = Unit {0}
SameDisk (Some a) (Some b) = (b.disk.kind ≡ a.disk.kind) × (b.disk.grains ≡ a.disk.grains)
SameDisk a b = ⊥

pub same_self : (o : Option NamedDisk) → SameDisk o o
same_self None = tt
same_self (Some a) = (refl, refl)

-- a disk that changed but for its name, its kind and its grains
pub swapped : (v : ℕ) (xs : List NamedDisk) (i : ℕ) (disk : DiskState) → i < length xs →
    disk.kind ≡ (disk_in xs i).disk.kind → disk.grains ≡ (disk_in xs i).disk.grains →
    SameDisk (disk_of xs v) (disk_of (set xs i (record (disk_in xs i) { disk = disk })) v)
swapped v [] i disk lt k g = absurd (omega arith)
swapped v (x ∷ xs) zero disk lt k g = by (is_of v x)
  where
    by : (b : Bool) → SameDisk (cond b (Some x) (find (is_of v) xs)) (cond b (Some (record x { disk = disk })) (find (is_of v) xs))
    by true = (k, g)
    by false = same_self (find (is_of v) xs)
swapped v (x ∷ xs) (suc i) disk lt k g = by (is_of v x) (swapped v xs i disk (omega arith) k g)
  where
    by : (b : Bool) → SameDisk (disk_of xs v) (disk_of (set xs i (record (disk_in xs i) { disk = disk })) v) →
        SameDisk (cond b (Some x) (find (is_of v) xs)) (cond b (Some x) (find (is_of v) (set xs i (record (disk_in xs i) { disk = disk }))))
    by true rest = (refl, refl)
    by false rest = rest
