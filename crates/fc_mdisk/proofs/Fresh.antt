-- Fresh disks, one more of them or all.
use Rattle.std.proofs.Common.{ℕ, ◌+◌, ◌<◌, List, map, get_or, length, slice_set, below_more, subst, ◌∙◌, ap, arith}
use Rattle.std.proofs.lemmas.List.{map-set, get_or-set_same, get_or-set_other, length-map, length-set}
use Rattle.std.proofs.lemmas.List.Elements.{All-get_or}
use Rattle.std.specs.List.{All}
use Rattle.fc_mdisk.specs.Disk.{DiskState, IsFresh}

pub fresh_more :
    {A : Type 0} →
    (f : A → DiskState) (xs : List A) (i : ℕ) (new : A) →
    i < length xs →
    IsFresh (f new) →
    ((k : ℕ) (d : DiskState) → k < i → IsFresh (get_or (map f xs) k d)) →
    (k : ℕ) (d : DiskState) →
    k < i + 1 →
    IsFresh (get_or (map f (slice_set xs i new)) k d)
fresh_more f xs i new inside fresh below k d within =
    let P : ℕ → Type 0 = λ k. (d : DiskState) → IsFresh (get_or (map f (slice_set xs i new)) k d) in
    below_more P i
    (λ j less d. rw (map-set f xs i new, get_or-set_other (map f xs) i j (f new) d (λ same. omega arith)) (below j d less))
    (λ d. rw (map-set f xs i new, get_or-set_same (map f xs) i (f new) d (omega (arith, length-map xs f))) fresh)
    k within d

-- where all disks are fresh, so is the last that was changed
pub fresh_there :
    {A : Type 0} →
    (f : A → DiskState) (xs : List A) (i : ℕ) (new : A) →
    i < length xs →
    All IsFresh (map f (slice_set xs i new)) →
    IsFresh (f new)
fresh_there f xs i new inside all =
    let there : i < length (map f xs) = omega (arith, length-map xs f) in
    let within : i < length (map f (slice_set xs i new)) =
    omega (arith, there, ap length (map-set f xs i new), length-set (map f xs) i (f new)) in
    subst IsFresh (ap (λ disks. get_or disks i (f new)) (map-set f xs i new) ∙ get_or-set_same (map f xs) i (f new) (f new) there)
    (All-get_or IsFresh (map f (slice_set xs i new)) i (f new) within all)
