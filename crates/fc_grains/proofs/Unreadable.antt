-- A grain that can't be read: it is lost, or isn't there.
use Rattle.std.proofs.Common.{◌≡◌, ℕ, zero, suc, ◌<◌, Bool, true, false, cond, ◌||◌, nat_eq, List, [], ◌∷◌, length, map, get_or, slice_index_or, refl, sym, subst, ap, ◌∙◌, true≢false, arith}
use Rattle.std.specs.List.{All}
use Rattle.fc_entry.specs.Picture.{content_at, is_lost}
use Rattle.fc_grains.specs.Parts.{VolumeDiskState, IsWhole, contents, grains_of}
use Rattle.fc_grains.specs.Volumes.{VolumeGrains, is_there, volume_of, stored}
use Rattle.fc_grains.proofs.Changing.{volume_is}
use Rattle.fc_grains.proofs.Contents.{is_lost-content}
use Rattle.fc_grains.proofs.Finding.{AreRising}

lost_or_past : (lost : List Bool) (grains : List (List ℕ)) (g : ℕ) → length lost ≡ length grains → is_lost (content_at (contents lost grains) g) ≡ slice_index_or lost g true
lost_or_past [] [] g same = refl
lost_or_past [] (bytes ∷ grains) g same = absurd (omega arith)
lost_or_past (mark ∷ lost) [] g same = absurd (omega arith)
lost_or_past (mark ∷ lost) (bytes ∷ grains) zero same = is_lost-content mark bytes
lost_or_past (mark ∷ lost) (bytes ∷ grains) (suc g) same = lost_or_past lost grains g (omega arith)

-- of a volume that is there
pub unreadable_is : (volumes : List VolumeDiskState) → AreRising volumes → (at : ℕ) → at < length volumes → (was : VolumeDiskState) → was ≡ get_or volumes at was → (id : ℕ)
    → ((d : VolumeDiskState) → (slice_index_or volumes at d).volume.0 ≡ id) → (bytes : ℕ) → All (IsWhole bytes) volumes → (place : ℕ)
    → is_lost (stored (map grains_of volumes) id place) ≡ slice_index_or was.lost place true
unreadable_is volumes rising at within was read id found bytes whole place =
    let own : IsWhole bytes was = subst (IsWhole bytes) (sym read) (whole at was within) in
    ap (λ (v : VolumeGrains). is_lost (content_at v.contents place)) (volume_is volumes rising at within was read id found)
    ∙ lost_or_past was.lost was.disk.grains place own.marked

-- and of one that isn't
none_stored : (b more : Bool) (v rest : VolumeGrains) (place : ℕ) → (b || more) ≡ false → (more ≡ false → is_lost (content_at rest.contents place) ≡ true) →
    is_lost (content_at (cond b v rest).contents place) ≡ true
none_stored true more v rest place away later = absurd (true≢false away)
none_stored false more v rest place away later = later away

pub unreadable_away : (vs : List VolumeGrains) (id place : ℕ) → is_there vs id ≡ false → is_lost (stored vs id place) ≡ true
unreadable_away [] id place away = refl
unreadable_away (v ∷ vs) id place away = none_stored (nat_eq v.volume.0 id) (is_there vs id) v (volume_of vs id) place away (unreadable_away vs id place)
