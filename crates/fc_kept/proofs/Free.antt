-- Which disks are free for a new volume.
use Rattle.std.proofs.Common.{◌≡◌, ℕ, true, false, not, ◌&&◌, is_some, Option, Some, None, refl, ap, ◌∙◌}
use Rattle.std.proofs.lemmas.Bool.{and_parts}
use Rattle.fc_base.specs.declared.disk.DiskKind.{DiskKind}
use Rattle.fc_base.specs.declared.disk.DiskKind.TheVariants.{Flat, Thin}
use Rattle.fc_base.specs.declared.ids.VolId.{VolId}
use Rattle.fc_kept.specs.Disks.{NamedDisk, is_of, is_kind, is_free}

-- ---- kinds

pub kind_is : (a b : DiskKind) → is_kind a b ≡ true → b ≡ a
kind_is Flat Flat e = refl
kind_is Flat Thin e = absurd cc
kind_is Thin Flat e = absurd cc
kind_is Thin Thin e = refl

own_kind : (kind : DiskKind) → is_kind kind kind ≡ true
own_kind Flat = refl
own_kind Thin = refl

-- ---- free disks

no_name : (o : Option VolId) → not (is_some o) ≡ true → o ≡ None
no_name None e = refl
no_name (Some id) e = absurd cc

pub free_is : (kind : DiskKind) (d : NamedDisk) → is_free kind d ≡ true → (d.volume ≡ None) × (d.disk.kind ≡ kind)
free_is kind d e =
    let p = and_parts (not (is_some d.volume)) (is_kind kind d.disk.kind) e in
    (no_name d.volume p.0, kind_is kind d.disk.kind p.1)

pub free_now : (kind : DiskKind) (d : NamedDisk) → d.volume ≡ None → d.disk.kind ≡ kind → is_free kind d ≡ true
free_now kind d none same =
    ap (λ (o : Option VolId). not (is_some o) && is_kind kind d.disk.kind) none ∙ (ap (is_kind kind) same ∙ own_kind kind)

-- they are no volume's
pub nobodys : (v : ℕ) (d : NamedDisk) → d.volume ≡ None → is_of v d ≡ false
nobodys v d e = ap (λ (o : Option VolId). is_of v (record d { volume = o })) e
