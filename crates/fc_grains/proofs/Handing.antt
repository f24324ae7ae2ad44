-- Disks hold what contracts see of their volumes.
use Rattle.std.proofs.Common.{◌≡◌, ℕ, zero, suc, Bool, true, false, List, [], ◌∷◌, ◌++◌, map, reverse, refl, sym, ◌∙◌, ap, arith}
use Rattle.std.specs.List.{All}
use Rattle.std.proofs.lemmas.List.{append_assoc, map-append, reverse-append}
use Rattle.std.proofs.lemmas.List.Elements.{All-nil, All-push}
use Rattle.fc_base.specs.Grain.{grain_bytes}
use Rattle.fc_base.specs.declared.size.GrainSize.{GrainSize}
use Rattle.fc_mdisk.specs.Disk.{DiskState, grain_at}
use Rattle.fc_entry.specs.Picture.{Content, Bytes, Lost, content_at}
use Rattle.fc_grains.specs.Grains.{HasWholeGrains}
use Rattle.fc_grains.specs.Parts.{VolumeDiskState, IsWhole, content, contents, grains_of}
use Rattle.fc_grains.specs.Volumes.{VolumeGrains, HoldAll, HoldsGrains}
use Rattle.fc_grains.proofs.Contents.{length-contents}

content_bytes : (mark : Bool) (held bytes : List ℕ) → content mark held ≡ Bytes bytes → held ≡ bytes
content_bytes true held bytes e = absurd cc
content_bytes false held bytes e = ap got e
  where
    got : Content → List ℕ
    got (Bytes b) = b
    got Lost = []

contents_held : (lost : List Bool) (grains : List (List ℕ)) (g : ℕ) (bytes : List ℕ) → content_at (contents lost grains) g ≡ Bytes bytes → grain_at grains g ≡ bytes
contents_held [] grains g bytes e = absurd cc
contents_held (m ∷ ms) [] g bytes e = absurd cc
contents_held (m ∷ ms) (x ∷ xs) zero bytes e = content_bytes m x bytes e
contents_held (m ∷ ms) (x ∷ xs) (suc g) bytes e = contents_held ms xs g bytes e

pub holds_own : (n : ℕ) (v : VolumeDiskState) → IsWhole n v → HoldsGrains (grains_of v) v.disk
holds_own n v whole = record {
  kind = refl;
  armed = refl;
  size = sym (length-contents v.lost v.disk.grains whole.marked ∙ whole.marked);
  bytes = contents_held v.lost v.disk.grains;
}

hold_all : (n : ℕ) (vs : List VolumeDiskState) → All (IsWhole n) vs → HoldAll (map grains_of vs) (map (λ (v : VolumeDiskState). v.disk) vs)
hold_all n [] all = tt
hold_all n (v ∷ vs) all = (holds_own n v (all 0 v (omega arith)), hold_all n vs (λ k d within. all (suc k) d (omega arith)))

hold_push : (vs : List VolumeGrains) (v : VolumeGrains) (disks : List DiskState) (disk : DiskState) → HoldAll vs disks → HoldsGrains v disk → HoldAll (vs ++ v ∷ []) (disks ++ disk ∷ [])
hold_push [] v [] disk all one = (one, tt)
hold_push (w ∷ vs) v (d ∷ disks) disk all one = (all.0, hold_push vs v disks disk all.1 one)
hold_push [] v (d ∷ disks) disk all one = absurd all
hold_push (w ∷ vs) v [] disk all one = absurd all

hold_reverse : (vs : List VolumeGrains) (disks : List DiskState) → HoldAll vs disks → HoldAll (reverse vs) (reverse disks)
hold_reverse [] [] all = tt
hold_reverse (v ∷ vs) (d ∷ disks) all =
    let front : HoldAll (reverse vs ++ v ∷ []) (reverse disks ++ d ∷ []) = hold_push (reverse vs) v (reverse disks) d (hold_reverse vs disks all.1) all.0 in
    rw (reverse-append (v ∷ []) vs) (rw (reverse-append (d ∷ []) disks) front)
hold_reverse [] (d ∷ disks) all = absurd all
hold_reverse (v ∷ vs) [] all = absurd all

-- from the last to the first
pub hold_back : (n : ℕ) (vs : List VolumeDiskState) → All (IsWhole n) vs → HoldAll (reverse (map grains_of vs)) (reverse (map (λ (v : VolumeDiskState). v.disk) vs))
hold_back n vs all = hold_reverse (map grains_of vs) (map (λ (v : VolumeDiskState). v.disk) vs) (hold_all n vs all)

-- with all their grains whole
pub whole_back : (grain : GrainSize) (vs : List VolumeDiskState) → All (IsWhole (grain_bytes grain)) vs → All (HasWholeGrains grain) (reverse (map (λ (v : VolumeDiskState). v.disk) vs))
whole_back grain [] all = All-nil (HasWholeGrains grain)
whole_back grain (v ∷ vs) all =
    rw (reverse-append (v.disk ∷ []) (map (λ (x : VolumeDiskState). x.disk) vs))
    (All-push (HasWholeGrains grain) (reverse (map (λ (x : VolumeDiskState). x.disk) vs)) v.disk (whole_back grain vs (λ k d within. all (suc k) d (omega arith))) (all 0 v (omega arith)).whole)

-- the last volume's disk is given next
pub given_next : (given : List DiskState) (vs : List VolumeDiskState) (v : VolumeDiskState) (all : List DiskState)
    → given ++ reverse (map (λ (x : VolumeDiskState). x.disk) (vs ++ v ∷ [])) ≡ all → (given ++ v.disk ∷ []) ++ reverse (map (λ (x : VolumeDiskState). x.disk) vs) ≡ all
given_next given vs v all is =
    let disk_of : VolumeDiskState → DiskState = λ x. x.disk in
    append_assoc given (v.disk ∷ []) (reverse (map disk_of vs))
    ∙ ap (λ (ds : List DiskState). given ++ ds) (sym (reverse-append (map disk_of vs) (v.disk ∷ [])) ∙ ap reverse (sym (map-append disk_of vs (v ∷ []))))
    ∙ is
