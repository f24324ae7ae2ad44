-- What may be put of a state where the sink fails or memory is wanted: nothing; or the whole text, which is a front of itself.
use Rattle.std.proofs.Common.{◌≡◌, ℕ, List, [], inl, inr, length, take, refl, sym, subst, arith}
use Rattle.std.proofs.lemmas.List.{take_all}
use Rattle.fc_base.specs.declared.size.GrainSize.{GrainSize}
use Rattle.fc_base.specs.declared.volume.Volume.{Volume}
use Rattle.fc_format.specs.Halves.{Damaged, Found, Image, NoImage}
use Rattle.fc_image.specs.declared.image.MetaImage.{MetaImage}
use Rattle.fc_kept.specs.Disks.{NamedDisk}
use Rattle.fc_recovered.specs.Recovered.{AreHandedBack}
use Rattle.fc_recovery_text.specs.Recovering.{AreRead, IsFirstFront, IsFirstText, IsImageFront, IsImageText, IsStateFront, IsStateText}
use Rattle.fc_recovery_text.specs.Text.{lines_text, rows_in}

-- ---- an image

-- the rows, and the disks as they were
pub rows_alone : (grain : GrainSize) (image : MetaImage) (disks : List (List NamedDisk)) → IsImageFront grain image disks (lines_text (rows_in grain image)) disks
rows_alone grain image disks =
    let back : AreHandedBack grain image.volumes disks disks = record { count = refl; each = λ i lt. inl refl } in
    IsImageFront.rows disks back

pub image_front : (grain : GrainSize) (image : MetaImage) (disks : List (List NamedDisk)) (text : List ℕ) (last : List (List NamedDisk)) → IsImageText grain image disks text last → IsImageFront grain image disks text last
image_front grain image disks text last is =
    let every : take (length image.volumes) image.volumes ≡ image.volumes = take_all (length image.volumes) image.volumes (omega arith) in
    subst (λ (t : List ℕ). IsImageFront grain image disks t last) (sym is.text_is)
    (IsImageFront.reads is.ready last (length image.volumes) is.reads is.are_ready (subst (λ (vs : List Volume). AreRead grain image vs is.ready is.reads last) (sym every) is.read))

-- ---- what is found

pub nothing_front : (grain : GrainSize) (f : Found) (disks : List (List NamedDisk)) → IsStateFront grain f disks [] disks
nothing_front grain NoImage disks = (inl refl, refl)
nothing_front grain (Image image) disks = IsImageFront.nothing
nothing_front grain (Damaged place) disks = (refl, refl)

pub state_front : (grain : GrainSize) (f : Found) (disks : List (List NamedDisk)) (text : List ℕ) (last : List (List NamedDisk)) → IsStateText grain f disks text last → IsStateFront grain f disks text last
state_front grain NoImage disks text last is = (inr is.0, is.1)
state_front grain (Image image) disks text last is = image_front grain image disks text last is
state_front grain (Damaged place) disks text last is = absurd is

pub first_front : (grain : GrainSize) (f : Found) (text : List ℕ) → IsFirstText grain f text → IsFirstFront grain f text
first_front grain f text is = inr is
