-- What is written of an image and the disks of all lanes: the rows of all mappings, and what the first block of each volume reads.
use Rattle.std.specs.Prelude.{◌≡◌, ◌⊎◌, ℕ, ◌≤◌, List, [], ◌∷◌, ◌++◌, length, map, take, Option, Some, None}
use Rattle.fc_base.specs.declared.request.ReadPart.{ReadPart}
use Rattle.fc_base.specs.declared.request.Reply.{Reply}
use Rattle.fc_base.specs.declared.size.GrainSize.{GrainSize}
use Rattle.fc_base.specs.declared.volume.Volume.{Volume}
use Rattle.fc_books.specs.Accesses.{access_in}
use Rattle.fc_format.specs.Halves.{Damaged, Found, Image, NoImage}
use Rattle.fc_grains.specs.Grains.{pool_of}
use Rattle.fc_image.specs.declared.image.MetaImage.{MetaImage}
use Rattle.fc_kept.specs.Disks.{NamedDisk}
use Rattle.fc_kept.specs.Images.{kept_in, tables_in}
use Rattle.fc_kept.specs.Recoverable.{disks_at}
use Rattle.fc_mdisk.specs.Disk.{DiskState}
use Rattle.fc_mdisk.specs.Disks.{calls_of, faults_of}
use Rattle.fc_recovered.specs.Answering.{AfterReply, IsAnswerBy}
use Rattle.fc_recovered.specs.Recovered.{AreHandedBack, AreReadied}
use Rattle.fc_recovered.specs.Showing.{shown_at}
use Rattle.fc_recovery_text.specs.Text.{lines_text, no_image, read_text, rows_in}

-- The first block of a volume.
abbrev pub first_part : Volume → ReadPart
first_part v = record { volume = v.id; block = 0; count = 1 }

-- It is answered what the chains, the lost grains and the disks say, or how the volume may be reached; and the disks go on.
pub record IsRead (grain : GrainSize) (image : MetaImage) (v : Volume) (reply : Reply) (old new : List (List NamedDisk)) : Type 0 where
  pub answer : IsAnswerBy (access_in (tables_in image) v.id) grain (first_part v) (shown_at grain old (kept_in image) v.id.0 0) reply
  pub after : AfterReply reply old new

-- Volume by volume, each that has a grain.
pub data AreRead (grain : GrainSize) (image : MetaImage) : List Volume → List (List NamedDisk) → List ℕ → List (List NamedDisk) → Type 0 where
  all : (disks : List (List NamedDisk)) → AreRead grain image [] disks [] disks
  without_grain : (v : Volume) (vs : List Volume) (disks last : List (List NamedDisk)) (text : List ℕ) →
      v.grains ≡ 0 → AreRead grain image vs disks text last → AreRead grain image (v ∷ vs) disks text last
  next : (v : Volume) (vs : List Volume) (reply : Reply) (disks on last : List (List NamedDisk)) (text : List ℕ) →
      IsRead grain image v reply disks on → AreRead grain image vs on text last →
      AreRead grain image (v ∷ vs) disks (read_text (first_part v) reply ++ text) last

-- The text of an image over disks as they came back, and the disks behind it: what the volumes of each lane lack is made ready first.
pub record IsImageText (grain : GrainSize) (image : MetaImage) (disks : List (List NamedDisk)) (text : List ℕ) (last : List (List NamedDisk)) : Type 0 where
  pub ready : List (List NamedDisk)
  pub are_ready : AreReadied grain image.volumes disks ready
  pub reads : List ℕ
  pub read : AreRead grain image image.volumes ready reads last
  pub text_is : text ≡ lines_text (rows_in grain image) ++ reads

-- What was put of it, where the sink failed or memory was wanted, and the disks behind it: nothing; the rows, where what the volumes lack
-- may have been made ready; or the rows, and what some first volumes read.
pub data IsImageFront (grain : GrainSize) (image : MetaImage) (disks : List (List NamedDisk)) : List ℕ → List (List NamedDisk) → Type 0 where
  nothing : IsImageFront grain image disks [] disks
  rows : (last : List (List NamedDisk)) → AreHandedBack grain image.volumes disks last → IsImageFront grain image disks (lines_text (rows_in grain image)) last
  reads : (ready last : List (List NamedDisk)) (count : ℕ) (reads : List ℕ) → AreReadied grain image.volumes disks ready →
      AreRead grain image (take count image.volumes) ready reads last → IsImageFront grain image disks (lines_text (rows_in grain image) ++ reads) last

-- ---- what is found

-- An image or none.
abbrev pub IsFound : Found → Option MetaImage → Type 0
IsFound NoImage image = image ≡ None
IsFound (Image found) image = image ≡ Some found
IsFound (Damaged place) image = ⊥

-- What stands continues the format.
abbrev pub IsFoundGood : Found → Type 0
IsFoundGood (Damaged place) = ⊥
IsFoundGood found = Unit {0}

-- The text of what is found: that of an image over the disks; or that there is none.
abbrev pub IsStateText : GrainSize → Found → List (List NamedDisk) → List ℕ → List (List NamedDisk) → Type 0
IsStateText grain NoImage disks text last = (text ≡ no_image) × (last ≡ disks)
IsStateText grain (Image image) disks text last = IsImageText grain image disks text last
IsStateText grain (Damaged place) disks text last = ⊥

-- What was put of it.
abbrev pub IsStateFront : GrainSize → Found → List (List NamedDisk) → List ℕ → List (List NamedDisk) → Type 0
IsStateFront grain NoImage disks text last = ((text ≡ []) ⊎ (text ≡ no_image)) × (last ≡ disks)
IsStateFront grain (Image image) disks text last = IsImageFront grain image disks text last
IsStateFront grain (Damaged place) disks text last = (text ≡ []) × (last ≡ disks)

-- Of a first image, which has no volumes, no disk is read.
abbrev pub IsFirstText : GrainSize → Found → List ℕ → Type 0
IsFirstText grain NoImage text = text ≡ no_image
IsFirstText grain (Image image) text = text ≡ lines_text (rows_in grain image)
IsFirstText grain (Damaged place) text = ⊥

abbrev pub IsFirstFront : GrainSize → Found → List ℕ → Type 0
IsFirstFront grain found text = (text ≡ []) ⊎ IsFirstText grain found text

-- As many disks of each kind, in each lane, with no fewer calls and faults.
abbrev pub states_in : List (List NamedDisk) → ℕ → List DiskState
states_in disks i = map (λ (d : NamedDisk). d.disk) (disks_at disks i)

pub record KeepDisks (old new : List (List NamedDisk)) : Type 0 where
  pub count : length new ≡ length old
  pub kinds : (i : ℕ) → pool_of (states_in new i) ≡ pool_of (states_in old i)
  pub calls : (i : ℕ) → calls_of (states_in old i) ≤ calls_of (states_in new i)
  pub faults : (i : ℕ) → faults_of (states_in old i) ≤ faults_of (states_in new i)
