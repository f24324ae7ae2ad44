-- What is put of what is found.
use Rattle.std.proofs.Common.{◌≡◌, List, [], None, Some, Result, Err, IsErrAnd, inl, inr, refl, sym, ap, subst, ◌∙◌}
use Rattle.std.proofs.lemmas.Result.{err_from_is_err_and}
use Rattle.fc_base.specs.declared.size.GrainSize.{GrainSize}
use Rattle.fc_entry.proofs.WrittenLemmas.{Written-none}
use Rattle.fc_format.specs.Halves.{Damaged, Found, Image, NoImage}
use Rattle.fc_image.specs.declared.image.MetaImage.{MetaImage}
use Rattle.fc_io.specs.Sink.{SinkState}
use Rattle.fc_kept.specs.Disks.{NamedDisk}
use Rattle.fc_recovery_text.specs.Putting.{IsPutOr, StateIsPut}
use Rattle.fc_recovery_text.specs.Recovering.{IsFirstFront, IsFirstText, IsFound, IsImageFront, IsImageText, IsStateFront, IsStateText}
use Rattle.fc_recovery_text.specs.Text.{lines_text, no_image, rows_in}
use Rattle.fc_recovery_text.specs.declared.state.Unwritten.{Unwritten}
use Rattle.fc_recovery_text.specs.declared.state.Unwritten.TheVariants.{NoMemory}
use Rattle.fc_recovery_text.proofs.Fronts.{nothing_front}
use Rattle.fc_recovery_text.proofs.Parts.{put_as}

pub none_found : (f : Found) → IsFound f None → f ≡ NoImage
none_found NoImage e = refl
none_found (Image image) e = absurd cc
none_found (Damaged place) e = absurd e

pub some_found : (f : Found) (image : MetaImage) → IsFound f (Some image) → f ≡ Image image
some_found NoImage image e = absurd cc
some_found (Image other) image e = cc
some_found (Damaged place) image e = absurd e

-- for want of memory nothing is found, and nothing put
pub unfound_state : (grain : GrainSize) (f : Found) (disks : List (List NamedDisk)) (sink : SinkState) →
    StateIsPut (Err NoMemory) (λ text. IsStateText grain f disks text disks) (λ text. IsStateFront grain f disks text disks) sink sink
unfound_state grain f disks sink = ([], nothing_front grain f disks, Written-none sink)

pub unfound_first : (grain : GrainSize) (f : Found) (r : Result (Unit {0}) Unwritten) (sink : SinkState) → IsErrAnd r (λ e. e ≡ NoMemory) →
    StateIsPut r (λ text. IsFirstText grain f text) (λ text. IsFirstFront grain f text) sink sink
unfound_first grain f r sink wants =
    let e = err_from_is_err_and r wants in
    subst (λ (z : Result (Unit {0}) Unwritten). StateIsPut z (λ text. IsFirstText grain f text) (λ text. IsFirstFront grain f text) sink sink) (sym (e.1 ∙ ap Err e.2))
    ([], inl refl, Written-none sink)

module _ (grain : GrainSize) (f : Found) (r : Result (Unit {0}) Unwritten) (before after : SinkState) where
  -- a state
  pub no_state : (disks : List (List NamedDisk)) → IsFound f None → IsPutOr r no_image before after →
      StateIsPut r (λ text. IsStateText grain f disks text disks) (λ text. IsStateFront grain f disks text disks) before after
  no_state disks found put =
      subst (λ (z : Found). StateIsPut r (λ text. IsStateText grain z disks text disks) (λ text. IsStateFront grain z disks text disks) before after) (sym (none_found f found))
      (put_as r no_image before after (λ text. IsStateText grain NoImage disks text disks) (λ text. IsStateFront grain NoImage disks text disks) (refl, refl) (inl refl, refl) (inr refl, refl) put)

  pub image_state : (disks last : List (List NamedDisk)) (image : MetaImage) → IsFound f (Some image) →
      StateIsPut r (λ text. IsImageText grain image disks text last) (λ text. IsImageFront grain image disks text last) before after →
      StateIsPut r (λ text. IsStateText grain f disks text last) (λ text. IsStateFront grain f disks text last) before after
  image_state disks last image found put =
      subst (λ (z : Found). StateIsPut r (λ text. IsStateText grain z disks text last) (λ text. IsStateFront grain z disks text last) before after) (sym (some_found f image found)) put

  -- a first state
  pub no_first : IsFound f None → IsPutOr r no_image before after → StateIsPut r (λ text. IsFirstText grain f text) (λ text. IsFirstFront grain f text) before after
  no_first found put =
      subst (λ (z : Found). StateIsPut r (λ text. IsFirstText grain z text) (λ text. IsFirstFront grain z text) before after) (sym (none_found f found))
      (put_as r no_image before after (λ text. IsFirstText grain NoImage text) (λ text. IsFirstFront grain NoImage text) refl (inl refl) (inr refl) put)

  pub image_first : (image : MetaImage) → IsFound f (Some image) → IsPutOr r (lines_text (rows_in grain image)) before after →
      StateIsPut r (λ text. IsFirstText grain f text) (λ text. IsFirstFront grain f text) before after
  image_first image found put =
      subst (λ (z : Found). StateIsPut r (λ text. IsFirstText grain z text) (λ text. IsFirstFront grain z text) before after) (sym (some_found f image found))
      (put_as r (lines_text (rows_in grain image)) before after (λ text. IsFirstText grain (Image image) text) (λ text. IsFirstFront grain (Image image) text) refl (inl refl) (inr refl) put)
