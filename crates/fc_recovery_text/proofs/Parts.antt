-- Texts put part by part: a request with its answer, and all that is said of an image.
use Rattle.std.proofs.Common.{◌≡◌, ℕ, Bool, true, false, List, [], ◌∷◌, ◌++◌, Result, Ok, Err, codes, take, refl, sym, subst, append_assoc}
use Rattle.std.specs.List.{concat}
use Rattle.std.proofs.lemmas.List.{append-nil}
use Rattle.fc_base.specs.declared.request.Reply.{Reply}
use Rattle.fc_base.specs.declared.request.Request.{Request}
use Rattle.fc_base.specs.declared.size.GrainSize.{GrainSize}
use Rattle.fc_base.specs.declared.volume.Volume.{Volume}
use Rattle.fc_entry.specs.Text.{reply_text, request_text}
use Rattle.fc_entry.specs.Written.{Written}
use Rattle.fc_entry.proofs.WrittenLemmas.{Written-none, Written-then}
use Rattle.fc_image.specs.declared.image.MetaImage.{MetaImage}
use Rattle.fc_io.specs.Sink.{SinkState}
use Rattle.fc_kept.specs.Disks.{NamedDisk}
use Rattle.fc_recovered.specs.Recovered.{AreReadied, RecoveredState}
use Rattle.fc_recovery_text.specs.Putting.{IsPutOr, ReadsPut, StateIsPut}
use Rattle.fc_recovery_text.specs.Recovering.{AreRead, IsImageFront, IsImageText, KeepDisks}
use Rattle.fc_recovery_text.specs.Text.{answered_text, lines_text, rows_in}
use Rattle.fc_recovery_text.specs.declared.state.Unwritten.{Unwritten}
use Rattle.fc_recovery_text.specs.declared.state.Unwritten.TheVariants.{Failed, NoMemory}
use Rattle.fc_recovery_text.proofs.KeptDisks.{keep_read, keep_readied, keep_then}

-- ---- a request and its answer

four : (a b c d : List ℕ) → concat (a ∷ b ∷ c ∷ d ∷ []) ≡ a ++ b ++ c ++ d
four a b c d = simp (append_assoc, append-nil)

abbrev pub answered_parts : Request → Reply → List (List ℕ)
answered_parts request reply = request_text request ∷ codes " -> " ∷ reply_text reply ∷ codes "\n" ∷ []

pub answered_parts-joined : (request : Request) (reply : Reply) → concat (answered_parts request reply) ≡ answered_text request reply
answered_parts-joined request reply = four (request_text request) (codes " -> ") (reply_text reply) (codes "\n")

-- ---- a state

-- not all of the text was put
pub unput : (e : Unwritten) (text : List ℕ) (before after : SinkState) (IsText IsFront : List ℕ → Type 0) → IsFront [] → IsFront text → IsPutOr (Err e) text before after → StateIsPut (Err e) IsText IsFront before after
unput Failed text before after IsText IsFront none front put = (text, front, put)
unput NoMemory text before after IsText IsFront none front put =
    ([], none, subst (λ (z : SinkState). Written before [] false z) (sym put) (Written-none before))

-- what is put is the text of the state
pub put_as : (r : Result (Unit {0}) Unwritten) (text : List ℕ) (before after : SinkState) (IsText IsFront : List ℕ → Type 0) → IsText text → IsFront [] → IsFront text → IsPutOr r text before after →
    StateIsPut r IsText IsFront before after
put_as (Ok done) text before after IsText IsFront is none front put = (text, is, put)
put_as (Err e) text before after IsText IsFront is none front put = unput e text before after IsText IsFront none front put

-- ---- an image and its disks

-- the volumes were read over the disks that were made ready
pub reads_over : (grain : GrainSize) (image : MetaImage) (made now : RecoveredState) (mid after : SinkState) (failed : Bool) → made.grain ≡ grain → made.image ≡ image → (r : ReadsPut made now mid failed after) →
    AreRead grain image (take r.count image.volumes) made.disks r.text now.disks
reads_over grain image made now mid after failed of_grain of_image r =
    subst (λ (g : GrainSize). AreRead g image (take r.count image.volumes) made.disks r.text now.disks) of_grain
    (subst (λ (m : MetaImage). AreRead made.grain m (take r.count m.volumes) made.disks r.text now.disks) of_image r.read)

pub disks_kept : (grain : GrainSize) (image : MetaImage) (disks : List (List NamedDisk)) (made now : RecoveredState) (mid after : SinkState) (failed : Bool) → made.grain ≡ grain → made.image ≡ image →
    AreReadied grain image.volumes disks made.disks → ReadsPut made now mid failed after → KeepDisks disks now.disks
disks_kept grain image disks made now mid after failed of_grain of_image ready r =
    keep_then disks made.disks now.disks (keep_readied grain image.volumes disks made.disks ready)
    (keep_read grain image (take r.count image.volumes) made.disks r.text now.disks (reads_over grain image made now mid after failed of_grain of_image r))

-- the rows, and all reads
pub image_put : (grain : GrainSize) (image : MetaImage) (disks : List (List NamedDisk)) (made now : RecoveredState) (before mid after : SinkState) → made.grain ≡ grain → made.image ≡ image →
    AreReadied grain image.volumes disks made.disks → Written before (lines_text (rows_in grain image)) false mid → ReadsPut made now mid false after →
    (text : List ℕ) × IsImageText grain image disks text now.disks × Written before text false after
image_put grain image disks made now before mid after of_grain of_image ready rows r =
    let every : take r.count image.volumes ≡ image.volumes = subst (λ (m : MetaImage). take r.count m.volumes ≡ m.volumes) of_image r.all in (
      lines_text (rows_in grain image) ++ r.text,
      record {
        ready = made.disks;
        are_ready = ready;
        reads = r.text;
        read =
            subst (λ (vs : List Volume). AreRead grain image vs made.disks r.text now.disks) every
            (reads_over grain image made now mid after false of_grain of_image r);
        text_is = refl;
      },
      Written-then before (lines_text (rows_in grain image)) mid r.text false after rows r.written,
    )

-- the rows, and reads until the sink failed
pub cut_in_reads : (grain : GrainSize) (image : MetaImage) (disks : List (List NamedDisk)) (made now : RecoveredState) (before mid after : SinkState) → made.grain ≡ grain → made.image ≡ image →
    AreReadied grain image.volumes disks made.disks → Written before (lines_text (rows_in grain image)) false mid → ReadsPut made now mid true after →
    (text : List ℕ) × IsImageFront grain image disks text now.disks × Written before text true after
cut_in_reads grain image disks made now before mid after of_grain of_image ready rows r = (
  lines_text (rows_in grain image) ++ r.text,
  IsImageFront.reads made.disks now.disks r.count r.text ready (reads_over grain image made now mid after true of_grain of_image r),
  Written-then before (lines_text (rows_in grain image)) mid r.text true after rows r.written,
)
