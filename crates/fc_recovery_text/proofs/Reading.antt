-- The first block of each volume read and put, volume by volume.
use Rattle.std.proofs.Common.{◌≡◌, ℕ, zero, suc, ◌+◌, ◌<◌, ◌≤◌, Bool, true, false, List, [], ◌∷◌, ◌++◌, length, slice_get, take, drop, Option, None, Some, refl, sym, ap, subst, ◌∙◌, arith, append_assoc, add-one, MatchOption}
use Rattle.std.proofs.lemmas.List.{append-nil, take_all}
use Rattle.fc_base.specs.declared.request.ReadPart.{ReadPart}
use Rattle.fc_base.specs.declared.request.Reply.{Reply}
use Rattle.fc_base.specs.declared.size.GrainSize.{GrainSize}
use Rattle.fc_base.specs.declared.size.GrainSize.TheVariants.{K256, K64}
use Rattle.fc_base.specs.declared.volume.Volume.{Volume}
use Rattle.fc_books.specs.Accesses.{access_in}
use Rattle.fc_entry.specs.Picture.{grain_of_block}
use Rattle.fc_entry.specs.Written.{Written}
use Rattle.fc_entry.proofs.WrittenLemmas.{Written-none, Written-then}
use Rattle.fc_image.specs.declared.image.MetaImage.{MetaImage}
use Rattle.fc_io.specs.Sink.{SinkState}
use Rattle.fc_kept.specs.Disks.{NamedDisk}
use Rattle.fc_kept.specs.Images.{kept_in, tables_in}
use Rattle.fc_recovered.specs.Answering.{AfterReply, IsAnswerBy}
use Rattle.fc_recovered.specs.Recovered.{RecoveredState}
use Rattle.fc_recovered.specs.Showing.{shown_at}
use Rattle.fc_recovery_text.specs.Putting.{NextPut, ReadsPut}
use Rattle.fc_recovery_text.specs.Recovering.{AreRead, IsRead, all, first_part, next, without_grain}
use Rattle.fc_recovery_text.specs.Text.{read_text}

-- ---- volumes that are read one after the other

module _ (grain : GrainSize) (image : MetaImage) where
  read_then : (vs ws : List Volume) (old mid new : List (List NamedDisk)) (text more : List ℕ) → AreRead grain image vs old text mid → AreRead grain image ws mid more new →
      AreRead grain image (vs ++ ws) old (text ++ more) new
  read_then vs ws old mid new text more (all disks) others = others
  read_then vs ws old mid new text more (without_grain v us disks last rest none r) others =
      without_grain v (us ++ ws) old new (rest ++ more) none (read_then us ws old mid new rest more r others)
  read_then vs ws old mid new text more (next v us reply disks on last rest one r) others =
      subst (λ (z : List ℕ). AreRead grain image (v ∷ (us ++ ws)) old z new) (sym (append_assoc (read_text (first_part v) reply) rest more))
      (next v (us ++ ws) reply old on new (rest ++ more) one (read_then us ws on mid new rest more r others))

one_more : (vs : List Volume) (i : ℕ) → take (i + 1) vs ≡ take i vs ++ take 1 (drop i vs)
one_more vs i = ap (λ (n : ℕ). take n vs) (add-one i) ∙ step vs i
  where
    step : (vs : List Volume) (i : ℕ) → take (suc i) vs ≡ take i vs ++ take 1 (drop i vs)
    step [] zero = refl
    step [] (suc i) = refl
    step (v ∷ vs) zero = refl
    step (v ∷ vs) (suc i) = ap (λ (z : List Volume). v ∷ z) (step vs i)

-- the volume at a place, alone
alone_at : (vs : List Volume) (i : ℕ) → i < length vs → (v : Volume) × (slice_get vs i ≡ Some v) × (take 1 (drop i vs) ≡ v ∷ [])
alone_at [] i lt = absurd (omega arith)
alone_at (v ∷ vs) zero lt = (v, refl, refl)
alone_at (v ∷ vs) (suc i) lt = alone_at vs i (omega arith)

-- ---- one volume

-- the first block is in the first grain
first_grain : (grain : GrainSize) → grain_of_block grain 0 ≡ 0
first_grain K64 = refl
first_grain K256 = refl

-- what `first_block` answers
abbrev IsFirstBlock : RecoveredState → ℕ → Option ReadPart → Type 0
IsFirstBlock r place o = (v : Volume) → slice_get r.image.volumes place ≡ Some v → MatchOption o (v.grains ≡ 0) (λ part. part ≡ first_part v)

-- what `read` answers
abbrev Answers : RecoveredState → ReadPart → Reply → Type 0
Answers r part reply =
    IsAnswerBy (access_in (tables_in r.image) part.volume) r.grain part (shown_at r.grain r.disks (kept_in r.image) part.volume.0 (grain_of_block r.grain part.block)) reply

pub read_next : (old new : RecoveredState) (place : ℕ) (part : ReadPart) (reply : Reply) (before : SinkState) (failed : Bool) (after : SinkState) → place < length old.image.volumes →
    IsFirstBlock old place (Some part) → Answers old part reply → AfterReply reply old.disks new.disks → new.grain ≡ old.grain → new.image ≡ old.image →
    Written before (read_text part reply) failed after → NextPut old new place before failed after
read_next old new place part reply before failed after within first shown disks grain image put =
    let at = alone_at old.image.volumes place within in
    let v : Volume = at.0 in
    let is : part ≡ first_part v = first v at.1 in
    let one : IsRead old.grain old.image v reply old.disks new.disks =
    record {
      answer =
          subst (λ (n : ℕ). IsAnswerBy (access_in (tables_in old.image) v.id) old.grain (first_part v) (shown_at old.grain old.disks (kept_in old.image) v.id.0 n) reply) (first_grain old.grain)
          (subst (λ (p : ReadPart). Answers old p reply) is shown);
      after = disks;
    } in
    record {
      image = image;
      grain = grain;
      text = read_text (first_part v) reply;
      read =
          subst (λ (vs : List Volume). AreRead old.grain old.image vs old.disks (read_text (first_part v) reply) new.disks) (sym at.2)
          (subst (λ (z : List ℕ). AreRead old.grain old.image (v ∷ []) old.disks z new.disks) (append-nil (read_text (first_part v) reply))
          (next v [] reply old.disks new.disks new.disks [] one (all new.disks)));
      written = subst (λ (p : ReadPart). Written before (read_text p reply) failed after) is put;
    }

pub none_next : (old : RecoveredState) (place : ℕ) (o : Option ReadPart) (before : SinkState) → place < length old.image.volumes → IsFirstBlock old place o → o ≡ None →
    NextPut old old place before false before
none_next old place o before within first none =
    let at = alone_at old.image.volumes place within in
    let v : Volume = at.0 in
    let bare : v.grains ≡ 0 = subst (λ (z : Option ReadPart). MatchOption z (v.grains ≡ 0) (λ part. part ≡ first_part v)) none (first v at.1) in
    record {
      image = refl;
      grain = refl;
      text = [];
      read =
          subst (λ (vs : List Volume). AreRead old.grain old.image vs old.disks [] old.disks) (sym at.2)
          (without_grain v [] old.disks old.disks [] bare (all old.disks));
      written = Written-none before;
    }

-- ---- the first volumes

-- The reads of the first `count` volumes are put.
pub record ReadSoFar (old now : RecoveredState) (before : SinkState) (failed : Bool) (after : SinkState) (count : ℕ) : Type 0 where
  pub image : now.image ≡ old.image
  pub grain : now.grain ≡ old.grain
  pub text : List ℕ
  pub read : AreRead old.grain old.image (take count old.image.volumes) old.disks text now.disks
  pub written : Written before text failed after

pub none_so_far : (old : RecoveredState) (before : SinkState) → ReadSoFar old old before false before 0
none_so_far old before = record { image = refl; grain = refl; text = []; read = all old.disks; written = Written-none before }

pub more_so_far : (old now later : RecoveredState) (before mid after : SinkState) (failed : Bool) (count : ℕ) → ReadSoFar old now before false mid count → NextPut now later count mid failed after →
    ReadSoFar old later before failed after (count + 1)
more_so_far old now later before mid after failed count r n =
    let more : AreRead old.grain old.image (take 1 (drop count old.image.volumes)) now.disks n.text later.disks =
    subst (λ (g : GrainSize). AreRead g old.image (take 1 (drop count old.image.volumes)) now.disks n.text later.disks) r.grain
    (subst (λ (m : MetaImage). AreRead now.grain m (take 1 (drop count m.volumes)) now.disks n.text later.disks) r.image n.read) in
    record {
      image = n.image ∙ r.image;
      grain = n.grain ∙ r.grain;
      text = r.text ++ n.text;
      read =
          subst (λ (vs : List Volume). AreRead old.grain old.image vs old.disks (r.text ++ n.text) later.disks) (sym (one_more old.image.volumes count))
          (read_then old.grain old.image (take count old.image.volumes) (take 1 (drop count old.image.volumes)) old.disks now.disks later.disks r.text n.text r.read more);
      written = Written-then before r.text mid n.text failed after r.written n.written;
    }

pub reads_stopped : (old now : RecoveredState) (before after : SinkState) (count : ℕ) → ReadSoFar old now before true after count → ReadsPut old now before true after
reads_stopped old now before after count r =
    record { image = r.image; grain = r.grain; text = r.text; count = count; read = r.read; all = tt; written = r.written }

pub reads_done : (old now : RecoveredState) (before after : SinkState) (count : ℕ) → length old.image.volumes ≤ count → ReadSoFar old now before false after count → ReadsPut old now before false after
reads_done old now before after count past r =
    record { image = r.image; grain = r.grain; text = r.text; count = count; read = r.read; all = take_all count old.image.volumes past; written = r.written }
