-- A record is put, or that was cut short: what the meter says then.
use Rattle.std.proofs.Common.{◌≡◌, ◌⊎◌, ⊎_elim, ℕ, ◌+◌, ◌<◌, ◌≤◌, Bool, true, false, nat_le, ltb, if◌then◌else◌, Option, Some, None, List, [], ◌∷◌, refl, sym, ap, subst, ◌∙◌, arith}
use Rattle.std.proofs.lemmas.Bool.{false_from_ne_true, lt-ltb, ltb-true}
use Rattle.std.specs.Prelude.{Err, IsErrOf, ⊤}
use Rattle.fc_format.specs.Halves.{Found, Image, half_size, recovered}
use Rattle.fc_image.specs.declared.image.MetaImage.{MetaImage}
use Rattle.fc_image.specs.declared.record.MetaRecord.{MetaRecord}
use Rattle.fc_meta.specs.declared.error.MetaError.{MetaError}
use Rattle.fc_meta.specs.declared.error.MetaError.TheVariants.{Failed, NoMemory, Full}
use Rattle.fc_meta.specs.declared.meta.Meta.{Meta}
use Rattle.fc_meta.specs.Answers.{IsStopped, found_with, more_calls}
use Rattle.fc_meta.specs.States.{Head, disk_of, found, head_of, head_with, room_of, used_of}
use Rattle.fc_meta.proofs.Asked.{calls_added}
use Rattle.fc_marks.specs.Meter.{HasCause, IsCutShort, IsMetered, IsPut, Meter, batch_size, first_full, passes_half, with_batch, with_fold, with_record}
use Rattle.fc_marks.specs.Stops.{stop_of_meta}
use Rattle.fc_marks.specs.declared.error.NotedStop.{NotedStop}
use Rattle.fc_marks.specs.declared.error.NotedStop.TheVariants.{LogFull, NoMemory as WantsMemory, MetaFailed, MetaFull}
use Rattle.fc_marks.proofs.Counting.{behind_fold, costs_folded, plainly, some_made}
use Rattle.fc_marks.proofs.Leaving.{fits_then, one_image}

-- ---- the first time that something did

first_now : (full : Option ℕ) (passes : Bool) (calls : ℕ) → full ≡ None → passes ≡ true → first_full full passes calls ≡ Some calls
first_now full passes calls none is = ap (λ (o : Option ℕ). first_full o passes calls) none ∙ ap (λ (b : Bool). if b then Some calls else None) is

none_yet : (full : Option ℕ) (passes : Bool) (calls : ℕ) → full ≡ None → passes ≡ false → first_full full passes calls ≡ None
none_yet full passes calls none is = ap (λ (o : Option ℕ). first_full o passes calls) none ∙ ap (λ (b : Bool). if b then Some calls else None) is

at_first : (full : Option ℕ) (passes : Bool) (calls at : ℕ) → full ≡ Some at → first_full full passes calls ≡ Some at
at_first full passes calls at is = ap (λ (o : Option ℕ). first_full o passes calls) is

one_place : (full : Option ℕ) (n at : ℕ) → full ≡ Some n → full ≡ Some at → n ≡ at
one_place full n at is told = let same : Some n ≡ Some at = sym is ∙ told in cc

no_place : (full : Option ℕ) (at : ℕ) → full ≡ None → full ≡ Some at → ⊥
no_place full at none told = let same : None ≡ Some at = sym none ∙ told in cc

-- what comes behind so many calls isn't seen before them
first_later : (full : Option ℕ) (passes : Bool) (calls n : ℕ) → n ≤ calls → ((at : ℕ) → full ≡ Some at → n ≤ at) → (at : ℕ) → first_full full passes calls ≡ Some at → n ≤ at
first_later (Some first) passes calls n le before at told = before at told
first_later None true calls n le before at told = let same = one_place (Some calls) calls at refl told in omega (arith, same, le)
first_later None false calls n le before at told = absurd (no_place None at refl told)

-- what comes before a batch
before_batch : (stop : NotedStop) (half : ℕ) (note : MetaRecord) (n : ℕ) (m : Meter) → n ≤ m.calls → HasCause stop n m → HasCause stop n (with_batch half note m)
before_batch MetaFailed half note n m le before = first_later m.full (ltb half (m.used + 1 + batch_size note)) m.calls n le before
before_batch MetaFull half note n m le is = at_first m.full (ltb half (m.used + 1 + batch_size note)) m.calls n is
before_batch LogFull half note n m le other = tt
before_batch WantsMemory half note n m le other = tt

module _ {D : Type 0} (seen : D → List ℕ) (calls : D → ℕ) where
  -- What was cut short, by the meter before it and behind it.
  abbrev Cut : NotedStop → Meta D → Meta D → Meter → Meter → Type 0
  Cut stop old new m n = (made : ℕ) × (calls (disk_of new) ≡ more_calls made (calls (disk_of old))) × (m.calls + made ≤ n.calls) × HasCause stop (m.calls + made) n

  -- ---- a fold of what stands

  module _ (old mid : Meta D) (image : MetaImage) (is : found seen old ≡ Image image) (head : head_of mid ≡ head_of old) (same : seen (disk_of mid) ≡ seen (disk_of old)) where
    read_metered : (m : Meter) → IsMetered seen old m → IsMetered seen mid m
    read_metered m metered = record {
      image = ap recovered same ∙ metered.image;
      generation = ap (λ (h : Head). h.generation) head ∙ metered.generation;
      used = ap (λ (h : Head). h.used) head ∙ metered.used;
      fits = metered.fits;
    }

    pub folded_same : (new : Meta D) → ((m : Meter) → IsMetered seen mid m → IsMetered seen new (with_fold (room_of seen mid) image m)) → (m : Meter) → IsMetered seen old m →
        IsMetered seen new (with_fold (room_of seen old) m.image m)
    folded_same new done m metered =
        subst (λ (i : MetaImage). IsMetered seen new (with_fold (room_of seen old) i m)) (one_image (found seen old) image m.image is metered.image)
        (subst (λ (bytes : List ℕ). IsMetered seen new (with_fold (half_size bytes) image m)) same (done m (read_metered m metered)))

    pub cut_same : (new : Meta D) (stop : NotedStop) → calls (disk_of mid) ≡ calls (disk_of old) → IsCutShort seen calls stop mid new (with_fold (room_of seen mid) image) →
        IsCutShort seen calls stop old new (λ m. with_fold (room_of seen old) m.image m)
    cut_same new stop counted cut m metered =
        let p = cut m (read_metered m metered) in (
          p.0,
          p.1 ∙ ap (more_calls p.0) counted,
          p.2,
          subst (λ (i : MetaImage). HasCause stop (m.calls + p.0) (with_fold (room_of seen old) i m)) (one_image (found seen old) image m.image is metered.image)
              (subst (λ (bytes : List ℕ). HasCause stop (m.calls + p.0) (with_fold (half_size bytes) image m)) same p.3),
        )

  -- metadata wasn't read: the disk failed, or memory was wanted
  pub unread : {T : Type 0} (old new : Meta D) (e : MetaError) → (IsErrOf {T = T} (Err e) Full → ⊥) → calls (disk_of new) ≡ calls (disk_of old) →
      IsCutShort seen calls (stop_of_meta e) old new (λ m. with_fold (room_of seen old) m.image m)
  unread old new Failed other same m is =
      (0, same, (omega arith), first_later m.full (passes_half (room_of seen old) m.generation m.image) (m.calls + 2) (m.calls + 0) (omega arith) (λ at told. absurd (no_place m.full at is.fits told)))
  unread old new NoMemory other same m is = (0, same, (omega arith), tt)
  unread old new Full other same m is = absurd (other refl)

  -- ---- a batch

  module _ (note : MetaRecord) (old : Meta D) where
    abbrev Passes : Type 0
    Passes = room_of seen old < used_of old + 1 + batch_size note

    batch_fits : (Passes → ⊥) → (m : Meter) → IsMetered seen old m → ltb (room_of seen old) (m.used + 1 + batch_size note) ≡ false
    batch_fits room m is =
        false_from_ne_true (ltb (room_of seen old) (m.used + 1 + batch_size note)) (λ told. room (
        let lt = ltb-true (room_of seen old) (m.used + 1 + batch_size note) told in let used = is.used in omega (arith, lt, used)))

    module _ (new : Meta D) where
      batch_put : found seen new ≡ found_with (found seen old) (note ∷ []) → head_of new ≡ head_with (batch_size note) (head_of old) → (Passes → ⊥) →
          (m : Meter) → IsMetered seen old m → IsMetered seen new (with_batch (room_of seen old) note m)
      batch_put stands head room m is = record {
        image = stands ∙ ap (λ (f : Found). found_with f (note ∷ [])) is.image;
        generation = ap (λ (h : Head). h.generation) head ∙ is.generation;
        used = ap (λ (h : Head). h.used) head ∙ ap (λ (n : ℕ). n + batch_size note) is.used;
        fits = none_yet m.full (ltb (room_of seen old) (m.used + 1 + batch_size note)) m.calls is.fits (batch_fits room m is);
      }

      pub batch_cut : (e : MetaError) → (IsErrOf {T = ⊤} (Err e) Full → Passes) → (Passes → IsErrOf {T = ⊤} (Err e) Full) →
          (IsErrOf {T = ⊤} (Err e) Failed → IsStopped 4 (calls (disk_of old)) (calls (disk_of new))) → (IsErrOf {T = ⊤} (Err e) Failed ⊎ (new ≡ old)) →
          IsCutShort seen calls (stop_of_meta e) old new (with_batch (room_of seen old) note)
      batch_cut Failed full so stopped stays m is =
          let p = some_made 4 (calls (disk_of old)) (calls (disk_of new)) (stopped refl) in
          let fits = batch_fits (λ passes. let told = so passes in absurd cc) m is in
          (p.0, p.1, (let l = p.2 in omega (arith, l)), λ at told. absurd (no_place (with_batch (room_of seen old) note m).full at (none_yet m.full (ltb (room_of seen old) (m.used + 1 + batch_size note)) m.calls is.fits fits) told))
      batch_cut NoMemory full so stopped stays m is = (0, ⊎_elim (λ told. absurd cc) (λ same. ap (λ (n : Meta D). calls (disk_of n)) same) stays, (omega arith), tt)
      batch_cut Full full so stopped stays m is =
          let passes = full refl in let used = is.used in (
            0,
            ⊎_elim (λ told. absurd cc) (λ same. ap (λ (n : Meta D). calls (disk_of n)) same) stays,
            (omega arith),
            first_now m.full (ltb (room_of seen old) (m.used + 1 + batch_size note)) m.calls is.fits (lt-ltb (room_of seen old) (m.used + 1 + batch_size note) (omega (arith, passes, used)))
                ∙ ap Some (let e : m.calls ≡ m.calls + 0 = omega arith in e),
          )

  -- ---- a record

  module _ (note : MetaRecord) (old : Meta D) where
    abbrev Fits : Type 0
    Fits = nat_le (used_of old + 1 + batch_size note) (room_of seen old) ≡ true

    abbrev Folds : Type 0
    Folds = nat_le (used_of old + 1 + batch_size note) (room_of seen old) ≡ false

    -- It was put as a batch behind the others; or that was cut short.
    pub was_put : (new : Meta D) → Fits → found seen new ≡ found_with (found seen old) (note ∷ []) → head_of new ≡ head_with (batch_size note) (head_of old) →
        calls (disk_of new) ≡ more_calls 4 (calls (disk_of old)) → IsPut seen calls note old new
    was_put new fits stands head counted = record {
      metered = λ m is. subst (λ (n : Meter). IsMetered seen new n) (sym (plainly seen note old fits m is))
          (batch_put note old new stands head (fits_then true (used_of old + 1 + batch_size note) (room_of seen old) (sym fits) refl) m is);
      counted = λ m is. (4, counted, ap (λ (n : Meter). n.calls) (plainly seen note old fits m is));
    }

    pub cut_plainly : (new : Meta D) (stop : NotedStop) → Fits → IsCutShort seen calls stop old new (with_batch (room_of seen old) note) →
        IsCutShort seen calls stop old new (with_record (room_of seen old) note)
    cut_plainly new stop fits cut m is = subst (λ (n : Meter). Cut stop old new m n) (sym (plainly seen note old fits m is)) (cut m is)

    -- The fold before it was cut short.
    pub cut_in_fold : (new : Meta D) (stop : NotedStop) → Folds → IsCutShort seen calls stop old new (λ m. with_fold (room_of seen old) m.image m) →
        IsCutShort seen calls stop old new (with_record (room_of seen old) note)
    cut_in_fold new stop folds cut m is =
        let p = cut m is in
        subst (λ (n : Meter). Cut stop old new m n) (sym (behind_fold seen note old folds m is))
        (p.0, p.1, (let l = p.2 in omega (arith, l)), before_batch stop (room_of seen old) note (m.calls + p.0) (with_fold (room_of seen old) m.image m) p.2 p.3)

    -- Behind a fold it was put; or that was cut short.
    module _ (mid new : Meta D) (folds : Folds) (done : (m : Meter) → IsMetered seen old m → IsMetered seen mid (with_fold (room_of seen old) m.image m))
        (room : room_of seen mid ≡ room_of seen old) (six : calls (disk_of mid) ≡ more_calls 6 (calls (disk_of old))) where
      pub was_folded : found seen new ≡ found_with (found seen mid) (note ∷ []) → head_of new ≡ head_with (batch_size note) (head_of mid) →
          (room_of seen mid < used_of mid + 1 + batch_size note → ⊥) → calls (disk_of new) ≡ more_calls 4 (calls (disk_of mid)) → IsPut seen calls note old new
      was_folded stands head fits four = record {
        metered = λ m is. subst (λ (n : Meter). IsMetered seen new n) (sym (behind_fold seen note old folds m is))
            (subst (λ (half : ℕ). IsMetered seen new (with_batch half note (with_fold (room_of seen old) m.image m))) room
            (batch_put note mid new stands head fits (with_fold (room_of seen old) m.image m) (done m is)));
        counted = λ m is. (10, four ∙ ap (more_calls 4) six, costs_folded seen note old folds m is);
      }

      pub cut_behind_fold : (stop : NotedStop) → IsCutShort seen calls stop mid new (with_batch (room_of seen mid) note) → IsCutShort seen calls stop old new (with_record (room_of seen old) note)
      cut_behind_fold stop cut m is =
          let behind : Meter = with_fold (room_of seen old) m.image m in
          let p = cut behind (done m is) in
          subst (λ (n : Meter). Cut stop old new m n) (sym (behind_fold seen note old folds m is)) (
            p.0 + 6,
            p.1 ∙ (ap (more_calls p.0) six ∙ calls_added p.0 6 (calls (disk_of old))),
            (let l = p.2 in omega (arith, l)),
            subst (λ (c : ℕ). HasCause stop c (with_batch (room_of seen old) note behind)) (let e : m.calls + 6 + p.0 ≡ m.calls + (p.0 + 6) = omega arith in e)
                (subst (λ (half : ℕ). HasCause stop (m.calls + 6 + p.0) (with_batch half note behind)) room p.3),
          )
