-- A whole batch and a whole fold, by the promises of their calls.
use Rattle.std.proofs.Common.{◌≡◌, ◌⊎◌, inl, inr, ⊎_elim, ℕ, ◌+◌, false, List, ◌++◌, length, sym, ap, ◌∙◌, subst}
use Rattle.std.specs.Prelude.{Result, Ok, Err, OnOk, IsErrOf, ⊤}
use Rattle.fc_image.specs.declared.record.MetaRecord.{MetaRecord}
use Rattle.fc_image.specs.declared.image.MetaImage.{MetaImage}
use Rattle.fc_metadisk.specs.Calls.{DiskCall, Made, all_made}
use Rattle.fc_format.specs.Bytes.{batch_bytes, half_bytes}
use Rattle.fc_format.specs.Halves.{Found, Image}
use Rattle.fc_meta.specs.declared.series.Call.{Call}
use Rattle.fc_meta.specs.declared.series.Call.TheVariants.{Note, Sync, ClearOther, FillOther, Turn}
use Rattle.fc_meta.specs.declared.error.MetaError.{MetaError}
use Rattle.fc_meta.specs.declared.error.MetaError.TheVariants.{Failed}
use Rattle.fc_meta.specs.declared.meta.Meta.{Meta}
use Rattle.fc_meta.specs.Answers.{IsStopped, PassesHalf, found_with, more_calls}
use Rattle.fc_meta.specs.States.{Head, head_of, head_with, head_turned, generation_of, room_of, used_of, found, awaited, filled, IsResting}
use Rattle.fc_meta.specs.DiskCalls.{note_calls, sync_calls, clear_calls, fill_calls, turn_calls, put_calls, fold_calls}
use Rattle.fc_meta.specs.Promise.{TreatsDisk, Promise}
use Rattle.fc_meta.proofs.Places.{sync_same, fill_same, turn_same, on_ok_then}
use Rattle.fc_meta.proofs.Promised.{treats_first, treats_both}
use Rattle.fc_meta.proofs.Sides.{same_size}

module _ {D : Type 0} (seen : D → List ℕ) (moment : D → ℕ) (left_since : D → ℕ → List ℕ → Type 0) (fault_count calls : D → ℕ) (leads : D → List Made → D → Type 0)
    (may_leave : D → List ℕ → Type 0) (leads_on : (a b c : D) (first rest : List Made) → leads a first b → leads b rest c → leads a (first ++ rest) c) where
  abbrev Keeps : Call → Meta D → Meta D → Result ⊤ MetaError → Type 0
  Keeps call old new result = Promise seen moment left_since fault_count calls leads may_leave call old new result

  abbrev Treats : Found → List DiskCall → Meta D → Meta D → Result ⊤ MetaError → Type 0
  Treats after asked old new result = TreatsDisk seen moment left_since fault_count calls leads after asked old new result

  -- ---- A batch

  module _ (old mid : Meta D) (records : List MetaRecord) where
    pub put_first : (error : MetaError) → Keeps (Note records) old mid (Err error) → Treats (found_with (found seen old) records) (put_calls seen old records) old mid (Err error)
    put_first error noted =
        treats_first seen moment left_since fault_count calls leads (note_calls seen old records) (sync_calls seen old) old mid (found_with (found seen old) records) error noted.treats

    module _ (noted : Keeps (Note records) old mid (Ok tt)) (new : Meta D) (result : Result ⊤ MetaError) (synced : Keeps Sync mid new result) where
      pub put_both : Treats (found_with (found seen old) records) (put_calls seen old records) old new result
      put_both =
          let same = sync_same seen old mid (ap (λ (h : Head). h.half) noted.head) noted.treats.size (ap (λ (h : Head). h.used) noted.head) in
          treats_both seen moment left_since fault_count calls leads (note_calls seen old records) (sync_calls seen old) old mid (found_with (found seen old) records) leads_on tt new result
          noted.made.1 noted.treats
          (subst (λ (f : Found). Treats f (sync_calls seen old) mid new result) noted.made.2 (subst (λ (asked : List DiskCall). Treats (awaited seen mid) asked mid new result) same synced.treats))

      pub put_head : OnOk result (head_of new ≡ head_with (length (batch_bytes records)) (head_of old))
      put_head =
          on_ok_then result _ _
          (λ e. e ∙ (ap (λ (h : Head). record h { used = mid.next }) noted.head ∙ ap (λ (n : ℕ). record (head_of old) { used = n }) noted.made.3)) synced.head

  -- ---- A fold

  module _ (old mid : Meta D) (image : MetaImage) where
    abbrev rest : List DiskCall
    rest = fill_calls seen old image ++ turn_calls seen old

    pub fold_first : (error : MetaError) → Keeps ClearOther old mid (Err error) → Treats (Image image) (fold_calls seen old image) old mid (Err error)
    fold_first error cleared = treats_first seen moment left_since fault_count calls leads (clear_calls seen old) rest old mid (Image image) error cleared.treats

    module _ (cleared : Keeps ClearOther old mid (Ok tt)) (last : Meta D) where
      -- where the image passes the half, it does behind the gate that was closed
      passes_then : PassesHalf (generation_of old) image (room_of seen old) → PassesHalf (generation_of mid) image (room_of seen mid)
      passes_then passes =
          subst (λ (g : ℕ). PassesHalf g image (room_of seen mid)) (sym (ap (λ (h : Head). h.generation) cleared.head))
          (subst (λ (n : ℕ). PassesHalf (generation_of old) image n) (sym (same_size (seen old.disk) (seen mid.disk) cleared.treats.size)) passes)

      behind : (new : Meta D) (result : Result ⊤ MetaError) → Treats (Image image) rest mid new result → Treats (Image image) (fold_calls seen old image) old new result
      behind new result more = treats_both seen moment left_since fault_count calls leads (clear_calls seen old) rest old mid (Image image) leads_on tt new result cleared.made.1 cleared.treats more

      filling : (result : Result ⊤ MetaError) → Keeps (FillOther image) mid last result → Treats (found seen mid) (fill_calls seen old image) mid last result
      filling result done =
          subst (λ (asked : List DiskCall). Treats (found seen mid) asked mid last result)
          (fill_same seen old mid (ap (λ (h : Head). h.half) cleared.head) cleared.treats.size image (ap (λ (h : Head). h.generation) cleared.head)) done.treats

      pub fold_second : (error : MetaError) → Keeps (FillOther image) mid last (Err error) → Treats (Image image) (fold_calls seen old image) old last (Err error)
      fold_second error refused =
          behind last (Err error)
          (treats_first seen moment left_since fault_count calls leads (fill_calls seen old image) (turn_calls seen old) mid last (Image image) error (filling (Err error) refused))

      -- what stands where the image had no room or memory was wanted
      pub fold_stays : (error : MetaError) → Keeps (FillOther image) mid last (Err error) → IsErrOf {T = ⊤} (Err error) Failed
          ⊎ (IsResting seen may_leave last × (found seen last ≡ found seen old) × (generation_of last ≡ generation_of old) × (used_of last ≡ used_of old)
          × (fault_count last.disk ≡ fault_count old.disk) × (calls last.disk ≡ more_calls 2 (calls old.disk)))
      fold_stays error refused =
          ⊎_elim (λ failed. inl failed)
          (λ same. inr (subst (λ (m : Meta D). IsResting seen may_leave m × (found seen m ≡ found seen old) × (generation_of m ≡ generation_of old) × (used_of m ≡ used_of old)
          × (fault_count m.disk ≡ fault_count old.disk) × (calls m.disk ≡ more_calls 2 (calls old.disk))) (sym same) (
            record { image = cleared.made.0.image; rests = cleared.made.0.rests; durable = cleared.made.0.durable },
            cleared.made.1,
            ap (λ (h : Head). h.generation) cleared.head,
            ap (λ (h : Head). h.used) cleared.head,
            cleared.treats.asks.quiet,
            cleared.treats.asks.counted,
          )))
          refused.refused

      -- no image that passes the half is written
      pub fold_unwritten : (error : MetaError) → Keeps (FillOther image) mid last (Err error) → IsErrOf {T = ⊤} (Err error) Failed → PassesHalf (generation_of old) image (room_of seen old) → ⊥
      fold_unwritten error refused failed passes = refused.not_failed failed (passes_then passes)

      pub fold_begun : (error : MetaError) → Keeps (FillOther image) mid last (Err error) → IsErrOf {T = ⊤} (Err error) Failed ⊎ leads old.disk (all_made (clear_calls seen old)) last.disk
      fold_begun error refused =
          ⊎_elim (λ failed. inl failed)
          (λ same. inr (subst (λ (m : Meta D). leads old.disk (all_made (clear_calls seen old)) m.disk) (sym same) cleared.treats.asks.done)) refused.refused

      module _ (done : Keeps (FillOther image) mid last (Ok tt)) where
        pub fold_has_room : PassesHalf (generation_of old) image (room_of seen old) → ⊥
        fold_has_room passes = done.room (passes_then passes)

      module _ (done : Keeps (FillOther image) mid last (Ok tt)) (new : Meta D) (result : Result ⊤ MetaError) (turned : Keeps Turn last new result) where
        pub fold_all : Treats (Image image) (fold_calls seen old image) old new result
        fold_all =
            let half = ap (λ (h : Head). h.half) (done.head ∙ ap (λ (h : Head). record h { other_is_open = false }) cleared.head) in
            let same = turn_same seen old last half (done.treats.size ∙ cleared.treats.size) in
            behind new result
            (treats_both seen moment left_since fault_count calls leads (fill_calls seen old image) (turn_calls seen old) mid last (Image image) leads_on tt new result
            done.made.1 (filling (Ok tt) done)
            (subst (λ (f : Found). Treats f (turn_calls seen old) last new result) done.made.2
            (subst (λ (asked : List DiskCall). Treats (filled seen last) asked last new result) same turned.treats)))

        pub fold_head : OnOk result (head_of new ≡ head_turned (length (half_bytes (generation_of old + 1) image)) (head_of old))
        fold_head =
            let is : head_of last ≡ record (head_of old) { other_is_open = false } = done.head ∙ ap (λ (h : Head). record h { other_is_open = false }) cleared.head in
            on_ok_then result _ _
            (λ e. e ∙ (ap (λ (n : ℕ). head_turned n (head_of last)) (done.made.3 ∙ ap (λ (h : Head). length (half_bytes (h.generation + 1) image)) cleared.head)
            ∙ ap (head_turned (length (half_bytes (generation_of old + 1) image))) is)) turned.head
