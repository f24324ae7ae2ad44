-- What a writer's calls leave, each from what the calls of its disk leave.
use Rattle.std.proofs.Common.{◌≡◌, inl, inr, ⊎_elim, ℕ, ◌+◌, ◌^◌, ◌<◌, ◌≤◌, Bool, true, false, List, [], ◌∷◌, ◌++◌, length, take, drop, All, sym, ap, ◌∙◌, subst, arith}
use Rattle.std.proofs.lemmas.List.{take-append-drop}
use Rattle.fc_image.specs.declared.record.MetaRecord.{MetaRecord}
use Rattle.fc_image.specs.declared.image.MetaImage.{MetaImage}
use Rattle.fc_image.specs.Records.{after_records}
use Rattle.fc_metadisk.specs.Disk.{Torn, Follows, Only, Elapses, LeavesOnly, bytes_put}
use Rattle.fc_metadisk.proofs.Rows.{torn_nowhere}
use Rattle.fc_format.specs.declared.half.Half.{Half}
use Rattle.fc_format.specs.Bytes.{half_bytes, batch_bytes}
use Rattle.fc_format.specs.Ranges.{IsTypedRecord, IsTypedImage, HasGoodIds}
use Rattle.fc_format.specs.Halves.{Found, Image, recovered, half_start, half_size, other_half}
use Rattle.fc_meta.specs.declared.meta.Meta.{Meta}
use Rattle.fc_meta.specs.Standing.{Rests, IsStagedBatch, IsStagedImage}
use Rattle.fc_meta.specs.Answers.{found_with, with_gate, LeavesFound, LeavesEither, MayTear}
use Rattle.fc_meta.specs.States.{found, awaited, filled, IsResting, IsWaiting, IsCleared, IsFilled}
use Rattle.fc_meta.proofs.Crash.{either, rests_found, torn_behind, torn_gate, torn_clearing, torn_filling, torn_turning}
use Rattle.fc_meta.proofs.Done.{room, noted_rests, noted_staged, synced_rests, synced_found, cleared_rests, filled_rests, filled_staged, turned_rests, turned_found}
use Rattle.fc_meta.proofs.Moments.{started, goes_on, joined, weaker}

-- no bytes put
put_nothing : (at : ℕ) (row : List ℕ) → bytes_put (at + 0) [] row ≡ row
put_nothing at row =
    let e : at + 0 + 0 ≡ at + 0 = omega arith in
    ap (λ (k : ℕ). take (at + 0) row ++ drop k row) e ∙ take-append-drop (at + 0) row

module _ {D : Type 0} (seen : D → List ℕ) (may_leave : D → List ℕ → Type 0) (moment : D → ℕ) (left_since : D → ℕ → List ℕ → Type 0) where
  -- a write in a row that was synced
  pub torn_run : (old new : D) (row : List ℕ) (at place n : ℕ) (P : List ℕ → Type 0) → Only row (may_leave old) → at ≡ place → ((r : List ℕ) → Torn place n row r → P r)
      → LeavesOnly moment left_since old new (MayTear at n (may_leave old)) → LeavesOnly moment left_since old new P
  torn_run old new row at place n P only same here run =
      weaker moment left_since old new (MayTear at n (may_leave old)) P
      (λ r m. here r (subst (λ (k : ℕ). Torn k n row r) same (subst (λ (d : List ℕ). Torn at n d r) (only m.0 m.1) m.2))) run

  module _ (only_now : (disk : D) (c : List ℕ) → left_since disk (moment disk) c → may_leave disk c) (meta : Meta D) where
    -- no call of the disk
    pub still : Only (seen meta.disk) (may_leave meta.disk) → LeavesOnly moment left_since meta.disk meta.disk (LeavesFound (found seen meta))
    still durable = started moment left_since meta.disk (LeavesFound (found seen meta)) (λ r left. ap recovered (durable r (only_now meta.disk r left)))

    -- ---- A batch is noted

    module _ (w : IsResting seen may_leave meta) (rs : List MetaRecord) (bytes : List ℕ) (place : ℕ) (is : bytes ≡ batch_bytes rs) (at : place ≡ half_start meta.half (seen meta.disk) + meta.used + 1)
        (inside : meta.used + 1 + length (batch_bytes rs) ≤ half_size (seen meta.disk)) where
      place_is : place ≡ half_start meta.half (seen meta.disk) + (meta.used + 1)
      place_is = omega (arith, at)

      pub note_run : (new : D) → Follows (Torn place (length bytes)) (may_leave meta.disk) (may_leave new) → Elapses (moment meta.disk) (moment new) (left_since meta.disk) (left_since new) (may_leave new)
          → LeavesOnly moment left_since meta.disk new (LeavesFound (found seen meta))
      note_run new follows time = goes_on moment left_since meta.disk meta.disk new (LeavesFound (found seen meta)) (may_leave new) (still w.durable) time (λ r now.
          let from = follows r now in
          let t : Torn place (length bytes) (seen meta.disk) r = subst (λ (d : List ℕ). Torn place (length bytes) d r) (w.durable from.0 from.1) from.2 in
          let t2 : Torn (half_start meta.half (seen meta.disk) + (meta.used + 1)) (length (batch_bytes rs)) (seen meta.disk) r =
          subst (λ (k : ℕ). Torn k (length (batch_bytes rs)) (seen meta.disk) r) place_is (subst (λ (b : List ℕ). Torn place (length b) (seen meta.disk) r) is t) in
          let rests = torn_behind meta.half meta.generation meta.used meta.other_is_open w.image (seen meta.disk) w.rests (meta.used + 1) (length (batch_bytes rs)) r t2 (omega arith) inside in
          rests_found _ _ _ _ _ r rests ∙ sym (rests_found _ _ _ _ _ (seen meta.disk) w.rests))

      module _ (new : D) (put : seen new ≡ bytes_put place bytes (seen meta.disk)) (typed : All IsTypedRecord rs) (small : length (seen meta.disk) < 2 ^ 32) (next : ℕ) (ends : next ≡ meta.used + length bytes) where
        abbrev row : List ℕ
        row = bytes_put (half_start meta.half (seen meta.disk) + (meta.used + 1)) (batch_bytes rs) (seen meta.disk)

        stands : seen new ≡ row
        stands = put ∙ (ap (λ (k : ℕ). bytes_put k bytes (seen meta.disk)) place_is ∙ ap (λ (b : List ℕ). bytes_put (half_start meta.half (seen meta.disk) + (meta.used + 1)) b (seen meta.disk)) is)

        next_is : meta.used + length (batch_bytes rs) ≡ next
        next_is = ap (λ (b : List ℕ). meta.used + length b) (sym is) ∙ sym ends

        pub note_waits : ((r : List ℕ) → may_leave new r → recovered r ≡ found seen meta) → IsWaiting seen may_leave (record meta { disk = new; next = next })
        note_waits each = record {
          image = w.image;
          records = rs;
          rests = subst (λ (z : List ℕ). Rests meta.half meta.generation meta.used meta.other_is_open w.image z) (sym stands)
              (noted_rests meta.half meta.generation meta.used meta.other_is_open w.image (seen meta.disk) w.rests rs typed small inside);
          staged = subst (λ (z : List ℕ). IsStagedBatch meta.half meta.used next rs z) (sym stands)
              (subst (λ (k : ℕ). IsStagedBatch meta.half meta.used k rs row) next_is
              (noted_staged meta.half meta.generation meta.used meta.other_is_open w.image (seen meta.disk) w.rests rs typed small inside));
          each = λ r now. each r now ∙ rests_found _ _ _ _ _ (seen meta.disk) w.rests;
        }

        pub note_found : recovered (seen new) ≡ found seen meta
        note_found =
            ap recovered stands
            ∙ (rests_found _ _ _ _ _ row (noted_rests meta.half meta.generation meta.used meta.other_is_open w.image (seen meta.disk) w.rests rs typed small inside)
            ∙ sym (rests_found _ _ _ _ _ (seen meta.disk) w.rests))

        pub note_awaited : recovered (with_gate meta.half meta.used (seen new)) ≡ found_with (found seen meta) rs
        note_awaited =
            let rests = noted_rests meta.half meta.generation meta.used meta.other_is_open w.image (seen meta.disk) w.rests rs typed small inside in
            let staged = noted_staged meta.half meta.generation meta.used meta.other_is_open w.image (seen meta.disk) w.rests rs typed small inside in
            ap (λ (z : List ℕ). recovered (with_gate meta.half meta.used z)) stands
            ∙ (synced_found meta.half meta.generation meta.used meta.other_is_open w.image row rests (meta.used + length (batch_bytes rs)) rs staged
            ∙ sym (ap (λ (z : Found). found_with z rs) (rests_found _ _ _ _ _ (seen meta.disk) w.rests)))

    -- ---- A batch is synced

    module _ (w : IsWaiting seen may_leave meta) where
      found_now : found seen meta ≡ Image w.image
      found_now = rests_found _ _ _ _ _ (seen meta.disk) w.rests

      found_then : awaited seen meta ≡ Image (after_records w.image w.records)
      found_then = synced_found meta.half meta.generation meta.used meta.other_is_open w.image (seen meta.disk) w.rests meta.next w.records w.staged

      pub sync_room : (mid : D) → seen mid ≡ seen meta.disk → meta.used + 1 ≤ half_size (seen mid)
      sync_room mid same =
          subst (λ (z : List ℕ). meta.used + 1 ≤ half_size z) (sym same) (room meta.half meta.generation meta.used meta.other_is_open w.image (seen meta.disk) w.rests)

      pub sync_first : (mid : D) → ((r : List ℕ) → may_leave mid r → may_leave meta.disk r) → Elapses (moment meta.disk) (moment mid) (left_since meta.disk) (left_since mid) (may_leave mid)
          → LeavesOnly moment left_since meta.disk mid (LeavesEither (found seen meta) (awaited seen meta))
      sync_first mid fewer time =
          goes_on moment left_since meta.disk meta.disk mid (LeavesEither (found seen meta) (awaited seen meta)) (may_leave mid)
          (started moment left_since meta.disk (LeavesEither (found seen meta) (awaited seen meta)) (λ r left. inl (w.each r (only_now meta.disk r left) ∙ sym found_now)))
          time (λ r now. inl (w.each r (fewer r now) ∙ sym found_now))

      sync_second : (mid new : D) → seen mid ≡ seen meta.disk → Only (seen meta.disk) (may_leave mid)
          → LeavesOnly moment left_since mid new (MayTear (half_start meta.half (seen mid) + meta.used) 1 (may_leave mid))
          → LeavesOnly moment left_since mid new (LeavesEither (found seen meta) (awaited seen meta))
      sync_second mid new same only run =
          torn_run mid new (seen meta.disk) (half_start meta.half (seen mid) + meta.used) (half_start meta.half (seen meta.disk) + meta.used) 1 (LeavesEither (found seen meta) (awaited seen meta)) only
          (ap (λ (z : List ℕ). half_start meta.half z + meta.used) same)
          (λ r t. ⊎_elim (λ e. inl (e ∙ sym found_now)) (λ e. inr (e ∙ sym found_then))
          (torn_gate meta.half meta.generation meta.used meta.other_is_open w.image (seen meta.disk) w.rests meta.next w.records r w.staged t)) run

      pub sync_run : (mid new : D) → ((r : List ℕ) → may_leave mid r → may_leave meta.disk r) → Elapses (moment meta.disk) (moment mid) (left_since meta.disk) (left_since mid) (may_leave mid)
          → seen mid ≡ seen meta.disk → Only (seen meta.disk) (may_leave mid)
          → LeavesOnly moment left_since mid new (MayTear (half_start meta.half (seen mid) + meta.used) 1 (may_leave mid))
          → LeavesOnly moment left_since meta.disk new (LeavesEither (found seen meta) (awaited seen meta))
      sync_run mid new fewer time same only run =
          joined moment left_since meta.disk mid new (LeavesEither (found seen meta) (awaited seen meta)) (sync_first mid fewer time) (sync_second mid new same only run)

      module _ (mid new : D) (same : seen mid ≡ seen meta.disk) (put : seen new ≡ bytes_put (half_start meta.half (seen mid) + meta.used) (1 ∷ []) (seen mid)) where
        stands_synced : seen new ≡ with_gate meta.half meta.used (seen meta.disk)
        stands_synced = put ∙ ap (with_gate meta.half meta.used) same

        pub sync_found : recovered (seen new) ≡ awaited seen meta
        sync_found = ap recovered stands_synced

        pub sync_rests : Only (seen new) (may_leave new) → IsResting seen may_leave (record meta { disk = new; used = meta.next })
        sync_rests durable = record {
          image = after_records w.image w.records;
          rests = subst (λ (z : List ℕ). Rests meta.half meta.generation meta.next meta.other_is_open (after_records w.image w.records) z) (sym stands_synced)
              (synced_rests meta.half meta.generation meta.used meta.other_is_open w.image (seen meta.disk) w.rests meta.next w.records w.staged);
          durable = durable;
        }

    -- ---- The other half is cleared

    module _ (w : IsResting seen may_leave meta) (other : Half) (is : other ≡ other_half meta.half) where
      found_rest : found seen meta ≡ Image w.image
      found_rest = rests_found _ _ _ _ _ (seen meta.disk) w.rests

      pub small_room : 1 ≤ half_size (seen meta.disk)
      small_room = let r = room meta.half meta.generation meta.used meta.other_is_open w.image (seen meta.disk) w.rests in omega (arith, r)

      pub clear_run : (new : D) (n : ℕ) → (meta.other_is_open ≡ true → n ≡ 1) → (meta.other_is_open ≡ false → n ≡ 0)
          → LeavesOnly moment left_since meta.disk new (MayTear (half_start other (seen meta.disk) + 0) n (may_leave meta.disk))
          → LeavesOnly moment left_since meta.disk new (LeavesFound (found seen meta))
      clear_run new n one none run =
          torn_run meta.disk new (seen meta.disk) (half_start other (seen meta.disk) + 0) (half_start (other_half meta.half) (seen meta.disk) + 0) n (LeavesFound (found seen meta)) w.durable
          (ap (λ (h : Half). half_start h (seen meta.disk) + 0) is)
          (λ r t. either meta.other_is_open
          (λ wide. rests_found _ _ _ _ _ r (torn_clearing meta.half meta.generation meta.used meta.other_is_open w.image (seen meta.disk) w.rests r wide
          (subst (λ (k : ℕ). Torn (half_start (other_half meta.half) (seen meta.disk) + 0) k (seen meta.disk) r) (one wide) t) small_room) ∙ sym found_rest)
          (λ shut. ap recovered (torn_nowhere (subst (λ (k : ℕ). Torn (half_start (other_half meta.half) (seen meta.disk) + 0) k (seen meta.disk) r) (none shut) t)))) run

      pub clear_rests : (new : D) (bytes : List ℕ) → (meta.other_is_open ≡ true → bytes ≡ 0 ∷ []) → (meta.other_is_open ≡ false → bytes ≡ [])
          → seen new ≡ bytes_put (half_start other (seen meta.disk) + 0) bytes (seen meta.disk)
          → Rests meta.half meta.generation meta.used false w.image (seen new)
      clear_rests new bytes one none put =
          either meta.other_is_open
          (λ wide. cleared_rests meta.half meta.generation meta.used meta.other_is_open w.image (seen meta.disk) w.rests (seen new) wide
          (put ∙ (ap (λ (h : Half). bytes_put (half_start h (seen meta.disk) + 0) bytes (seen meta.disk)) is
          ∙ ap (λ (b : List ℕ). bytes_put (half_start (other_half meta.half) (seen meta.disk) + 0) b (seen meta.disk)) (one wide))))
          (λ shut. subst (λ (b : Bool). Rests meta.half meta.generation meta.used b w.image (seen new)) shut
          (subst (λ (z : List ℕ). Rests meta.half meta.generation meta.used meta.other_is_open w.image z)
          (sym (put ∙ (ap (λ (b : List ℕ). bytes_put (half_start other (seen meta.disk) + 0) b (seen meta.disk)) (none shut) ∙ put_nothing (half_start other (seen meta.disk)) (seen meta.disk)))) w.rests))

    -- ---- The other half is filled

    module _ (w : IsCleared seen may_leave meta) (other : Half) (is : other ≡ other_half meta.half) (i2 : MetaImage) (bytes : List ℕ) (same : bytes ≡ half_bytes (meta.generation + 1) i2)
        (inside : 1 + length (half_bytes (meta.generation + 1) i2) ≤ half_size (seen meta.disk)) where
      found_cleared : found seen meta ≡ Image w.image
      found_cleared = rests_found _ _ _ _ _ (seen meta.disk) w.rests

      pub fill_run : (new : D) → LeavesOnly moment left_since meta.disk new (MayTear (half_start other (seen meta.disk) + 1) (length bytes) (may_leave meta.disk))
          → LeavesOnly moment left_since meta.disk new (LeavesFound (found seen meta))
      fill_run new run =
          torn_run meta.disk new (seen meta.disk) (half_start other (seen meta.disk) + 1) (half_start (other_half meta.half) (seen meta.disk) + 1) (length bytes) (LeavesFound (found seen meta)) w.durable
          (ap (λ (h : Half). half_start h (seen meta.disk) + 1) is)
          (λ r t. rests_found _ _ _ _ _ r (torn_filling meta.half meta.generation meta.used meta.other_is_open w.image (seen meta.disk) w.rests 1 (length (half_bytes (meta.generation + 1) i2)) r w.shut
          (subst (λ (b : List ℕ). Torn (half_start (other_half meta.half) (seen meta.disk) + 1) (length b) (seen meta.disk) r) same t) (omega arith) inside) ∙ sym found_cleared) run

      module _ (new : D) (put : seen new ≡ bytes_put (half_start other (seen meta.disk) + 1) bytes (seen meta.disk)) (typed : IsTypedImage i2) (good : HasGoodIds i2) (low : meta.generation + 1 < 2 ^ 64)
          (small : length (seen meta.disk) < 2 ^ 32) (next : ℕ) (ends : next ≡ length bytes) where
        abbrev row_filled : List ℕ
        row_filled = bytes_put (half_start (other_half meta.half) (seen meta.disk) + 1) (half_bytes (meta.generation + 1) i2) (seen meta.disk)

        stands_filled : seen new ≡ row_filled
        stands_filled =
            put ∙ (ap (λ (h : Half). bytes_put (half_start h (seen meta.disk) + 1) bytes (seen meta.disk)) is
            ∙ ap (λ (b : List ℕ). bytes_put (half_start (other_half meta.half) (seen meta.disk) + 1) b (seen meta.disk)) same)

        rests_filled : Rests meta.half meta.generation meta.used meta.other_is_open w.image row_filled
        rests_filled = filled_rests meta.half meta.generation meta.used meta.other_is_open w.image (seen meta.disk) w.rests w.shut i2 typed good low small inside

        staged_filled : IsStagedImage (other_half meta.half) (meta.generation + 1) (length (half_bytes (meta.generation + 1) i2)) i2 row_filled
        staged_filled = filled_staged meta.half meta.generation meta.used meta.other_is_open w.image (seen meta.disk) w.rests w.shut i2 typed good low small inside

        next_filled : length (half_bytes (meta.generation + 1) i2) ≡ next
        next_filled = sym (ends ∙ ap length same)

        pub fill_is_filled : Only (seen new) (may_leave new) → IsFilled seen may_leave (record meta { disk = new; next = next })
        fill_is_filled durable = record {
          image = w.image;
          next_image = i2;
          shut = w.shut;
          rests = subst (λ (z : List ℕ). Rests meta.half meta.generation meta.used meta.other_is_open w.image z) (sym stands_filled) rests_filled;
          staged = subst (λ (z : List ℕ). IsStagedImage (other_half meta.half) (meta.generation + 1) next i2 z) (sym stands_filled)
              (subst (λ (k : ℕ). IsStagedImage (other_half meta.half) (meta.generation + 1) k i2 row_filled) next_filled staged_filled);
          durable = durable;
        }

        pub fill_found : recovered (seen new) ≡ found seen meta
        fill_found = ap recovered stands_filled ∙ (rests_found _ _ _ _ _ row_filled rests_filled ∙ sym found_cleared)

        pub fill_filled : recovered (with_gate (other_half meta.half) 0 (seen new)) ≡ Image i2
        fill_filled =
            ap (λ (z : List ℕ). recovered (with_gate (other_half meta.half) 0 z)) stands_filled
            ∙ turned_found meta.half meta.generation meta.used meta.other_is_open w.image row_filled rests_filled (length (half_bytes (meta.generation + 1) i2)) i2 staged_filled

    -- ---- The other half is turned to

    module _ (w : IsFilled seen may_leave meta) (other : Half) (is : other ≡ other_half meta.half) where
      pub turn_room : 1 ≤ half_size (seen meta.disk)
      turn_room = let r = room meta.half meta.generation meta.used meta.other_is_open w.image (seen meta.disk) w.rests in omega (arith, r)

      found_filled : found seen meta ≡ Image w.image
      found_filled = rests_found _ _ _ _ _ (seen meta.disk) w.rests

      found_turned : filled seen meta ≡ Image w.next_image
      found_turned = turned_found meta.half meta.generation meta.used meta.other_is_open w.image (seen meta.disk) w.rests meta.next w.next_image w.staged

      pub turn_run : (new : D) → LeavesOnly moment left_since meta.disk new (MayTear (half_start other (seen meta.disk) + 0) 1 (may_leave meta.disk))
          → LeavesOnly moment left_since meta.disk new (LeavesEither (found seen meta) (filled seen meta))
      turn_run new run =
          torn_run meta.disk new (seen meta.disk) (half_start other (seen meta.disk) + 0) (half_start (other_half meta.half) (seen meta.disk) + 0) 1 (LeavesEither (found seen meta) (filled seen meta)) w.durable
          (ap (λ (h : Half). half_start h (seen meta.disk) + 0) is)
          (λ r t. ⊎_elim (λ e. inl (e ∙ sym found_filled)) (λ e. inr (e ∙ sym found_turned))
          (torn_turning meta.half meta.generation meta.used meta.other_is_open w.image (seen meta.disk) w.rests meta.next w.next_image r w.staged t turn_room)) run

      module _ (new : D) (put : seen new ≡ bytes_put (half_start other (seen meta.disk) + 0) (1 ∷ []) (seen meta.disk)) where
        stands_turned : seen new ≡ with_gate (other_half meta.half) 0 (seen meta.disk)
        stands_turned = put ∙ ap (λ (h : Half). with_gate h 0 (seen meta.disk)) is

        pub turn_found : recovered (seen new) ≡ filled seen meta
        turn_found = ap recovered stands_turned

        pub turn_rests : Only (seen new) (may_leave new) → IsResting seen may_leave (record { disk = new; half = other; generation = meta.generation + 1; other_is_open = true; used = meta.next; next = meta.next })
        turn_rests durable = record {
          image = w.next_image;
          rests = subst (λ (h : Half). Rests h (meta.generation + 1) meta.next true w.next_image (seen new)) (sym is)
              (subst (λ (z : List ℕ). Rests (other_half meta.half) (meta.generation + 1) meta.next true w.next_image z) (sym stands_turned)
              (turned_rests meta.half meta.generation meta.used meta.other_is_open w.image (seen meta.disk) w.rests meta.next w.next_image w.staged));
          durable = durable;
        }
