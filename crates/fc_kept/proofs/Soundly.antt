-- What metadata says stays sound through records that fit.
use Rattle.std.proofs.Common.{◌≡◌, ℕ, Bool, true, false, List, [], ◌∷◌, length, get_or, map, refl, sym, ap, ◌∙◌, arith, All, length-set}
use Rattle.std.proofs.lemmas.Bool.{cond_both}
use Rattle.std.proofs.lemmas.List.Elements.{All-map}
use Rattle.fc_base.specs.Sheet.{Slot, Sheet, slot_at}
use Rattle.fc_base.specs.SheetFacts.{IsSound}
use Rattle.fc_base.specs.SheetStep.{grain_taken, grain_kept, grain_lost}
use Rattle.fc_base.specs.Tables.{Tables}
use Rattle.fc_base.specs.declared.ids.VolId.{VolId}
use Rattle.fc_base.specs.declared.request.Side.TheVariants.{Now, Under}
use Rattle.fc_changed.specs.Row.{Row, row_names, row_wrote}
use Rattle.fc_image.specs.declared.record.MetaRecord.{MetaRecord}
use Rattle.fc_image.specs.declared.record.MetaRecord.TheVariants.{Pair, Written, Torn, Changing}
use Rattle.fc_legal.specs.Stands.{AreRows}
use Rattle.fc_legal.proofs.Rows.{like_wrote, rows_map}
use Rattle.fc_parts.proofs.Staying.{books_stay}
use Rattle.fc_pictures.proofs.Slots.{Stay}
use Rattle.fc_sheets.proofs.Holding.{length_map, at_map, IsBit, regrained, bit_taken, bit_kept, bit_lost, moved_sound, written_sound, lost_sound}
use Rattle.fc_kept.specs.Kept.{LostGrains, Kept, sheet_kept, rows_kept, lost_put, lost_kept, kept_after}
use Rattle.fc_kept.specs.Images.{size_in}
use Rattle.fc_kept.specs.Sound.{books_of, IsInto, AreLost, IsSoundKept, FitsChains}

-- ---- chains

pub sheet_sound : (s : Sheet) (r : MetaRecord) → IsSound s → FitsChains s r → IsSound (sheet_kept s r)
sheet_sound s (Pair slot volume grain in_place empty) i f = moved_sound s volume.0 grain.0 in_place i f
sheet_sound s (Written volume grain) i f = written_sound s volume.0 grain.0 i f
sheet_sound s (Torn volume grain Now) i f = written_sound s volume.0 grain.0 i f
sheet_sound s (Torn volume grain Under) i f = lost_sound s volume.0 grain.0 i f
sheet_sound s (Changing volume grain) i f = i

bits_stay : (f : Slot → Slot) (g : ℕ) → IsBit f g → (slots : List Slot) → Stay slots (map f slots)
bits_stay f g bit slots =
    let r = regrained f g bit in
    record {
      count = length_map f slots;
      birth = λ k. ap (λ (t : Slot). t.birth) (at_map f slots k r.none) ∙ r.birth (slot_at slots k);
      chain = λ k. ap (λ (t : Slot). t.chain) (at_map f slots k r.none) ∙ r.chain (slot_at slots k);
      volume = λ k. ap (λ (t : Slot). t.volume) (at_map f slots k r.none) ∙ r.volume (slot_at slots k);
      is_live = λ k. ap (λ (t : Slot). t.is_live) (at_map f slots k r.none) ∙ r.is_live (slot_at slots k);
      mapping = λ k. ap (λ (t : Slot). t.mapping) (at_map f slots k r.none) ∙ r.mapping (slot_at slots k);
      size = λ k. ap (λ (t : Slot). length t.held) (at_map f slots k r.none) ∙ r.size (slot_at slots k);
    }

none_stay : (slots : List Slot) → Stay slots slots
none_stay slots = record { count = refl; birth = λ k. refl; chain = λ k. refl; volume = λ k. refl; is_live = λ k. refl; mapping = λ k. refl; size = λ k. refl }

sheet_stay : (s : Sheet) (r : MetaRecord) → Stay s.slots (sheet_kept s r).slots
sheet_stay s (Pair slot volume grain true empty) = bits_stay (grain_kept volume.0 grain.0) grain.0 (bit_kept volume.0 grain.0) s.slots
sheet_stay s (Pair slot volume grain false empty) = bits_stay (grain_taken volume.0 grain.0) grain.0 (bit_taken volume.0 grain.0) s.slots
sheet_stay s (Written volume grain) = bits_stay (grain_taken volume.0 grain.0) grain.0 (bit_taken volume.0 grain.0) s.slots
sheet_stay s (Torn volume grain Now) = bits_stay (grain_taken volume.0 grain.0) grain.0 (bit_taken volume.0 grain.0) s.slots
sheet_stay s (Torn volume grain Under) = bits_stay (grain_lost volume.0 grain.0) grain.0 (bit_lost volume.0 grain.0) s.slots
sheet_stay s (Changing volume grain) = none_stay s.slots

births_stay : (s : Sheet) (r : MetaRecord) → (sheet_kept s r).births ≡ s.births
births_stay s (Pair slot volume grain in_place empty) = refl
births_stay s (Written volume grain) = refl
births_stay s (Torn volume grain Now) = refl
births_stay s (Torn volume grain Under) = refl
births_stay s (Changing volume grain) = refl

-- ---- rows

into_wrote : (v g : ℕ) (rows : List Row) → All IsInto rows → All IsInto (map (row_wrote v g) rows)
into_wrote v g rows all =
    All-map IsInto (row_wrote v g) rows (λ k d kl. let row = get_or rows k d in
    cond_both (row_names row v) _ row IsInto (λ e. all k d kl) (λ e. all k d kl))

rows_sound : (t : Tables) (rows : List Row) (r : MetaRecord) → AreRows t rows → AreRows t (rows_kept rows r)
rows_sound t rows (Pair slot volume grain in_place empty) all = all
rows_sound t rows (Written volume grain) all = rows_map t (row_wrote volume.0 grain.0) rows (like_wrote volume.0 grain.0) all
rows_sound t rows (Torn volume grain Now) all = rows_map t (row_wrote volume.0 grain.0) rows (like_wrote volume.0 grain.0) all
rows_sound t rows (Torn volume grain Under) all = all
rows_sound t rows (Changing volume grain) all = rows_map t (row_wrote volume.0 grain.0) rows (like_wrote volume.0 grain.0) all

rows_into : (rows : List Row) (r : MetaRecord) → All IsInto rows → All IsInto (rows_kept rows r)
rows_into rows (Pair slot volume grain in_place empty) all = all
rows_into rows (Written volume grain) all = into_wrote volume.0 grain.0 rows all
rows_into rows (Torn volume grain Now) all = into_wrote volume.0 grain.0 rows all
rows_into rows (Torn volume grain Under) all = all
rows_into rows (Changing volume grain) all = into_wrote volume.0 grain.0 rows all

-- ---- lost grains

put_volume : (v g : ℕ) (b : Bool) (row : LostGrains) → (lost_put v g b row).volume ≡ row.volume
put_volume v g b row = cond_both _ _ row (λ (z : LostGrains). z.volume ≡ row.volume) (λ e. refl) (λ e. refl)

put_size : (v g : ℕ) (b : Bool) (row : LostGrains) → length (lost_put v g b row).lost ≡ length row.lost
put_size v g b row = cond_both _ _ row (λ (z : LostGrains). length z.lost ≡ length row.lost) (λ e. length-set row.lost g b) (λ e. refl)

volumes_put : (v g : ℕ) (b : Bool) (rows : List LostGrains) → map (λ (row : LostGrains). row.volume) (map (lost_put v g b) rows) ≡ map (λ (row : LostGrains). row.volume) rows
volumes_put v g b [] = refl
volumes_put v g b (row ∷ rows) =
    ap (λ (z : ℕ). z ∷ map (λ (row : LostGrains). row.volume) (map (lost_put v g b) rows)) (put_volume v g b row)
    ∙ ap (λ (z : List ℕ). row.volume ∷ z) (volumes_put v g b rows)

lost_sound_put : (t : Tables) (v g : ℕ) (b : Bool) (rows : List LostGrains) → AreLost t rows → AreLost t (map (lost_put v g b) rows)
lost_sound_put t v g b rows all =
    record {
      volumes = volumes_put v g b rows ∙ all.volumes;
      sizes = All-map (λ (row : LostGrains). length row.lost ≡ size_in t record { 0 = row.volume }) (lost_put v g b) rows (λ k d kl.
          let row = get_or rows k d in
          put_size v g b row ∙ (all.sizes k d kl ∙ ap (λ (z : ℕ). let id : VolId = record { 0 = z } in size_in t id) (sym (put_volume v g b row))));
    }

pub lost_sounds : (t : Tables) (lost : List LostGrains) (r : MetaRecord) → AreLost t lost → AreLost t (lost_kept lost r)
lost_sounds t lost (Pair slot volume grain true empty) all = all
lost_sounds t lost (Pair slot volume grain false empty) all = lost_sound_put t volume.0 grain.0 empty lost all
lost_sounds t lost (Written volume grain) all = lost_sound_put t volume.0 grain.0 false lost all
lost_sounds t lost (Torn volume grain side) all = lost_sound_put t volume.0 grain.0 true lost all
lost_sounds t lost (Changing volume grain) all = all

-- ---- all

pub kept_sound : (k : Kept) (r : MetaRecord) → IsSoundKept k → FitsChains k.sheet r → IsSoundKept (kept_after k r)
kept_sound k r s f =
    let e : (sheet_kept k.sheet r).births ≡ k.sheet.births = births_stay k.sheet r in
    record {
      books = books_stay (books_of k) (sheet_kept k.sheet r) (books_of k).rooms (sheet_stay k.sheet r) s.books (sheet_sound k.sheet r s.books.sheet f);
      rows = rows_sound k.tables k.rows r s.rows;
      into = rows_into k.rows r s.into;
      lost = lost_sounds k.tables k.lost r s.lost;
      grains = s.grains;
      births = let b = s.births in omega (arith, e, b);
      volume_ids = s.volume_ids;
      mapping_ids = s.mapping_ids;
      group_ids = s.group_ids;
    }
