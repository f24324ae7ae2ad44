-- A record that is put, on closed examples: an image without volumes takes 57 bytes of a half, a batch of the record 14.
use Rattle.std.proofs.Common.{◌≡◌, ℕ, ◌-◌, ◌^◌, [], Option, Some, None, refl}
use Rattle.fc_format.specs.Bytes.{batch_bytes, half_bytes, image_bytes, list_bytes, record_bytes}
use Rattle.fc_image.specs.declared.image.MetaImage.{MetaImage}
use Rattle.fc_image.specs.declared.record.MetaRecord.{MetaRecord}
use Rattle.fc_image.specs.declared.record.MetaRecord.TheVariants.{Written}
use Rattle.fc_marks.specs.Meter.{Meter, batch_size, filled_size, with_record}

abbrev image : MetaImage
image = record {
  next_birth = 0;
  next_volume = 0;
  next_map = 0;
  next_group = 1;
  volumes = [];
  mappings = [];
  groups = [];
  chains = [];
  lost = [];
  changes = [];
}

abbrev note : MetaRecord
note = Written (record { 0 = 0 }) (record { 0 = 3 })

image_takes : filled_size image ≡ 57
unfolding half_bytes image_bytes list_bytes
image_takes = refl

note_takes : batch_size note ≡ 14
unfolding batch_bytes record_bytes
note_takes = refl

-- a half of which so many bytes are used, behind the four calls that open it; or in this generation
abbrev at : ℕ → ℕ → Meter
at generation used = record { image = image; generation = generation; used = used; calls = 4; full = None }

-- how many calls there were then, whether something passed, and of what generation the image is
abbrev told : Meter → ℕ × Option ℕ × ℕ
told m = (m.calls, m.full, m.generation)

-- the batch fits behind the others, to the last byte
behind_others : told (with_record 72 note (at 1 57)) ≡ (8, None, 1)
unfolding half_bytes image_bytes list_bytes batch_bytes record_bytes
behind_others = refl

-- it doesn't, and metadata is folded before it
folded_before : told (with_record 72 note (at 1 58)) ≡ (14, None, 2)
unfolding half_bytes image_bytes list_bytes batch_bytes record_bytes
folded_before = refl

-- the image leaves no room for it: that is seen behind the whole fold
no_room_behind : told (with_record 71 note (at 1 57)) ≡ (14, Some 10, 2)
unfolding half_bytes image_bytes list_bytes batch_bytes record_bytes
no_room_behind = refl

-- the image fits to the last byte
image_fits : told (with_record 58 note (at 1 57)) ≡ (14, Some 10, 2)
unfolding half_bytes image_bytes list_bytes batch_bytes record_bytes
image_fits = refl

-- it passes the half: that is seen behind two calls of the fold
image_passes : told (with_record 57 note (at 1 57)) ≡ (14, Some 6, 2)
unfolding half_bytes image_bytes list_bytes batch_bytes record_bytes
image_passes = refl

-- there is no next generation, and one before it there is
last_generation : told (with_record 72 note (at (2 ^ 64 - 1) 58)) ≡ (14, Some 6, 2 ^ 64)
unfolding half_bytes image_bytes list_bytes batch_bytes record_bytes
last_generation = refl

one_before : told (with_record 72 note (at (2 ^ 64 - 2) 58)) ≡ (14, None, 2 ^ 64 - 1)
unfolding half_bytes image_bytes list_bytes batch_bytes record_bytes
one_before = refl

-- what passed first is what counts
passed_before : told (with_record 57 note (record (at 1 57) { full = Some 2 })) ≡ (14, Some 2, 2)
unfolding half_bytes image_bytes list_bytes batch_bytes record_bytes
passed_before = refl
