-- The calls of a disk, on closed examples: a writer over a disk of eight bytes, of whose half two bytes are used.
use Rattle.std.proofs.Common.{◌≡◌, ℕ, Bool, true, false, List, [], ◌∷◌, inl, inr, refl}
use Rattle.std.specs.Prelude.{replicate}
use Rattle.fc_image.specs.declared.image.MetaImage.{MetaImage}
use Rattle.fc_metadisk.specs.Calls.{Writes, Syncs, one_made, all_made, AreCutShort}
use Rattle.fc_format.specs.declared.half.Half.{Half}
use Rattle.fc_format.specs.declared.half.Half.TheVariants.{First, Second}
use Rattle.fc_format.specs.Bytes.{half_bytes, batch_bytes}
use Rattle.fc_meta.specs.declared.meta.Meta.{Meta}
use Rattle.fc_meta.specs.DiskCalls.{open_calls, note_calls, sync_calls, fold_calls}

abbrev at_half : Half → Bool → Meta (List ℕ)
at_half half wide = record { disk = replicate 8 0; half = half; generation = 6; other_is_open = wide; used = 2; next = 2 }

abbrev seen : List ℕ → List ℕ
seen disk = disk

-- the image, a sync, its gate, a sync
opened : (i : MetaImage) → open_calls i ≡ Writes 1 (half_bytes 1 i) ∷ Syncs ∷ Writes 0 (1 ∷ []) ∷ Syncs ∷ []
opened i = refl

-- a batch behind its gate, in either half, and that gate
noted : note_calls seen (at_half First false) [] ≡ Writes 3 (batch_bytes []) ∷ []
noted = refl

noted_behind : note_calls seen (at_half Second true) [] ≡ Writes 7 (batch_bytes []) ∷ []
noted_behind = refl

synced : sync_calls seen (at_half Second true) ≡ Syncs ∷ Writes 6 (1 ∷ []) ∷ Syncs ∷ []
synced = refl

-- a fold into the second half, whose gate is closed, and into the first, whose gate is open
folded : (i : MetaImage) → fold_calls seen (at_half First false) i
    ≡ Writes 4 [] ∷ Syncs ∷ Writes 5 (half_bytes 7 i) ∷ Syncs ∷ Writes 4 (1 ∷ []) ∷ Syncs ∷ []
folded i = refl

folded_back : (i : MetaImage) → fold_calls seen (at_half Second true) i
    ≡ Writes 0 (0 ∷ []) ∷ Syncs ∷ Writes 1 (half_bytes 7 i) ∷ Syncs ∷ Writes 0 (1 ∷ []) ∷ Syncs ∷ []
folded_back i = refl

-- cut short: a write that failed behind a sync; and not a sync behind a write that failed
cut : AreCutShort (λ made. made ≡ record { call = Syncs; failed = false } ∷ one_made (Writes 6 (1 ∷ [])) true) (sync_calls seen (at_half Second true))
cut = inr (inl refl)

none_failed : all_made (Syncs ∷ []) ≡ one_made Syncs false
none_failed = refl
