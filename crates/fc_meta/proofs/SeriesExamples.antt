-- Calls one after the other, on closed examples: any batches and images, in lists that are told.
use Rattle.std.proofs.Common.{◌≡◌, List, [], ◌∷◌, refl}
use Rattle.fc_image.specs.declared.record.MetaRecord.{MetaRecord}
use Rattle.fc_image.specs.declared.image.MetaImage.{MetaImage}
use Rattle.fc_image.specs.Records.{after_records}
use Rattle.fc_format.specs.Ranges.{HasGoodIds}
use Rattle.fc_format.specs.Halves.{Image}
use Rattle.fc_meta.specs.declared.series.Call.TheVariants.{Note, Sync, ClearOther, FillOther, Turn}
use Rattle.fc_meta.specs.Order.{AtRest, stage_behind, AreInOrder, stands}

module _ (i j : MetaImage) (a b : List MetaRecord) where
  -- two batches stand in their order
  two_batches : stands (Image i) (Note a ∷ Sync ∷ Note b ∷ Sync ∷ []) ≡ Image (after_records (after_records i a) b)
  unfolding stands
  two_batches = refl

  -- behind a fold the batches before it are gone, and the one behind it stands
  fold_and_batch : stands (Image i) (Note a ∷ Sync ∷ ClearOther ∷ FillOther j ∷ Turn ∷ Note b ∷ Sync ∷ []) ≡ Image (after_records j b)
  unfolding stands
  fold_and_batch = refl

  -- a batch without its sync adds nothing
  batch_begun : stands (Image i) (Note a ∷ Sync ∷ Note b ∷ []) ≡ Image (after_records i a)
  unfolding stands
  batch_begun = refl

  -- nor does a fold that isn't turned to
  fold_begun : stands (Image i) (Note a ∷ Sync ∷ ClearOther ∷ FillOther j ∷ []) ≡ Image (after_records i a)
  unfolding stands
  fold_begun = refl

  -- these come in order, where the image has good ids, and leave the writer at rest
  in_order : HasGoodIds j → AreInOrder AtRest (Note a ∷ Sync ∷ ClearOther ∷ FillOther j ∷ Turn ∷ [])
  in_order good = (tt, (tt, (tt, (good, (tt, tt)))))

  at_rest : stage_behind AtRest (Note a ∷ Sync ∷ ClearOther ∷ FillOther j ∷ Turn ∷ []) ≡ AtRest
  at_rest = refl

  -- no batch is noted inside a fold, nor behind one that waits; none is synced that wasn't noted; nothing is turned to unfilled
  inside_a_fold : AreInOrder AtRest (ClearOther ∷ Note a ∷ []) → ⊥
  inside_a_fold order = order.1.0

  inside_a_filled_fold : AreInOrder AtRest (ClearOther ∷ FillOther j ∷ Note a ∷ []) → ⊥
  inside_a_filled_fold order = order.1.1.0

  two_at_once : AreInOrder AtRest (Note a ∷ Note b ∷ []) → ⊥
  two_at_once order = order.1.0

  synced_unnoted : AreInOrder AtRest (Sync ∷ []) → ⊥
  synced_unnoted order = order.0

  turned_unfilled : AreInOrder AtRest (ClearOther ∷ Turn ∷ []) → ⊥
  turned_unfilled order = order.1.0
