-- Which writes and syncs of the disk each call of the writer makes, in their order.
use Rattle.std.specs.Prelude.{ℕ, ◌+◌, Bool, true, false, List, [], ◌∷◌, ◌++◌}
use Rattle.fc_image.specs.declared.record.MetaRecord.{MetaRecord}
use Rattle.fc_image.specs.declared.image.MetaImage.{MetaImage}
use Rattle.fc_metadisk.specs.Calls.{DiskCall, Writes, Syncs}
use Rattle.fc_format.specs.Bytes.{batch_bytes, half_bytes}
use Rattle.fc_meta.specs.declared.series.Call.{Call}
use Rattle.fc_meta.specs.declared.series.Call.TheVariants.{Note, Sync, ClearOther, FillOther, Turn}
use Rattle.fc_meta.specs.declared.meta.Meta.{Meta}
use Rattle.fc_meta.specs.States.{generation_of, used_of, other_open, start_now, other_start}

-- bytes, and a sync behind them
abbrev pub write_and_sync : ℕ → List ℕ → List DiskCall
write_and_sync at bytes = Writes at bytes ∷ Syncs ∷ []

-- what closes a gate: nothing, where it is closed
abbrev pub closing : Bool → List ℕ
closing true = 0 ∷ []
closing false = []

-- The image, and then its gate.
abbrev pub open_calls : MetaImage → List DiskCall
open_calls image = write_and_sync 1 (half_bytes 1 image) ++ write_and_sync 0 (1 ∷ [])

module _ {D : Type 0} (seen : D → List ℕ) where
  -- The batch, behind the closed gate of the last one.
  abbrev pub note_calls : Meta D → List MetaRecord → List DiskCall
  note_calls meta records = Writes (start_now seen meta + used_of meta + 1) (batch_bytes records) ∷ []

  -- The batch is synced, and then its gate is written.
  abbrev pub sync_calls : Meta D → List DiskCall
  sync_calls meta = Syncs ∷ write_and_sync (start_now seen meta + used_of meta) (1 ∷ [])

  abbrev pub clear_calls : Meta D → List DiskCall
  clear_calls meta = write_and_sync (other_start seen meta) (closing (other_open meta))

  abbrev pub fill_calls : Meta D → MetaImage → List DiskCall
  fill_calls meta image = write_and_sync (other_start seen meta + 1) (half_bytes (generation_of meta + 1) image)

  abbrev pub turn_calls : Meta D → List DiskCall
  turn_calls meta = write_and_sync (other_start seen meta) (1 ∷ [])

  -- a whole batch, and a whole fold
  abbrev pub put_calls : Meta D → List MetaRecord → List DiskCall
  put_calls meta records = note_calls meta records ++ sync_calls meta

  abbrev pub fold_calls : Meta D → MetaImage → List DiskCall
  fold_calls meta image = clear_calls meta ++ (fill_calls meta image ++ turn_calls meta)

  -- those of any call
  abbrev pub calls_of : Call → Meta D → List DiskCall
  calls_of (Note records) meta = note_calls meta records
  calls_of Sync meta = sync_calls meta
  calls_of ClearOther meta = clear_calls meta
  calls_of (FillOther image) meta = fill_calls meta image
  calls_of Turn meta = turn_calls meta
