-- The laws on which recovery rests.
use Rattle.std.specs.Prelude.{◌≡◌, ℕ, ◌<◌, true, Option, List, length, fold}
use Rattle.fc_base.specs.Safety.{IsFree}
use Rattle.fc_base.specs.Sheet.{Sheet, slot_at, column}
use Rattle.fc_base.specs.SheetFacts.{IsSound}
use Rattle.fc_base.specs.SheetStep.{dropped}
use Rattle.fc_base.specs.declared.decision.LaneEvent.{LaneEvent}
use Rattle.fc_base.specs.declared.request.Request.{Request}
use Rattle.fc_base.specs.declared.size.GrainSize.{GrainSize}
use Rattle.fc_changed.specs.Notes.{Note}
use Rattle.fc_changed.specs.Notes.Note.{Wrote}
use Rattle.fc_changed.specs.Row.{Row, after_note}
use Rattle.fc_entry.specs.Picture.{Content, Picture, changed_at}
use Rattle.fc_image.specs.Records.{after_record}
use Rattle.fc_image.specs.declared.image.MetaImage.{MetaImage}
use Rattle.fc_image.specs.declared.record.MetaRecord.{MetaRecord}
use Rattle.fc_legal.specs.Steps.{rows_after}
use Rattle.fc_legal.specs.Whole.{Whole, part_of_sheet, part_of_picture}
use Rattle.fc_pictures.specs.Law.{StoredAt}
use Rattle.fc_rules.specs.LaneTold.{LaneOf}
use Rattle.fc_rules.specs.Shows.{Stored, Shows}
use Rattle.fc_kept.specs.Kept.{Kept, sheet_kept, kept_after}
use Rattle.fc_kept.specs.Images.{tables_in, kept_in, meta_of}
use Rattle.fc_kept.specs.Sound.{IsSoundKept, IsSoundImage, FitsRecord, FitsChains}
use Rattle.fc_kept.specs.Drops.{DropsTo}
use Rattle.fc_kept.specs.Marks.{AreMarked, least_asked, least_events}
use Rattle.fc_kept.specs.OneGrain.{Another, another, with_another, one_at, IsMarkedOne}
use Rattle.fc_kept.specs.Prefix.{Prefix}
use Rattle.fc_kept.specs.Disks.{NamedDisk}
use Rattle.fc_kept.specs.Recoverable.{Says, ShowsAll, Recoverable}

pub record ImageLaw : Type 0 where
  -- what metadata says is said by its image
  pub said : (k : Kept) → IsSoundKept k → kept_in (meta_of k) ≡ k
  -- a record does to the image what it does to all that it says
  pub recorded : (image : MetaImage) (r : MetaRecord) → IsSoundImage image → FitsRecord (tables_in image) r →
      kept_in (after_record image r) ≡ kept_after (kept_in image) r
  -- all of it stays sound, where the record fits the chains
  pub image_sound : (k : Kept) → IsSoundKept k → IsSoundImage (meta_of k)
  pub image_stays : (image : MetaImage) (r : MetaRecord) → IsSoundImage image → FitsRecord (tables_in image) r →
      FitsChains (kept_in image).sheet r → IsSoundImage (after_record image r)
  pub sound : (k : Kept) (r : MetaRecord) → IsSoundKept k → FitsChains k.sheet r → IsSoundKept (kept_after k r)

-- From the sheet of metadata to that of the store, which has dropped old slots that nobody needs.
pub record DropLaw : Type 0 where
  pub sound : (s t : Sheet) → DropsTo s t → IsSound s → IsSound t
  pub more : (s t u : Sheet) → DropsTo s t → DropsTo t u → DropsTo s u
  -- so it is in each lane
  pub parts : (l : LaneOf) (s t : Sheet) → l.lane < l.lanes → DropsTo s t → DropsTo (part_of_sheet l s) (part_of_sheet l t)
  -- what shows on the store's chains shows on metadata's
  pub shows : (s t : Sheet) (picture : Picture) (stored : Stored) → DropsTo s t → Shows t.slots picture stored → Shows s.slots picture stored
  -- it doesn't count whether a drop comes before a record or behind it
  pub first : (s : Sheet) (b : ℕ) (r : MetaRecord) → dropped b (sheet_kept s r) ≡ sheet_kept (dropped b s) r
  -- a record that fits the store's chains fits metadata's, and leaves them sound, and such slots alone between the two
  pub fits : (s t : Sheet) (r : MetaRecord) → DropsTo s t → FitsChains t r → FitsChains s r
  pub stays_sound : (s : Sheet) (r : MetaRecord) → IsSound s → FitsChains s r → IsSound (sheet_kept s r)
  pub stays : (s t : Sheet) (r : MetaRecord) → IsSound s → DropsTo s t → FitsChains t r → DropsTo (sheet_kept s r) (sheet_kept t r)

-- Which grains count as changed.
pub record MarkLaw : Type 0 where
  pub itself : (rows : List Row) → AreMarked rows rows rows
  -- what is noted of an event or an entry is noted to all three
  pub noted : (kept now least : List Row) (notes : List Note) → AreMarked kept now least →
      AreMarked (fold after_note kept notes) (fold after_note now notes) (fold after_note least notes)
  -- so is what is noted of a decision's events, each on the chains as they are before it
  pub decided : (s : Sheet) (kept now least : List Row) (events : List LaneEvent) → AreMarked kept now least →
      AreMarked (least_events s now kept events) (rows_after s now events) (least_events s now least events)
  -- a write that was asked for counts in the least rows; and it may be marked before it is done
  pub asked : (l : LaneOf) (kept now least : List Row) (asked : Option Request) → AreMarked kept now least →
      AreMarked kept now (least_asked l least asked)
  pub begun : (kept now least : List Row) (v g : ℕ) → AreMarked kept now least →
      AreMarked (after_note kept (Wrote v g)) now (after_note least (Wrote v g))
  -- and once is enough
  pub twice : (rows : List Row) (v g : ℕ) → after_note (after_note rows (Wrote v g)) (Wrote v g) ≡ after_note rows (Wrote v g)

-- While one physical grain holds something else, and no metadata tells of it.
pub record GrainLaw : Type 0 where
  -- where nobody else reads the volume's grain, the chains show what plain volumes hold, but for it
  pub under_way : (s : Sheet) (picture : Picture) (stored after : Stored) (t g : ℕ) (content : Content) → IsSound s → t < length s.slots →
      (slot_at s.slots t).is_live ≡ true → IsFree (column s.slots g) t → Shows s.slots picture stored →
      StoredAt stored (slot_at s.slots t).volume g content after →
      Shows s.slots (changed_at record { 0 = (slot_at s.slots t).volume } (another (column s.slots g) t g content) picture) after
  -- a lane sees it at its place, if the grain is the lane's
  pub in_lane : (l : LaneOf) (s : Sheet) (picture : Picture) (one : Option Another) → l.lane < l.lanes →
      part_of_picture l (with_another one s.slots picture)
      ≡ with_another (one_at l one) (part_of_sheet l s).slots (part_of_picture l picture)
  -- it is the same on metadata's chains and on the store's
  pub same : (s t : Sheet) (picture : Picture) (one : Option Another) → IsSound s → DropsTo s t →
      with_another one s.slots picture ≡ with_another one t.slots picture

-- What shows on the store's chains may be recovered on metadata's.
abbrev pub RecoverLaw : Type 0
RecoverLaw =
    (grain : GrainSize) (disks : List (List NamedDisk)) (k : Kept) (w now : Whole) (least least_now : List Row) (asked : Option Request) (one : Option Another) →
    Prefix grain w least asked now least_now → Says grain disks k now least_now → ShowsAll grain disks k now one now.books.sheet →
    IsMarkedOne one now.books.sheet.slots k.rows → Recoverable grain disks k w least asked one

pub record KeptLaw : Type 0 where
  pub images : ImageLaw
  pub drops : DropLaw
  pub marks : MarkLaw
  pub one_grain : GrainLaw
  pub recovers : RecoverLaw
