-- The laws on which recovery rests.
use Rattle.std.proofs.Common.{◌≡◌, ℕ, true, false, refl}
use Rattle.fc_base.specs.Sheet.{Sheet}
use Rattle.fc_base.specs.SheetFacts.{IsSound}
use Rattle.fc_base.specs.SheetFits.{FitsTaken, FitsLost}
use Rattle.fc_base.specs.SheetStep.{grain_taken, grain_kept, grain_lost, sheet_moved, sheet_written, sheet_torn, dropped}
use Rattle.fc_image.specs.declared.record.MetaRecord.{MetaRecord}
use Rattle.fc_image.specs.declared.record.MetaRecord.TheVariants.{Pair, Written, Torn, Changing}
use Rattle.fc_base.specs.declared.request.Side.TheVariants.{Now, Under}
use Rattle.fc_sheets.proofs.Holding.{bit_taken, bit_kept, bit_lost}
use Rattle.fc_kept.specs.Drops.{DropsTo}
use Rattle.fc_kept.specs.Law.{ImageLaw, DropLaw, KeptLaw}
use Rattle.fc_kept.specs.Kept.{sheet_kept}
use Rattle.fc_kept.specs.Sound.{FitsChains}
use Rattle.fc_kept.proofs.Said.{said}
use Rattle.fc_kept.proofs.Recorded.{recorded}
use Rattle.fc_kept.proofs.Changing.{moved_first, written_first, torn_first}
use Rattle.fc_kept.proofs.Unneeded.{taken_loses, kept_loses, lost_loses, keeps_taken, keeps_kept, keeps_lost}
use Rattle.fc_kept.proofs.Dropping.{taken_back, lost_back, drops_sound, drops_more, drops_show, drops_taken, drops_lost, mapped_drops}
use Rattle.fc_kept.proofs.Lanes.{parts_drop}
use Rattle.fc_kept.proofs.Marking.{mark_law}
use Rattle.fc_kept.proofs.OneLane.{another_in}
use Rattle.fc_kept.proofs.SameGrain.{another_same}
use Rattle.fc_kept.proofs.Recovering.{recovers}
use Rattle.fc_kept.proofs.Tidy.{image_sound, image_stays}
use Rattle.fc_kept.proofs.Soundly.{sheet_sound, kept_sound}
use Rattle.fc_kept.proofs.UnderWay.{under_way}

-- ---- a move, a write and a failed write on both sheets

taken_drops : (v g : ℕ) (s t : Sheet) → IsSound s → DropsTo s t → FitsTaken t.slots v g → DropsTo (sheet_written v g s) (sheet_written v g t)
taken_drops v g s t sound d fits =
    mapped_drops (grain_taken v g) g (bit_taken v g) (taken_loses v g) (λ slots. FitsTaken slots v g) (taken_back v g) (λ slots q. keeps_taken slots v g q) d sound fits

kept_drops : (v g : ℕ) (s t : Sheet) → IsSound s → DropsTo s t → DropsTo (sheet_moved v g true s) (sheet_moved v g true t)
kept_drops v g s t sound d =
    mapped_drops (grain_kept v g) g (bit_kept v g) (kept_loses v g) (λ slots. Unit {0}) (λ s b f q. tt) (λ slots q. keeps_kept slots v g) d sound tt

lost_drops : (v g : ℕ) (s t : Sheet) → IsSound s → DropsTo s t → FitsLost t.slots v g → DropsTo (sheet_torn v g Under s) (sheet_torn v g Under t)
lost_drops v g s t sound d fits =
    mapped_drops (grain_lost v g) g (bit_lost v g) (lost_loses v g) (λ slots. FitsLost slots v g) (lost_back v g) (λ slots q. keeps_lost slots v g q) d sound fits

first : (s : Sheet) (b : ℕ) (r : MetaRecord) → dropped b (sheet_kept s r) ≡ sheet_kept (dropped b s) r
first s b (Pair slot volume grain in_place empty) = moved_first s b volume.0 grain.0 in_place
first s b (Written volume grain) = written_first s b volume.0 grain.0
first s b (Torn volume grain side) = torn_first s b volume.0 grain.0 side
first s b (Changing volume grain) = refl

fits : (s t : Sheet) (r : MetaRecord) → DropsTo s t → FitsChains t r → FitsChains s r
fits s t (Pair slot volume grain in_place empty) d f = λ e. drops_taken volume.0 grain.0 d (f e)
fits s t (Written volume grain) d f = drops_taken volume.0 grain.0 d f
fits s t (Torn volume grain Now) d f = drops_taken volume.0 grain.0 d f
fits s t (Torn volume grain Under) d f = drops_lost volume.0 grain.0 d f
fits s t (Changing volume grain) d f = f

stays : (s t : Sheet) (r : MetaRecord) → IsSound s → DropsTo s t → FitsChains t r → DropsTo (sheet_kept s r) (sheet_kept t r)
stays s t (Pair slot volume grain true empty) sound d f = kept_drops volume.0 grain.0 s t sound d
stays s t (Pair slot volume grain false empty) sound d f = taken_drops volume.0 grain.0 s t sound d (f refl)
stays s t (Written volume grain) sound d f = taken_drops volume.0 grain.0 s t sound d f
stays s t (Torn volume grain Now) sound d f = taken_drops volume.0 grain.0 s t sound d f
stays s t (Torn volume grain Under) sound d f = lost_drops volume.0 grain.0 s t sound d f
stays s t (Changing volume grain) sound d f = d

-- ---- all

image_law : ImageLaw
image_law = record { said = said; recorded = recorded; image_sound = image_sound; image_stays = image_stays; sound = kept_sound }

drop_law : DropLaw
drop_law =
    record {
      sound = λ s t d i. drops_sound d i;
      more = λ s t u d e. drops_more d e;
      parts = λ l s t i d. parts_drop l i d;
      shows = λ s t picture stored d w. drops_show picture stored d w;
      first = first;
      fits = fits;
      stays_sound = sheet_sound;
      stays = stays;
    }

pub kept_law_holds : KeptLaw
kept_law_holds = record { images = image_law; drops = drop_law; marks = mark_law; one_grain = record { under_way = under_way; in_lane = another_in; same = λ s t picture one i d. another_same picture one d i }; recovers = recovers }
