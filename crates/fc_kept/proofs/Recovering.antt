-- What shows on the store's chains may be recovered on metadata's.
use Rattle.std.proofs.Common.{◌≡◌, ℕ, ◌<◌, sym, subst}
use Rattle.fc_entry.specs.Picture.{Picture}
use Rattle.fc_legal.specs.Whole.{lanes, lane_at, part_of_sheet, part_of_picture}
use Rattle.fc_rules.specs.LaneTold.{LaneOf}
use Rattle.fc_rules.specs.Shows.{Stored, Shows}
use Rattle.fc_kept.specs.Disks.{stored_on}
use Rattle.fc_kept.specs.Law.{RecoverLaw}
use Rattle.fc_kept.specs.OneGrain.{with_another}
use Rattle.fc_kept.specs.Recoverable.{disks_at}
use Rattle.fc_kept.proofs.Dropping.{drops_show}
use Rattle.fc_kept.proofs.Lanes.{parts_drop}
use Rattle.fc_kept.proofs.SameGrain.{another_same, marked_same}

pub recovers : RecoverLaw
recovers grain disks k w now least least_now asked one is says shows marked =
    record {
      now = now;
      least_now = least_now;
      is = is;
      says = says;
      shows = λ i il.
          let l : LaneOf = lane_at grain now i in
          let stored : Stored = stored_on l (disks_at disks i) k in
          let inside : i < lanes now = subst (λ (n : ℕ). i < n) says.count il in
          let same : with_another one k.sheet.slots now.picture ≡ with_another one now.books.sheet.slots now.picture = another_same now.picture one says.slots says.sound.books.sheet in
          subst (λ (z : Picture). Shows (part_of_sheet l k.sheet).slots (part_of_picture l z) stored) (sym same)
          (drops_show (part_of_picture l (with_another one now.books.sheet.slots now.picture)) stored (parts_drop l inside says.slots) (shows i il));
      marked = marked_same k.rows one says.slots says.sound.books.sheet marked;
    }
