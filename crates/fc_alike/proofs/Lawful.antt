-- The law of following.
use Rattle.std.proofs.Common.{List, [], fold, not, replicate, arith}
use Rattle.std.proofs.lemmas.List.Elements.{All-nil, All-weaker}
use Rattle.fc_base.specs.Room.{Room}
use Rattle.fc_base.specs.SheetFits.{FitsEvent}
use Rattle.fc_base.specs.SheetStep.{triggered}
use Rattle.fc_base.specs.declared.decision.LaneEvent.{LaneEvent}
use Rattle.fc_base.specs.declared.decision.LaneEvent.TheVariants.{Make, Remove, Trigger, Retire, Detach, Split, Force, Forget, NoteCut}
use Rattle.fc_books.specs.After.{begun}
use Rattle.fc_changed.specs.Row.{Row, is_of}
use Rattle.fc_entry.specs.Picture.{zeros}
use Rattle.fc_follow.specs.Alike.{IsAlike, AreAlike}
use Rattle.fc_follow.specs.Following.{Followed, FitsRows, followed_event, restarts}
use Rattle.fc_pictures.specs.Law.{StoredAfter}
use Rattle.fc_pictures.specs.LaneLaw.{Agrees}
use Rattle.fc_pictures.proofs.Agreeing.{lane_law_holds}
use Rattle.fc_rules.specs.LaneTold.{LaneOf, LaneTold, grains_in, told_event}
use Rattle.fc_rules.specs.Shows.{Stored}
use Rattle.fc_sheets.proofs.Starting.{AllApart, all_fit, all_apart}
use Rattle.fc_alike.specs.Law.{Follows, FollowLaw}
use Rattle.fc_alike.proofs.Entries.{entry_alike}
use Rattle.fc_alike.proofs.Keeping.{new_slot_keeps}
use Rattle.fc_alike.proofs.Leaving.{one_leaves, force_leaves, split_leaves, come_alike, go_alike}
use Rattle.fc_alike.proofs.Matching.{all_match, all_begin}
use Rattle.fc_alike.proofs.Rows.{AlikeIn, AreAlikeIn, row_in, row_out, filter_alike, cut_less}
use Rattle.fc_alike.proofs.Starting.{grains_of, all_new, is_next, is_next_at, all_begun_sound, begun_stays}
use Rattle.fc_alike.proofs.Triggers.{trigger_alike, pairs_in}

none_alike : (told : LaneTold) → AreAlike record { told = told; rows = []; rooms = [] }
none_alike told = record { each = All-nil (IsAlike told.sheet.slots told.picture); distinct = λ i j d ij jl. absurd (omega (arith, jl)) }

-- rows by what plain volumes hold, and back
rows_in : (f : Followed) (stored : Stored) → Follows f stored → AreAlikeIn f.told.picture f.rows
rows_in f stored follows =
    let slots = f.told.sheet.slots in
    record {
      each = All-weaker (IsAlike slots f.told.picture) (AlikeIn f.told.picture) (λ row x. row_in slots f.told.picture stored row follows.agrees.shows x) f.rows follows.alike.each;
      distinct = follows.alike.distinct;
    }

follows_from : {rooms : List Room} (told : LaneTold) (rows : List Row) (stored : Stored) → Agrees told.sheet told.picture stored → AreAlikeIn told.picture rows → Follows record { told = told; rows = rows; rooms = rooms } stored
follows_from told rows stored agrees a =
    let slots = told.sheet.slots in
    record {
      agrees = agrees;
      alike = record {
        each = All-weaker (AlikeIn told.picture) (IsAlike slots told.picture) (λ row x. row_out slots told.picture stored row agrees.shows x) rows a.each;
        distinct = a.distinct;
      };
    }

-- ---- events

module _ (l : LaneOf) (f : Followed) (stored after : Stored) (follows : Follows f stored) where
  plain : (e : LaneEvent) → FitsEvent f.told.sheet e → StoredAfter l stored e after → Agrees (told_event l f.told e).sheet (told_event l f.told e).picture after
  plain e fits st = lane_law_holds.event l f.told e stored after follows.agrees fits st

  rows : AreAlikeIn f.told.picture f.rows
  rows = rows_in f stored follows

  event_follows : (e : LaneEvent) → FitsEvent f.told.sheet e → FitsRows f.rows e → StoredAfter l stored e after → Follows (followed_event l f e) after
  event_follows (Make volume grains kind) fits fit st =
      follows_from (told_event l f.told (Make volume grains kind)) f.rows after (plain (Make volume grains kind) fits st)
      (come_alike f.told.picture f.rows (record { volume = volume; now = replicate (grains_in l grains) (zeros l.grain); under = replicate (grains_in l grains) (zeros l.grain) }) rows)
  event_follows (Remove volume) fits fit st =
      follows_from (told_event l f.told (Remove volume)) f.rows after (plain (Remove volume) fits st) (go_alike f.told.picture f.rows volume fit rows)
  event_follows (Trigger pairs) fits fit st =
      let s = f.told.sheet in
      let picture = f.told.picture in
      let w = follows.agrees.shows in
      let sound = follows.agrees.sound in
      let apart : AllApart pairs = all_apart pairs fits.maps fits.targets fits.apart in
      let told : LaneTold = record (told_event l f.told (Trigger pairs)) { sheet = fold (begun (restarts f.rows)) (triggered pairs s) pairs } in
      follows_from told _ after
      (all_begin (restarts f.rows) (grains_of s) pairs (triggered pairs s) _ after (plain (Trigger pairs) fits st) (all_new s pairs sound fits) apart
      (all_match s picture stored after pairs f.rows w fits apart rows fit st))
      (trigger_alike s.slots pairs picture f.rows (pairs_in s picture stored pairs w (all_fit s pairs fits.each fits.apart)) apart rows)
  event_follows (Retire m) fits fit st = follows_from (told_event l f.told (Retire m)) _ after (plain (Retire m) fits st) (one_leaves f.told.sheet.slots f.told.picture f.rows m rows)
  event_follows (Detach m) fits fit st = follows_from (told_event l f.told (Detach m)) _ after (plain (Detach m) fits st) (one_leaves f.told.sheet.slots f.told.picture f.rows m rows)
  event_follows (Split m) fits fit st = follows_from (told_event l f.told (Split m)) _ after (plain (Split m) fits st) (split_leaves f.told.sheet.slots f.told.picture f.rows m rows)
  event_follows (Force m dependents) fits fit st =
      follows_from (told_event l f.told (Force m dependents)) _ after (plain (Force m dependents) fits st) (force_leaves f.told.sheet.slots f.told.picture f.rows m dependents rows)
  event_follows (Forget m) fits fit st =
      follows_from (told_event l f.told (Forget m)) _ after (plain (Forget m) fits st) (filter_alike (λ (row : Row). not (is_of m.0 row)) f.told.picture f.rows rows)
  event_follows (NoteCut m source target) fits fit st =
      follows_from (told_event l f.told (NoteCut m source target)) _ after (plain (NoteCut m source target) fits st) (cut_less f.told.picture f.rows target.0 rows)
  event_follows e fits fit st = follows_from (told_event l f.told e) f.rows after (plain e fits st) rows

pub follow_law_holds : FollowLaw
follow_law_holds =
    record {
      none = none_alike;
      event = λ l f e stored after follows fits fit st. event_follows l f stored after follows e fits fit st;
      entry = entry_alike;
      new_slot = is_next;
      new_slot_at = is_next_at;
      begun_sound = all_begun_sound;
      begun_stays = begun_stays;
      keeps = new_slot_keeps;
    }
