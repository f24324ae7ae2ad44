-- The law of pictures.
use Rattle.std.proofs.Common.{◌≡◌, ℕ, ◌<◌, Option, [], sym, subst, arith}
use Rattle.fc_base.specs.declared.decision.LaneEvent.{LaneEvent}
use Rattle.fc_base.specs.declared.decision.LaneEvent.TheVariants.{Make, Remove, Trigger, Retire, Detach, Split, Force, Drop, Forget, NoteCut, Access, Work, Arm}
use Rattle.fc_base.specs.Sheet.{Sheet, slot_at}
use Rattle.fc_base.specs.SheetFacts.{IsSound}
use Rattle.fc_base.specs.SheetFits.{FitsEvent}
use Rattle.fc_base.specs.SheetStep.{sheet_step, at_place, retired_at, detached_at, split_at}
use Rattle.fc_entry.specs.Picture.{Picture, zeros}
use Rattle.fc_rules.specs.LaneTold.{LaneOf, grains_in, picture_event, cut_at}
use Rattle.fc_rules.specs.Shows.{Stored, Shows}
use Rattle.fc_sheets.proofs.Finding.{mapping_place_at}
use Rattle.fc_pictures.specs.Law.{PictureLaw, StoredAfter}
use Rattle.fc_pictures.proofs.Staying.{stored_shows}
use Rattle.fc_pictures.proofs.Leaving.{made_shows, removed_shows, dropped_shows, retired_shows, detached_shows}
use Rattle.fc_pictures.proofs.Splits.{split_shows}
use Rattle.fc_pictures.proofs.Forces.{forced_shows, cut_live}
use Rattle.fc_pictures.proofs.Triggers.{triggered_shows}
use Rattle.fc_pictures.proofs.Grains.{moved_shows, written_shows, torn_move_shown, torn_write_shown}
use Rattle.fc_pictures.proofs.Fitting.{move_fits, write_fits, read_is, place_of_volume, volume_of_place}

pub none_shows : (stored : Stored) → Shows [] [] stored
none_shows stored = record { each = λ k kl l. absurd (omega arith); only = λ p c. absurd (let lt : c.0 < 0 = c.1 in omega arith); apart = λ i j d ij jl e. omega arith }

-- where nothing that is stored changes
abbrev Same : Stored → Stored → Type 0
Same stored after = (w g : ℕ) → after w g ≡ stored w g

pub event_shows : (l : LaneOf) (s : Sheet) (picture : Picture) (stored after : Stored) (e : LaneEvent) → IsSound s → FitsEvent s e → Shows s.slots picture stored → StoredAfter l stored e after →
    Shows (sheet_step (grains_in l) s e).slots (picture_event l s.slots picture e) after
event_shows l s picture stored after (Make volume grains kind) i f w a = made_shows s picture stored after volume (grains_in l grains) (zeros l.grain) w f a.0 (λ x g ne. a.1 x g ne)
event_shows l s picture stored after (Remove volume) i f w a = removed_shows s picture stored after volume w f (λ x g ne. a x g ne)
event_shows l s picture stored after (Trigger pairs) i f w a = triggered_shows s pairs picture after i f (stored_shows s.slots picture stored after (λ x g xl. a (slot_at s.slots x).volume g) w)
event_shows l s picture stored after (Retire m) i f w a =
    let k : ℕ = f.0 in
    let p = mapping_place_at s.slots m.0 k f.1.is_there in
    let v = stored_shows s.slots picture stored after (λ x g xl. a (slot_at s.slots x).volume g) w in
    subst (λ (o : Option ℕ). Shows (at_place retired_at o s).slots (cut_at s.slots o picture) after) (sym f.1.is_there)
    (subst (λ (z : Picture). Shows (retired_at k s).slots z after) (sym (cut_live s.slots picture k f.1.is_live)) (retired_shows s picture after k i.one_live v p.0 f.1.is_live))
event_shows l s picture stored after (Detach m) i f w a =
    let k : ℕ = f.0 in
    let p = mapping_place_at s.slots m.0 k f.1.is_there in
    let v = stored_shows s.slots picture stored after (λ x g xl. a (slot_at s.slots x).volume g) w in
    subst (λ (o : Option ℕ). Shows (at_place detached_at o s).slots (cut_at s.slots o picture) after) (sym f.1.is_there)
    (subst (λ (z : Picture). Shows (detached_at k s).slots z after) (sym (cut_live s.slots picture k f.1.is_live)) (detached_shows s picture after k i.one_live v p.0 f.1.is_live f.2))
event_shows l s picture stored after (Split m) i f w a =
    let p = mapping_place_at s.slots m.0 f.0 f.1.is_there in
    subst (λ (o : Option ℕ). Shows (at_place split_at o s).slots picture after) (sym f.1.is_there)
    (split_shows s picture after m.0 f.0 i (stored_shows s.slots picture stored after (λ x g xl. a (slot_at s.slots x).volume g) w) p.0 p.1 f.2)
event_shows l s picture stored after (Force m dependents) i f w a = forced_shows s picture after m dependents i (stored_shows s.slots picture stored after (λ x g xl. a (slot_at s.slots x).volume g) w) f
event_shows l s picture stored after (Drop slot) i f w a = dropped_shows s picture after slot.0 (stored_shows s.slots picture stored after (λ x g xl. a (slot_at s.slots x).volume g) w) f
event_shows l s picture stored after (Forget m) i f w a = stored_shows s.slots picture stored after (λ x g xl. a (slot_at s.slots x).volume g) w
event_shows l s picture stored after (NoteCut m source target) i f w a = stored_shows s.slots picture stored after (λ x g xl. a (slot_at s.slots x).volume g) w
event_shows l s picture stored after (Access volume access) i f w a = stored_shows s.slots picture stored after (λ x g xl. a (slot_at s.slots x).volume g) w
event_shows l s picture stored after (Work m copies cleans) i f w a = stored_shows s.slots picture stored after (λ x g xl. a (slot_at s.slots x).volume g) w
event_shows l s picture stored after (Arm volume grain calls) i f w a = stored_shows s.slots picture stored after (λ x g xl. a (slot_at s.slots x).volume g) w

pub picture_law_holds : PictureLaw
picture_law_holds =
    record {
      none = none_shows;
      event = event_shows;
      moved = moved_shows;
      written = written_shows;
      torn_move = torn_move_shown;
      torn_write = torn_write_shown;
      move_fits = move_fits;
      write_fits = write_fits;
      read = read_is;
      place = place_of_volume;
      there = volume_of_place;
    }
