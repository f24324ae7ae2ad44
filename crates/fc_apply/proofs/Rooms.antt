-- Which grains occupy memory after an event.
use Rattle.std.proofs.Common.{◌≡◌, ℕ, ◌%◌, Bool, true, false, ◌==◌, not, cond, List, [], ◌∷◌, ap, ◌∙◌, refl}
use mathlib.Core.List.{map-append}
use Rattle.fc_base.specs.Room.{Room, rooms_after}
use Rattle.fc_base.specs.declared.decision.LaneEvent.{LaneEvent}
use Rattle.fc_base.specs.declared.decision.LaneEvent.TheVariants.{Make, Remove, Arm}
use Rattle.fc_grains.specs.Volumes.{VolumeGrains, armed, changed, room_of, rooms_of}
use Rattle.fc_pick.proofs.Rows.{map-filter}
use Rattle.fc_rules.specs.LaneTold.{LaneOf, grains_in}
use Rattle.fc_apply.specs.Parts.{GrainsAfter, new_grains}
use Rattle.fc_apply.proofs.Volumes.{changed_map}

armed_rooms : (old new : List VolumeGrains) (volume calls : ℕ) (b : Bool) → new ≡ cond b (changed volume (armed calls) old) old → rooms_of new ≡ rooms_of old
armed_rooms old new volume calls true is = ap rooms_of is ∙ changed_map room_of (armed calls) (λ v. refl) old volume
armed_rooms old new volume calls false is = ap rooms_of is

-- those of a new volume as its disk is, those of a volume that went no longer, and all others as before
pub event_rooms : (l : LaneOf) (old new : List VolumeGrains) (e : LaneEvent) → GrainsAfter l old e new → rooms_of new ≡ rooms_after (grains_in l) (rooms_of old) e
event_rooms l old new (Make volume grains kind) (due, unarmed, is) = ap rooms_of is ∙ map-append room_of old (new_grains l volume grains kind due ∷ [])
event_rooms l old new (Remove volume) is = ap rooms_of is ∙ map-filter room_of (λ (r : Room). not (r.volume.0 == volume.0)) old
event_rooms l old new (Arm volume grain calls) is = armed_rooms old new volume.0 calls (grain.0 % l.lanes == l.lane) is
event_rooms l old new e is = ap rooms_of is
