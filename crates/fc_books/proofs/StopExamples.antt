-- Stops, on closed examples.
use Rattle.std.proofs.Common.{◌≡◌, ℕ, Bool, true, false, Some, None, List, [], ◌∷◌, map, codes, refl}
use Rattle.fc_base.specs.Column.{first_below, last_below, holder, first_reader}
use Rattle.fc_base.specs.Sheet.{live_place, mapping_place}
use Rattle.fc_base.specs.declared.command.Command.TheVariants.{Stopfcmap}
use Rattle.fc_base.specs.declared.command.StopWay.TheVariants.{Plain, Force as ByForce, Split as BySplit}
use Rattle.fc_base.specs.declared.decision.LaneEvent.TheVariants.{Retire, Split, Force, Drop, NoteCut, Access, Work}
use Rattle.fc_base.specs.declared.fault.Refusal.TheVariants.{NotComplete}
use Rattle.fc_base.specs.declared.name.Ref.TheVariants.{Name}
use Rattle.fc_base.specs.declared.ranges.Range.{Range}
use Rattle.fc_base.specs.declared.request.Effect.TheVariants.{Cut, State}
use Rattle.fc_base.specs.declared.request.Reply.TheVariants.{Done, NoMemory, Refused}
use Rattle.fc_base.specs.declared.size.GrainSize.TheVariants.{K64}
use Rattle.fc_base.specs.declared.state.Access.TheVariants.{Online, Offline}
use Rattle.fc_base.specs.declared.state.MapState.{MapState}
use Rattle.fc_base.specs.declared.state.MapState.TheVariants.{IdleOrCopied, Copying, Stopping, Stopped}
use Rattle.fc_base.specs.declared.volume.Change.TheVariants.{SetMapping}
use Rattle.fc_base.specs.declared.volume.Mapping.{Mapping}
use Rattle.fc_base.specs.declared.volume.Volume.{Volume}
use Rattle.fc_books.proofs.Examples.{vol, map_id, volume, mapping, cleaned, slot, old, books, no_restarts}
use Rattle.fc_books.specs.Books.{Books}
use Rattle.fc_books.specs.Copies.{dependents}
use Rattle.fc_books.specs.Deciding.{settle, decide}
use Rattle.fc_books.specs.Settling.{settling}
use Rattle.fc_books.specs.Stopping.{stops}
use Rattle.fc_books.specs.Work.{work_events}
use Rattle.fc_pick.specs.declared.work.WorkFlags.{WorkFlags}

abbrev range : ℕ → ℕ → Range
range first last = record { first = first; last = last }

-- ---- a stop of a needed target, A to B and B to C at two grains; B holds grain 0

abbrev three : List Volume
three = volume 0 (codes "A") 2 ∷ volume 1 (codes "B") 2 ∷ volume 2 (codes "C") 2 ∷ []

abbrev b_to_c : Mapping
b_to_c = mapping 1 (codes "fcmap1") 1 2 Copying

needed_is_retired :
    decide no_restarts K64
    (books three (mapping 0 (codes "fcmap0") 0 1 Copying ∷ b_to_c ∷ [])
    (record { births = 5; slots = slot 0 0 0 None (true ∷ true ∷ []) ∷ slot 3 0 1 (Some 0) (true ∷ false ∷ []) ∷ slot 4 0 2 (Some 1) (false ∷ false ∷ []) ∷ [] })
    (cleaned 0 ∷ cleaned 1 ∷ []))
    (Stopfcmap (Name (codes "fcmap0")) Plain) None
    ≡ record {
      reply = Done;
      effects = Cut (vol 1) (range 0 0 ∷ []) ∷ State (map_id 0) Stopping ∷ [];
      events = Retire (map_id 0) ∷ NoteCut (map_id 0) (vol 0) (vol 1) ∷ Access (vol 1) (Offline (map_id 0) Stopping) ∷ [];
      changes = SetMapping (record (mapping 0 (codes "fcmap0") 0 1 Stopping) { held_at_leave = 1 }) ∷ [];
    }
unfolding first_below last_below holder first_reader live_place mapping_place work_events dependents stops
needed_is_retired = refl

-- once C has grain 0 too, the next command finds the old slot free
stopping_ends :
    settle
    (books three (record (mapping 0 (codes "fcmap0") 0 1 Stopping) { held_at_leave = 1 } ∷ b_to_c ∷ [])
    (record { births = 6; slots = slot 0 0 0 None (true ∷ true ∷ []) ∷ old (slot 3 0 1 (Some 0) (true ∷ false ∷ [])) ∷ slot 4 0 2 (Some 1) (true ∷ false ∷ []) ∷ slot 5 5 1 None (true ∷ true ∷ []) ∷ [] })
    (cleaned 0 ∷ cleaned 1 ∷ []))
    ≡ record {
      reply = NoMemory;
      effects = State (map_id 0) Stopped ∷ [];
      events = Drop (record { 0 = 3 }) ∷ Access (vol 1) (Offline (map_id 0) Stopped) ∷ [];
      changes = SetMapping (record (mapping 0 (codes "fcmap0") 0 1 Stopped) { held_at_leave = 1 }) ∷ [];
    }
unfolding first_below last_below holder first_reader live_place mapping_place settling
stopping_ends = refl

-- ---- a complete copy that others need: A to B at rate 50, B to C, C to D, at one grain

abbrev four : List Volume
four = volume 0 (codes "A") 1 ∷ volume 1 (codes "B") 1 ∷ volume 2 (codes "C") 1 ∷ volume 3 (codes "D") 1 ∷ []

abbrev a_to_b : MapState → Mapping
a_to_b state = record (mapping 0 (codes "fcmap0") 0 1 state) { copy_rate = 50 }

-- as it left copying
abbrev left_whole : MapState → Mapping
left_whole state = record (a_to_b state) { held_at_leave = 1; complete = true }

abbrev copying : WorkFlags
copying = record { map = map_id 0; copies = true; cleans = false }

abbrev with_b : Bool → Books
with_b held =
    books four (a_to_b Copying ∷ b_to_c ∷ mapping 2 (codes "fcmap2") 2 3 Copying ∷ [])
    (record { births = 7; slots = slot 0 0 0 None (true ∷ []) ∷ slot 4 0 1 (Some 0) (held ∷ []) ∷ slot 5 0 2 (Some 1) (false ∷ []) ∷ slot 6 0 3 (Some 2) (false ∷ []) ∷ [] })
    (copying ∷ cleaned 1 ∷ cleaned 2 ∷ [])

whole_is_retired :
    decide no_restarts K64 (with_b true) (Stopfcmap (Name (codes "fcmap0")) Plain) None
    ≡ record {
      reply = Done;
      effects = State (map_id 0) Stopping ∷ [];
      events = Retire (map_id 0) ∷ Access (vol 1) Online ∷ Work (map_id 0) false true ∷ [];
      changes = SetMapping (left_whole Stopping) ∷ [];
    }
unfolding first_below last_below holder first_reader live_place mapping_place work_events dependents stops
whole_is_retired = refl

whole_is_split_off :
    decide no_restarts K64 (with_b true) (Stopfcmap (Name (codes "fcmap0")) BySplit) None
    ≡ record {
      reply = Done;
      effects = State (map_id 0) IdleOrCopied ∷ [];
      events = Split (map_id 0) ∷ Access (vol 1) Online ∷ Work (map_id 0) false false ∷ [];
      changes = SetMapping (left_whole IdleOrCopied) ∷ [];
    }
unfolding first_below last_below holder first_reader live_place mapping_place work_events dependents stops
whole_is_split_off = refl

split_is_refused : decide no_restarts K64 (with_b false) (Stopfcmap (Name (codes "fcmap0")) BySplit) None ≡ record { reply = Refused (NotComplete 0 1); effects = []; events = []; changes = [] }
unfolding first_below last_below holder first_reader live_place mapping_place work_events dependents stops
split_is_refused = refl

who_depends : map (λ (d : Mapping). d.id) (dependents (with_b true) (a_to_b Copying)) ≡ map_id 1 ∷ map_id 2 ∷ []
unfolding first_below last_below holder first_reader live_place mapping_place work_events dependents stops
who_depends = refl

-- ---- a stop by force: A to B, B to C and C to D at two grains; B holds grain 0

abbrev two_each : List Volume
two_each = volume 0 (codes "A") 2 ∷ volume 1 (codes "B") 2 ∷ volume 2 (codes "C") 2 ∷ volume 3 (codes "D") 2 ∷ []

forced_with_dependents :
    decide no_restarts K64
    (books two_each (mapping 0 (codes "fcmap0") 0 1 Copying ∷ b_to_c ∷ mapping 2 (codes "fcmap2") 2 3 Copying ∷ [])
    (record {
      births = 7;
      slots = slot 0 0 0 None (true ∷ true ∷ []) ∷ slot 4 0 1 (Some 0) (true ∷ false ∷ []) ∷ slot 5 0 2 (Some 1) (false ∷ false ∷ []) ∷ slot 6 0 3 (Some 2) (false ∷ false ∷ []) ∷ [];
    })
    (cleaned 0 ∷ cleaned 1 ∷ cleaned 2 ∷ []))
    (Stopfcmap (Name (codes "fcmap0")) ByForce) None
    ≡ record {
      reply = Done;
      effects =
          Cut (vol 1) (range 0 0 ∷ []) ∷ State (map_id 0) Stopped
          ∷ Cut (vol 2) [] ∷ State (map_id 1) Stopped
          ∷ Cut (vol 3) [] ∷ State (map_id 2) Stopped
          ∷ [];
      events =
          Force (map_id 0) (map_id 1 ∷ map_id 2 ∷ [])
          ∷ NoteCut (map_id 0) (vol 0) (vol 1) ∷ Access (vol 1) (Offline (map_id 0) Stopped)
          ∷ NoteCut (map_id 1) (vol 1) (vol 2) ∷ Access (vol 2) (Offline (map_id 1) Stopped)
          ∷ NoteCut (map_id 2) (vol 2) (vol 3) ∷ Access (vol 3) (Offline (map_id 2) Stopped)
          ∷ Work (map_id 0) false false ∷ Work (map_id 1) false false ∷ Work (map_id 2) false false
          ∷ [];
      changes =
          SetMapping (record (mapping 0 (codes "fcmap0") 0 1 Stopped) { held_at_leave = 1 })
          ∷ SetMapping (mapping 1 (codes "fcmap1") 1 2 Stopped)
          ∷ SetMapping (mapping 2 (codes "fcmap2") 2 3 Stopped)
          ∷ [];
    }
unfolding first_below last_below holder first_reader live_place mapping_place work_events dependents stops
forced_with_dependents = refl
