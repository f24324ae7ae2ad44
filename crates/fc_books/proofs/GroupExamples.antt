-- Consistency groups, on closed examples.
use Rattle.std.proofs.Common.{◌≡◌, ℕ, true, false, Some, None, List, [], ◌∷◌, codes, refl}
use Rattle.fc_base.specs.Column.{first_below, last_below, holder, first_reader}
use Rattle.fc_base.specs.Sheet.{live_place, mapping_place}
use Rattle.fc_base.specs.declared.command.Command.TheVariants.{Startfcmap, Startfcconsistgrp, Stopfcconsistgrp, Rmfcconsistgrp}
use Rattle.fc_base.specs.declared.command.StopWay.TheVariants.{Plain, Force as ByForce}
use Rattle.fc_base.specs.declared.decision.LaneEvent.TheVariants.{Trigger, Retire, Detach, NoteCut, Access, Work}
use Rattle.fc_base.specs.declared.fault.Refusal.TheVariants.{InGroup, SourceIsTarget, TargetTwice, NeedsForce, Empty as EmptyGroup}
use Rattle.fc_base.specs.declared.name.Ref.TheVariants.{Id, Name}
use Rattle.fc_base.specs.declared.ranges.Range.{Range}
use Rattle.fc_base.specs.declared.request.Effect.TheVariants.{Trigger as Triggered, Cut, State}
use Rattle.fc_base.specs.declared.request.Reply.TheVariants.{Done, Refused}
use Rattle.fc_base.specs.declared.size.GrainSize.TheVariants.{K64}
use Rattle.fc_base.specs.declared.state.Access.TheVariants.{Online, Offline}
use Rattle.fc_base.specs.declared.state.MapState.TheVariants.{Empty, IdleOrCopied, Copying, Stopping, Stopped}
use Rattle.fc_base.specs.declared.volume.Change.TheVariants.{SetMapping, RemoveGroup}
use Rattle.fc_base.specs.declared.volume.Group.{Group}
use Rattle.fc_base.specs.declared.volume.Mapping.{Mapping}
use Rattle.fc_base.specs.declared.volume.Volume.{Volume}
use Rattle.fc_books.proofs.Examples.{vol, map_id, volume, pair, mapping, cleaned, slot, books, no_restarts}
use Rattle.fc_books.specs.Books.{Books}
use Rattle.fc_books.specs.Copies.{dependents}
use Rattle.fc_books.specs.Deciding.{decide}
use Rattle.fc_books.specs.Groups.{group_state, trigger_refusal}
use Rattle.fc_books.specs.Stopping.{stops}
use Rattle.fc_books.specs.Work.{work_events}

abbrev in_group : ℕ → Mapping → Mapping
in_group g m = record m { group = Some (record { 0 = g }) }

abbrev group : ℕ → List ℕ → Group
group id name = record { id = record { 0 = id }; name = name }

abbrev with_groups : List Group → Books → Books
with_groups groups b = record b { tables = record (b.tables) { groups = groups } }

-- ---- starts: A to B and C to D in group 1, A to C and C to B in group 2

abbrev four : List Volume
four = volume 0 (codes "A") 1 ∷ volume 1 (codes "B") 1 ∷ volume 2 (codes "C") 1 ∷ volume 3 (codes "D") 1 ∷ []

abbrev grouped : Books
grouped =
    with_groups (group 1 (codes "fccstgrp1") ∷ group 2 (codes "fccstgrp2") ∷ [])
    (books four
    (in_group 1 (mapping 0 (codes "fcmap0") 0 1 IdleOrCopied)
    ∷ in_group 1 (mapping 1 (codes "fcmap1") 2 3 IdleOrCopied)
    ∷ in_group 2 (mapping 2 (codes "fcmap2") 0 2 IdleOrCopied)
    ∷ in_group 2 (mapping 3 (codes "fcmap3") 2 1 IdleOrCopied)
    ∷ [])
    (record { births = 4; slots = slot 0 0 0 None (true ∷ []) ∷ slot 1 1 1 None (true ∷ []) ∷ slot 2 2 2 None (true ∷ []) ∷ slot 3 3 3 None (true ∷ []) ∷ [] })
    [])

not_alone : (decide no_restarts K64 grouped (Startfcmap (Name (codes "fcmap0")) true false) None).reply ≡ Refused (InGroup (record { 0 = 1 }))
unfolding first_below last_below holder first_reader live_place mapping_place work_events dependents stops
not_alone = refl

started_at_once :
    decide no_restarts K64 grouped (Startfcconsistgrp (Name (codes "fccstgrp1")) true false) None
    ≡ record {
      reply = Done;
      effects = Triggered (pair 0 0 1 ∷ pair 1 2 3 ∷ []) ∷ State (map_id 0) Copying ∷ State (map_id 1) Copying ∷ [];
      events =
          Trigger (pair 0 0 1 ∷ pair 1 2 3 ∷ []) ∷ Access (vol 1) Online ∷ Access (vol 3) Online
          ∷ Work (map_id 0) false true ∷ Work (map_id 1) false true
          ∷ [];
      changes =
          SetMapping (in_group 1 (mapping 0 (codes "fcmap0") 0 1 Copying))
          ∷ SetMapping (in_group 1 (mapping 1 (codes "fcmap1") 2 3 Copying))
          ∷ [];
    }
unfolding first_below last_below holder first_reader live_place mapping_place work_events dependents stops
started_at_once = refl

source_is_target : (decide no_restarts K64 grouped (Startfcconsistgrp (Id 2) true false) None).reply ≡ Refused (SourceIsTarget (vol 2))
unfolding first_below last_below holder first_reader live_place mapping_place work_events dependents stops
source_is_target = refl

no_such_start_empty : trigger_refusal [] ≡ Some EmptyGroup
no_such_start_empty = refl

target_twice : trigger_refusal (mapping 0 [] 0 9 IdleOrCopied ∷ mapping 1 [] 1 3 IdleOrCopied ∷ mapping 2 [] 2 9 IdleOrCopied ∷ mapping 3 [] 5 3 IdleOrCopied ∷ []) ≡ Some (TargetTwice (vol 3))
target_twice = refl

state_is_empty : group_state (with_groups (group 3 [] ∷ []) grouped).tables (record { 0 = 3 }) ≡ Empty
state_is_empty = refl

state_is_idle : group_state grouped.tables (record { 0 = 1 }) ≡ IdleOrCopied
state_is_idle = refl

members_stay :
    decide no_restarts K64 grouped (Rmfcconsistgrp (Id 1) true) None
    ≡ record {
      reply = Done;
      effects = [];
      events = [];
      changes =
          SetMapping (mapping 0 (codes "fcmap0") 0 1 IdleOrCopied) ∷ SetMapping (mapping 1 (codes "fcmap1") 2 3 IdleOrCopied)
          ∷ RemoveGroup (record { 0 = 1 })
          ∷ [];
    }
unfolding first_below last_below holder first_reader live_place mapping_place work_events dependents stops
members_stay = refl

members_need_force : (decide no_restarts K64 grouped (Rmfcconsistgrp (Id 1) false) None).reply ≡ Refused NeedsForce
unfolding first_below last_below holder first_reader live_place mapping_place work_events dependents stops
members_need_force = refl

-- ---- stops, each on the chains that the last left: X to T and X to U in a group, T to D. U stands in front of T and holds
-- grains 0 and 1, T holds grain 1, D holds grain 0. D needs T; only T needs U.

abbrev range : ℕ → ℕ → Range
range first last = record { first = first; last = last }

abbrev three_each : List Volume
three_each = volume 0 (codes "X") 3 ∷ volume 1 (codes "T") 3 ∷ volume 2 (codes "U") 3 ∷ volume 3 (codes "D") 3 ∷ []

member_by_member :
    decide no_restarts K64
    (with_groups (group 1 (codes "fccstgrp1") ∷ [])
    (books three_each
    (in_group 1 (mapping 0 (codes "fcmap0") 0 1 Copying) ∷ in_group 1 (mapping 1 (codes "fcmap1") 0 2 Copying) ∷ mapping 2 (codes "fcmap2") 1 3 Copying ∷ [])
    (record {
      births = 7;
      slots =
          slot 0 0 0 None (true ∷ true ∷ true ∷ [])
          ∷ slot 5 0 2 (Some 1) (true ∷ true ∷ false ∷ [])
          ∷ slot 4 0 1 (Some 0) (false ∷ true ∷ false ∷ [])
          ∷ slot 6 0 3 (Some 2) (true ∷ false ∷ false ∷ [])
          ∷ [];
    })
    (cleaned 0 ∷ cleaned 1 ∷ cleaned 2 ∷ [])))
    (Stopfcconsistgrp (Id 1) Plain) None
    ≡ record {
      reply = Done;
      effects =
          Cut (vol 1) (range 1 1 ∷ []) ∷ State (map_id 0) Stopping
          ∷ Cut (vol 2) (range 0 1 ∷ []) ∷ State (map_id 1) Stopped
          ∷ [];
      events =
          Retire (map_id 0) ∷ NoteCut (map_id 0) (vol 0) (vol 1) ∷ Access (vol 1) (Offline (map_id 0) Stopping)
          ∷ Detach (map_id 1) ∷ NoteCut (map_id 1) (vol 0) (vol 2) ∷ Access (vol 2) (Offline (map_id 1) Stopped)
          ∷ Work (map_id 1) false false
          ∷ [];
      changes =
          SetMapping (record (in_group 1 (mapping 0 (codes "fcmap0") 0 1 Stopping)) { held_at_leave = 1 })
          ∷ SetMapping (record (in_group 1 (mapping 1 (codes "fcmap1") 0 2 Stopped)) { held_at_leave = 2 })
          ∷ [];
    }
unfolding first_below last_below holder first_reader live_place mapping_place work_events dependents stops
member_by_member = refl

-- the force of the first member stops the second, which is then passed over: X to Y alone, then X to T and Y to U in a group.
-- T holds the grain, and Y and U read from it
passed_over :
    (decide no_restarts K64
    (with_groups (group 1 (codes "g") ∷ [])
    (books (volume 0 (codes "X") 1 ∷ volume 1 (codes "Y") 1 ∷ volume 2 (codes "T") 1 ∷ volume 3 (codes "U") 1 ∷ [])
    (in_group 1 (mapping 0 (codes "a") 0 2 Copying) ∷ in_group 1 (mapping 1 (codes "b") 1 3 Copying) ∷ mapping 2 (codes "c") 0 1 Copying ∷ [])
    (record {
      births = 7;
      slots = slot 0 0 0 None (true ∷ []) ∷ slot 5 0 2 (Some 0) (true ∷ []) ∷ slot 4 0 1 (Some 2) (false ∷ []) ∷ slot 6 0 3 (Some 1) (false ∷ []) ∷ [];
    })
    []))
    (Stopfcconsistgrp (Id 1) ByForce) None).effects
    ≡ State (map_id 0) IdleOrCopied
    ∷ Cut (vol 3) [] ∷ State (map_id 1) Stopped
    ∷ Cut (vol 1) [] ∷ State (map_id 2) Stopped
    ∷ []
unfolding first_below last_below holder first_reader live_place mapping_place work_events dependents stops
passed_over = refl
