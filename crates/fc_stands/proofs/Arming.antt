-- What is settled or decided arms no fault, but for an `armfault` that is done; and what that and a new volume do to armed faults.
use Rattle.std.proofs.Common.{◌≡◌, ℕ, ◌%◌, ◌==◌, Bool, true, false, cond, ◌&&◌, List, [], ◌∷◌, ◌++◌, fold, map, filter, flat_map, slice_index_or, Option, Some, None, Result, Ok, Err, refl, sym, ap, ◌∙◌, true≢false}
use Rattle.std.specs.Option.{option_map_or, unwrap_or}
use Rattle.std.specs.List.{All}
use Rattle.std.proofs.lemmas.List.Elements.{All-append, All-cons, All-contains, All-head, All-nil, All-tail}
use Rattle.std.proofs.lemmas.List.Sums.{fold-append}
use Rattle.fc_base.specs.States.{access_of, next_state}
use Rattle.fc_base.specs.Tables.{Tables, mapping_with, mapping_named, volume_named, group_named}
use Rattle.fc_base.specs.declared.command.Command.{Command}
use Rattle.fc_base.specs.declared.command.Command.TheVariants.{Mkvdisk, Rmvdisk, Armfault, Mkfcmap, Prestartfcmap, Startfcmap, Stopfcmap, Rmfcmap, Mkfcconsistgrp, Prestartfcconsistgrp, Startfcconsistgrp, Stopfcconsistgrp, Rmfcconsistgrp}
use Rattle.fc_base.specs.declared.command.StopWay.{StopWay}
use Rattle.fc_base.specs.declared.command.StopWay.TheVariants.{Plain, Force, Split as SplitOff}
use Rattle.fc_base.specs.declared.decision.LaneEvent.{LaneEvent}
use Rattle.fc_base.specs.declared.decision.LaneEvent.TheVariants.{Access, Arm, Detach, Drop, Forget, Make, NoteCut, Retire, Work}
use Rattle.fc_base.specs.declared.fault.Refusal.{Refusal}
use Rattle.fc_base.specs.declared.fault.Refusal.TheVariants.{RestoreLoop}
use Rattle.fc_base.specs.declared.ids.MapId.{MapId}
use Rattle.fc_base.specs.declared.ids.SlotId.{SlotId}
use Rattle.fc_base.specs.declared.ids.VolId.{VolId}
use Rattle.fc_base.specs.declared.request.Effect.TheVariants.{Cut}
use Rattle.fc_base.specs.declared.request.Reply.TheVariants.{NoMemory, Refused}
use Rattle.fc_base.specs.declared.request.Request.TheVariants.{Command as Asked}
use Rattle.fc_base.specs.declared.size.GrainSize.{GrainSize}
use Rattle.fc_base.specs.declared.state.Access.TheVariants.{Online}
use Rattle.fc_base.specs.declared.state.MapState.{MapState}
use Rattle.fc_base.specs.declared.state.MapState.TheVariants.{Copying, Stopping, Stopped, Prepared}
use Rattle.fc_base.specs.declared.volume.Group.{Group}
use Rattle.fc_base.specs.declared.volume.Mapping.{Mapping}
use Rattle.fc_base.specs.declared.volume.Volume.{Volume}
use Rattle.fc_books.specs.Accesses.{is_idle, is_stopped}
use Rattle.fc_books.specs.After.{after_deed}
use Rattle.fc_books.specs.Books.{Books, Deed, nothing, all_deeds}
use Rattle.fc_books.specs.Copies.{kept, is_whole, is_needed, dependents}
use Rattle.fc_books.specs.Deciding.{settle, decide, done, answered, replied, for_one, for_members, refused}
use Rattle.fc_books.specs.Ending.{ends_in, ends_by, goes_from, comes_to, cut_of, as_left, leaves_by}
use Rattle.fc_books.specs.Groups.{members, acts_on}
use Rattle.fc_books.specs.Making.{arm, make_volume, new_volume, remove_volume, remove_mapping}
use Rattle.fc_books.specs.Settling.{drops, settling, settles_in, finishes}
use Rattle.fc_books.specs.Starting.{prepare, start, supersedes, triggers, gives_way, begins, is_superseded}
use Rattle.fc_books.specs.Stopping.{leave_event, stop_event, stops, stops_in, stops_with, stop_dependents, stops_member, one_by_one, stop_group}
use Rattle.fc_books.specs.Work.{changes_work, cleans, copies, work_events}
use Rattle.fc_lane.specs.Lane.{ArmsNone}
use Rattle.fc_apply.specs.Parts.{ArmsNot, armed_event}
use Rattle.fc_rules.specs.LaneTold.{LaneOf}
use Rattle.fc_stands.specs.Armed.{due_after}
use Rattle.fc_stands.specs.Arming.{arms}

-- ---- events that leave armed faults

-- It arms no fault, and makes no volume.
abbrev LeavesArmed : LaneEvent → Type 0
LeavesArmed (Make volume grains kind) = ⊥
LeavesArmed (Arm volume grain calls) = ⊥
LeavesArmed event = Unit {0}

abbrev Idle : List LaneEvent → Type 0
Idle events = All LeavesArmed events

no_events : Idle []
no_events = All-nil LeavesArmed

one_event : (e : LaneEvent) → LeavesArmed e → Idle (e ∷ [])
one_event e not = All-cons LeavesArmed e [] not no_events

both : (xs ys : List LaneEvent) → Idle xs → Idle ys → Idle (xs ++ ys)
both xs ys first second = All-append LeavesArmed xs ys first second

of_each : {X : Type 0} (f : X → List LaneEvent) (xs : List X) → ((x : X) → Idle (f x)) → Idle (flat_map f xs)
of_each f [] each = no_events
of_each f (x ∷ xs) each = both (f x) (flat_map f xs) (each x) (of_each f xs each)

one_of_each : {X : Type 0} (f : X → LaneEvent) (xs : List X) → ((x : X) → LeavesArmed (f x)) → Idle (map f xs)
one_of_each f [] each = no_events
one_of_each f (x ∷ xs) each = All-cons LeavesArmed (f x) (map f xs) (each x) (one_of_each f xs each)

either : (c : Bool) (d e : Deed) → Idle d.events → Idle e.events → Idle (cond c d e).events
either true d e first second = first
either false d e first second = second

-- ---- deeds

comes_idle : (state : MapState) (m : Mapping) → Idle (comes_to state m).events
comes_idle state m = one_event _ tt

ends_in_idle : (state : MapState) (m : Mapping) → Idle (ends_in state m).events
ends_in_idle state m =
    either (m.autodelete && is_idle state) (goes_from state m) (comes_to state m)
    (All-cons LeavesArmed (Access m.target (access_of m.id state m.complete)) (Forget m.id ∷ []) tt (one_event (Forget m.id) tt)) (comes_idle state m)

ends_by_idle : (next : Result MapState Refusal) (m : Mapping) → Idle (ends_by next m).events
ends_by_idle (Ok state) m = ends_in_idle state m
ends_by_idle (Err refusal) m = no_events

cut_idle : (b : Books) (m : Mapping) → Idle (cut_of b m).events
cut_idle b m =
    either (is_whole b m) nothing record { effects = Cut m.target (kept b m) ∷ []; events = NoteCut m.id m.source m.target ∷ []; changes = [] }
    no_events (one_event (NoteCut m.id m.source m.target) tt)

leaves_idle : (next : Result MapState Refusal) (b : Books) (m : Mapping) → Idle (leaves_by next b m).events
leaves_idle next b m = both (cut_of b m).events (ends_by next (as_left b m)).events (cut_idle b m) (ends_by_idle next (as_left b m))

finishes_idle : (next : Result MapState Refusal) (b : Books) (m : Mapping) → Idle (finishes next b m).events
finishes_idle (Ok state) b m = both (Detach m.id ∷ []) (leaves_by (Ok state) b m).events (one_event (Detach m.id) tt) (leaves_idle (Ok state) b m)
finishes_idle (Err refusal) b m = no_events

settles_idle : (state : MapState) (b : Books) (m : Mapping) → Idle (settles_in state b m).events
settles_idle Copying b m = finishes_idle _ b m
settles_idle Stopping b m = ends_by_idle _ m
settles_idle state b m = no_events

settling_idle : (b : Books) → Idle (settling b).events
unfolding settling
settling_idle b =
    both (drops b.sheet.slots).events (all_deeds (λ m. settles_in m.state b m) b.tables.mappings).events
    (one_of_each (λ (slot : SlotId). Drop slot) _ (λ slot. tt))
    (of_each (λ (m : Mapping). (settles_in m.state b m).events) b.tables.mappings (λ m. settles_idle m.state b m))

-- ---- stops

leave_idle : (way : StopWay) (b : Books) (m : Mapping) → LeavesArmed (leave_event way b m)
leave_idle Plain b m = either_way (is_needed b m)
  where
    either_way : (c : Bool) → LeavesArmed (cond c (Retire m.id) (Detach m.id))
    either_way true = tt
    either_way false = tt
leave_idle Force b m = tt
leave_idle SplitOff b m = tt

stops_with_idle : (b : Books) (d : Mapping) → Idle (stops_with b d).events
stops_with_idle b d = both (cut_of b d).events (ends_in Stopped (as_left b d)).events (cut_idle b d) (ends_in_idle Stopped (as_left b d))

dependents_idle : (way : StopWay) (b : Books) (m : Mapping) → Idle (stop_dependents way b m).events
dependents_idle Force b m = of_each (λ (d : Mapping). (stops_with b d).events) (dependents b m) (stops_with_idle b)
dependents_idle way b m = no_events

stops_in_idle : (state : MapState) (way : StopWay) (b : Books) (m : Mapping) → Idle (stops_in state way b m).events
stops_in_idle Copying way b m =
    both (leave_event way b m ∷ []) _ (one_event (leave_event way b m) (leave_idle way b m))
    (both (leaves_by _ b m).events (stop_dependents way b m).events (leaves_idle _ b m) (dependents_idle way b m))
stops_in_idle Stopping way b m =
    both (leave_event Force b m ∷ []) _ (one_event (leave_event Force b m) tt)
    (both (ends_by _ m).events (stop_dependents Force b m).events (ends_by_idle _ m) (dependents_idle Force b m))
stops_in_idle state way b m = ends_by_idle (next_state state (stop_event way) m.complete false) m

stops_idle : (way : StopWay) (b : Books) (m : Mapping) → Idle (stops way b m).events
unfolding stops
stops_idle way b m = stops_in_idle m.state way b m

member_idle : (way : StopWay) (b : Books) (found : Option Mapping) → Idle (stops_member way b found).events
member_idle way b None = no_events
member_idle way b (Some m) = either (acts_on way m.state) (stops way b m) nothing (stops_idle way b m) no_events

one_by_one_idle : (deed : Books → MapId → Deed) (b : Books) (ids : List MapId) → ((b : Books) (id : MapId) → Idle (deed b id).events) → Idle (one_by_one (λ m. []) deed b ids).events
one_by_one_idle deed b [] each = no_events
one_by_one_idle deed b (id ∷ ids) each =
    both (deed b id).events (one_by_one (λ m. []) deed (after_deed (λ m. []) b (deed b id)) ids).events (each b id)
    (one_by_one_idle deed (after_deed (λ m. []) b (deed b id)) ids each)

stop_group_idle : (way : StopWay) (b : Books) (maps : List Mapping) → Idle (stop_group way b maps).events
stop_group_idle way b maps =
    one_by_one_idle (λ books id. stops_member way books (mapping_with books.tables id)) b (map (λ (m : Mapping). m.id) maps)
    (λ books id. member_idle way books (mapping_with books.tables id))

-- ---- starts

supersedes_idle : (t : Tables) (maps : List Mapping) → Idle (supersedes t maps).events
supersedes_idle t maps = of_each (λ (s : Mapping). (gives_way s).events) (filter (is_superseded maps) t.mappings) (λ s. no_events)

begins_idle : (state : MapState) (restore : Bool) (maps : List Mapping) → Idle (all_deeds (begins state restore) maps).events
begins_idle state restore maps = of_each (λ (m : Mapping). (begins state restore m).events) maps (λ m. comes_idle state (record m { restoring = restore }))

prepare_idle : (restore : Bool) (t : Tables) (maps : List Mapping) → Idle (prepare restore t maps).events
prepare_idle restore t maps = both (supersedes t maps).events _ (supersedes_idle t maps) (begins_idle Prepared restore maps)

start_idle : (prep restore : Bool) (t : Tables) (maps : List Mapping) → Idle (start prep restore t maps).events
start_idle prep restore t maps =
    both (cond prep (supersedes t maps) nothing).events _ (either prep (supersedes t maps) nothing (supersedes_idle t maps) no_events)
    (both (triggers maps).events _ (one_event _ tt) (begins_idle Copying restore maps))

-- ---- objects that go

remove_idle : (m : Mapping) → Idle (remove_mapping m).events
remove_idle m = both _ (Forget m.id ∷ []) (online (is_stopped m.state)) (one_event (Forget m.id) tt)
  where
    online : (c : Bool) → Idle (cond c (Access m.target Online ∷ []) [])
    online true = one_event (Access m.target Online) tt
    online false = no_events

-- ---- commands

for_one_idle : (X : Type 0) (found : Option X) (deed : X → Deed) → ((x : X) → Idle (deed x).events) → Idle (for_one found deed).events
for_one_idle X None deed each = no_events
for_one_idle X (Some x) deed each = each x

for_members_idle : (t : Tables) (found : Option Group) (deed : List Mapping → Deed) → ((maps : List Mapping) → Idle (deed maps).events) → Idle (for_members t found deed).events
for_members_idle t None deed each = no_events
for_members_idle t (Some g) deed each = each (members t g.id)

-- Commands that neither make a volume nor arm a fault.
abbrev IsOther : Command → Type 0
IsOther (Mkvdisk name size unit thin) = ⊥
IsOther (Armfault volume number calls) = ⊥
IsOther command = Unit {0}

done_idle : (grain : GrainSize) (b : Books) (command : Command) → IsOther command → Idle (done grain b command).events
done_idle grain b (Mkvdisk name size unit thin) other = absurd other
done_idle grain b (Rmvdisk volume) other = for_one_idle Volume (volume_named b.tables volume) remove_volume (λ v. one_event _ tt)
done_idle grain b (Armfault volume number calls) other = absurd other
done_idle grain b (Mkfcmap source target name group copy_rate clean_rate grain_size incremental autodelete) unarmed =
    for_one_idle Volume (volume_named b.tables source) _ (λ s. for_one_idle Volume (volume_named b.tables target) _ (λ t. no_events))
done_idle grain b (Prestartfcmap m restore) other = for_one_idle Mapping (mapping_named b.tables m) _ (λ found. prepare_idle restore b.tables (found ∷ []))
done_idle grain b (Startfcmap m prep restore) other = for_one_idle Mapping (mapping_named b.tables m) _ (λ found. start_idle prep restore b.tables (found ∷ []))
done_idle grain b (Stopfcmap m way) other = for_one_idle Mapping (mapping_named b.tables m) (stops way b) (λ found. stops_idle way b found)
done_idle grain b (Rmfcmap m force) other = for_one_idle Mapping (mapping_named b.tables m) remove_mapping (λ found. remove_idle found)
done_idle grain b (Mkfcconsistgrp name) other = no_events
done_idle grain b (Prestartfcconsistgrp group restore) other = for_members_idle b.tables (group_named b.tables group) (prepare restore b.tables) (prepare_idle restore b.tables)
done_idle grain b (Startfcconsistgrp group prep restore) other = for_members_idle b.tables (group_named b.tables group) (start prep restore b.tables) (start_idle prep restore b.tables)
done_idle grain b (Stopfcconsistgrp group way) other = for_members_idle b.tables (group_named b.tables group) (stop_group way b) (stop_group_idle way b)
done_idle grain b (Rmfcconsistgrp group force) other = for_one_idle Group (group_named b.tables group) _ (λ g. no_events)
done_idle grain b command other = no_events

work_idle : (b : Books) → Idle (work_events b)
unfolding work_events
work_idle b = one_of_each (λ (m : Mapping). Work m.id (copies b m) (cleans b m)) (filter (changes_work b) b.tables.mappings) (λ m. tt)

-- ---- no fault is armed

arms_not : (e : LaneEvent) → LeavesArmed e → ArmsNot e
arms_not (Make volume grains kind) leaves = tt
arms_not (Arm volume grain calls) leaves = leaves
arms_not event leaves = tt

abbrev Unarmed : List LaneEvent → Type 0
Unarmed events = All ArmsNot events

idle_unarmed : (events : List LaneEvent) → Idle events → Unarmed events
idle_unarmed events idle = λ k e inside. arms_not (slice_index_or events k e) (idle k e inside)

done_unarmed : (sets : ℕ → List Bool) (grain : GrainSize) (b : Books) (command : Command) → arms (Asked command) (replied grain b command) ≡ false →
    Unarmed ((done grain b command).events ++ work_events (after_deed sets b (done grain b command)))
done_unarmed sets grain b (Mkvdisk name size unit thin) unarmed =
    let v : Volume = new_volume grain b name size unit thin in
    let work : List LaneEvent = work_events (after_deed sets b (make_volume v)) in
    All-cons ArmsNot (Make v.id v.grains v.kind) work tt (idle_unarmed work (work_idle (after_deed sets b (make_volume v))))
done_unarmed sets grain b (Armfault volume number calls) unarmed = absurd (true≢false unarmed)
done_unarmed sets grain b command unarmed =
    let work : List LaneEvent = work_events (after_deed sets b (done grain b command)) in
    idle_unarmed ((done grain b command).events ++ work)
    (both (done grain b command).events work (done_idle grain b command tt) (work_idle (after_deed sets b (done grain b command))))

answered_unarmed : (sets : ℕ → List Bool) (grain : GrainSize) (b : Books) (command : Command) (refusal : Option Refusal) (loop : Option (List VolId)) →
    arms (Asked command) (answered sets grain b command refusal loop).reply ≡ false → Unarmed (answered sets grain b command refusal loop).events
answered_unarmed sets grain b command (Some refusal) loop unarmed = idle_unarmed (work_events (after_deed sets b nothing)) (work_idle (after_deed sets b nothing))
answered_unarmed sets grain b command None (Some volumes) unarmed = idle_unarmed (work_events (after_deed sets b nothing)) (work_idle (after_deed sets b nothing))
answered_unarmed sets grain b command None None unarmed = done_unarmed sets grain b command unarmed

arms_none : (events : List LaneEvent) → Unarmed events → ArmsNone events
arms_none events all volume grain calls there = All-contains ArmsNot events (Arm volume grain calls) all there

pub settling_arms : (b : Books) → ArmsNone (settle b).events
settling_arms b = arms_none (settle b).events (idle_unarmed (settle b).events (settling_idle b))

pub command_arms : (sets : ℕ → List Bool) (grain : GrainSize) (b : Books) (command : Command) (loop : Option (List VolId)) →
    arms (Asked command) (decide sets grain b command loop).reply ≡ false → ArmsNone (decide sets grain b command loop).events
command_arms sets grain b command loop unarmed =
    arms_none (decide sets grain b command loop).events (answered_unarmed sets grain b command (refused grain b command) loop unarmed)

-- A command for which memory was wanted arms nothing.
pub starved_arms : (command : Command) → arms (Asked command) NoMemory ≡ false
starved_arms (Armfault volume number calls) = refl
starved_arms command = refl

-- ---- what becomes of an armed fault

module _ (l : LaneOf) (id : ℕ) where
  event_leaves : (n : ℕ) (e : LaneEvent) → LeavesArmed e → armed_event l id n e ≡ n
  event_leaves n (Make volume grains kind) leaves = absurd leaves
  event_leaves n (Arm volume grain calls) leaves = absurd leaves
  event_leaves n event leaves = refl

  idle_leaves : (n : ℕ) (events : List LaneEvent) → Idle events → fold (armed_event l id) n events ≡ n
  idle_leaves n [] idle = refl
  idle_leaves n (e ∷ es) idle =
      ap (λ (m : ℕ). fold (armed_event l id) m es) (event_leaves n e (All-head LeavesArmed e es idle)) ∙ idle_leaves n es (All-tail LeavesArmed e es idle)

  -- First these events, and then such as leave it.
  then_idle : (n : ℕ) (events work : List LaneEvent) → Idle work → fold (armed_event l id) n (events ++ work) ≡ fold (armed_event l id) n events
  then_idle n events work idle = fold-append (armed_event l id) n events work ∙ idle_leaves (fold (armed_event l id) n events) work idle

  pub settling_leaves : (n : ℕ) (b : Books) → fold (armed_event l id) n (settle b).events ≡ n
  settling_leaves n b = idle_leaves n (settle b).events (settling_idle b)

  -- Set where this holds, or left.
  if_set : (b : Bool) (calls n : ℕ) → cond b calls n ≡ unwrap_or (cond b (Some calls) None) n
  if_set true calls n = refl
  if_set false calls n = refl

  neither : (a : Bool) (calls n : ℕ) → n ≡ unwrap_or (cond (a && false) (Some calls) None) n
  neither true calls n = refl
  neither false calls n = refl

  arm_sets : (n number calls : ℕ) (found : Option Volume) →
      fold (armed_event l id) n (for_one found (λ v. arm v number calls)).events
      ≡ unwrap_or (cond ((number % l.lanes == l.lane) && option_map_or (λ (v : Volume). v.id.0 == id) found false) (Some calls) None) n
  arm_sets n number calls None = neither (number % l.lanes == l.lane) calls n
  arm_sets n number calls (Some v) = if_set ((number % l.lanes == l.lane) && (v.id.0 == id)) calls n

  done_sets : (n : ℕ) (grain : GrainSize) (b : Books) (command : Command) → fold (armed_event l id) n (done grain b command).events ≡ due_after b.tables l command (replied grain b command) id n
  done_sets n grain b (Mkvdisk name size unit thin) = if_set (b.next_volume == id) 0 n
  done_sets n grain b (Armfault volume number calls) = arm_sets n number calls (volume_named b.tables volume)
  done_sets n grain b command = idle_leaves n (done grain b command).events (done_idle grain b command tt)

  refused_leaves : (t : Tables) (command : Command) (refusal : Refusal) (n : ℕ) → due_after t l command (Refused refusal) id n ≡ n
  refused_leaves t (Mkvdisk name size unit thin) refusal n = refl
  refused_leaves t (Armfault volume number calls) refusal n = refl
  refused_leaves t command refusal n = refl

  pub starved_leaves : (t : Tables) (command : Command) (n : ℕ) → due_after t l command NoMemory id n ≡ n
  starved_leaves t (Mkvdisk name size unit thin) n = refl
  starved_leaves t (Armfault volume number calls) n = refl
  starved_leaves t command n = refl

  answered_sets : (sets : ℕ → List Bool) (n : ℕ) (grain : GrainSize) (b : Books) (command : Command) (refusal : Option Refusal) (loop : Option (List VolId)) →
      fold (armed_event l id) n (answered sets grain b command refusal loop).events ≡ due_after b.tables l command (answered sets grain b command refusal loop).reply id n
  answered_sets sets n grain b command (Some refusal) loop =
      idle_leaves n (work_events (after_deed sets b nothing)) (work_idle (after_deed sets b nothing)) ∙ sym (refused_leaves b.tables command refusal n)
  answered_sets sets n grain b command None (Some volumes) =
      idle_leaves n (work_events (after_deed sets b nothing)) (work_idle (after_deed sets b nothing)) ∙ sym (refused_leaves b.tables command (RestoreLoop volumes) n)
  answered_sets sets n grain b command None None =
      then_idle n (done grain b command).events (work_events (after_deed sets b (done grain b command))) (work_idle (after_deed sets b (done grain b command))) ∙ done_sets n grain b command

  -- It is what the reply of a command says.
  pub command_sets : (sets : ℕ → List Bool) (n : ℕ) (grain : GrainSize) (b : Books) (command : Command) (loop : Option (List VolId)) →
      fold (armed_event l id) n (decide sets grain b command loop).events ≡ due_after b.tables l command (decide sets grain b command loop).reply id n
  command_sets sets n grain b command loop = answered_sets sets n grain b command (refused grain b command) loop
