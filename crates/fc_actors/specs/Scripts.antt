-- What is left of an actor's script, and when it suits a store.
use Rattle.std.specs.Prelude.{◌≡◌, ℕ, suc, ◌-◌, ◌%◌, ◌<◌, ◌≤◌, false, cond, nat_lt, List, [], ◌∷◌, map, flat_map, length, vec_capacity, All}
use Rattle.std.specs.List.{range_with_len}
use Rattle.fc_base.specs.declared.command.Command.{Command}
use Rattle.fc_base.specs.declared.command.Command.TheVariants.{Armfault}
use Rattle.fc_base.specs.declared.request.Request.{Request}
use Rattle.fc_base.specs.declared.request.Request.TheVariants.{Command as Asked}
use Rattle.fc_base.specs.declared.size.GrainSize.{GrainSize}
use Rattle.fc_entry.specs.declared.entry.Entry.{Entry}
use Rattle.fc_lane.specs.Lane.{LaneView, IsReady}
use Rattle.fc_legal.specs.Whole.{lanes}
use Rattle.fc_shares.specs.Situation.{Situation, HasLane, IsSound, LeadsTo, entries_told}
use Rattle.fc_stands.specs.Apart.{IsRefusalOf}
use Rattle.fc_stands.specs.Phase.{IsDecided}
use Rattle.fc_stands.specs.Store.{StoreView}
use Rattle.fc_store.specs.StoreParts.{parts_view}
use Rattle.fc_store.specs.declared.store_part.StorePart.{StorePart}
use Rattle.fc_store.specs.declared.store_part.StorePart.TheVariants.{Control, Lane}
use Rattle.fc_tasks.specs.declared.script.Needs.{Needs}
use Rattle.fc_tasks.specs.declared.script.Needs.TheVariants.{Part, All as AllParts, Nothing}
use Rattle.fc_yard.specs.Whole.{OpensWith}
use Rattle.law_volumes.specs.Law.{is_of_volumes}
use Rattle.fc_actors.specs.Shares.{HasShare}
use Rattle.fc_actors.specs.Spans.{IsSpanOf, span_left, turn_of}
use Rattle.fc_actors.specs.declared.script.ActorScript.{ActorScript}
use Rattle.fc_actors.specs.declared.script.Item.{Item}
use Rattle.fc_actors.specs.declared.script.Item.TheVariants.{Access, Refused, Command as Whole_command}
use Rattle.fc_actors.specs.declared.script.Left.{Left}
use Rattle.fc_actors.specs.declared.script.Left.TheVariants.{Lines, Turns}

-- ---- what is left

abbrev pub item_left : GrainSize → Item → List Request
item_left grain (Access span) = span_left grain span
item_left grain (Refused request refusal) = request ∷ []
item_left grain (Whole_command command) = Asked command ∷ []

abbrev pub work_left : GrainSize → ℕ → Left → List Request
work_left grain lanes (Lines items) = flat_map (item_left grain) items.items
work_left grain lanes (Turns cleans next turns) = map (λ k. turn_of cleans (k % lanes)) (range_with_len next (turns - next))

abbrev pub left_of : {D : Type 0} → ActorScript D → List Request
left_of s = work_left s.grain s.lanes s.work

-- ---- what it needs

abbrev pub item_needs : ℕ → List Item → Needs
item_needs lanes [] = Nothing
item_needs lanes (Access span ∷ items) = Part (suc (span.next % lanes))
item_needs lanes (Refused request refusal ∷ items) = Part 0
item_needs lanes (Whole_command command ∷ items) = AllParts

abbrev pub work_needs : ℕ → Left → Needs
work_needs lanes (Lines items) = item_needs lanes items.items
work_needs lanes (Turns cleans next turns) = cond (nat_lt next turns) (Part (suc (next % lanes))) Nothing

abbrev pub needs_of : {D : Type 0} → ActorScript D → Needs
needs_of s = work_needs s.lanes s.work

-- Room for the next entry, where a lane makes it.
abbrev pub HasRoom : {D : Type 0} → StorePart D → Type 0
HasRoom (Control c) = Unit {0}
HasRoom (Lane v) = IsReady v

-- ---- when it suits a store

-- A command that is no access and no preset, makes and removes no volume, and arms no fault.
pub record IsOfBlock (command : Command) : Type 0 where
  pub decided : IsDecided command
  pub no_volume : is_of_volumes command ≡ false
  pub no_fault : (volume : _) (grain calls : ℕ) → command ≡ Armfault volume grain calls → ⊥

abbrev pub ItemSuits : Situation → Item → Type 0
ItemSuits s (Access span) = IsSpanOf s span
ItemSuits s (Refused request refusal) = IsRefusalOf s.grain s.whole request refusal
ItemSuits s (Whole_command command) = IsOfBlock command

abbrev pub WorkSuits : Situation → Left → Type 0
WorkSuits s (Lines items) = All (ItemSuits s) items.items
WorkSuits s (Turns cleans next turns) = Unit {0}

-- The entry answers the next of what is left, and the rest suits whatever all of it suited.
pub record Goes {D : Type 0} (s : ActorScript D) (e : Entry) (next : ActorScript D) : Type 0 where
  pub asked : left_of s ≡ e.request ∷ left_of next
  pub actor : e.actor ≡ s.actor
  pub same : next.actor ≡ s.actor
  pub number : e.number ≡ 0
  pub work : (t : Situation) → WorkSuits t s.work → WorkSuits t next.work

-- Beside what is left it stays.
pub record IsSameScript {D : Type 0} (old new : ActorScript D) : Type 0 where
  pub actor : new.actor ≡ old.actor
  pub grain : new.grain ≡ old.grain
  pub lanes : new.lanes ≡ old.lanes
  pub tray : new.tray ≡ old.tray
  pub work : (s : Situation) → WorkSuits s old.work → WorkSuits s new.work

-- By what was told first: the same grain size, as many lanes, and each request suits.
pub record FitsFirst {D : Type 0} (first : Situation) (script : ActorScript D) : Type 0 where
  pub grain : first.grain ≡ script.grain
  pub lanes_are : lanes first.whole ≡ script.lanes
  pub work : WorkSuits first script.work

-- The next request can be done in the lane.
pub record CanActIn {D : Type 0} (script : ActorScript D) (v : LaneView) : Type 0 where
  pub first : Situation
  pub s : Situation
  pub i : ℕ
  pub opening : LaneView
  pub sound : IsSound first s
  pub has : HasLane s i opening v
  pub fits : FitsFirst first script
  pub needs : needs_of script ≡ Part (suc i)

-- The parts are those of a store of so many lanes, over which the script was made, and whatever they stand for, it can be done.
pub record Suits {D : Type 0} (s : ActorScript D) (parts : List (StorePart D)) (limit : ℕ) : Type 0 where
  pub store : StoreView
  pub parts_are : parts ≡ parts_view store
  pub count : length store.lanes ≡ s.lanes
  pub some : 0 < s.lanes
  pub lanes_are : All (λ (v : LaneView). v.lanes ≡ s.lanes) store.lanes
  pub grain : store.control.grain ≡ s.grain
  pub few : limit ≤ 262144
  pub tray : (s.tray.items ≡ []) × (s.lanes ≤ vec_capacity s.tray)
  pub work : (first : ℕ) (w0 : Situation) →
      OpensWith {E = Entry} {P = StorePart D} (λ opening w p part. HasShare opening w p part) (λ a b. IsSound a b) entries_told (λ a n e b. LeadsTo a n e b) parts first w0 → WorkSuits w0 s.work
