-- What a command leaves on all disks, and what a stop in it finds.
use Rattle.std.specs.Prelude.{◌≡◌, ◌<◌, ◌≤◌, List, [], ◌∷◌, ◌++◌, Option, Some, None}
use Rattle.fc_base.specs.declared.command.Command.{Command}
use Rattle.fc_base.specs.declared.decision.Decision.{Decision}
use Rattle.fc_base.specs.declared.ids.VolId.{VolId}
use Rattle.fc_base.specs.declared.request.Request.TheVariants.{Command as Asked}
use Rattle.fc_base.specs.declared.request.Request.{Request}
use Rattle.fc_base.specs.declared.size.GrainSize.{GrainSize}
use Rattle.fc_books.specs.Books.{Books}
use Rattle.fc_books.specs.Deciding.{IsLoopOf, settle}
use Rattle.fc_changed.specs.Row.{Row}
use Rattle.fc_entry.specs.declared.entry.Entry.{Entry}
use Rattle.fc_imaging.specs.Imaging.{kept_of, lost_grains}
use Rattle.fc_imaging.specs.Without.{leaving_out}
use Rattle.fc_kept.specs.Actions.{actions_of_command}
use Rattle.fc_kept.specs.Disks.{NamedDisk}
use Rattle.fc_kept.specs.Images.{kept_in, meta_of}
use Rattle.fc_kept.specs.Kept.{Kept}
use Rattle.fc_kept.specs.Marks.{LeastLeft, least_by}
use Rattle.fc_kept.specs.Recoverable.{Recoverable}
use Rattle.fc_kept.specs.Sound.{IsSoundImage, IsSoundKept}
use Rattle.fc_lane.specs.Lane.{LaneView}
use Rattle.fc_lanes.specs.AllLanes.{EachLane}
use Rattle.fc_legal.specs.Steps.{Step, after_settling, decided_on, left_by, one_more}
use Rattle.fc_legal.specs.Whole.{Whole}
use Rattle.law_crash.specs.Points.{Point}
use Rattle.fc_held.specs.Held.{HoldAllOf, MatchAll}
use Rattle.law_noted.specs.Records.{removed_by}
use Rattle.law_noted.specs.Runs.{HasRun}
use Rattle.law_commanded.specs.Lanes.{HasSameDisks, HaveLanes, NoneCame, NoneWent}

-- ---- between two entries

-- A history led to what stands on the disks, the lanes stand for it, and these are the disks that the lanes hold, by metadata of which all
-- volumes are known.
pub record HasCome (grain : GrainSize) (entries : List Entry) (w : Whole) (least : List Row) (ls : List LaneView) (p : Point) : Type 0 where
  pub run : HasRun grain entries w least p
  pub lanes_are : HaveLanes grain w ls
  pub matches : MatchAll grain w.books.next_volume p.kept ls p.disks

-- ---- a command

-- What is decided of it after the settling, what that leaves, and the least rows behind it.
abbrev pub decision_on : GrainSize → Whole → Command → Option (List VolId) → Decision
decision_on grain w command loop = decided_on grain (after_settling grain w) command loop

abbrev pub left_behind : GrainSize → Whole → Command → Option (List VolId) → Whole
left_behind grain w command loop = left_by grain (after_settling grain w) (decision_on grain w command loop)

abbrev pub least_behind : GrainSize → Whole → List Row → Command → Option (List VolId) → List Row
least_behind grain w least command loop =
    least_by (after_settling grain w) (least_by w least (settle w.books)) (decision_on grain w command loop)

-- Its entry.
pub record IsCommanded (grain : GrainSize) (w : Whole) (command : Command) (loop : Option (List VolId)) (entry : Entry) : Type 0 where
  pub told : IsLoopOf grain (after_settling grain w).books command loop
  pub request_is : entry.request ≡ Asked command
  pub step : Step grain w entry (one_more (left_behind grain w command loop))

abbrev pub gone_by : GrainSize → Whole → Command → Option (List VolId) → Option VolId
gone_by grain w command loop = removed_by (decision_on grain w command loop).events

-- While it is done the lanes stand for what stood before it, for that settled, or for what it leaves; and none went of the volumes.
pub record AreLanesIn (grain : GrainSize) (w : Whole) (least : List Row) (command : Command) (old now : List LaneView) : Type 0 where
  pub for : Whole
  pub least_for : List Row
  pub leaves : LeastLeft grain w least command for least_for
  pub stand : HaveLanes grain for now
  pub none_went : NoneWent w for
  pub disks : EachLane HasSameDisks old now

-- What metadata says that is made anew: by lanes that stand for what it leaves, or for what has all volumes that are left.
abbrev pub by_lanes : Whole → List LaneView → Kept
by_lanes left ls = kept_of left (lost_grains ls left.books.tables.volumes)

pub record IsAnew (grain : GrainSize) (w : Whole) (least : List Row) (command : Command) (loop : Option (List VolId)) (kept : Kept) : Type 0 where
  pub for : Whole
  pub least_for : List Row
  pub lanes_for : List LaneView
  pub leaves : LeastLeft grain w least command for least_for
  pub stand : HaveLanes grain for lanes_for
  pub none_came : NoneCame for (left_behind grain w command loop)
  pub kept_is : kept ≡ by_lanes (left_behind grain w command loop) lanes_for

pub record CommandedLaw : Type 0 where
  -- while a command is done, what stood before it may be recovered with whatever the lanes give back
  pub before : (grain : GrainSize) (entries : List Entry) (w : Whole) (least : List Row) (command : Command) (old now : List LaneView) (p : Point) (asked : Option Request) (back : List (List NamedDisk)) →
      HasCome grain entries w least old p → w.entries < 262144 → AreLanesIn grain w least command old now → HoldAllOf w.books.next_volume now back →
      Recoverable grain back p.kept w least asked None
  -- and so may metadata that is made anew
  pub turned : (grain : GrainSize) (entries : List Entry) (w : Whole) (least : List Row) (command : Command) (loop : Option (List VolId)) (entry : Entry) →
      (old now : List LaneView) (p : Point) (kept : Kept) (back : List (List NamedDisk)) →
      HasCome grain entries w least old p → w.entries < 262144 → IsCommanded grain w command loop entry → IsAnew grain w least command loop kept →
      AreLanesIn grain w least command old now → HoldAllOf w.books.next_volume now back →
      Recoverable grain back kept w least (Some (Asked command)) None
  -- which is sound
  pub sound : (grain : GrainSize) (entries : List Entry) (w : Whole) (least : List Row) (command : Command) (loop : Option (List VolId)) (entry : Entry) →
      (old : List LaneView) (p : Point) (kept : Kept) → HasCome grain entries w least old p → w.entries < 262144 → IsCommanded grain w command loop entry →
      IsAnew grain w least command loop kept → IsSoundKept kept
  -- behind the command the disks have the names of the volumes that are left
  pub anew : (grain : GrainSize) (entries : List Entry) (w : Whole) (least : List Row) (command : Command) (loop : Option (List VolId)) (entry : Entry) →
      (old new : List LaneView) (p : Point) (kept : Kept) → let left = left_behind grain w command loop in
      HasCome grain entries w least old p → w.entries < 262144 → IsCommanded grain w command loop entry → IsAnew grain w least command loop kept →
      HaveLanes grain left new → EachLane HasSameDisks old new →
      (q : Point) × (q.kept ≡ kept) × HasCome grain (entries ++ entry ∷ []) (one_more left) (least_behind grain w least command loop) new q
  -- where it has no action metadata stays, and so do the rows and the next id
  pub unchanged : (grain : GrainSize) (entries : List Entry) (w : Whole) (least : List Row) (command : Command) (loop : Option (List VolId)) (entry : Entry) →
      (old new : List LaneView) (p : Point) → let left = left_behind grain w command loop in
      HasCome grain entries w least old p → w.entries < 262144 → IsCommanded grain w command loop entry →
      actions_of_command (settle w.books) (decision_on grain w command loop) ≡ [] → HaveLanes grain left new → EachLane HasSameDisks old new →
      (left.rows ≡ w.rows) × (left.books.next_volume ≡ w.books.next_volume)
      × HasCome grain (entries ++ entry ∷ []) (one_more left) (least_behind grain w least command loop) new p
  -- by a settling no volume comes or goes; and none goes by a command whose events take none away
  pub settled : (grain : GrainSize) (w : Whole) → (after_settling grain w).books.tables.volumes ≡ w.books.tables.volumes
  pub none_went : (grain : GrainSize) (entries : List Entry) (w : Whole) (least : List Row) (command : Command) (loop : Option (List VolId)) (entry : Entry) (old : List LaneView) (p : Point) →
      HasCome grain entries w least old p → w.entries < 262144 → IsCommanded grain w command loop entry → gone_by grain w command loop ≡ None → NoneWent w (left_behind grain w command loop)
  -- the image without a volume that is about to go says what is left
  pub without_is : (grain : GrainSize) (entries : List Entry) (w : Whole) (least : List Row) (command : Command) (loop : Option (List VolId)) (entry : Entry) (gone : VolId) →
      (old now : List LaneView) (p : Point) → let settled = after_settling grain w in
      HasCome grain entries w least old p → w.entries < 262144 → IsCommanded grain w command loop entry → gone_by grain w command loop ≡ Some gone → HaveLanes grain settled now →
      let left = left_behind grain w command loop in let image = leaving_out gone (meta_of (by_lanes settled now)) in
      (kept_in image ≡ by_lanes left now) × NoneCame settled left × IsSoundImage image
