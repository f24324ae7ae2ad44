-- A lane that follows its incremental mappings keeps standing for what it is told, after an entry.
use Rattle.std.proofs.Common.{◌≡◌, ℕ, Option, None, List, [], ◌++◌, fold, sym, ap, subst, ◌∙◌}
use Rattle.fc_alike.proofs.Lawful.{follow_law_holds}
use Rattle.fc_base.specs.declared.request.Reply.{Reply}
use Rattle.fc_base.specs.declared.request.Request.{Request}
use Rattle.fc_base.specs.declared.request.WritePart.{WritePart}
use Rattle.fc_changed.specs.Row.{Row, after_note}
use Rattle.fc_entry.specs.declared.entry.Entry.{Entry}
use Rattle.fc_follow.specs.Following.{Followed, followed_entry, rows_entry, write_notes}
use Rattle.fc_rules.specs.LaneRight.{done_write, record_of}
use Rattle.fc_rules.specs.LaneTold.{LaneTold, told_past}
use Rattle.fc_rules.specs.Rooms.{rooms_entry}
use Rattle.fc_lane.specs.Entering.{HasEntered, HasFollowed}
use Rattle.fc_lane.specs.Lane.{LaneView, IsFollowing, IsLaneOf, of}
use Rattle.fc_lane.proofs.LaneEvents.{of_same}
use Rattle.fc_steps.specs.Asking.{steps_entry}

-- ---- an entry

-- a lane that stands for what is told with the entry follows what is told with it, once it has noted it
module _ (old mid new : LaneView) (Fits : LaneTold → Type 0) (number actor : ℕ) (request : Request) (entry : Entry) (e : HasEntered old Fits number actor request entry mid)
    (noted : new ≡ record mid { changes = record mid.changes { rows = rows_entry (of mid) mid.changes.rows entry } }) where
  abbrev own : LaneView
  own = record mid { changes = record mid.changes { rows = rows_entry (of mid) mid.changes.rows entry } }

  lane_as : (told : LaneTold) → IsLaneOf mid told → IsLaneOf own told
  lane_as told s = record { parts = s.parts; faults = s.faults; calls = s.calls }

  own_follows : (f : Followed) → IsFollowing old f → Fits f.told → IsLaneOf mid (told_past (of old) f.told (record_of entry)) → IsFollowing own (followed_entry (of old) f entry)
  own_follows f i fits stands = record {
    lane = lane_as (told_past (of old) f.told (record_of entry)) stands;
    rows = λ k. rows_entry (sym (of_same old mid e.same) k) ((ap (λ z. z.rows) e.changes ∙ i.rows) k) entry;
    alike = follow_law_holds.entry (of old) f entry i.alike;
    rooms = e.rooms f.told i.lane fits ∙ ap (λ z. rooms_entry (of old) f.told.picture z entry) i.rooms;
  }

  pub entry_followed : HasFollowed old Fits number actor request entry new
  entry_followed = subst (λ (v : LaneView). HasFollowed old Fits number actor request entry v) (sym noted) (record {
    right = λ f i fits. let r = e.right f.told i.lane fits in (r.0, own_follows f i fits r.1);
    asked = e.asked;
    same = record { lane = e.same.lane; lanes = e.same.lanes; grain = e.same.grain; disks = e.same.disks; silent = e.same.silent };
    quiet = e.quiet;
    disks = e.disks;
    plan_room = e.plan_room;
  })

-- an entry for which nothing was done and nothing is to be noted
pub untouched_followed : (v : LaneView) (Fits : LaneTold → Type 0) (number actor : ℕ) (request : Request) (reply : Reply) (entry : Entry) → HasEntered v Fits number actor request entry v → done_write request reply ≡ None →
    entry ≡ steps_entry v.lane number actor request reply v.grains.faults v.grains.faults [] 0 None → HasFollowed v Fits number actor request entry v
untouched_followed v Fits number actor request reply entry e none is =
    let same : rows_entry (of v) v.changes.rows entry ≡ v.changes.rows =
    ap (rows_entry (of v) v.changes.rows) is ∙ ap (λ (o : Option WritePart). fold after_note v.changes.rows (write_notes (of v) o ++ [])) none in
    entry_followed v v v Fits number actor request entry e (ap (λ (rows : List Row). record v { changes = record v.changes { rows = rows } }) (sym same))
