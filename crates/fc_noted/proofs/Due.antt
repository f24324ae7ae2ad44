-- The record that is due of an entry under way is put.
use Rattle.std.proofs.Common.{◌≡◌, ℕ, ◌≤◌, true, Option, Some, None, List, [], ◌∷◌, ◌++◌, refl, subst, ◌∙◌}
use Rattle.std.specs.Prelude.{Err, Result}
use Rattle.fc_base.specs.declared.size.GrainSize.{GrainSize}
use Rattle.fc_changed.specs.Row.{Row}
use Rattle.fc_entry.specs.HistoryState.{HistoryState}
use Rattle.fc_held.specs.Held.{MatchAll}
use Rattle.fc_image.specs.declared.image.MetaImage.{MetaImage}
use Rattle.fc_image.specs.declared.record.MetaRecord.{MetaRecord}
use Rattle.fc_kept.specs.Actions.{Action.Note}
use Rattle.fc_kept.specs.Images.{kept_in}
use Rattle.fc_kept.specs.Kept.{kept_after}
use Rattle.fc_kept.specs.Sound.{IsSoundImage}
use Rattle.fc_legal.specs.Whole.{Whole}
use Rattle.fc_marks.specs.Meter.{IsCutShort, IsMetered, Meter, with_record}
use Rattle.fc_marks.specs.declared.error.NotedStop.{NotedStop}
use Rattle.fc_marks.specs.declared.error.NotedStop.TheVariants.{LogFull}
use Rattle.fc_meta.specs.Answers.{LeavesEither, found_with, more_calls}
use Rattle.fc_meta.specs.States.{IsResting, found, room_of}
use Rattle.fc_meta.specs.declared.meta.Meta.{Meta}
use Rattle.fc_metadisk.specs.Disk.{LeavesOnly}
use Rattle.fc_noted.proofs.CallsMade.{any_metadata}
use Rattle.fc_noted.proofs.Fitting.{IsFit, due_fits}
use Rattle.fc_noted.proofs.InHand.{in_hand, put_recovered}
use Rattle.fc_noted.proofs.Metering.{put_so}
use Rattle.fc_noted.proofs.MeteringNoted.{goes_into_record, so_far_put}
use Rattle.fc_noted.proofs.Putting.{put_doing, put_keeps, way_leaves, way_stopped}
use Rattle.fc_noted.proofs.Stepping.{way_goes, way_stops}
use Rattle.fc_noted.specs.Making.{CountsInto, WayMade, done}
use Rattle.fc_noted.specs.Metered.{Acted}
use Rattle.fc_noted.specs.Noted.{IsDoing}
use Rattle.fc_noted.specs.Stopping.{HasStopped, LeavesRecoverable, MayBeRecovered}
use Rattle.fc_noted.specs.declared.noted.Noted.{Noted}
use Rattle.fc_noted.specs.declared.noted.UnderWay.{UnderWay}
use Rattle.fc_steps.specs.Asking.{request_of}
use Rattle.fc_store.specs.Stepping.{lane_in}
use Rattle.law_crash.specs.Doing.{noted}
use Rattle.law_noted.proofs.HandOn.{put}
use Rattle.law_noted.specs.Came.{steps_done}
use Rattle.law_noted.specs.DataSteps.{IsInHand}
use Rattle.law_noted.specs.Records.{kept_by}

module _ {C D : Type 0} (seen : D → List ℕ) (may_leave : D → List ℕ → Type 0) (moment : D → ℕ) (left_since : D → ℕ → List ℕ → Type 0) (disk_calls : D → ℕ) (counts_now : (disk : D) (t : ℕ) (c : List ℕ) → t ≤ moment disk → may_leave disk c → left_since disk t c)
    (n : Noted C D) (way : UnderWay) (x : MetaRecord) (due : way.due ≡ Some x) (live : n.live ≡ true) (meta : Meta D) (calls : ℕ)
    (counted : (m : Meter) → IsMetered seen n.meta m → n.calls ≡ more_calls m.calls 0 → calls ≡ more_calls (with_record (room_of seen n.meta) x m).calls 0)
    (run : LeavesOnly moment left_since n.meta.disk meta.disk (LeavesEither (found seen n.meta) (found_with (found seen n.meta) (x ∷ [])))) where
  abbrev old : Noted C D
  old = record n { under_way = Some way }

  abbrev way_new : UnderWay
  way_new = record { place = way.place; doing = way.doing; due = None }

  abbrev new : Noted C D
  new = record n { meta = meta; calls = calls; under_way = Some (record { place = way.place; doing = way.doing; due = None }) }

  -- behind an error
  abbrev left : Noted C D
  left = record n { meta = meta; calls = calls }

  abbrev Puts : Type 0
  Puts = (m : Meter) → IsMetered seen n.meta m → IsMetered seen meta (with_record (room_of seen n.meta) x m)

  module _ (history : HistoryState) (w : Whole) (least : List Row) (d : IsDoing seen may_leave (record n { under_way = Some way }) way history w least) where
    abbrev grain : GrainSize
    grain = d.begun.control.grain

    hand : IsInHand d.begun.control.grain w least way.place way.doing (lane_in d.begun way.place) (lane_in n.store way.place) d.steps d.before (Some x) d.point
    hand =
        subst (λ (o : Option MetaRecord). IsInHand grain w least way.place way.doing (lane_in d.begun way.place) (lane_in n.store way.place) d.steps d.before o d.point) due
        (in_hand seen may_leave old way history w least d)

    fit : IsFit d.point.kept x
    fit = due_fits grain w least way.place way.doing (lane_in d.begun way.place) (lane_in n.store way.place) d.steps d.before x d.point hand

    with_it : (image : MetaImage) → IsSoundImage image → kept_in image ≡ kept_after d.point.kept x → MayBeRecovered d.begun.control.grain n.script n.named n.store.lanes w least image
    with_it image = put_recovered seen may_leave old way history w least d x image due

    -- what it costs
    acted : Acted d.begun.control.grain (request_of way.doing.steps.ask) d.steps (steps_done way.doing.steps) way.doing.steps.stop None d.before.kept.rows (noted x d.point).kept.rows (d.counts.actions ++ Note x ∷ [])
    acted =
        put_so grain (request_of way.doing.steps.ask) d.steps (steps_done way.doing.steps) way.doing.steps.stop x d.before.kept.rows d.point.kept.rows d.counts.actions
        (subst (λ (o : Option MetaRecord). Acted grain (request_of way.doing.steps.ask) d.steps (steps_done way.doing.steps) way.doing.steps.stop o d.before.kept.rows d.point.kept.rows d.counts.actions) due d.counts.acted)

    -- it goes on
    due_doing : IsResting seen may_leave meta → found seen meta ≡ found_with (found seen n.meta) (x ∷ []) → room_of seen meta ≡ room_of seen n.meta → Puts → IsDoing seen may_leave new way_new history w least
    due_doing rests says size metered =
        let after = put grain w least way.place way.doing (lane_in d.begun way.place) (lane_in n.store way.place) d.steps d.before x d.point hand in
        let matches : MatchAll grain n.named (kept_by (Some x) d.point.kept) n.store.lanes d.point.disks =
        subst (λ (o : Option MetaRecord). MatchAll grain n.named (kept_by o d.point.kept) n.store.lanes d.point.disks) due d.keeps.matches in
        put_doing seen may_leave old way history w least x meta calls n.marks d after.0
        (put_keeps seen may_leave grain old new w way.due d.point x d.keeps fit rests says refl (after.1 ∙ d.keeps.rows) d.keeps.volumes matches)
        (so_far_put seen may_leave grain old new way way_new history.entries w d.steps d.before.kept.rows d.point.kept.rows (noted x d.point).kept.rows d.counts x acted size metered counted)

    due_leaves : (next : Option UnderWay) → LeavesOnly moment left_since n.meta.disk meta.disk (LeavesRecoverable old (record n { meta = meta; calls = calls; under_way = next }) w least)
    due_leaves = way_leaves seen may_leave n way history w least d x fit with_it moment left_since counts_now meta calls n.marks run

    -- or it stopped
    due_stops : HasStopped may_leave old left w least
    due_stops = way_stopped seen may_leave n way history w least d x fit with_it moment left_since counts_now meta calls n.marks run

    -- what is asked for goes so far into metadata
    due_into : (stop : NotedStop) → IsCutShort seen disk_calls stop n.meta meta (with_record (room_of seen n.meta) x) → CountsInto seen disk_calls stop old left history w
    due_into stop = goes_into_record seen may_leave old left way history w least d disk_calls stop x (steps_done way.doing.steps) way.doing.steps.stop None acted.so_far counted

  pub due_made : IsResting seen may_leave meta → found seen meta ≡ found_with (found seen n.meta) (x ∷ []) → room_of seen meta ≡ room_of seen n.meta → Puts → (history : HistoryState) →
      WayMade seen may_leave moment left_since disk_calls done n way new history history
  due_made rests says size metered =
      way_goes seen may_leave moment left_since disk_calls n new way (λ history w least d. due_leaves history w least d (Some way_new)) way_new live refl refl refl (λ history w least d. due_doing history w least d rests says size metered)

  pub due_failed : (result : Result (Unit {0}) NotedStop) (given stop : NotedStop) → result ≡ Err given → given ≡ stop → (stop ≡ LogFull → ⊥) →
      IsCutShort seen disk_calls stop n.meta meta (with_record (room_of seen n.meta) x) → (history : HistoryState) → WayMade seen may_leave moment left_since disk_calls result n way left history history
  due_failed result given stop e same other short =
      way_stops seen may_leave moment left_since disk_calls n left way (λ history w least d. due_leaves history w least d n.under_way) result given stop e same other due_stops
      (λ history. any_metadata stop (λ w least d. due_into history w least d stop short))
