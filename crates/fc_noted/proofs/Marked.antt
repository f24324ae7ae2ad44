-- A write that is next of an entry under way is marked.
use Rattle.std.proofs.Common.{◌≡◌, ℕ, ◌≤◌, Bool, true, Option, Some, None, List, [], ◌∷◌, ◌++◌, refl, sym, ap, subst, ◌∙◌, Vec, Global}
use Rattle.std.specs.List.{list_any}
use Rattle.std.specs.Prelude.{Err, Result}
use Rattle.fc_base.specs.declared.ids.GrainNo.{GrainNo}
use Rattle.fc_base.specs.declared.ids.VolId.{VolId}
use Rattle.fc_base.specs.declared.request.WritePart.{WritePart}
use Rattle.fc_base.specs.declared.size.GrainSize.{GrainSize}
use Rattle.fc_changed.specs.Row.{Row}
use Rattle.fc_entry.specs.HistoryState.{HistoryState}
use Rattle.fc_format.specs.Halves.{recovered}
use Rattle.fc_held.specs.Held.{MatchAll}
use Rattle.fc_image.specs.declared.image.MetaImage.{MetaImage}
use Rattle.fc_image.specs.declared.record.MetaRecord.{MetaRecord}
use Rattle.fc_image.specs.declared.record.MetaRecord.TheVariants.{Changing}
use Rattle.fc_kept.specs.Actions.{Action.Note, is_unmarked}
use Rattle.fc_kept.specs.Disks.{NamedDisk}
use Rattle.fc_kept.specs.Images.{kept_in}
use Rattle.fc_kept.specs.Kept.{Kept, kept_after, rows_kept}
use Rattle.fc_kept.specs.Sound.{IsSoundImage}
use Rattle.fc_lane.specs.Lane.{LaneView}
use Rattle.fc_legal.specs.Whole.{Whole}
use Rattle.fc_marks.specs.Marks.{is_open_any, marked}
use Rattle.fc_marks.specs.Meter.{IsCutShort, IsMetered, Meter, with_record}
use Rattle.fc_marks.specs.declared.error.NotedStop.{NotedStop}
use Rattle.fc_marks.specs.declared.error.NotedStop.TheVariants.{LogFull, NoMemory as WantsMemory}
use Rattle.fc_marks.specs.declared.marks.Mark.{Mark}
use Rattle.fc_meta.specs.Answers.{LeavesEither, found_with, more_calls}
use Rattle.fc_meta.specs.States.{IsResting, found, room_of}
use Rattle.fc_meta.specs.declared.meta.Meta.{Meta}
use Rattle.fc_metadisk.specs.Disk.{LeavesOnly}
use Rattle.fc_noted.proofs.CallsMade.{any_metadata}
use Rattle.fc_noted.proofs.Data.{acted_none, hand_none, rows_are}
use Rattle.fc_noted.proofs.Fitting.{IsFit, mark_fits}
use Rattle.fc_noted.proofs.InHand.{doing_counted, mark_recovered}
use Rattle.fc_noted.proofs.MeteringHand.{marked_so}
use Rattle.fc_noted.proofs.MeteringNoted.{goes_into_record, so_far_put}
use Rattle.fc_noted.proofs.Moments.{doing_found, hold_either, still_leaves}
use Rattle.fc_noted.proofs.Putting.{put_doing, put_keeps, way_leaves, way_stopped}
use Rattle.fc_noted.proofs.Stepping.{way_goes, way_stops}
use Rattle.fc_noted.specs.Making.{CountsInto, WayMade, done}
use Rattle.fc_noted.specs.Metered.{Acted}
use Rattle.fc_noted.specs.Noted.{IsDoing}
use Rattle.fc_noted.specs.Stopping.{HasStopped, LeavesRecoverable, MayBeRecovered}
use Rattle.fc_noted.specs.declared.noted.Noted.{Noted}
use Rattle.fc_noted.specs.declared.noted.UnderWay.{UnderWay}
use Rattle.fc_steps.specs.Asking.{request_of}
use Rattle.fc_steps.specs.UnderWay.{next_of}
use Rattle.fc_steps.specs.declared.stepping.Next.TheVariants.{Own}
use Rattle.fc_store.specs.Stepping.{lane_in}
use Rattle.law_crash.specs.Doing.{noted}
use Rattle.law_noted.proofs.HandOn.{is_wanted, put_mark}
use Rattle.law_noted.proofs.Marking.{row_law_holds}
use Rattle.law_noted.specs.Came.{steps_done}
use Rattle.law_noted.specs.DataSteps.{IsInHand}
use Rattle.law_noted.specs.Records.{kept_by}

-- ---- whether it is wanted

-- by the rows and the marks that are seen
pub wants_is : (rows lane_rows : List Row) (marks ms : List Mark) (v : VolId) (g : GrainNo) (place : ℕ) (b : Bool) → rows ≡ lane_rows → marks ≡ ms → b ≡ is_open_any rows marks v g place → b ≡ true →
    is_open_any lane_rows ms v g place ≡ true
wants_is rows lane_rows marks ms v g place b er em eb e = (λ i. is_open_any (sym er i) (sym em i) v g place) ∙ (sym eb ∙ e)

-- ---- it is put

-- a mark leaves what is lost
matches_mark : (grain : GrainSize) (named : ℕ) (k : Kept) (part : WritePart) (g : ℕ) (lanes : List LaneView) (ds : List (List NamedDisk)) → MatchAll grain named k lanes ds →
    MatchAll grain named (kept_after k (Changing part.volume record { 0 = g })) lanes ds
matches_mark grain named k part g lanes ds m =
    record { count = m.count; each = λ i d il. let x = m.each i d il in record { once = x.once; there = x.there; none = x.none; free = x.free; bytes = x.bytes } }

module _ {C D : Type 0} (seen : D → List ℕ) (may_leave : D → List ℕ → Type 0) (moment : D → ℕ) (left_since : D → ℕ → List ℕ → Type 0) (disk_calls : D → ℕ) (counts_now : (disk : D) (t : ℕ) (c : List ℕ) → t ≤ moment disk → may_leave disk c → left_since disk t c)
    (n : Noted C D) (way : UnderWay) (part : WritePart) (none : way.due ≡ None) (live : n.live ≡ true) (next : next_of way.doing.steps ≡ Own part)
    (wants : is_open_any (lane_in n.store way.place).changes.rows n.marks.items part.volume way.doing.steps.grain way.doing.steps.place ≡ true)
    (meta : Meta D) (calls : ℕ) (counted : (m : Meter) → IsMetered seen n.meta m → n.calls ≡ more_calls m.calls 0 → calls ≡ more_calls (with_record (room_of seen n.meta) (Changing part.volume way.doing.steps.grain) m).calls 0)
    (marks : Vec Mark Global) (more : marks.items ≡ n.marks.items ++ record { volume = part.volume; grain = way.doing.steps.grain } ∷ [])
    (run : LeavesOnly moment left_since n.meta.disk meta.disk (LeavesEither (found seen n.meta) (found_with (found seen n.meta) (Changing part.volume way.doing.steps.grain ∷ [])))) where
  abbrev old : Noted C D
  old = record n { under_way = Some way }

  abbrev x : MetaRecord
  x = Changing part.volume way.doing.steps.grain

  abbrev way_new : UnderWay
  way_new = record { place = way.place; doing = way.doing; due = None }

  abbrev new : Noted C D
  new = record n { meta = meta; calls = calls; marks = marks; under_way = Some (record { place = way.place; doing = way.doing; due = None }) }

  -- behind an error
  abbrev left : Noted C D
  left = record n { meta = meta; calls = calls; marks = marks }

  abbrev Puts : Type 0
  Puts = (m : Meter) → IsMetered seen n.meta m → IsMetered seen meta (with_record (room_of seen n.meta) x m)

  module _ (history : HistoryState) (w : Whole) (least : List Row) (d : IsDoing seen may_leave (record n { under_way = Some way }) way history w least) where
    abbrev grain : GrainSize
    grain = d.begun.control.grain

    hand : IsInHand d.begun.control.grain w least way.place way.doing (lane_in d.begun way.place) (lane_in n.store way.place) d.steps d.before None d.point
    hand = hand_none seen may_leave old way history w least d none

    due : list_any (is_unmarked part.volume.0 way.doing.steps.grain.0) d.point.kept.rows ≡ true
    due =
        sym (is_wanted grain w least way.place way.doing (lane_in d.begun way.place) (lane_in n.store way.place) d.steps d.before d.point hand part n.marks.items
        (rows_are seen may_leave old way history w least d none) d.keeps.rows)
        ∙ wants

    fit : IsFit d.point.kept x
    fit = mark_fits grain w least way.place way.doing (lane_in d.begun way.place) (lane_in n.store way.place) d.steps d.before d.point hand part next due

    with_it : (image : MetaImage) → IsSoundImage image → kept_in image ≡ kept_after d.point.kept (Changing part.volume way.doing.steps.grain) → MayBeRecovered d.begun.control.grain n.script n.named n.store.lanes w least image
    with_it image = mark_recovered seen may_leave old way history w least d none part image next due

    -- what it costs
    acted : Acted d.begun.control.grain (request_of way.doing.steps.ask) d.steps (steps_done way.doing.steps) way.doing.steps.stop None d.before.kept.rows (noted x d.point).kept.rows (d.counts.actions ++ Note x ∷ [])
    acted =
        marked_so grain w least way.place way.doing (lane_in d.begun way.place) (lane_in n.store way.place) d.steps d.before d.point hand d.counts.actions
        (acted_none seen may_leave old way history w least d none) part next due

    -- it goes on
    mark_doing : IsResting seen may_leave meta → found seen meta ≡ found_with (found seen n.meta) (Changing part.volume way.doing.steps.grain ∷ []) → room_of seen meta ≡ room_of seen n.meta → Puts →
        IsDoing seen may_leave new way_new history w least
    mark_doing rests says size metered =
        let rows : (kept_after d.point.kept x).rows ≡ marked marks.items w.rows =
        ap (λ (rs : List Row). rows_kept rs x) d.keeps.rows
        ∙ (sym (row_law_holds.remembered n.marks.items w.rows part.volume way.doing.steps.grain) ∙ ap (λ (ms : List Mark). marked ms w.rows) (sym more)) in
        let matches : MatchAll grain n.named d.point.kept n.store.lanes d.point.disks =
        subst (λ (o : Option MetaRecord). MatchAll grain n.named (kept_by o d.point.kept) n.store.lanes d.point.disks) none d.keeps.matches in
        put_doing seen may_leave old way history w least x meta calls marks d
        (put_mark grain w least way.place way.doing (lane_in d.begun way.place) (lane_in n.store way.place) d.steps d.before d.point hand part next due)
        (put_keeps seen may_leave grain old new w way.due d.point x d.keeps fit rests says refl rows d.keeps.volumes (matches_mark grain n.named d.point.kept part way.doing.steps.grain.0 n.store.lanes d.point.disks matches))
        (so_far_put seen may_leave grain old new way way_new history.entries w d.steps d.before.kept.rows d.point.kept.rows (noted x d.point).kept.rows d.counts x acted size metered counted)

    mark_leaves : (after : Option UnderWay) → LeavesOnly moment left_since n.meta.disk meta.disk (LeavesRecoverable old (record n { meta = meta; calls = calls; marks = marks; under_way = after }) w least)
    mark_leaves = way_leaves seen may_leave n way history w least d x fit with_it moment left_since counts_now meta calls marks run

    -- or it stopped
    mark_stops : HasStopped may_leave old left w least
    mark_stops = way_stopped seen may_leave n way history w least d x fit with_it moment left_since counts_now meta calls marks run

    -- what is asked for goes so far into metadata
    mark_into : (stop : NotedStop) → IsCutShort seen disk_calls stop n.meta meta (with_record (room_of seen n.meta) (Changing part.volume way.doing.steps.grain)) → CountsInto seen disk_calls stop old left history w
    mark_into stop = goes_into_record seen may_leave old left way history w least d disk_calls stop x (steps_done way.doing.steps) way.doing.steps.stop None acted.so_far counted

  mark_made : IsResting seen may_leave meta → found seen meta ≡ found_with (found seen n.meta) (Changing part.volume way.doing.steps.grain ∷ []) → room_of seen meta ≡ room_of seen n.meta → Puts → (history : HistoryState) →
      WayMade seen may_leave moment left_since disk_calls done n way new history history
  mark_made rests says size metered =
      way_goes seen may_leave moment left_since disk_calls n new way (λ history w least d. mark_leaves history w least d (Some way_new)) way_new live refl refl refl (λ history w least d. mark_doing history w least d rests says size metered)

  -- with the way as it is
  pub mark_made_by : IsResting seen may_leave meta → found seen meta ≡ found_with (found seen n.meta) (Changing part.volume way.doing.steps.grain ∷ []) → room_of seen meta ≡ room_of seen n.meta → Puts → (history : HistoryState) →
      WayMade seen may_leave moment left_since disk_calls done n way (record n { meta = meta; calls = calls; marks = marks; under_way = Some way }) history history
  mark_made_by rests says size metered history =
      let same : way ≡ way_new = λ i. record { place = way.place; doing = way.doing; due = none i } in
      subst (λ (z : UnderWay). WayMade seen may_leave moment left_since disk_calls done n way (record n { meta = meta; calls = calls; marks = marks; under_way = Some z }) history history) (sym same) (mark_made rests says size metered history)

  pub mark_failed : (result : Result (Unit {0}) NotedStop) (given stop : NotedStop) → result ≡ Err given → given ≡ stop → (stop ≡ LogFull → ⊥) →
      IsCutShort seen disk_calls stop n.meta meta (with_record (room_of seen n.meta) (Changing part.volume way.doing.steps.grain)) → (history : HistoryState) →
      WayMade seen may_leave moment left_since disk_calls result n way left history history
  mark_failed result given stop e same other short =
      way_stops seen may_leave moment left_since disk_calls n left way (λ history w least d. mark_leaves history w least d n.under_way) result given stop e same other mark_stops
      (λ history. any_metadata stop (λ w least d. mark_into history w least d stop short))

-- memory was wanted before the disk of metadata is called
module _ {C D : Type 0} (seen : D → List ℕ) (may_leave : D → List ℕ → Type 0) (moment : D → ℕ) (left_since : D → ℕ → List ℕ → Type 0) (disk_calls : D → ℕ) (only_now : (disk : D) (c : List ℕ) → left_since disk (moment disk) c → may_leave disk c)
    (n : Noted C D) (way : UnderWay) (marks : Vec Mark Global) where
  pub mark_refused : (result : Result (Unit {0}) NotedStop) (given : NotedStop) → result ≡ Err given → given ≡ WantsMemory → (history : HistoryState) →
      WayMade seen may_leave moment left_since disk_calls result n way (record n { marks = marks }) history history
  mark_refused result given e same =
      let old : Noted C D = record n { under_way = Some way } in
      let new : Noted C D = record n { marks = marks } in
      way_stops seen may_leave moment left_since disk_calls n new way
      (λ history w least d. still_leaves seen may_leave moment left_since only_now old new w least d.keeps.image refl d.keeps.says d.keeps.rests.durable
      (hold_either n.store n.store n.script n.named w least d.keeps.image refl (doing_found seen may_leave old way history w least d) (doing_found seen may_leave old way history w least d)))
      result given WantsMemory e same (λ f. absurd cc)
      (λ history w least d. record {
        volumes = d.keeps.volumes;
        counted = doing_counted seen may_leave old way history w least d;
        leaves = λ c left. (d.keeps.image, ap recovered (d.keeps.rests.durable c left) ∙ d.keeps.says, doing_found seen may_leave old way history w least d);
      })
      (λ history. tt)
