-- How an entry in hand goes on by records and marks, and what may be recovered of it.
use Rattle.std.proofs.Common.{◌≡◌, ℕ, ◌+◌, ◌<◌, ◌≤◌, ◌%◌, true, Option, Some, None, List, [], drop, take, refl, sym, ap, subst, ◌∙◌}
use Rattle.std.specs.List.{list_any}
use Rattle.fc_base.specs.Count.{HasRisen}
use Rattle.fc_base.specs.declared.ids.GrainNo.{GrainNo}
use Rattle.fc_base.specs.declared.request.Move.{Move}
use Rattle.fc_base.specs.declared.request.Request.{Request}
use Rattle.fc_base.specs.declared.request.WritePart.{WritePart}
use Rattle.fc_base.specs.declared.size.GrainSize.{GrainSize}
use Rattle.fc_changed.specs.Row.{Row}
use Rattle.fc_entry.specs.declared.entry.Entry.{Entry}
use Rattle.fc_image.specs.declared.record.MetaRecord.{MetaRecord}
use Rattle.fc_image.specs.declared.record.MetaRecord.TheVariants.{Changing}
use Rattle.fc_kept.specs.Actions.{is_unmarked}
use Rattle.fc_kept.specs.Disks.{NamedDisk}
use Rattle.fc_kept.specs.Kept.{kept_after}
use Rattle.fc_kept.specs.Prefix.{AreStepsOf}
use Rattle.fc_lane.specs.Doing.{HasBegun, HasCome, IsUnderWay}
use Rattle.fc_lane.specs.Lane.{IsLaneOf, LaneView, of}
use Rattle.fc_lane.specs.declared.doing.Doing.{Doing}
use Rattle.fc_legal.specs.Stands.{Stands}
use Rattle.fc_legal.specs.Whole.{Whole, lane_at, lanes, part_at, part_of_rows}
use Rattle.fc_marks.specs.Marks.{is_open_any, marked}
use Rattle.fc_marks.specs.declared.marks.Mark.{Mark}
use Rattle.fc_parts.specs.Law.{IsInVolume}
use Rattle.fc_rules.specs.LaneTold.{LaneOf, LaneTold, place_of}
use Rattle.fc_rules.specs.Steps.{DiskStep}
use Rattle.fc_steps.specs.Asking.{request_of}
use Rattle.fc_steps.specs.UnderWay.{next_of}
use Rattle.fc_steps.specs.declared.ask.Ask.{Ask}
use Rattle.fc_steps.specs.declared.stepping.Next.TheVariants.{Move as NextMove, Own}
use Rattle.fc_steps.specs.declared.stepping.Steps.{Steps}
use Rattle.fc_steps.specs.declared.stop.Stop.{Stop}
use Rattle.fc_steps.specs.declared.stop.Stop.TheVariants.{Failed}
use Rattle.law_agreeing.specs.Agreeing.{AllAgree}
use Rattle.law_crash.specs.Doing.{noted, number_of}
use Rattle.law_crash.specs.Law.{Begins}
use Rattle.law_crash.specs.Leaving.{HaveTheirDisks}
use Rattle.law_crash.specs.Points.{Point}
use Rattle.law_crash.proofs.Running.{runs_all}
use Rattle.law_noted.specs.Advancing.{HasTorn, mark_at, uncopied}
use Rattle.law_noted.specs.Came.{Came, Came.behind, steps_done}
use Rattle.law_noted.specs.DataSteps.{IsInHand, copies_nothing}
use Rattle.law_noted.specs.One.{IsSafe}
use Rattle.law_noted.specs.Records.{kept_by}
use Rattle.law_noted.specs.Runs.{HasRun}
use Rattle.law_noted.proofs.DataInHand.{grain_is, lane_is_of, place_is}
use Rattle.law_noted.proofs.Finding.{stop_law_holds}
use Rattle.law_noted.proofs.HandNext.{IsAlone, IsOwnNext, alone, own_next}
use Rattle.law_noted.proofs.Losing.{uncopied_agree}
use Rattle.law_noted.proofs.Marking.{marking_law_holds, row_law_holds}
use Rattle.law_noted.proofs.MarkRows.{wanted}
use Rattle.law_noted.proofs.NextSteps.{failed_by}
use Rattle.law_noted.proofs.OldOrNew.{safe_by}
use Rattle.law_noted.proofs.Recording.{record_law_holds}

-- ---- it begins

pub begins : (grain : GrainSize) (entries : List Entry) (w : Whole) (least : List Row) (p : Point) (r : Request) (steps : List DiskStep) → HasRun grain entries w least p → w.entries ≤ 262144 →
    IsInVolume grain w r → AreStepsOf grain w r steps → Begins grain w least r steps p
begins grain entries w least p r steps run few inside are =
    let all = runs_all grain run.pools run.disks entries w least p run.some run.count run.unnamed run.run few in
    record { sound = all.2.reached.stands.sound; inside = inside; steps_are = are; stands = all.1 }

pub first : (grain : GrainSize) (w : Whole) (least : List Row) (place number actor decisions : ℕ) (ask : Ask) (doing : Doing) (begun new : LaneView) (steps : List DiskStep) (p : Point) →
    Stands decisions w → Begins grain w least (request_of ask) steps p → HaveTheirDisks w p.disks → place < lanes w → of begun ≡ lane_at grain w place → IsLaneOf begun (part_at grain w place) →
    HasBegun begun number actor ask doing new → IsInHand grain w least place doing begun new steps p None p
first grain w least place number actor decisions ask doing begun new steps p stands b have inside lane_is told x =
    let Hand : Steps → Type 0 = λ (s : Steps). Begins grain w least (request_of s.ask) steps p × Came grain w (request_of s.ask) p.kept.rows steps p (steps_done s) s.stop None p in
    let none : Came grain w (request_of ask) p.kept.rows steps p 0 None None p = behind [] steps p refl refl in
    let both : Hand doing.steps = subst Hand (sym x.steps_are) (b, none) in
    record {
      decisions = decisions;
      stands = stands;
      begins = both.0;
      have = have;
      inside = inside;
      lane_is = lane_is;
      told = told;
      under = x.way;
      came = both.1;
    }

-- ---- with other actions done

pub on_to : (grain : GrainSize) (w : Whole) (least : List Row) (place : ℕ) (doing : Doing) (begun now : LaneView) (steps : List DiskStep) (before : Point) (due due' : Option MetaRecord) (q q' : Point) →
    IsInHand grain w least place doing begun now steps before due q →
    Came grain w (request_of doing.steps.ask) before.kept.rows steps before (steps_done doing.steps) doing.steps.stop due' q' →
    IsInHand grain w least place doing begun now steps before due' q'
on_to grain w least place doing begun now steps before due due' q q' h came =
    record {
      decisions = h.decisions;
      stands = h.stands;
      begins = h.begins;
      have = h.have;
      inside = h.inside;
      lane_is = h.lane_is;
      told = h.told;
      under = h.under;
      came = came;
    }

pub put : (grain : GrainSize) (w : Whole) (least : List Row) (place : ℕ) (doing : Doing) (begun now : LaneView) (steps : List DiskStep) (before : Point) (x : MetaRecord) (q : Point) →
    IsInHand grain w least place doing begun now steps before (Some x) q →
    IsInHand grain w least place doing begun now steps before None (noted x q) × ((kept_after q.kept x).rows ≡ q.kept.rows)
put grain w least place doing begun now steps before x q h =
    let r : Request = request_of doing.steps.ask in
    let n : ℕ = steps_done doing.steps in
    let stop : Option Stop = doing.steps.stop in (
      on_to grain w least place doing begun now steps before (Some x) None q (noted x q) h (record_law_holds.due grain w r before.kept.rows steps before n stop x q h.came),
      row_law_holds.stay grain w r steps before n stop x q h.begins.steps_are h.came,
    )

-- ---- what may be recovered

-- a write that failed is a fault that the lane counted
faults_risen : (begun now : LaneView) (doing : Doing) → IsUnderWay begun doing now → HasTorn doing.steps.stop → HasRisen begun.grains.faults now.grains.faults
faults_risen begun now doing under t =
    let told : LaneTold = under.can.0 in
    let c : HasCome begun told doing now = under.came told under.can.1 under.can.2 in
    let s : Steps = doing.steps in
    (failed_by (of begun) told s.ask c.slot (take s.made s.planned.moves) (drop s.made s.planned.moves) s.calls s.stop s.written t.0 begun.chains now.chains begun.grains now.grains c.way.came t.1).risen

pub found : (grain : GrainSize) (w : Whole) (least : List Row) (place : ℕ) (doing : Doing) (begun now : LaneView) (steps : List DiskStep) (before : Point) (due : Option MetaRecord) (q : Point) (back : List (List NamedDisk)) →
    IsInHand grain w least place doing begun now steps before due q → AllAgree grain (kept_by due q.kept) q.disks back →
    IsSafe grain back q.kept w least (Some (request_of doing.steps.ask)) (HasRisen begun.grains.faults now.grains.faults)
found grain w least place doing begun now steps before None q back h a =
    let r : Request = request_of doing.steps.ask in
    safe_by grain back q.kept w least (Some r) (HasTorn doing.steps.stop) (HasRisen begun.grains.faults now.grains.faults) (faults_risen begun now doing h.under)
    (stop_law_holds.rests grain w least r steps before (steps_done doing.steps) doing.steps.stop q back h.begins h.came a)
found grain w least place doing begun now steps before (Some x) q back h a =
    let r : Request = request_of doing.steps.ask in
    safe_by grain back q.kept w least (Some r) (HasTorn doing.steps.stop) (HasRisen begun.grains.faults now.grains.faults) (faults_risen begun now doing h.under)
    (stop_law_holds.due grain w least r steps before (steps_done doing.steps) doing.steps.stop x q back h.begins h.stands.each_lane.some h.have h.came a)

module _ (grain : GrainSize) (w : Whole) (least : List Row) (place : ℕ) (doing : Doing) (begun now : LaneView) (steps : List DiskStep) (before q : Point) (h : IsInHand grain w least place doing begun now steps before None q) where
  abbrev r : Request
  r = request_of doing.steps.ask

  abbrev g : ℕ
  g = number_of grain (request_of doing.steps.ask)

  abbrev n : ℕ
  n = steps_done doing.steps

  -- no step stopped
  came_on : doing.steps.stop ≡ None → Came grain w r before.kept.rows steps before n None None q
  came_on e = subst (λ (o : Option Stop). Came grain w r before.kept.rows steps before n o None q) e h.came

  -- ---- a move that copies nothing: its record is put before it

  pub put_alone : (m : Move) → next_of doing.steps ≡ NextMove m → copies_nothing now doing.steps.place m ≡ true → Came grain w r before.kept.rows steps before (n + 1) None None (noted (uncopied m) q)
  put_alone m e copies =
      let a : IsAlone grain w least place doing begun now steps before q h m = alone grain w least place doing begun now steps before q h m e copies in
      record_law_holds.uncopied grain w r before.kept.rows steps before n a.step m q a.next a.move a.calls (came_on a.stop_is)

  pub alone_found : (m : Move) (back : List (List NamedDisk)) → next_of doing.steps ≡ NextMove m → copies_nothing now doing.steps.place m ≡ true → AllAgree grain q.kept q.disks back →
      IsSafe grain back (kept_after q.kept (uncopied m)) w least (Some r) (HasRisen begun.grains.faults now.grains.faults)
  alone_found m back e copies a =
      safe_by grain back (kept_after q.kept (uncopied m)) w least (Some r) (HasTorn None) (HasRisen begun.grains.faults now.grains.faults) (λ t. absurd (let no : None ≡ Some (Failed (Some t.0)) = t.1 in cc))
      (stop_law_holds.rests grain w least r steps before (n + 1) None (noted (uncopied m) q) back h.begins (put_alone m e copies) (uncopied_agree grain q.kept m q.disks back a))

  -- ---- a write is marked

  pub is_wanted : (part : WritePart) (marks : List Mark) → begun.changes.rows ≡ part_of_rows (lane_at grain w place) w.rows → q.kept.rows ≡ marked marks w.rows →
      is_open_any now.changes.rows marks part.volume doing.steps.grain doing.steps.place ≡ list_any (is_unmarked part.volume.0 doing.steps.grain.0) q.kept.rows
  is_wanted part marks rows_are same =
      let l : LaneOf = lane_at grain w place in
      let number : GrainNo = doing.steps.grain in
      let is : number.0 ≡ g = grain_is grain w least place doing begun now steps before q h in
      let rows : now.changes.rows ≡ part_of_rows l w.rows = (λ i. (h.under.beside.changes i).rows) ∙ rows_are in
      let at : doing.steps.place ≡ place_of l number.0 = place_is grain w least place doing begun now steps before q h ∙ ap (place_of l) (sym is) in
      let of_lane : number.0 % l.lanes ≡ l.lane = ap (λ (z : ℕ). z % lanes w) is ∙ lane_is_of grain w least place doing begun now steps before q h in
      (λ i. is_open_any (rows i) marks part.volume number (at i))
      ∙ (wanted l marks w.rows part.volume number h.inside of_lane ∙ ap (list_any (is_unmarked part.volume.0 number.0)) (sym same))

  pub put_mark : (part : WritePart) → next_of doing.steps ≡ Own part → list_any (is_unmarked part.volume.0 doing.steps.grain.0) q.kept.rows ≡ true →
      IsInHand grain w least place doing begun now steps before None (noted (Changing part.volume doing.steps.grain) q)
  put_mark part e due =
      let o : IsOwnNext grain w least place doing begun now steps before q h part = own_next grain w least place doing begun now steps before q h part e in
      let is : doing.steps.grain.0 ≡ g = grain_is grain w least place doing begun now steps before q h in
      let due' : list_any (is_unmarked o.step.volume g) q.kept.rows ≡ true = (λ i. list_any (is_unmarked (sym o.volume i) (sym is i)) q.kept.rows) ∙ due in
      let put : Came grain w r before.kept.rows steps before n None None (noted (mark_at o.step.volume g) q) =
      marking_law_holds.marks grain w r steps before n o.step q h.begins.steps_are o.next o.is_own (came_on o.stop_is) due' in
      let named : Came grain w r before.kept.rows steps before n doing.steps.stop None (noted (mark_at o.step.volume g) q) =
      subst (λ (z : Option Stop). Came grain w r before.kept.rows steps before n z None (noted (mark_at o.step.volume g) q)) (sym o.stop_is) put in
      let same : mark_at o.step.volume g ≡ mark_at part.volume.0 doing.steps.grain.0 = λ i. mark_at (sym o.volume i) (sym is i) in
      on_to grain w least place doing begun now steps before None None q (noted (Changing part.volume doing.steps.grain) q) h
      (subst (λ (x : MetaRecord). Came grain w r before.kept.rows steps before n doing.steps.stop None (noted x q)) same named)
